-- What stands behind all entries goes behind them.
use Rattle.std.proofs.Common.{◌≡◌, ◌++◌, ◌∷◌, true, cond, List, [], reverse, None, Some, refl, sym, ◌∙◌, ap}
use Rattle.std.proofs.lemmas.List.{append-nil, append_assoc, reverse-append, reverse-reverse}
use Rattle.std.specs.BTreeMap.{insert_entry}
use Rattle.std.specs.Cmp.{IsTotalOrder, nat_cmp_total}
use Rattle.std.specs.Cmp.Lexicographic.{lists_total}
use Rattle.std.specs.FinMap.Entries.{below_all, is_sorted}
use Rattle.std.specs.Map.{lookup}
use Rattle.std.specs.Ordering.{is_eq, is_lt, match_ordering, ordering_reverse}
use Rattle.std.specs.declared.cmp.Ordering.{Ordering}
use Rattle.std.specs.declared.cmp.Ordering.TheVariants.{Equal, Greater, Less}
use Rattle.lq_base.specs.Name.{is_named, name_cmp}
use Rattle.lq_base.specs.declared.name.Name.{Name}
use Rattle.lq_model.proofs.Lists.{and_left, and_right}

total : IsTotalOrder name_cmp
total = lists_total nat_cmp_total

is_less : (r : Ordering) → is_lt r ≡ true → r ≡ Less
is_less Less is = refl
is_less Equal is = absurd (cc is)
is_less Greater is = absurd (cc is)

pub turned_first : {A : Type 0} (left old : List A) (x : A) → old ≡ left ++ x ∷ [] → reverse old ≡ x ∷ reverse left
turned_first left old x is = ap (λ (l : List _). reverse l) is ∙ reverse-append left (x ∷ [])

module _ {X : Type 0} where
  above_first : (m : Name) (es : List (Name × X)) (n : Name) (x : X) (more : List (Name × X)) → below_all name_cmp m (es ++ (n, x) ∷ more) ≡ true → name_cmp n m ≡ Greater
  above_first m [] n x more is =
      total.antisymm n m ∙ ap ordering_reverse (is_less (name_cmp m n) (and_left (is_lt (name_cmp m n)) (below_all name_cmp m more) is))
  above_first m (e ∷ es) n x more is =
      above_first m es n x more (and_right (is_lt (name_cmp m e.0)) (below_all name_cmp m (es ++ (n, x) ∷ more)) is)

  pub goes_behind : (es : List (Name × X)) (n : Name) (x : X) (more : List (Name × X)) → is_sorted name_cmp (es ++ (n, x) ∷ more) ≡ true → insert_entry name_cmp es n x ≡ es ++ (n, x) ∷ []
  goes_behind [] n x more sorted = refl
  goes_behind (e ∷ es) n x more sorted =
      let rest = es ++ (n, x) ∷ more in
      let above = above_first e.0 es n x more (and_left (below_all name_cmp e.0 rest) (is_sorted name_cmp rest) sorted) in
      placed (name_cmp n e.0) above ∙ ap (λ (l : List (Name × X)). e ∷ l) (goes_behind es n x more (and_right (below_all name_cmp e.0 rest) (is_sorted name_cmp rest) sorted))
    where
      placed : (r : Ordering) → r ≡ Greater → match_ordering r ((n, x) ∷ e ∷ es) ((e.0, x) ∷ es) (e ∷ insert_entry name_cmp es n x) ≡ e ∷ insert_entry name_cmp es n x
      placed Less is = absurd (cc is)
      placed Equal is = absurd (cc is)
      placed Greater is = refl

  pub is_absent : (es : List (Name × X)) (n : Name) (x : X) (more : List (Name × X)) → is_sorted name_cmp (es ++ (n, x) ∷ more) ≡ true → lookup (is_named n) es ≡ None
  is_absent [] n x more sorted = refl
  is_absent (e ∷ es) n x more sorted =
      let rest = es ++ (n, x) ∷ more in
      let above = above_first e.0 es n x more (and_left (below_all name_cmp e.0 rest) (is_sorted name_cmp rest) sorted) in
      ap (λ (r : Ordering). cond (is_eq r) (Some e.1) (lookup (is_named n) es)) above
      ∙ is_absent es n x more (and_right (below_all name_cmp e.0 rest) (is_sorted name_cmp rest) sorted)

  -- the next of those that are popped goes behind what is there
  pub next_behind : (es left old : List (Name × X)) (n : Name) (x : X) → old ≡ left ++ (n, x) ∷ [] → is_sorted name_cmp (es ++ reverse old) ≡ true → insert_entry name_cmp es n x ++ reverse left ≡ es ++ reverse old
  next_behind es left old n x is sorted =
      let turns = turned_first left old (n, x) is in
      ap (λ (l : List (Name × X)). l ++ reverse left) (goes_behind es n x (reverse left) (ap (λ (l : List (Name × X)). is_sorted name_cmp (es ++ l)) (sym turns) ∙ sorted))
      ∙ append_assoc es ((n, x) ∷ []) (reverse left)
      ∙ ap (λ (l : List (Name × X)). es ++ l) (sym turns)

  pub next_absent : (es left old : List (Name × X)) (n : Name) (x : X) → old ≡ left ++ (n, x) ∷ [] → is_sorted name_cmp (es ++ reverse old) ≡ true → lookup (is_named n) es ≡ None
  next_absent es left old n x is sorted =
      is_absent es n x (reverse left) (ap (λ (l : List (Name × X)). is_sorted name_cmp (es ++ l)) (sym (turned_first left old (n, x) is)) ∙ sorted)

  pub next_sorted : (es left old : List (Name × X)) (n : Name) (x : X) → old ≡ left ++ (n, x) ∷ [] → is_sorted name_cmp (es ++ reverse old) ≡ true → is_sorted name_cmp (insert_entry name_cmp es n x ++ reverse left) ≡ true
  next_sorted es left old n x is sorted = ap (λ (l : List (Name × X)). is_sorted name_cmp l) (next_behind es left old n x is sorted) ∙ sorted

-- what is popped goes behind what is there, and then nothing is left
pub one_moved : {A : Type 0} (there now left old : List A) (x : A) → old ≡ left ++ x ∷ [] → now ≡ there ++ x ∷ [] → now ++ reverse left ≡ there ++ reverse old
one_moved there now left old x is put =
    ap (λ (l : List _). l ++ reverse left) put
    ∙ append_assoc there (x ∷ []) (reverse left)
    ∙ ap (λ (l : List _). there ++ l) (sym (turned_first left old x is))

pub all_moved : {A : Type 0} (there left : List A) → left ≡ [] → there ++ reverse left ≡ there
all_moved there left is = ap (λ (l : List _). there ++ reverse l) is ∙ append-nil there

pub one_turned : {A : Type 0} (there now left old goal : List A) (x : A) → old ≡ left ++ x ∷ [] → now ≡ there ++ x ∷ [] → there ++ reverse old ≡ goal → now ++ reverse left ≡ goal
one_turned there now left old goal x is put all = one_moved there now left old x is put ∙ all

pub all_turned : {A : Type 0} (there left goal : List A) → left ≡ [] → there ++ reverse left ≡ goal → there ≡ goal
all_turned there left goal is all = sym (all_moved there left is) ∙ all

-- turned twice it is as it was
pub twice_turned : {A : Type 0} (xs ys : List A) → ys ≡ reverse xs → reverse ys ≡ xs
twice_turned xs ys is = ap (λ (l : List _). reverse l) is ∙ reverse-reverse xs
