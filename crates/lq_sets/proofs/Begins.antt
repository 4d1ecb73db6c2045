-- Which statement begins which change, on a stack of which the first statement's is the last.
use Rattle.std.proofs.Common.{ap, arith, sym, refl, ◌≡◌, ◌<◌, ◌∙◌, ◌+◌, ◌-◌, ◌++◌, ◌∷◌, List, [], None, Option, Some, length, reverse, suc, zero, ℕ}
use Rattle.std.proofs.lemmas.List.{append-nil, append_assoc, reverse-append}
use Rattle.lq_base.specs.declared.dialect.Dialect.{Dialect}
use Rattle.lq_any.specs.AnyChange.{gives}
use Rattle.lq_any.specs.declared.any_change.AnyChange.{AnyChange}
use Rattle.lq_seen.proofs.Leading.{none_plus, plus_none}
use Rattle.lq_sets.specs.Counting.{after_first, begins_at, begins_from, begins_none, first_of}

abbrev Places : Type 0
Places = List (Option ℕ)

on_top : (bs now : Places) (b : Option ℕ) → now ≡ bs ++ b ∷ [] → reverse now ≡ b ∷ reverse bs
on_top bs now b grown = ap reverse grown ∙ reverse-append bs (b ∷ [])

-- statements with which no change begins

moved : (count : ℕ) (bs : Places) → begins_none count ++ None ∷ bs ≡ None ∷ (begins_none count ++ bs)
moved zero bs = refl
moved (suc count) bs = ap (λ (zs : Places). None ∷ zs) (moved count bs)

pub none_pushed : (left next : ℕ) (bs now all : Places) → 0 < left → next ≡ left - 1 → now ≡ bs ++ None ∷ [] → begins_none left ++ reverse bs ≡ all → begins_none next ++ reverse now ≡ all
none_pushed zero next bs now all some is grown so = absurd (omega arith)
none_pushed (suc count) next bs now all some is grown so =
    let less : next ≡ count = omega arith in
    ap (λ (n : ℕ). begins_none n ++ reverse now) less
    ∙ (ap (λ (zs : Places). begins_none count ++ zs) (on_top bs now None grown) ∙ (moved count (reverse bs) ∙ so))

pub none_over : (left : ℕ) (bs all : Places) → left ≡ 0 → begins_none left ++ reverse bs ≡ all → reverse bs ≡ all
none_over left bs all none so = sym (ap (λ (n : ℕ). begins_none n ++ reverse bs) none) ∙ so

-- a change

pub no_statement : (n count : ℕ) (bs : Places) → count ≡ 0 → reverse bs ≡ begins_at n count ++ reverse bs
no_statement n count bs none = sym (ap (λ (k : ℕ). begins_at n k ++ reverse bs) none)

pub change_pushed : (n count : ℕ) (bs mid now : Places) → (count ≡ 0 → ⊥) → reverse mid ≡ begins_none (count - 1) ++ reverse bs → now ≡ mid ++ Some n ∷ [] → reverse now ≡ begins_at n count ++ reverse bs
change_pushed n zero bs mid now some others grown = absurd (some refl)
change_pushed n (suc count) bs mid now some others grown =
    let less : suc count - 1 ≡ count = omega arith in
    on_top mid now (Some n) grown ∙ ap (λ (zs : Places). Some n ∷ zs) (others ∙ ap (λ (k : ℕ). begins_none k ++ reverse bs) less)

-- changes

module _ (d : Dialect) where
  begins_behind : (n : ℕ) (front : List AnyChange) (x : AnyChange) → begins_from d n (front ++ x ∷ []) ≡ begins_from d n front ++ begins_at (n + length front) (length (gives d x))
  begins_behind n [] x = append-nil (begins_at n (length (gives d x))) ∙ ap (λ (k : ℕ). begins_at k (length (gives d x))) (plus_none n)
  begins_behind n (y ∷ front) x =
      let on : suc n + length front ≡ n + suc (length front) = omega arith in
      ap (λ (zs : Places). begins_at n (length (gives d y)) ++ zs) (begins_behind (suc n) front x ∙ ap (λ (k : ℕ). begins_from d (suc n) front ++ begins_at k (length (gives d x))) on)
      ∙ sym (append_assoc (begins_at n (length (gives d y))) (begins_from d (suc n) front) (begins_at (n + suc (length front)) (length (gives d x))))

  pub all_to_come : (xs : List AnyChange) (bs : Places) → bs ≡ [] → begins_from d 0 xs ++ reverse bs ≡ begins_from d 0 xs
  all_to_come xs bs none = ap (λ (zs : Places). begins_from d 0 xs ++ reverse zs) none ∙ append-nil (begins_from d 0 xs)

  pub one_more_begins : (rest front : List AnyChange) (x : AnyChange) (place count : ℕ) (bs now all : Places) → rest ≡ front ++ x ∷ [] → place ≡ length front → count ≡ length (gives d x)
      → reverse now ≡ begins_at place count ++ reverse bs → begins_from d 0 rest ++ reverse bs ≡ all → begins_from d 0 front ++ reverse now ≡ all
  one_more_begins rest front x place count bs now all is here counted pushed so =
      ap (λ (zs : Places). begins_from d 0 front ++ zs) pushed
      ∙ (ap (λ (k : ℕ). begins_from d 0 front ++ (begins_at k count ++ reverse bs)) (here ∙ sym (none_plus (length front)))
      ∙ (ap (λ (k : ℕ). begins_from d 0 front ++ (begins_at (0 + length front) k ++ reverse bs)) counted
      ∙ (sym (append_assoc (begins_from d 0 front) (begins_at (0 + length front) (length (gives d x))) (reverse bs))
      ∙ (ap (λ (zs : Places). zs ++ reverse bs) (sym (begins_behind 0 front x)) ∙ (ap (λ (ys : List AnyChange). begins_from d 0 ys ++ reverse bs) (sym is) ∙ so)))))

  pub all_begun : (rest : List AnyChange) (bs all : Places) → length rest ≡ 0 → begins_from d 0 rest ++ reverse bs ≡ all → reverse bs ≡ all
  all_begun [] bs all none so = so
  all_begun (x ∷ rest) bs all none so = Prim.cc

-- the next of them

pub first_popped : (bs now : Places) (b : Option ℕ) → bs ≡ now ++ b ∷ [] → b ≡ first_of (reverse bs)
first_popped bs now b is = sym (ap first_of (on_top now bs b is))

pub rest_popped : (bs now : Places) (b : Option ℕ) → bs ≡ now ++ b ∷ [] → reverse now ≡ after_first (reverse bs)
rest_popped bs now b is = sym (ap after_first (on_top now bs b is))

pub first_missing : (bs : Places) → bs ≡ [] → None ≡ first_of (reverse bs)
first_missing bs none = sym (ap (λ (zs : Places). first_of (reverse zs)) none)

pub rest_missing : (bs now : Places) → bs ≡ [] → now ≡ [] → reverse now ≡ after_first (reverse bs)
rest_missing bs now none empty = ap reverse empty ∙ sym (ap (λ (zs : Places). after_first (reverse zs)) none)
