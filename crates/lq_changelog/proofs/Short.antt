-- The texts of a changeset that is read are short.
use Rattle.std.proofs.Common.{arith, rules, subst, sym, tests}
use Rattle.std.proofs.lemmas.List.Elements.{All-cons, All-nil, All-push}
use Rattle.std.specs.List.{All, list_all, starts_with}
use Rattle.std.specs.Prelude.{Bool, IfSome, List, Ok, Option, Some, [], codes, eqb, length, map, nat_le, not, refl, suc, true, zero, ℕ, ◌&&◌, ◌*◌, ◌+◌, ◌++◌, ◌-◌, ◌∷◌, ◌≡◌, ◌≤◌}
use Rattle.std.specs.Str.{IsUtf8, chars, chars_after, continuation_len, lead_bits}
use Rattle.hex.proofs.HexLemmas.{length-encode_with}
use Rattle.hex.specs.Hex.{lower_digits}
use Rattle.md5.proofs.StandardFacts.{length-md5}
use Rattle.md5.specs.Md5.{md5}
use Rattle.lq_base.specs.Number.{char_count, has_control, if_there}
use Rattle.lq_base.specs.declared.dialect.Dialect.{Dialect}
use Rattle.lq_model.proofs.Lists.{all-append, and_left, and_right, and_true}
use Rattle.lq_canon.specs.Sums.{uniformed}
use Rattle.lq_model.specs.Changes.{canonical_changes}
use Rattle.lq_tree.specs.declared.node.Node.{Node}
use Rattle.lq_any.specs.AnyChange.{canonical_of, is_for}
use Rattle.lq_kinds.specs.ReadFor.{is_read_for}
use Rattle.lq_kinds.specs.ChangeSets.{set_of, set_with, sum_of, is_label}
use Rattle.lq_kinds.specs.Changes.{Files}
use Rattle.lq_any.specs.declared.any_change.AnyChange.{AnyChange}
use Rattle.lq_any.specs.declared.any_change.AnyChange.TheVariants.{TagDatabase}
use Rattle.lq_kinds.specs.declared.change_set.ChangeSet.{ChangeSet}
use Rattle.lq_changelog.proofs.KeysRead.{heading_read, path_read, set_read}
use Rattle.lq_changelog.specs.Gathers.{HasShortTag, HasShortTexts}

-- a text that can be an id, an author, a path or a tag
label_short : (t : List ℕ) → (nat_le 1 (char_count t) && (nat_le (char_count t) 255 && not (has_control t))) ≡ true → char_count t ≤ 255
label_short t is = let most = and_left (nat_le (char_count t) 255) _ (and_right (nat_le 1 (char_count t)) _ is) in search (rules, tests)

-- no more characters than bytes

after_bytes : (n c : ℕ) (bytes : List ℕ) → length (chars_after n c bytes) ≤ length bytes + 1
after_bytes zero c [] = omega arith
after_bytes zero c (b ∷ bytes) = omega (arith, after_bytes (continuation_len b) (lead_bits b) bytes)
after_bytes (suc n) c [] = omega arith
after_bytes (suc n) c (b ∷ bytes) = omega (arith, after_bytes n (c * 64 + (b - 128)) bytes)

characters_at_most : (bytes : List ℕ) → char_count bytes ≤ length bytes
unfolding chars
characters_at_most [] = omega arith
characters_at_most (b ∷ bytes) = omega (arith, after_bytes (continuation_len b) (lead_bits b) bytes)

-- 3 for the mark, and 32 digits
pub sum_short : (changes : List AnyChange) → char_count (sum_of changes) ≤ 35
sum_short changes =
    let canonical = canonical_changes (map uniformed (map canonical_of changes)) in
    let digest = length-md5 canonical in
    let digits = length-encode_with lower_digits (md5 canonical) in
    omega (arith, digest, digits, characters_at_most (sum_of changes))

-- a change that was read for a dialect
tag_short : (d : Dialect) (x : AnyChange) → is_for d x ≡ true → HasShortTag x
tag_short d (TagDatabase x) is = label_short x.tag is
tag_short d _ is = tt

tags_short : (d : Dialect) (xs : List AnyChange) → list_all (is_for d) xs ≡ true → All HasShortTag xs
tags_short d [] all = All-nil HasShortTag
tags_short d (x ∷ xs) all = All-cons HasShortTag x xs (tag_short d x (and_left (is_for d x) _ all)) (tags_short d xs (and_right (is_for d x) _ all))

-- what is short of a changeset beside its tags
record Fits (x : ChangeSet) : Type 0 where
  file : char_count x.identity.file ≤ 255
  id : char_count x.identity.id ≤ 255
  author : char_count x.identity.author ≤ 255
  sum : char_count x.sum ≤ 35
  form : starts_with eqb x.sum (codes "P2:") ≡ true

names_fit : (d : Dialect) (path : List ℕ) (given : Files) (n : Node) (x : ChangeSet) → is_label path ≡ true → set_of d path given n ≡ Ok (Some x) → Fits x
unfolding set_with
names_fit d path given n x label e =
    let parts = set_read d path given n x e in
    let labels = heading_read d given n parts.0 parts.5 in
    subst Fits parts.7 (record {
      file = label_short parts.3 (path_read path n parts.3 label parts.6);
      id = label_short parts.0.id labels.0;
      author = label_short parts.0.author labels.1;
      sum = sum_short parts.0.changes;
      form = refl;
    })

-- a changeset that was read for a dialect, whose texts are UTF-8
pub read_short : (d : Dialect) (path : List ℕ) (given : Files) (n : Node) (x : ChangeSet) → is_label path ≡ true → set_of d path given n ≡ Ok (Some x) → is_read_for d x ≡ true
    → IsUtf8 x.comment → IsUtf8 x.context_text → IsUtf8 x.labels_text → HasShortTexts x
read_short d path given n x label e right comment contexts labels =
    let fits = names_fit d path given n x label e in
    record {
      file = fits.file;
      id = fits.id;
      author = fits.author;
      sum = fits.sum;
      form = fits.form;
      tags = tags_short d x.changes (and_left (list_all (is_for d) x.changes) _ right);
      comment = comment;
      contexts = contexts;
      labels = labels;
    }

-- the same of one that may be there
pub found_short : (d : Dialect) (path : List ℕ) (given : Files) (n : Node) (found : Option ChangeSet) (x : ChangeSet) → found ≡ Some x → is_label path ≡ true → set_of d path given n ≡ Ok found
    → if_there (is_read_for d) found ≡ true → IsUtf8 x.comment → IsUtf8 x.context_text → IsUtf8 x.labels_text → HasShortTexts x
found_short d path given n found x is label e right =
    read_short d path given n x label (subst (λ o. set_of d path given n ≡ Ok o) is e) (subst (λ o. if_there (is_read_for d) o ≡ true) is right)

-- the same changeset without its changes
pub emptied_short : (x : ChangeSet) (changes : List AnyChange) (sum old : List ℕ) → changes ≡ [] → sum ≡ sum_of [] → HasShortTexts x → HasShortTexts (record x { changes = changes; sum = sum; old_sum = old })
emptied_short x changes sum old none is short = record {
  file = short.file;
  id = short.id;
  author = short.author;
  sum = subst (λ s. char_count s ≤ 35) (sym is) (sum_short []);
  form = subst (λ s. starts_with eqb s (codes "P2:") ≡ true) (sym is) refl;
  tags = subst (All HasShortTag) (sym none) (All-nil HasShortTag);
  comment = short.comment;
  contexts = short.contexts;
  labels = short.labels;
}

-- one changeset more
pub one_more : (p : ChangeSet → Bool) (old new : List ChangeSet) (found : Option ChangeSet) (x : ChangeSet) → found ≡ Some x → new ≡ old ++ x ∷ [] → (list_all p old ≡ true) × All HasShortTexts old
    → if_there p found ≡ true → IfSome found HasShortTexts → (list_all p new ≡ true) × All HasShortTexts new
one_more p old new found x is pushed before right short =
    subst (λ xs. (list_all p xs ≡ true) × All HasShortTexts xs) (sym pushed) (
      all-append p old (x ∷ []) before.0 (and_true (p x) true (subst (λ o. if_there p o ≡ true) is right) refl),
      All-push HasShortTexts old x before.1 (subst (λ o. IfSome o HasShortTexts) is short),
    )
