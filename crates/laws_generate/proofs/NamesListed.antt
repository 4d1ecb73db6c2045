-- Names with commas between are read as those names.
use Rattle.std.proofs.Common.{ap, sym, ◌∙◌}
use Rattle.std.specs.List.{AllByRecursion, list_all, list_any, onto_first, slice_split}
use Rattle.std.specs.Prelude.{Bool, Err, List, None, Ok, Option, Some, [], cond, false, not, refl, true, ℕ, ◌&&◌, ◌++◌, ◌∷◌, ◌≡◌}
use Rattle.std.specs.Str.{bytes_eq}
use Rattle.std.proofs.lemmas.Slice.Eq.{bytes_eq-Decides}
use Rattle.lq_base.specs.Name.{is_name}
use Rattle.lq_base.specs.declared.name.Name.{Name}
use Rattle.lq_model.proofs.Lists.{append-nil, or_left, or_right}
use Rattle.lq_tree.specs.Given.{comma_parts, is_comma, without_blanks, part_name, part_names, some_names}
use Rattle.lq_tree.specs.Look.{and_then, map_found}
use Rattle.lq_tree.specs.Items.{is_empty}
use Rattle.lq_tree.specs.declared.node.Node.{Text as TextNode}
use Rattle.lq_generate.specs.Created.{listed}
use Rattle.lq_generate.specs.Faults.{may_be_listed}
use Rattle.laws_generate.proofs.NodesRead.{printed_text}
use Rattle.laws_generate.proofs.RowsRead.{and_left, and_right}

negated : (a : Bool) → not a ≡ true → a ≡ false
negated true h = absurd Prim.cc
negated false h = refl

one_part : (n : List ℕ) → list_any is_comma n ≡ false → slice_split is_comma n ≡ n ∷ []
one_part [] h = refl
one_part (b ∷ bs) h = ap (λ t. cond t ([] ∷ slice_split is_comma bs) (onto_first b (slice_split is_comma bs))) (or_left (is_comma b) (list_any is_comma bs) h) ∙ ap (onto_first b) (one_part bs (or_right (is_comma b) (list_any is_comma bs) h))

next_part : (n rest : List ℕ) → list_any is_comma n ≡ false → slice_split is_comma (n ++ 44 ∷ rest) ≡ n ∷ slice_split is_comma rest
next_part [] rest h = refl
next_part (b ∷ bs) rest h = ap (λ t. cond t ([] ∷ slice_split is_comma (bs ++ 44 ∷ rest)) (onto_first b (slice_split is_comma (bs ++ 44 ∷ rest)))) (or_left (is_comma b) (list_any is_comma bs) h) ∙ ap (onto_first b) (next_part bs rest (or_right (is_comma b) (list_any is_comma bs) h))

parts_are : (n : Name) (ns : List Name) → list_all may_be_listed (n ∷ ns) ≡ true → comma_parts (listed (n ∷ ns)) ≡ n ∷ ns
parts_are n [] h = ap comma_parts (append-nil n) ∙ one_part n (negated _ (and_left (not (list_any is_comma n)) _ (and_left (may_be_listed n) _ h)))
parts_are n (m ∷ ns) h = next_part n (listed (m ∷ ns)) (negated _ (and_left (not (list_any is_comma n)) _ (and_left (may_be_listed n) _ h))) ∙ ap (λ ps. n ∷ ps) (parts_are m ns (and_right (may_be_listed n) _ h))

part_is : (n : Name) → may_be_listed n ≡ true → is_name n ≡ true → part_name n ≡ Ok n
part_is n h name =
    let same : without_blanks n ≡ n = (bytes_eq-Decides (without_blanks n) n).0 (and_right (not (list_any is_comma n)) _ h) in
    rw (same, name) refl

parts_named : (ns : List Name) → list_all may_be_listed ns ≡ true → list_all is_name ns ≡ true → part_names ns ≡ Ok ns
parts_named [] h name = refl
parts_named (n ∷ ns) h name = rw (part_is n (and_left (may_be_listed n) _ h) (and_left (is_name n) _ name), parts_named ns (and_right (may_be_listed n) _ h) (and_right (is_name n) _ name)) refl

pub names_read : (n : Name) (ns : List Name) → list_all may_be_listed (n ∷ ns) ≡ true → list_all is_name (n ∷ ns) ≡ true → some_names (TextNode (listed (n ∷ ns))) ≡ Ok (n ∷ ns)
names_read n ns h name = rw (printed_text (listed (n ∷ ns)), parts_are n ns h) (parts_named (n ∷ ns) h name)

-- names that can be listed: some, each a name without a comma and without blanks at its ends
pub record AreListed (ns : List Name) : Type 0 where
  pub some : is_empty ns ≡ false
  pub listed : list_all may_be_listed ns ≡ true
  pub names : list_all is_name ns ≡ true
