-- A text is read as one name at least.
use Rattle.std.proofs.Common.{ap, arith, length}
use Rattle.std.specs.List.{list_all}
use Rattle.std.specs.Prelude.{Err, IfOk, List, Ok, [], true, ℕ, ◌∷◌, ◌≡◌}
use Rattle.std.proofs.lemmas.List.Splits.{length-slice_split}
use Rattle.lq_base.specs.Name.{is_name}
use Rattle.lq_base.specs.declared.name.Name.{Name}
use Rattle.lq_tree.specs.Given.{comma_parts, is_comma, part_name, part_names}
use Rattle.lq_tree.specs.Look.{Found, Reads}
use Rattle.lq_tree.specs.Items.{are_some}
use Rattle.lq_tree.proofs.ItemsRead.{never_empty}

some_part : (text : List ℕ) → [] ≡ comma_parts text → ⊥
some_part text e =
    let count : 0 ≡ length (comma_parts text) = ap length e in
    absurd (omega (arith, count, length-slice_split is_comma text))

pub some_names_read : (text : List ℕ) (parts : List (List ℕ)) (found : Found (List Name)) → parts ≡ comma_parts text → Reads (part_names parts) found → IfOk found (λ names. list_all is_name names ≡ true) → IfOk found (λ names. are_some is_name names ≡ true)
some_names_read text [] found e is all = absurd (some_part text e)
some_names_read text (p ∷ ps) (Ok []) e is all = absurd (never_empty (part_name p) (part_names ps) is)
some_names_read text (p ∷ ps) (Ok (x ∷ xs)) e is all = all
some_names_read text (p ∷ ps) (Err fault) e is all = tt
