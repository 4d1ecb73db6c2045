-- What is answered for the text of a tree is what is answered for the catalogue.
use Rattle.std.proofs.Common.{Err, List, None, Ok, Option, Result, Some, ap, sym, ◌∙◌, ◌≡◌, ℕ}
use Rattle.std.specs.Option.{option_map, option_or}
use Rattle.lq_base.specs.declared.dialect.Dialect.{Dialect}
use Rattle.lq_jsontext.specs.JsonText.{json_line}
use Rattle.lq_model.specs.Catalogue.{Catalogue}
use Rattle.lq_tree.specs.declared.node.Node.{Node}
use Rattle.lq_generate.specs.Faults.{Place, fault_at, first_fault, place_text, size_fault, Generates, IsSized, Tells}
use Rattle.lq_generate.specs.Generated.{generated_text, generated_tree}
use Rattle.lq_generate.specs.declared.generating.GenerateFault.{GenerateFault}
use Rattle.lq_generate.specs.declared.generating.GenerateFault.TheVariants.{NotWritable, OutOfMemory}

module _ (d : Dialect) (author : List ℕ) (c : Catalogue) where
  -- where nothing of the catalogue is in the way
  none_before : (tree : Node) → tree ≡ generated_tree d author c → first_fault c ≡ None → fault_at d author c ≡ size_fault (json_line tree)
  none_before tree is none = ap (λ o. option_or (option_map place_text o) (size_fault (generated_text d author c))) none ∙ ap (λ t. size_fault (json_line t)) (sym is)

  pub sized_generates : (tree : Node) (r : Result (List ℕ) GenerateFault) → tree ≡ generated_tree d author c → first_fault c ≡ None → IsSized (json_line tree) r → Generates d author c r
  sized_generates tree (Ok text) is none h = (none_before tree is none ∙ h.0, h.1 ∙ ap json_line is)
  sized_generates tree (Err (NotWritable at)) is none h = none_before tree is none ∙ h
  sized_generates tree (Err OutOfMemory) is none h = tt

  pub told_generates : (place : Place) (fault : GenerateFault) → Some place ≡ first_fault c → Tells (place_text place) fault → Generates d author c (Err fault)
  told_generates place (NotWritable at) is told =
      ap (λ o. option_or (option_map place_text o) (size_fault (generated_text d author c))) (sym is) ∙ ap (λ t. Some t) (sym told)
  told_generates place OutOfMemory is told = tt
