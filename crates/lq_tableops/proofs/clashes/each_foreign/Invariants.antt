use Rattle.std.proofs.Common.{drop, ◌≡◌}
use Rattle.std.specs.List.{list_any}
use Rattle.lq_model.specs.NameSpaces.{all_foreign_names}
use Rattle.lq_model.specs.Catalogue.{is_in}
use Rattle.lq_tableops.proofs.clashes.each_foreign.Given as goal

abbrev pub invariant-loop-name : goal.invariant-loop-name
invariant-loop-name l =
    let c = l.initial.parts.now in
    (l.parts ≡ l.initial.parts) × (list_any (λ n. is_in n.now (all_foreign_names c)) (drop l.name-index l.names) ≡ list_any (λ n. is_in n.now (all_foreign_names c)) l.names)
