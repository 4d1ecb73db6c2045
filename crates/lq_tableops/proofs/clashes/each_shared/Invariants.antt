use Rattle.std.proofs.Common.{drop, ◌≡◌}
use Rattle.std.specs.List.{list_any}
use Rattle.lq_base.specs.Name.{beside}
use Rattle.lq_model.specs.NameSpaces.{shared_names}
use Rattle.lq_model.specs.Catalogue.{is_in}
use Rattle.lq_tableops.proofs.clashes.each_shared.Given as goal

abbrev pub invariant-loop-name : goal.invariant-loop-name
invariant-loop-name l =
    let c = l.initial.parts.now in
    (l.parts ≡ l.initial.parts) × (list_any (λ n. is_in (beside l.table n.now) (shared_names c)) (drop l.name-index l.names) ≡ list_any (λ n. is_in (beside l.table n.now) (shared_names c)) l.names)
