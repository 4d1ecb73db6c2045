use Rattle.std.proofs.Common.{drop, ◌≡◌}
use Rattle.std.specs.List.{list_any}
use Rattle.lq_model.specs.Catalogue.{the_table}
use Rattle.lq_decide.specs.Faults.{lacks_parent_of}
use Rattle.lq_rowops.proofs.inserting.lacks_one.Given as goal

abbrev pub invariant-loop-key : goal.invariant-loop-key
invariant-loop-key l =
    let c = l.initial.parts.now in
    (l.parts ≡ l.initial.parts) × (list_any (lacks_parent_of c l.table (the_table c l.table) l.row) (drop l.key-index l.keys) ≡ list_any (lacks_parent_of c l.table (the_table c l.table) l.row) l.keys)
