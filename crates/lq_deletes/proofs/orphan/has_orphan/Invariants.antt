use Rattle.std.proofs.Common.{Bool, drop, ◌≡◌}
use Rattle.std.specs.List.{list_any}
use Rattle.lq_model.specs.Plan.{lacks_parent}
use Rattle.lq_model.specs.declared.constraint.ForeignKey.{ForeignKey}
use Rattle.lq_deletes.proofs.orphan.has_orphan.Given as goal

abbrev pub invariant-loop-key : goal.invariant-loop-key
invariant-loop-key l =
    let p : ForeignKey → Bool = λ f. list_any (lacks_parent l.parts.now l.columns f) l.rows.now in
    list_any p (drop l.key-index l.keys) ≡ list_any p l.keys
