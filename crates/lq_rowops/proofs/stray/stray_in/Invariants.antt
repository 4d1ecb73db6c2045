use Rattle.std.proofs.Common.{drop, ◌≡◌}
use Rattle.std.specs.List.{list_any}
use Rattle.lq_model.specs.Plan.{lacks_parent}
use Rattle.lq_rowops.specs.InsertTests.{is_some_such}
use Rattle.lq_rowops.proofs.stray.stray_in.Given as goal

abbrev pub invariant-loop-new : goal.invariant-loop-new
invariant-loop-new l =
    let p = is_some_such (lacks_parent l.initial.parts.now l.columns l.key) in
    (l.parts ≡ l.initial.parts) × (list_any p (drop l.new-index l.by) ≡ list_any p l.by)
