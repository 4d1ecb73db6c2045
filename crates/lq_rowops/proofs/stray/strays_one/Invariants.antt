use Rattle.std.proofs.Common.{drop, ◌≡◌}
use Rattle.std.specs.List.{list_any}
use Rattle.lq_rowops.specs.InsertTests.{strays}
use Rattle.lq_rowops.proofs.stray.strays_one.Given as goal

abbrev pub invariant-loop-key : goal.invariant-loop-key
invariant-loop-key l =
    let p = strays l.table l.sets l.by l.initial.parts.now l.columns in
    (l.parts ≡ l.initial.parts) × (list_any p (drop l.key-index l.keys) ≡ list_any p l.keys)
