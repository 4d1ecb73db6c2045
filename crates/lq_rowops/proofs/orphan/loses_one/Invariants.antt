use Rattle.std.proofs.Common.{drop, ◌≡◌}
use Rattle.std.specs.List.{list_any}
use Rattle.lq_rowops.specs.InsertTests.{loses}
use Rattle.lq_rowops.proofs.orphan.loses_one.Given as goal

abbrev pub invariant-loop-key : goal.invariant-loop-key
invariant-loop-key l =
    let p = loses l.table l.sets l.parts.now l.held.now.columns l.held.now.rows in
    list_any p (drop l.key-index l.keys) ≡ list_any p l.keys
