use Rattle.std.proofs.Common.{◌≡◌, ◌++◌, drop}
use Rattle.lq_model.specs.Changes.{GoesOn, canonical_values}
use Rattle.lq_model.specs.TakesBack.{maps}
use Rattle.lq_model.proofs.written.write_maps.Given as goal

abbrev pub invariant-loop-item : goal.invariant-loop-item
invariant-loop-item g l = record {
  written : l.to.written ++ canonical_values (maps g.T.Written.rows (drop l.item-index l.items)) ≡ l.initial.to.written ++ canonical_values (maps g.T.Written.rows l.items);
  begun : l.to.begun ≡ l.initial.to.begun;
  on : GoesOn l.initial.to l.to;
}
