use Rattle.std.proofs.Common.{◌≡◌, ◌++◌, drop}
use Rattle.lq_model.specs.Changes.{GoesOn, canonical_values}
use Rattle.lq_model.specs.TakesBack.{texts}
use Rattle.lq_load.proofs.written.write_texts.Given as goal

abbrev pub invariant-loop-field : goal.invariant-loop-field
invariant-loop-field l = record {
  written : l.to.written ++ canonical_values (texts (drop l.field-index l.row)) ≡ l.initial.to.written ++ canonical_values (texts l.row);
  begun : l.to.begun ≡ l.initial.to.begun;
  on : GoesOn l.initial.to l.to;
}
