use Rattle.std.proofs.Common.{◌≡◌, ◌++◌, drop}
use Rattle.lq_model.specs.Changes.{GoesOn, canonical_values}
use Rattle.lq_model.specs.TakesBack.{texts}
use Rattle.lq_model.proofs.written.write_texts.Given as goal

abbrev pub invariant-loop-name : goal.invariant-loop-name
invariant-loop-name l = record {
  written : l.to.written ++ canonical_values (texts (drop l.name-index l.names)) ≡ l.initial.to.written ++ canonical_values (texts l.names);
  begun : l.to.begun ≡ l.initial.to.begun;
  on : GoesOn l.initial.to l.to;
}
