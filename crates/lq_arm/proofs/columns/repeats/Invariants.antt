use Rattle.std.proofs.Common.{drop, ◌||◌, ◌≡◌}
use Rattle.std.specs.List.{list_any}
use Rattle.lq_model.specs.Catalogue.{repeats}
use Rattle.lq_arm.specs.Verdict.{has_name}
use Rattle.lq_arm.proofs.columns.repeats.Given as goal

abbrev pub invariant-loop-name : goal.invariant-loop-name
invariant-loop-name l = repeats l.names ≡ (list_any (has_name l.known) (drop l.name-index l.names) || repeats (drop l.name-index l.names))
