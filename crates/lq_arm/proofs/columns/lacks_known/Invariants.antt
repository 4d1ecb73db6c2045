use Rattle.std.proofs.Common.{drop, not, ◌≡◌}
use Rattle.std.specs.List.{list_any}
use Rattle.lq_arm.specs.Verdict.{has_name}
use Rattle.lq_arm.proofs.columns.lacks_known.Given as goal

abbrev pub invariant-loop-name : goal.invariant-loop-name
invariant-loop-name l = list_any (λ n. not (has_name l.known n)) (drop l.name-index l.names) ≡ list_any (λ n. not (has_name l.known n)) l.names
