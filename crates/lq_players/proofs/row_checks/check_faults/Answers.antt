use Rattle.std.proofs.Common.{subst}
use Rattle.std.specs.Prelude.{List}
use Rattle.lq_players.specs.RollingBack.{Passes}
use Rattle.lq_players.specs.Tasks.{if_some}
use Rattle.lq_turns.specs.declared.fault.Fault.{Fault}
use Rattle.lq_players.proofs.row_checks.check_faults.Goals as goal

pub returns-in-Ok-clause-passes : goal.returns-in-Ok-clause-passes
returns-in-Ok-clause-passes c = subst (λ (found : List Fault). Passes (if_some found) c.none_found.result) c.in-Ok.ensures c.none_found.ensures.passes
