-- Calls that may be stopped.
use Rattle.std.specs.Prelude.{List, true, ◌≡◌}
use Rattle.lq_alone.specs.One.{IsCut}
use Rattle.lq_base.specs.declared.dialect.Dialect.{Dialect}
use Rattle.lq_beside.specs.Replays.{calls_fit}
use Rattle.lq_run.specs.Left.{HasClosing}
use Rattle.lq_track.specs.Database.{Database}
use Rattle.lq_turns.specs.Session.{session_on}
use Rattle.lq_turns.specs.declared.call.Call.{Call}

-- where some of the calls were made, and another is to come, one of them frees the lock
abbrev pub ClosesIn : List Call → Type 0
ClosesIn calls = IsCut calls → HasClosing calls

-- each deed fits where it is done, and they free the lock that they take
pub record MayStop (d : Dialect) (calls : List Call) (database : Database) : Type 0 where
  pub fits : calls_fit d calls (session_on database) ≡ true
  pub closes : ClosesIn calls
