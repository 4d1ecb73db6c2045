use Rattle.std.proofs.Common.{refl}
use Rattle.lq_players.proofs.rolling_back.RollingBackChecks.needs_lock.Goals as goal

pub returns : goal.returns
returns c = λ dialect stamp. refl
