use Rattle.std.proofs.Common.{refl}
use Rattle.lq_players.proofs.syncing.SyncingChecks.needs_lock.Goals as goal

pub returns : goal.returns
returns c = λ d stamp. refl
