use Rattle.std.proofs.Common.{refl}
use Rattle.lq_players.proofs.rolling_back.RollingBack.new.Goals as goal

pub returns-clause-read : goal.returns-clause-read
returns-clause-read c = record { options = refl; changelog = c.requires.read; turns = tt }

pub returns-clause-job : goal.returns-clause-job
returns-clause-job c = λ dialect stamp. refl
