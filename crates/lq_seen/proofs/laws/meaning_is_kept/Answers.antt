use Rattle.lq_any.specs.AnyChangeLaws.{does, restores, spelled}
use Rattle.lq_seen.proofs.laws.meaning_is_kept.Goals as goal

pub returns : goal.returns
returns c = record { spelled = spelled; does = does; restores = restores }
