use Rattle.lq_samples.proofs.Lower.{log_or_lock}
use Rattle.lq_samples.proofs.no_objects.is_tracking.Goals as goal

pub returns : goal.returns
returns c = rw (c.is_word-is_log.ensures, c.is_word-is_lock.ensures) (log_or_lock c.args.name.now)
