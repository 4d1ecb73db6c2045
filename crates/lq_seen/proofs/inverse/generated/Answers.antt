use Rattle.std.proofs.Common.{◌∙◌}
use Rattle.lq_seen.proofs.Inverses.{all_generated}
use Rattle.lq_seen.proofs.inverse.generated.Goals as goal

pub returns : goal.returns
returns c = c.in_ok-made.ensures ∙ all_generated c.args.dialect c.args.changes.now
