use Rattle.std.proofs.Common.{refl}
use Rattle.lq_generate.proofs.sets.sequence_item.Goals as goal

pub returns : goal.returns
returns c = rw (c.in_ok-item.ensures, c.in_ok-tree.ensures) refl
