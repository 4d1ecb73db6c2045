use Rattle.std.proofs.Common.{refl}
use Rattle.lq_generate.proofs.sets.set_tree.Goals as goal

pub returns : goal.returns
returns c =
    rw (c.in_ok-item.ensures, c.in_ok-named.ensures, c.in_ok-filled.ensures, c.in_ok-signed.ensures, c.new.ensures) refl
