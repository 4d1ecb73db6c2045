use Rattle.std.proofs.Common.{refl}
use Rattle.lq_generate.proofs.added.view_tree.Goals as goal

pub returns : goal.returns
returns c =
    rw (c.in_ok-named.ensures, c.in_ok-asked.ensures, c.in_ok-query.ensures, c.new.ensures, c.as_key.ensures.value, c.query.ensures) refl
