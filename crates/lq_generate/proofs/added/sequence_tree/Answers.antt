use Rattle.std.proofs.Common.{refl}
use Rattle.lq_generate.proofs.added.sequence_tree.Goals as goal

pub returns : goal.returns
returns c =
    rw (c.in_ok-started.ensures, c.in_ok-named.ensures, c.in_ok-stepped.ensures, c.new.ensures, c.as_key.ensures.value, c.step_node-step.ensures, c.start_node-start.ensures) refl
