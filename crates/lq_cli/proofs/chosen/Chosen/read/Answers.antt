use Rattle.lq_cli.proofs.Forms.{is_simple_and_free_by}
use Rattle.lq_cli.proofs.chosen.Chosen.read.Goals as goal

pub matched-requires : goal.matched-requires
matched-requires c = is_simple_and_free_by _ _ _ _ c.in_ok-command.ensures
