use Rattle.std.proofs.Common.{sym, ◌∙◌}
use Rattle.lq_arm.proofs.NameLemmas.{all_foreign_is}
use Rattle.lq_keyops.proofs.names.stands_foreign.Goals as goal

pub returns : goal.returns
returns c = c.any_is_foreign.ensures ∙ sym (all_foreign_is c.args.name.now c.args.parts.now.now c.tables.result.now c.tables.ensures)
