use Rattle.std.proofs.Common.{ap, not, sym, ◌∙◌}
use Rattle.lq_model.specs.Catalogue.{is_in}
use Rattle.lq_sound_table.proofs.PieceLemmas.{not_null}
use Rattle.lq_sound_table.proofs.key.is_not_null.Goals as goal

pub returns : goal.returns
returns c = ap not (c.has.ensures ∙ ap (is_in c.args.name.now) c.requires) ∙ sym (not_null c.args.name.now c.args.columns.now)
