use Rattle.std.proofs.Common.{ap, ◌∙◌}
use Rattle.lq_players.proofs.OneStepChecked.{tag_checked}
use Rattle.lq_players.specs.AtOnce.{tagging}
use Rattle.lq_turns.specs.Script.{last_row}
use Rattle.lq_players.proofs.at_once.AtOnce.tag.Goals as goal

pub returns : goal.returns
returns g c = λ stamp.
    tag_checked c.args.dialect stamp c.args.self.now (g.K.Look.catalogue c.args.look.now) c.in_ok-rows.rows c.in_ok-rows.ensures c.args.name.now c.requires.short c.requires.command c.in_ok-verdict.verdict
    (c.in_ok-verdict.ensures ∙ ap (λ rows. tagging c.args.name.now (last_row rows)) c.as_slice.ensures) c.new.result c.new.ensures
