use Rattle.std.proofs.Common.{ap, ◌∙◌}
use Rattle.lq_players.proofs.OneStepChecked.{compare_checked}
use Rattle.lq_players.specs.AtOnce.{listed_by, sets_of}
use Rattle.lq_turns.specs.Faults.{faults}
use Rattle.lq_players.proofs.at_once.AtOnce.compare.Goals as goal

pub returns : goal.returns
returns g c = λ stamp.
    compare_checked c.args.dialect stamp c.args.self.now (g.K.Look.catalogue c.args.look.now) c.in_ok-rows.rows c.in_ok-rows.ensures c.in_ok-faults.faults
    (c.in_ok-faults.ensures ∙ ap (λ rows. faults (sets_of c.args.self.now) rows) c.as_slice.ensures) c.in_ok-pending.pending c.requires c.answer_to.result c.answer_to.ensures c.listing.result c.listing.ensures
    (c.in_ok-pending.ensures ∙ ap (λ rows. listed_by c.args.self.now.command (sets_of c.args.self.now) rows) c.as_slice-2.ensures)
