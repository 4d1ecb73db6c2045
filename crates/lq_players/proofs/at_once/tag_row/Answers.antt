use Rattle.std.proofs.Common.{ap, ◌∙◌}
use Rattle.lq_players.specs.AtOnce.{call_of}
use Rattle.lq_model.specs.declared.caller.Room.TheVariants.{Ordinary}
use Rattle.lq_playing.specs.declared.checks.Verdict.TheVariants.{OneCall}
use Rattle.lq_track.specs.Log.{identity_of}
use Rattle.lq_turns.specs.declared.deed.Deed.TheVariants.{Rows}
use Rattle.lq_turns.specs.declared.deed.OnRows.TheVariants.{Tagged}
use Rattle.lq_players.proofs.at_once.tag_row.Goals as goal

pub returns : goal.returns
returns c =
    ap (λ call. OneCall call)
    (c.in_ok-call.ensures
    ∙ ap (λ of. call_of (Rows (Tagged of c.in_ok-tag.tag)) Ordinary) c.in_ok-of.ensures
    ∙ ap (λ tag. call_of (Rows (Tagged (identity_of c.args.row.now) tag)) Ordinary) c.in_ok-tag.ensures)
