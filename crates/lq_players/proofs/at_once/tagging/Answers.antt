use Rattle.std.proofs.Common.{ap, rules, sym, ◌∙◌}
use Rattle.std.specs.Prelude.{[], length, ◌++◌, ◌∷◌, ◌≡◌}
use Rattle.lq_players.proofs.OneStepChecked.{last_is, none_last}
use Rattle.lq_players.proofs.Results.{ok_map}
use Rattle.lq_players.specs.AtOnce.{tagging}
use Rattle.lq_turns.specs.Script.{last_row}
use Rattle.lq_players.proofs.at_once.tagging.Goals as goal

pub returns-in-Some : goal.returns-in-Some
returns-in-Some c =
    let are : c.args.rows.now ≡ c.in-Some._before.now ++ c.in-Some.row.now ∷ [] = search rules in
    ok_map c.tag_row.result _ _ c.tag_row.ensures (λ v is. is ∙ ap (tagging c.args.name.now) (sym (ap last_row are ∙ last_is c.in-Some._before.now c.in-Some.row.now)))

pub returns-in-None : goal.returns-in-None
returns-in-None c =
    let none : length c.args.rows.now ≡ 0 = search rules in
    sym (ap (tagging c.args.name.now) (none_last c.args.rows.now none))
