use Rattle.std.proofs.Common.{ap, rules, sym, ◌∙◌}
use Rattle.std.specs.Prelude.{Some, [], option_map, ◌++◌, ◌∷◌, ◌≡◌}
use Rattle.lq_track.specs.Log.{identity_of}
use Rattle.lq_turns.specs.Script.{last_row}
use Rattle.lq_commands.proofs.Seen.{last_is}
use Rattle.lq_commands.proofs.checks.last_of.Goals as goal

pub returns-in_ok-of-in-Some-clause-last : goal.returns-in_ok-of-in-Some-clause-last
returns-in_ok-of-in-Some-clause-last c =
    let is : c.args.rows.now ≡ c.in-Some._before.now ++ c.in-Some.row.now ∷ [] = search rules in
    ap (λ rows. option_map identity_of (last_row rows)) is ∙ ap (option_map identity_of) (last_is c.in-Some._before.now c.in-Some.row.now) ∙ ap Some (sym c.in_ok-of-in-Some.ensures)
