use Rattle.std.proofs.Common.{ap, subst, ◌∙◌}
use Rattle.std.specs.Prelude.{IfErr}
use Rattle.lq_players.proofs.Results.{ok_map}
use Rattle.lq_players.specs.RollingBack.{Refuses}
use Rattle.lq_players.specs.Tasks.{if_halts}
use Rattle.lq_turns.specs.Settle.{is_halt}
use Rattle.lq_players.proofs.update_checks.check_own.Goals as goal

pub returns-in-Ok-clause-own : goal.returns-in-Ok-clause-own
returns-in-Ok-clause-own g c = λ database stands same.
    let is = c.in-Ok.ensures c.args.asked.now.options database c.requires.dialect (record { stands = stands; rows_are = same }) in
    ok_map c.goes_on.result _ _ c.goes_on.ensures.same (λ own it. (it.0 ∙ is, ap is_halt it.0 ∙ it.1))

pub returns-in-Ok-clause-refuses : goal.returns-in-Ok-clause-refuses
returns-in-Ok-clause-refuses g c = λ database stands same.
    subst (λ choice. IfErr c.goes_on.result (Refuses (if_halts choice)))
    (c.in-Ok.ensures c.args.asked.now.options database c.requires.dialect (record { stands = stands; rows_are = same }))
    c.goes_on.ensures.refuses
