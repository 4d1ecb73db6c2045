use Rattle.std.proofs.Common.{ap, sym, ◌∙◌}
use Rattle.lq_players.proofs.Ended.{refusal_stops}
use Rattle.lq_players.proofs.Results.{ok_map}
use Rattle.lq_players.specs.Syncing.{stop_at}
use Rattle.lq_players.specs.Tasks.{answer_by}
use Rattle.lq_players.proofs.syncing.answer_at.Goals as goal

pub returns-in-None-clause-ends : goal.returns-in-None-clause-ends
returns-in-None-clause-ends c = sym (ap (λ refused. answer_by (stop_at refused c.args.of.now)) c.in-None.is)

pub returns-in-Some-clause-ends : goal.returns-in-Some-clause-ends
returns-in-Some-clause-ends c =
    ok_map c.refusal_answer.result _ _ c.refusal_answer.ensures.ends (λ a is. is ∙ (refusal_stops c.in-Some.refusal c.args.of.now ∙ ap (λ refused. answer_by (stop_at refused c.args.of.now)) (sym c.in-Some.is)))
