use Rattle.lq_players.proofs.Ended.{answers_so, halt_ends, refusal_ends}
use Rattle.lq_players.specs.Updating.{end_answer, halt_answer, refusal_answer}
use Rattle.lq_players.proofs.at_end.answer_at_end.Goals as goal

pub returns-in-Some-clause-ends : goal.returns-in-Some-clause-ends
returns-in-Some-clause-ends c =
    let o = c.args.outcome.now in
    answers_so c.refusal_answer.result (refusal_answer c.in-Some.refusal o.stopped_at) (end_answer o c.args.refused) (refusal_ends o c.args.refused c.in-Some.refusal c.in-Some.is) c.refusal_answer.ensures.ends

pub returns-in-None-clause-ends : goal.returns-in-None-clause-ends
returns-in-None-clause-ends c =
    let o = c.args.outcome.now in
    answers_so c.halt_answer.result (halt_answer o.halted) (end_answer o c.args.refused) (halt_ends o c.args.refused c.in-None.is) c.halt_answer.ensures.ends
