use Rattle.std.proofs.Common.{rules}
use Rattle.lq_laying.proofs.Laying.{pushed}
use Rattle.lq_laying.proofs.turn.push.Goals as goal

pub returns-in_err-push : goal.returns-in_err-push
returns-in_err-push c = search rules

pub returns : goal.returns
returns c = pushed c.args.call c.args.calls.now c.push.new.self c.in_ok-push.ensures.ok
