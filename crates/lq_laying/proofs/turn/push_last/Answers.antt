use Rattle.std.proofs.Common.{rules}
use Rattle.lq_laying.proofs.turn.push_last.Goals as goal

pub returns-in_err-push : goal.returns-in_err-push
returns-in_err-push c = search rules

pub returns : goal.returns
returns c = record { last = c.in-Some.statement; from = c.in-Some.ensures; told = c.commits_itself-commits.ensures; lays = c.in_ok-push.ensures }
