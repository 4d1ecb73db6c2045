use Rattle.std.proofs.Common.{rules, subst}
use Rattle.std.specs.Prelude.{OnOk}
use Rattle.laws_repair.specs.Repair.{back_calls}
use Rattle.lq_laying.specs.Laying.{Lays}
use Rattle.lq_repair.proofs.laying.push_back.Goals as goal

pub returns-in_err-undoing : goal.returns-in_err-undoing
returns-in_err-undoing c = search rules

pub returns : goal.returns
returns c = subst (λ o. OnOk c.push_undoing.result (Lays (back_calls c.args.of.now.who.now c.args.of.now.identity.now c.args.number o) c.args.calls.now c.push_undoing.new.calls)) c.in_ok-undoing.ensures c.push_undoing.ensures
