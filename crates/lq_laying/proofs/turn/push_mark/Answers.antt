use Rattle.std.proofs.Common.{rules, subst}
use Rattle.std.specs.Prelude.{OnOk, [], ◌∷◌}
use Rattle.lq_turns.specs.declared.call.Call.TheVariants.{Execute}
use Rattle.lq_turns.specs.declared.deed.Deed.TheVariants.{Locks}
use Rattle.lq_turns.specs.declared.deed.OnLock.TheVariants.{Marked}
use Rattle.lq_laying.specs.Laying.{Lays}
use Rattle.lq_laying.proofs.turn.push_mark.Goals as goal

pub returns-in_err-text : goal.returns-in_err-text
returns-in_err-text c = search rules

pub returns : goal.returns
returns c = subst (λ t. OnOk c.push.result (Lays (Execute (Locks (Marked t)) ∷ []) c.args.calls.now c.push.new.calls)) c.in_ok-text.ensures c.push.ensures
