use Rattle.std.proofs.Common.{rules, subst, sym}
use Rattle.std.specs.Prelude.{OnOk, [], refl, ◌∷◌}
use Rattle.lq_turns.specs.declared.call.Call.TheVariants.{Execute}
use Rattle.lq_turns.specs.declared.deed.Deed.TheVariants.{Locks}
use Rattle.lq_turns.specs.declared.deed.OnLock.TheVariants.{Marked}
use Rattle.lq_laying.specs.Laying.{Lays, if_wanted}
use Rattle.lq_hand.proofs.turn.push_unmark.Goals as goal

pub returns-in_err-name : goal.returns-in_err-name
returns-in_err-name c = search rules

pub returns-in_ok-name : goal.returns-in_ok-name
returns-in_ok-name c = subst (λ b. OnOk c.push.result (Lays (if_wanted b (Execute (Locks (Marked c.args.who.now)))) c.args.calls.now c.push.new.calls)) (sym c.if-has_marks.true)
    (subst (λ t. OnOk c.push.result (Lays (Execute (Locks (Marked t)) ∷ []) c.args.calls.now c.push.new.calls)) c.in_ok-name.ensures c.push.ensures)

pub returns-else-has_marks : goal.returns-else-has_marks
returns-else-has_marks c = subst (λ b. Lays (if_wanted b (Execute (Locks (Marked c.args.who.now)))) c.args.calls.now c.args.calls.now) (sym c.if-has_marks.false) refl
