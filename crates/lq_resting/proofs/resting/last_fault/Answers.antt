use Rattle.std.proofs.Common.{inl, subst, sym}
use Rattle.std.specs.Prelude.{Some}
use Rattle.lq_resting.specs.Asking.{asks_open}
use Rattle.lq_resting.specs.Resting.{Stays}
use Rattle.lq_resting.proofs.resting.last_fault.Goals as goal

pub returns-in-None : goal.returns-in-None
returns-in-None g c = λ d. inl c.in-None.is

pub returns-in-Some : goal.returns-in-Some
returns-in-Some g c = λ d.
    subst (λ f. Stays d c.args.stamp.now f (asks_open c.args.hand.now) (g.S.Store.state c.args.store.now) c.fault_kept.result) (sym c.in-Some.is)
    (subst (λ b. Stays d c.args.stamp.now (Some c.in-Some.fault) b (g.S.Store.state c.args.store.now) c.fault_kept.result) c.asks_open.ensures (c.fault_kept.ensures d))
