use Rattle.lq_resting.proofs.Stayed.{stays_bare, stays_lost, stays_marked, stays_within}
use Rattle.lq_resting.proofs.resting.fault_kept.Goals as goal

pub returns-then-within : goal.returns-then-within
returns-then-within g c = λ d. stays_within d c.args.stamp.now c.args.fault c.args.within (g.S.Store.state c.args.store.now) c.if-within.true

pub returns-in-Marked : goal.returns-in-Marked
returns-in-Marked g c = λ d. stays_marked d c.args.stamp.now c.args.fault c.args.within (g.S.Store.state c.args.store.now) c.if-within.false c.in-Marked.ensures

pub returns-in-Bare : goal.returns-in-Bare
returns-in-Bare g c = λ d. stays_bare d c.args.stamp.now c.args.fault c.args.within (g.S.Store.state c.args.store.now) c.in-Bare.ensures

pub returns-in-Lost : goal.returns-in-Lost
returns-in-Lost g c = λ d. stays_lost d c.args.stamp.now c.args.fault c.args.within (g.S.Store.state c.args.store.now) c.in-Lost.ensures
