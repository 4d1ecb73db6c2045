use Rattle.std.proofs.Common.{◌≡◌, ◌≤◌}
use Rattle.std.specs.Prelude.{length}
use Rattle.lq_store.specs.Journal.{State}
use Rattle.lq_turns.specs.Session.{Session}
use Rattle.lq_turns.specs.declared.stamp.Stamp.{Stamp}
use Rattle.lq_hand.specs.Hand.{calls_left}
use Rattle.lq_hand.specs.declared.hand.Phase.TheVariants as phase
use Rattle.lq_mending.specs.Comes.{At, CrashesAll, Reached}
use Rattle.lq_mending.proofs.all.make_all.Given as goal

abbrev pub invariant-loop-alloc : goal.invariant-loop-alloc
invariant-loop-alloc g l = record {
  valid : g.S.Store.valid l.store;
  inside : l.hand.phase ≡ phase.Inside;
  reached : (stamp : Stamp) (start : State) (s : Session) → At l.dialect stamp l.session l.fn.hand (g.S.Store.state l.fn.store) start s → Reached l.dialect stamp l.session start s (calls_left l.fn.hand) l.hand (g.S.Store.state l.store);
  crash : CrashesAll l.dialect l.session l.fn.hand (g.S.Store.state l.fn.store) (g.S.Store.crashes l.fn.store) (g.S.Store.crashes l.store);
  later : g.S.Store.faults l.fn.store ≤ g.S.Store.faults l.store;
}

abbrev pub decreases-loop-alloc : goal.decreases-loop-alloc
decreases-loop-alloc g l = length (calls_left l.hand)
