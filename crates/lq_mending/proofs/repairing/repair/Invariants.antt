use Rattle.std.proofs.Common.{true, ◌≡◌, ◌≤◌}
use Rattle.std.specs.List.{list_all}
use Rattle.std.specs.Prelude.{List, length}
use Rattle.laws_repair.specs.Repair.{undo_calls}
use Rattle.lq_model.specs.Step.{is_statement}
use Rattle.lq_store.specs.Journal.{CrashesLeave, State}
use Rattle.lq_turns.specs.Session.{Session}
use Rattle.lq_turns.specs.declared.call.Call.{Call}
use Rattle.lq_mending.proofs.Whole.{Got}
use Rattle.lq_mending.specs.Comes.{LeftOf, at_end}
use Rattle.lq_mending.specs.Mends.{Rests}
use Rattle.lq_mending.proofs.repairing.repair.Given as goal

abbrev pub invariant-loop-statement : goal.invariant-loop-statement
invariant-loop-statement g l = record {
  valid : g.S.Store.valid l.store;
  spelled : list_all (is_statement l.of.dialect) l.rest ≡ true;
  got : (start : State) (s : Session) → Rests l.of.dialect l.session start (g.S.Store.state l.fn.store) s → Got l.of.dialect l.of.who.now l.of.identity.now l.session l.statements start s l.rest (g.S.Store.state l.store);
  crash : (start : State) (s : Session) (tail : List Call) → Rests l.of.dialect l.session start (g.S.Store.state l.fn.store) s
      → CrashesLeave start.entries (LeftOf l.of.dialect (at_end l.of.dialect (undo_calls l.of.dialect l.of.who.now l.of.identity.now 1 l.statements) tail s)) (g.S.Store.crashes l.fn.store) (g.S.Store.crashes l.store);
  later : g.S.Store.faults l.fn.store ≤ g.S.Store.faults l.store;
}

abbrev pub decreases-loop-statement : goal.decreases-loop-statement
decreases-loop-statement g l = length l.rest
