use Rattle.std.proofs.Common.{◌≡◌}
use Rattle.std.specs.Prelude.{IsTrue, false, is_some, nat_eq, true, ℕ, ◌≤◌}
use Rattle.lq_drill.specs.Drill.{IsReady}
use Rattle.lq_alone.specs.One.{Follows, LeftAlone}
use Rattle.lq_drill.specs.Player.{MakesNone}
use Rattle.lq_store.specs.Journal.{CrashesLeave, is_open}
use Rattle.lq_track.specs.Database.{Database}
use Rattle.lq_turns.specs.Schedule.{StandsFor}
use Rattle.lq_alone.proofs.stepping.alone.Given as goal

-- it follows the machine
abbrev pub invariant-loop : goal.invariant-loop
invariant-loop g l =
    let r = g.R.Player.standing l.player in
    let first = g.R.Player.standing l.fn.player in
    let now = g.S.Store.state l.store in
    let before = g.S.Store.state l.fn.store in
    record {
      valid : g.S.Store.valid l.store;
      live : IsTrue now.live;
      ready : IsReady g.P.SqlText.dialect now 1 r;
      shut : is_some r.answer ≡ true → r.opens ≡ false;
      others : (n : ℕ) → nat_eq 1 n ≡ false → is_open n now.begun ≡ false;
      later : g.S.Store.faults l.fn.store ≤ g.S.Store.faults l.store;
      follows : (database : Database) → StandsFor before.dialect before.committed database → Follows g.R.Player.failed first.job before database r now;
      idle : (database : Database) → StandsFor before.dialect before.committed database → MakesNone first.job database → l.store ≡ l.fn.store;
      crash : (database : Database) → StandsFor before.dialect before.committed database → CrashesLeave before.entries (LeftAlone g.R.Player.failed first.job before database (r.faulted ≡ true)) (g.S.Store.crashes l.fn.store) (g.S.Store.crashes l.store);
    }
