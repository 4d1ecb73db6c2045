use Rattle.std.proofs.Common.{rules, ◌≡◌, false, refl, arith, ◌≤◌}
use Rattle.lq_journal.specs.State.{is_prepared}
use Rattle.lq_journal.proofs.Opened.{still_same, unprepared_stands, fresh_ready, fresh_torn, fresh_moment}
use Rattle.lq_journal.proofs.journal.Journal.prepare.Goals as goal

pub returns-then-self-clause-any_moment : goal.returns-then-self-clause-any_moment
returns-then-self-clause-any_moment g c settled = still_same _ _ _ _ (g.met.D.Disk.sound c.args.self.now.disk) settled

pub returns-in_err-write_synced-clause-same : goal.returns-in_err-write_synced-clause-same
returns-in_err-write_synced-clause-same g c =
    let journal = c.args.self.now in
    let is : is_prepared journal ≡ false = search rules in
    let least : 17 ≤ journal.limit = omega (arith, c.requires.loaded.limit_least) in
    fresh_torn journal.dialect journal.limit journal.used c.fresh.result.now (g.D.Disk.told journal.disk) _ c.fresh.ensures least (unprepared_stands _ journal c.requires.loaded is) c.write_synced.ensures.torn

pub returns-in_err-write_synced-clause-any_moment : goal.returns-in_err-write_synced-clause-any_moment
returns-in_err-write_synced-clause-any_moment g c settled =
    let journal = c.args.self.now in
    let is : is_prepared journal ≡ false = search rules in
    let least : 17 ≤ journal.limit = omega (arith, c.requires.loaded.limit_least) in
    fresh_moment journal.dialect journal.limit journal.used c.fresh.result.now (g.D.Disk.told journal.disk) _ _ c.fresh.ensures least (unprepared_stands _ journal c.requires.loaded is) settled c.write_synced.ensures.any_moment

pub returns-clause-ready : goal.returns-clause-ready
returns-clause-ready g c =
    let journal = c.args.self.now in
    let is : is_prepared journal ≡ false = search rules in
    let least : 17 ≤ journal.limit = omega (arith, c.requires.loaded.limit_least) in
    let old = c.requires.loaded in
    record {
      loaded = record {
        limit_least = old.limit_least;
        limit_most = old.limit_most;
        used_least = old.used_least;
        used_most = old.used_most;
        stands = fresh_ready journal.dialect journal.limit journal.used c.fresh.result.now (g.D.Disk.told journal.disk) _ c.fresh.ensures least (unprepared_stands _ journal old is) c.in_ok-write_synced.ensures.written;
      };
      prepared = refl;
    }

pub returns-clause-same : goal.returns-clause-same
returns-clause-same g c =
    let journal = c.args.self.now in
    let is : is_prepared journal ≡ false = search rules in
    let least : 17 ≤ journal.limit = omega (arith, c.requires.loaded.limit_least) in
    fresh_torn journal.dialect journal.limit journal.used c.fresh.result.now (g.D.Disk.told journal.disk) _ c.fresh.ensures least (unprepared_stands _ journal c.requires.loaded is) c.write_synced.ensures.torn

pub returns-clause-any_moment : goal.returns-clause-any_moment
returns-clause-any_moment g c settled =
    let journal = c.args.self.now in
    let is : is_prepared journal ≡ false = search rules in
    let least : 17 ≤ journal.limit = omega (arith, c.requires.loaded.limit_least) in
    fresh_moment journal.dialect journal.limit journal.used c.fresh.result.now (g.D.Disk.told journal.disk) _ _ c.fresh.ensures least (unprepared_stands _ journal c.requires.loaded is) settled c.write_synced.ensures.any_moment
