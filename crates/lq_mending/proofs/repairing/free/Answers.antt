use Rattle.std.proofs.Common.{ap, subst, sym, true, ◌≡◌, ◌∙◌}
use Rattle.std.specs.Prelude.{Err}
use Rattle.lq_run.proofs.Counting.{end_disk, is_the_disk}
use Rattle.lq_run.specs.Beside.{is_disk_end}
use Rattle.lq_turns.specs.Script.{closing}
use Rattle.lq_turns.specs.Session.{called}
use Rattle.lq_mending.proofs.Freed.{freeing_crash, frees, frees_not, shut_there}
use Rattle.lq_mending.specs.Mends.{EndsAt, IsFreed}
use Rattle.lq_mending.proofs.repairing.free.Goals as goal

pub free_lock-requires-clause-live : goal.free_lock-requires-clause-live
free_lock-requires-clause-live g c = c.requires.rests.is.stands.live

pub free_lock-requires-clause-closed : goal.free_lock-requires-clause-closed
free_lock-requires-clause-closed g c =
    let k = c.requires.rests in
    shut_there c.args.of.now.dialect c.args.session k.start (g.S.Store.state c.args.store.now) (g.S.Store.state c.args.store.now) k.session k.is

pub returns-in-Ok-clause-frees : goal.returns-in-Ok-clause-frees
returns-in-Ok-clause-frees g c = λ start s rests. frees c.args.of.now.dialect c.args.session start (g.S.Store.state c.args.store.now) (g.S.Store.state c.free_lock.new.store) s rests c.in-Ok.ensures.does

pub returns-in-Ok-clause-crash : goal.returns-in-Ok-clause-crash
returns-in-Ok-clause-crash g c = λ start s rests. freeing_crash c.args.of.now.dialect c.args.session start (g.S.Store.state c.args.store.now) (g.S.Store.state c.free_lock.new.store) s rests (g.S.Store.crashes c.args.store.now) (g.S.Store.crashes c.free_lock.new.store) c.free_lock.ensures.crash

pub returns-in-Err-clause-frees : goal.returns-in-Err-clause-frees
returns-in-Err-clause-frees g c = λ start s rests.
    subst (λ e. EndsAt c.args.of.now.dialect c.args.session start s (called c.args.of.now.dialect closing s) e (g.S.Store.state c.free_lock.new.store) × IsFreed e) (sym c.end_of.ensures)
    (frees_not c.args.of.now.dialect c.args.session start (g.S.Store.state c.args.store.now) (g.S.Store.state c.free_lock.new.store) s rests c.in-Err.fault c.in-Err.ensures.does)

pub returns-in-Err-clause-crash : goal.returns-in-Err-clause-crash
returns-in-Err-clause-crash g c = λ start s rests. freeing_crash c.args.of.now.dialect c.args.session start (g.S.Store.state c.args.store.now) (g.S.Store.state c.free_lock.new.store) s rests (g.S.Store.crashes c.args.store.now) (g.S.Store.crashes c.free_lock.new.store) c.free_lock.ensures.crash

pub returns-in-Err-clause-rose : goal.returns-in-Err-clause-rose
returns-in-Err-clause-rose g c = λ is. c.in-Err.ensures.faults.rose (ap Err (is_the_disk c.in-Err.fault (sym (end_disk c.in-Err.fault) ∙ subst (λ e. is_disk_end e ≡ true) c.end_of.ensures is)))
