use Rattle.std.proofs.Common.{ap, ◌∙◌}
use Rattle.lq_beside.proofs.OtherFits.{release_fits}
use Rattle.lq_run.proofs.Behind.{none_left}
use Rattle.lq_store.specs.Journal.{is_open}
use Rattle.lq_commands.proofs.Endings.{untouched_crashes}
use Rattle.lq_commands.proofs.Freed.{leaves_free, nothing_failed}
use Rattle.lq_commands.proofs.Seen.{err_full, ok_leaves}
use Rattle.lq_turns.specs.Script.{release_calls}
use Rattle.lq_commands.proofs.release.free.Goals as goal

pub free_lock-requires-clause-closed : goal.free_lock-requires-clause-closed
free_lock-requires-clause-closed g c = ap (is_open 1) c.requires.ready.has.shut

pub returns-then-is_held-clause-leaves : goal.returns-then-is_held-clause-leaves
returns-then-is_held-clause-leaves g c =
    let d = c.args.given.now.options.dialect in
    let x = g.S.Store.state c.args.store.now in
    ok_leaves d release_calls x (g.S.Store.state c.free_lock.new.store) c.free_lock.result
    (λ database has. c.free_lock.ensures.leaves database has (c.is_held.ensures database has ∙ c.if-is_held.true) (release_fits d x.committed database has.committed))

pub returns-then-is_held-clause-full : goal.returns-then-is_held-clause-full
returns-then-is_held-clause-full g c =
    let d = c.args.given.now.options.dialect in
    let x = g.S.Store.state c.args.store.now in
    err_full d release_calls x (g.S.Store.state c.free_lock.new.store) c.free_lock.result
    (λ database has. c.free_lock.ensures.leaves database has (c.is_held.ensures database has ∙ c.if-is_held.true) (release_fits d x.committed database has.committed))

pub returns-else-is_held-clause-leaves : goal.returns-else-is_held-clause-leaves
returns-else-is_held-clause-leaves g c = λ database has. leaves_free c.args.given.now.options.dialect database (g.S.Store.state c.args.store.now) has (c.is_held.ensures database has ∙ c.if-is_held.false)

pub returns-else-is_held-clause-faults : goal.returns-else-is_held-clause-faults
returns-else-is_held-clause-faults g c = nothing_failed (g.S.Store.faults c.args.store.now)

-- what is left behind, and at any moment

pub returns-then-is_held-clause-behind : goal.returns-then-is_held-clause-behind
returns-then-is_held-clause-behind g c = λ database has.
    c.free_lock.ensures.behind database has (c.is_held.ensures database has ∙ c.if-is_held.true) (release_fits c.args.given.now.options.dialect (g.S.Store.state c.args.store.now).committed database has.committed)

pub returns-then-is_held-clause-any_moment : goal.returns-then-is_held-clause-any_moment
returns-then-is_held-clause-any_moment g c = λ database has.
    c.free_lock.ensures.any_moment database has (c.is_held.ensures database has ∙ c.if-is_held.true) (release_fits c.args.given.now.options.dialect (g.S.Store.state c.args.store.now).committed database has.committed)

pub returns-else-is_held-clause-behind : goal.returns-else-is_held-clause-behind
returns-else-is_held-clause-behind g c = λ database has. none_left c.args.given.now.options.dialect (release_calls database) database (g.S.Store.state c.args.store.now) has

pub returns-else-is_held-clause-any_moment : goal.returns-else-is_held-clause-any_moment
returns-else-is_held-clause-any_moment g c = λ database has.
    untouched_crashes c.args.given.now.options.dialect (release_calls database) database (g.S.Store.state c.args.store.now) (g.S.Store.crashes c.args.store.now)
