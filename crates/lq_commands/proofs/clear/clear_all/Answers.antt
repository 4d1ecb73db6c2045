use Rattle.std.proofs.Common.{ap, sym, ◌∙◌}
use Rattle.lq_beside.proofs.OtherFits.{clear_fits}
use Rattle.lq_model.specs.Catalogue.{is_empty}
use Rattle.lq_run.proofs.Behind.{none_left}
use Rattle.lq_store.specs.Journal.{is_open}
use Rattle.lq_commands.proofs.Cleared.{leaves_none}
use Rattle.lq_commands.proofs.Endings.{untouched_crashes}
use Rattle.lq_commands.proofs.Freed.{nothing_failed}
use Rattle.lq_commands.proofs.Seen.{err_full, ok_leaves}
use Rattle.lq_turns.specs.Script.{clear_calls}
use Rattle.lq_commands.proofs.clear.clear_all.Goals as goal

-- there is no row

pub returns-then-has_none-clause-leaves : goal.returns-then-has_none-clause-leaves
returns-then-has_none-clause-leaves g c = λ database has.
    leaves_none c.args.dialect database (g.S.Store.state c.args.store.now) has (ap is_empty (c.requires.rows database has) ∙ (sym c.has_none.ensures ∙ c.if-has_none.true))

pub returns-then-has_none-clause-behind : goal.returns-then-has_none-clause-behind
returns-then-has_none-clause-behind g c = λ database has. none_left c.args.dialect (clear_calls database) database (g.S.Store.state c.args.store.now) has

pub returns-then-has_none-clause-any_moment : goal.returns-then-has_none-clause-any_moment
returns-then-has_none-clause-any_moment g c = λ database has. untouched_crashes c.args.dialect (clear_calls database) database (g.S.Store.state c.args.store.now) (g.S.Store.crashes c.args.store.now)

pub returns-then-has_none-clause-faults : goal.returns-then-has_none-clause-faults
returns-then-has_none-clause-faults g c = nothing_failed (g.S.Store.faults c.args.store.now)

-- there are rows

pub clear_rows-requires-clause-closed : goal.clear_rows-requires-clause-closed
clear_rows-requires-clause-closed g c = ap (is_open 1) c.requires.ready.has.shut

pub returns-clause-leaves : goal.returns-clause-leaves
returns-clause-leaves g c =
    let x = g.S.Store.state c.args.store.now in
    ok_leaves c.args.dialect clear_calls x (g.S.Store.state c.clear_rows.new.store) c.clear_rows.result
    (λ database has. c.clear_rows.ensures.leaves database has (ap is_empty (c.requires.rows database has) ∙ (sym c.has_none.ensures ∙ c.if-has_none.false)) (clear_fits c.args.dialect x.committed database has.committed))

pub returns-clause-full : goal.returns-clause-full
returns-clause-full g c =
    let x = g.S.Store.state c.args.store.now in
    err_full c.args.dialect clear_calls x (g.S.Store.state c.clear_rows.new.store) c.clear_rows.result
    (λ database has. c.clear_rows.ensures.leaves database has (ap is_empty (c.requires.rows database has) ∙ (sym c.has_none.ensures ∙ c.if-has_none.false)) (clear_fits c.args.dialect x.committed database has.committed))

pub returns-clause-behind : goal.returns-clause-behind
returns-clause-behind g c = λ database has.
    c.clear_rows.ensures.behind database has (ap is_empty (c.requires.rows database has) ∙ (sym c.has_none.ensures ∙ c.if-has_none.false)) (clear_fits c.args.dialect (g.S.Store.state c.args.store.now).committed database has.committed)

pub returns-clause-any_moment : goal.returns-clause-any_moment
returns-clause-any_moment g c = λ database has.
    c.clear_rows.ensures.any_moment database has (ap is_empty (c.requires.rows database has) ∙ (sym c.has_none.ensures ∙ c.if-has_none.false)) (clear_fits c.args.dialect (g.S.Store.state c.args.store.now).committed database has.committed)
