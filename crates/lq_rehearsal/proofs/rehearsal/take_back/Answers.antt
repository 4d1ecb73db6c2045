use Rattle.std.proofs.Common.{ap, rules, sym, ◌∙◌}
use Rattle.std.specs.Prelude.{List, length, ◌-◌, ◌≡◌, ◌≤◌}
use Rattle.lq_base.specs.declared.tracking.Tracked.{Tracked}
use Rattle.lq_rehearsal.proofs.RehearsalJobs.{back_failed, back_run, few_rows}
use Rattle.lq_rehearsal.proofs.Rehearsed.{lacking_run}
use Rattle.lq_commands.specs.Rehearsal.{takes_back}
use Rattle.lq_rehearsal.proofs.rehearsal.take_back.Goals as goal

pub returns-in_err-rows-clause-did : goal.returns-in_err-rows-clause-did
returns-in_err-rows-clause-did g c =
    lacking_run g.S.Store.state g.S.Store.crashes c.args.given.options.dialect (takes_back c.args.given c.args.stay) c.args.store.now c.from_residual.result (search rules)

pub came-requires : goal.came-requires
came-requires g c =
    let on = c.requires.ready in
    record { few = few_rows c.args.given.options.dialect (g.S.Store.state c.args.store.now) on.database on.has c.as_slice.result.now (c.in_ok-rows.ensures.rows on.database on.has ∙ sym c.as_slice.ensures) }

pub returns-in-Ok-clause-did : goal.returns-in-Ok-clause-did
returns-in-Ok-clause-did g c =
    back_run g.S.Store.state g.S.Store.crashes c.args.given c.args.store.now c.rollback.new.store c.args.stay c.came.result
    (λ database has. c.came.ensures ∙ ap (λ (rows : List Tracked). length rows - c.args.stay) (c.as_slice.ensures ∙ sym (c.in_ok-rows.ensures.rows database has)))
    c.in-Ok.done c.requires.ready c.in-Ok.ensures.answers c.in-Ok.ensures.works c.rollback.ensures.any_moment c.in-Ok.ensures.tells

pub returns-clause-did : goal.returns-clause-did
returns-clause-did g c =
    back_failed g.S.Store.state g.S.Store.crashes c.args.given c.args.store.now c.rollback.new.store c.args.stay c.came.result
    (λ database has. c.came.ensures ∙ ap (λ (rows : List Tracked). length rows - c.args.stay) (c.as_slice.ensures ∙ sym (c.in_ok-rows.ensures.rows database has)))
    c.in-Err.status c.fault_of.result c.fault_of.ensures.fault c.in-Err.ensures.works c.rollback.ensures.any_moment
