use Rattle.std.proofs.Common.{rules, subst, ◌≡◌}
use Rattle.lq_model.specs.declared.caller.Room.TheVariants.{Ordinary}
use Rattle.lq_run.proofs.Behind.{opening_behind}
use Rattle.lq_run.proofs.Left.{opening_leaves}
use Rattle.lq_run.proofs.Opens.{fails_first, opening_crash, takes_lock}
use Rattle.lq_run.specs.Does.{AloneFor}
use Rattle.std.specs.Prelude.{Err}
use Rattle.lq_run.proofs.Since.{leave_none}
use Rattle.lq_run.proofs.Stopping.{opened}
use Rattle.lq_run.specs.Crashing.{CrashesFor}
use Rattle.lq_turns.specs.declared.call.Call.TheVariants.{Alone}
use Rattle.lq_run.proofs.Beside.{first_beside}
use Rattle.lq_store.specs.Journal.{Keeps}
use Rattle.lq_run.proofs.alone.take_lock.Goals as goal

pub returns-in-Ok-clause-does : goal.returns-in-Ok-clause-does
returns-in-Ok-clause-does g c =
    let is : c.as_slice.result.now ≡ c.in-Ok.deeds = search rules in
    takes_lock c.args.dialect c.args.stamp.now c.args.session (g.S.Store.state c.args.store.now) (g.S.Store.state c.do_alone.new.store) c.in-Ok.deeds c.do_alone.result c.requires.moment c.requires.closed c.in-Ok.ensures.opens
    (subst (λ deeds. AloneFor c.args.dialect c.args.session deeds Ordinary (g.S.Store.state c.args.store.now) c.do_alone.result (g.S.Store.state c.do_alone.new.store)) is c.do_alone.ensures.does)

pub returns-in-Ok-clause-leaves : goal.returns-in-Ok-clause-leaves
returns-in-Ok-clause-leaves g c =
    let is : c.as_slice.result.now ≡ c.in-Ok.deeds = search rules in
    opening_leaves c.args.dialect c.args.session (g.S.Store.state c.args.store.now) (g.S.Store.state c.do_alone.new.store) c.do_alone.result c.args.stamp.now
    (takes_lock c.args.dialect c.args.stamp.now c.args.session (g.S.Store.state c.args.store.now) (g.S.Store.state c.do_alone.new.store) c.in-Ok.deeds c.do_alone.result c.requires.moment c.requires.closed c.in-Ok.ensures.opens
    (subst (λ deeds. AloneFor c.args.dialect c.args.session deeds Ordinary (g.S.Store.state c.args.store.now) c.do_alone.result (g.S.Store.state c.do_alone.new.store)) is c.do_alone.ensures.does))

pub returns-in-Err-clause-does : goal.returns-in-Err-clause-does
returns-in-Err-clause-does g c = fails_first c.args.dialect c.args.stamp.now c.args.session (g.S.Store.state c.args.store.now) c.in-Err.fault c.in-Err.ensures.fails

pub returns-in-Err-clause-leaves : goal.returns-in-Err-clause-leaves
returns-in-Err-clause-leaves g c =
    opening_leaves c.args.dialect c.args.session (g.S.Store.state c.args.store.now) (g.S.Store.state c.args.store.now) (Err c.in-Err.fault) c.args.stamp.now
    (fails_first c.args.dialect c.args.stamp.now c.args.session (g.S.Store.state c.args.store.now) c.in-Err.fault c.in-Err.ensures.fails)

pub returns-in-Ok-clause-crash : goal.returns-in-Ok-clause-crash
returns-in-Ok-clause-crash g c =
    let is : c.as_slice.result.now ≡ c.in-Ok.deeds = search rules in
    opening_crash c.args.dialect c.args.stamp.now c.args.session (g.S.Store.state c.args.store.now) c.in-Ok.deeds (g.S.Store.crashes c.args.store.now) (g.S.Store.crashes c.do_alone.new.store) c.requires.moment c.requires.closed c.in-Ok.ensures.opens
    (subst (λ deeds. CrashesFor c.args.dialect c.args.session (Alone deeds Ordinary) (g.S.Store.state c.args.store.now) (g.S.Store.crashes c.args.store.now) (g.S.Store.crashes c.do_alone.new.store)) is c.do_alone.ensures.crash)

pub returns-in-Ok-clause-any_moment : goal.returns-in-Ok-clause-any_moment
returns-in-Ok-clause-any_moment g c =
    let is : c.as_slice.result.now ≡ c.in-Ok.deeds = search rules in
    opened c.statements_read_back.ensures c.args.dialect c.args.session (g.S.Store.state c.args.store.now) (g.S.Store.crashes c.args.store.now) (g.S.Store.crashes c.do_alone.new.store) c.args.stamp.now c.requires.moment
    (opening_crash c.args.dialect c.args.stamp.now c.args.session (g.S.Store.state c.args.store.now) c.in-Ok.deeds (g.S.Store.crashes c.args.store.now) (g.S.Store.crashes c.do_alone.new.store) c.requires.moment c.requires.closed c.in-Ok.ensures.opens
    (subst (λ deeds. CrashesFor c.args.dialect c.args.session (Alone deeds Ordinary) (g.S.Store.state c.args.store.now) (g.S.Store.crashes c.args.store.now) (g.S.Store.crashes c.do_alone.new.store)) is c.do_alone.ensures.crash))

pub returns-in-Err-clause-crash : goal.returns-in-Err-clause-crash
returns-in-Err-clause-crash g c = λ start s is stands. leave_none (g.S.Store.state c.args.store.now).entries _ (g.S.Store.crashes c.args.store.now)

pub returns-in-Err-clause-any_moment : goal.returns-in-Err-clause-any_moment
returns-in-Err-clause-any_moment g c =
    opened c.statements_read_back.ensures c.args.dialect c.args.session (g.S.Store.state c.args.store.now) (g.S.Store.crashes c.args.store.now) (g.S.Store.crashes c.args.store.now) c.args.stamp.now c.requires.moment
    (λ start s is stands. leave_none (g.S.Store.state c.args.store.now).entries _ (g.S.Store.crashes c.args.store.now))

pub returns-in-Ok-clause-behind : goal.returns-in-Ok-clause-behind
returns-in-Ok-clause-behind g c =
    let is : c.as_slice.result.now ≡ c.in-Ok.deeds = search rules in
    opening_behind c.statements_read_back.ensures c.args.dialect (g.S.Store.state c.args.store.now) (g.S.Store.state c.do_alone.new.store) c.do_alone.result c.args.stamp.now c.requires.moment
    (opening_leaves c.args.dialect c.args.session (g.S.Store.state c.args.store.now) (g.S.Store.state c.do_alone.new.store) c.do_alone.result c.args.stamp.now
    (takes_lock c.args.dialect c.args.stamp.now c.args.session (g.S.Store.state c.args.store.now) (g.S.Store.state c.do_alone.new.store) c.in-Ok.deeds c.do_alone.result c.requires.moment c.requires.closed c.in-Ok.ensures.opens
    (subst (λ deeds. AloneFor c.args.dialect c.args.session deeds Ordinary (g.S.Store.state c.args.store.now) c.do_alone.result (g.S.Store.state c.do_alone.new.store)) is c.do_alone.ensures.does)))

pub returns-in-Err-clause-behind : goal.returns-in-Err-clause-behind
returns-in-Err-clause-behind g c =
    opening_behind c.statements_read_back.ensures c.args.dialect (g.S.Store.state c.args.store.now) (g.S.Store.state c.args.store.now) (Err c.in-Err.fault) c.args.stamp.now c.requires.moment
    (opening_leaves c.args.dialect c.args.session (g.S.Store.state c.args.store.now) (g.S.Store.state c.args.store.now) (Err c.in-Err.fault) c.args.stamp.now
    (fails_first c.args.dialect c.args.stamp.now c.args.session (g.S.Store.state c.args.store.now) c.in-Err.fault c.in-Err.ensures.fails))

pub returns-in-Err-clause-beside : goal.returns-in-Err-clause-beside
returns-in-Err-clause-beside g c = first_beside c.args.session (g.S.Store.state c.args.store.now) c.in-Err.fault c.requires.live c.in-Err.ensures.fails

pub returns-in-Err-clause-keeps : goal.returns-in-Err-clause-keeps
returns-in-Err-clause-keeps g c = leave_none (g.S.Store.state c.args.store.now).entries Keeps (g.S.Store.crashes c.args.store.now)
