use Rattle.std.proofs.Common.{refl, rules, subst, sym, ◌∙◌}
use Rattle.std.specs.Prelude.{Err, Ok, Result, ◌≡◌}
use Rattle.lq_cli.specs.declared.line.Job.TheVariants.{UpdateTestingRollback}
use Rattle.lq_tell.specs.declared.done.Done.{Done}
use Rattle.lq_tell.specs.declared.status.Status.{Status}
use Rattle.lq_tell.specs.declared.status.Status.TheVariants as status
use Rattle.lq_commands.proofs.Jobbed.{memory_did}
use Rattle.lq_rehearsal.proofs.RehearsalJobs.{first_failed, joined_job, ready_then, stopped_job}
use Rattle.lq_commands.specs.Jobs.{DidJob}
use Rattle.lq_commands.specs.Rehearsal.{after_update}
use Rattle.lq_rehearsal.specs.Returns.{DidRun}
use Rattle.lq_commands.specs.Works.{IsReady}
use Rattle.lq_commands.specs.declared.given.Given.{Given}
use Rattle.lq_rehearsal.proofs.rehearsal.rehearse.Goals as goal

pub returns-in_err-later-clause-did : goal.returns-in_err-later-clause-did
returns-in_err-later-clause-did g c = memory_did g.S.Store.state g.S.Store.crashes UpdateTestingRollback c.args.given c.args.store.now status.OutOfMemory c.from_residual.result refl (search rules)

-- the first update was refused, or failed

pub returns-in_err-done-clause-did : goal.returns-in_err-done-clause-did
returns-in_err-done-clause-did g c =
    let is : c.from_residual-in_err-done.result ≡ Err c.in_err-done.field-0.0 = search rules in
    first_failed g.S.Store.state g.S.Store.crashes c.args.given c.args.store.now c.update.new.store c.args.stay c.requires.rows c.requires.passed c.requires.free c.in_err-done.field-0.0 c.from_residual-in_err-done.result is
    c.in_err-done.ensures.answers c.update.ensures.refused c.in_err-done.ensures.works c.update.ensures.any_moment

-- it stopped

pub returns-then-not-is_done-clause-did : goal.returns-then-not-is_done-clause-did
returns-then-not-is_done-clause-did g c =
    stopped_job g.S.Store.state g.S.Store.crashes c.args.given c.args.store.now c.update.new.store c.args.stay c.requires.rows c.requires.passed c.requires.free c.requires.ready c.in_ok-done.done
    c.in_ok-done.ensures.answers c.in_ok-done.ensures.works c.update.ensures.any_moment c.in_ok-done.ensures.tells (sym c.is_done.ensures ∙ c.if-not-is_done.true)

-- it is done

pub back_and_again-requires-clause-ready : goal.back_and_again-requires-clause-ready
back_and_again-requires-clause-ready g c =
    subst (λ (given : Given). IsReady given.options.dialect (g.S.Store.state c.update.new.store)) (sym c.in_ok-later.ensures)
    (ready_then g.S.Store.state g.S.Store.crashes c.args.given c.args.store.now c.update.new.store c.args.stay c.requires.rows c.requires.passed c.requires.free c.requires.ready c.in_ok-done.done
    c.in_ok-done.ensures.answers c.in_ok-done.ensures.works c.update.ensures.any_moment c.in_ok-done.ensures.tells (sym c.is_done.ensures ∙ c.if-not-is_done.false) c.requires.read
    (λ live. g.met.S.Store.sound c.update.new.store c.update.ensures.valid live))

pub returns-in_err-more-clause-did : goal.returns-in_err-more-clause-did
returns-in_err-more-clause-did g c =
    let is : c.from_residual-in_err-more.result ≡ Err c.in_err-more.field-0.0 = search (rules, c.from_residual-in_err-more.ensures) in
    let after = c.back_and_again.new.store in
    let more = subst (λ (given : Given). DidRun g.S.Store.state g.S.Store.crashes given.options.dialect (after_update given c.args.stay) c.update.new.store (Err c.in_err-more.field-0.0) after) c.in_ok-later.ensures c.in_err-more.ensures.did in
    subst (λ (r : Result Done Status). DidJob g.S.Store.state g.S.Store.crashes UpdateTestingRollback c.args.given c.args.store.now r after) (sym is)
    (joined_job g.S.Store.state g.S.Store.crashes c.args.given c.args.store.now c.update.new.store c.args.stay c.requires.rows c.requires.passed c.requires.free c.requires.ready c.in_ok-done.done
    c.in_ok-done.ensures.answers c.in_ok-done.ensures.works c.update.ensures.any_moment c.in_ok-done.ensures.tells (sym c.is_done.ensures ∙ c.if-not-is_done.false) c.requires.read
    (λ live. g.met.S.Store.sound c.update.new.store c.update.ensures.valid live) after (Err c.in_err-more.field-0.0) (Err c.in_err-more.field-0.0) (λ live. g.met.S.Store.sound after c.back_and_again.ensures.valid live) more refl)

pub returns-in_err-whole-clause-did : goal.returns-in_err-whole-clause-did
returns-in_err-whole-clause-did g c =
    let is : c.from_residual-in_err-whole.result ≡ Err status.OutOfMemory = search rules in
    let after = c.back_and_again.new.store in
    let more = subst (λ (given : Given). DidRun g.S.Store.state g.S.Store.crashes given.options.dialect (after_update given c.args.stay) c.update.new.store (Ok c.in_ok-more.more) after) c.in_ok-later.ensures c.in_ok-more.ensures.did in
    subst (λ (r : Result Done Status). DidJob g.S.Store.state g.S.Store.crashes UpdateTestingRollback c.args.given c.args.store.now r after) (sym is)
    (joined_job g.S.Store.state g.S.Store.crashes c.args.given c.args.store.now c.update.new.store c.args.stay c.requires.rows c.requires.passed c.requires.free c.requires.ready c.in_ok-done.done
    c.in_ok-done.ensures.answers c.in_ok-done.ensures.works c.update.ensures.any_moment c.in_ok-done.ensures.tells (sym c.is_done.ensures ∙ c.if-not-is_done.false) c.requires.read
    (λ live. g.met.S.Store.sound c.update.new.store c.update.ensures.valid live) after (Ok c.in_ok-more.more) (Err status.OutOfMemory) (λ live. g.met.S.Store.sound after c.back_and_again.ensures.valid live) more refl)

pub returns-clause-did : goal.returns-clause-did
returns-clause-did g c =
    let after = c.back_and_again.new.store in
    let more = subst (λ (given : Given). DidRun g.S.Store.state g.S.Store.crashes given.options.dialect (after_update given c.args.stay) c.update.new.store (Ok c.in_ok-more.more) after) c.in_ok-later.ensures c.in_ok-more.ensures.did in
    joined_job g.S.Store.state g.S.Store.crashes c.args.given c.args.store.now c.update.new.store c.args.stay c.requires.rows c.requires.passed c.requires.free c.requires.ready c.in_ok-done.done
    c.in_ok-done.ensures.answers c.in_ok-done.ensures.works c.update.ensures.any_moment c.in_ok-done.ensures.tells (sym c.is_done.ensures ∙ c.if-not-is_done.false) c.requires.read
    (λ live. g.met.S.Store.sound c.update.new.store c.update.ensures.valid live) after (Ok c.in_ok-more.more) (Ok c.in_ok-whole.whole) (λ live. g.met.S.Store.sound after c.back_and_again.ensures.valid live) more
    (c.in_ok-whole.ensures.status, c.in_ok-whole.ensures.out, c.in_ok-whole.ensures.warned)
