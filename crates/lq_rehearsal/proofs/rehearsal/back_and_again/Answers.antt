use Rattle.std.proofs.Common.{refl, rules, subst, sym, ◌∙◌}
use Rattle.std.specs.Prelude.{Err, Ok, Result, ◌≡◌}
use Rattle.lq_tell.specs.declared.done.Done.{Done}
use Rattle.lq_tell.specs.declared.status.Status.{Status}
use Rattle.lq_tell.specs.declared.status.Status.TheVariants as status
use Rattle.lq_rehearsal.proofs.RehearsalJobs.{failed_back, joined_back, ready_back, stopped_back}
use Rattle.lq_rehearsal.proofs.Rehearsed.{lacking_run}
use Rattle.lq_commands.specs.Rehearsal.{after_update, updates_again}
use Rattle.lq_rehearsal.specs.Returns.{DidRun}
use Rattle.lq_commands.specs.Works.{IsReady}
use Rattle.lq_commands.specs.declared.given.Given.{Given}
use Rattle.lq_rehearsal.proofs.rehearsal.back_and_again.Goals as goal

pub returns-in_err-later-clause-did : goal.returns-in_err-later-clause-did
returns-in_err-later-clause-did g c = lacking_run g.S.Store.state g.S.Store.crashes c.args.given.options.dialect (after_update c.args.given c.args.stay) c.args.store.now c.from_residual.result (search rules)

pub returns-in_err-done-clause-did : goal.returns-in_err-done-clause-did
returns-in_err-done-clause-did g c =
    let is : c.from_residual-in_err-done.result ≡ Err c.in_err-done.field-0.0 = search rules in
    failed_back g.S.Store.state g.S.Store.crashes c.args.given c.args.store.now c.take_back.new.store c.args.stay c.in_err-done.field-0.0 c.from_residual-in_err-done.result is c.in_err-done.ensures.did

pub returns-then-not-is_done-clause-did : goal.returns-then-not-is_done-clause-did
returns-then-not-is_done-clause-did g c =
    stopped_back g.S.Store.state g.S.Store.crashes c.args.given c.args.store.now c.take_back.new.store c.args.stay c.in_ok-done.done c.in_ok-done.ensures.did (sym c.is_done.ensures ∙ c.if-not-is_done.true)

pub update_again-requires-clause-ready : goal.update_again-requires-clause-ready
update_again-requires-clause-ready g c =
    subst (λ (given : Given). IsReady given.options.dialect (g.S.Store.state c.take_back.new.store)) (sym c.in_ok-later.ensures)
    (ready_back g.S.Store.state g.S.Store.crashes c.args.given c.args.store.now c.take_back.new.store c.args.stay c.in_ok-done.done c.in_ok-done.ensures.did (sym c.is_done.ensures ∙ c.if-not-is_done.false) c.requires.ready
    (λ live. g.met.S.Store.sound c.take_back.new.store c.take_back.ensures.valid live))

pub returns-in_err-more-clause-did : goal.returns-in_err-more-clause-did
returns-in_err-more-clause-did g c =
    let is : c.from_residual-in_err-more.result ≡ Err c.in_err-more.field-0.0 = search rules in
    let after = c.update_again.new.store in
    let more = subst (λ (given : Given). DidRun g.S.Store.state g.S.Store.crashes given.options.dialect (updates_again given) c.take_back.new.store (Err c.in_err-more.field-0.0) after) c.in_ok-later.ensures c.in_err-more.ensures.did in
    subst (λ (r : Result Done Status). DidRun g.S.Store.state g.S.Store.crashes c.args.given.options.dialect (after_update c.args.given c.args.stay) c.args.store.now r after) (sym is)
    (joined_back g.S.Store.state g.S.Store.crashes c.args.given c.args.store.now c.take_back.new.store c.args.stay c.in_ok-done.done c.in_ok-done.ensures.did (sym c.is_done.ensures ∙ c.if-not-is_done.false) c.requires.ready
    (λ live. g.met.S.Store.sound c.take_back.new.store c.take_back.ensures.valid live) after (Err c.in_err-more.field-0.0) (Err c.in_err-more.field-0.0) (λ live. g.met.S.Store.sound after c.update_again.ensures.valid live) more refl)

pub returns-in_err-whole-clause-did : goal.returns-in_err-whole-clause-did
returns-in_err-whole-clause-did g c =
    let is : c.from_residual-in_err-whole.result ≡ Err status.OutOfMemory = search rules in
    let after = c.update_again.new.store in
    let more = subst (λ (given : Given). DidRun g.S.Store.state g.S.Store.crashes given.options.dialect (updates_again given) c.take_back.new.store (Ok c.in_ok-more.more) after) c.in_ok-later.ensures c.in_ok-more.ensures.did in
    subst (λ (r : Result Done Status). DidRun g.S.Store.state g.S.Store.crashes c.args.given.options.dialect (after_update c.args.given c.args.stay) c.args.store.now r after) (sym is)
    (joined_back g.S.Store.state g.S.Store.crashes c.args.given c.args.store.now c.take_back.new.store c.args.stay c.in_ok-done.done c.in_ok-done.ensures.did (sym c.is_done.ensures ∙ c.if-not-is_done.false) c.requires.ready
    (λ live. g.met.S.Store.sound c.take_back.new.store c.take_back.ensures.valid live) after (Ok c.in_ok-more.more) (Err status.OutOfMemory) (λ live. g.met.S.Store.sound after c.update_again.ensures.valid live) more refl)

pub returns-clause-did : goal.returns-clause-did
returns-clause-did g c =
    let after = c.update_again.new.store in
    let more = subst (λ (given : Given). DidRun g.S.Store.state g.S.Store.crashes given.options.dialect (updates_again given) c.take_back.new.store (Ok c.in_ok-more.more) after) c.in_ok-later.ensures c.in_ok-more.ensures.did in
    joined_back g.S.Store.state g.S.Store.crashes c.args.given c.args.store.now c.take_back.new.store c.args.stay c.in_ok-done.done c.in_ok-done.ensures.did (sym c.is_done.ensures ∙ c.if-not-is_done.false) c.requires.ready
    (λ live. g.met.S.Store.sound c.take_back.new.store c.take_back.ensures.valid live) after (Ok c.in_ok-more.more) (Ok c.in_ok-whole.whole) (λ live. g.met.S.Store.sound after c.update_again.ensures.valid live) more
    (c.in_ok-whole.ensures.status, c.in_ok-whole.ensures.out, c.in_ok-whole.ensures.warned)
