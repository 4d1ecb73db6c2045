use Rattle.std.proofs.Common.{ap, refl, rules, ◌∙◌}
use Rattle.std.specs.Prelude.{None, Ok, Some}
use Rattle.lq_tell.specs.declared.status.Status.TheVariants.{OutOfMemory}
use Rattle.lq_commands.proofs.Commanded.{answers_end, fault_rose, kept_none, lacking, unfinished_works}
use Rattle.lq_commands.proofs.Endings.{done_works, untouched_crashes, untouched_works}
use Rattle.lq_commands.proofs.Seen.{lock_is}
use Rattle.lq_commands.proofs.Telling.{text_cut_on_its, text_ends}
use Rattle.lq_commands.proofs.Warned.{quiet_lines}
use Rattle.lq_commands.specs.Outputs.{released_text}
use Rattle.lq_commands.specs.Refusals.{ends}
use Rattle.lq_turns.specs.Script.{release_calls}
use Rattle.lq_commands.proofs.release.release.Goals as goal

-- there is no memory for a text

pub returns-in_err-text-clause-answers : goal.returns-in_err-text-clause-answers
returns-in_err-text-clause-answers g c = λ database has. lacking None _ (search rules)

pub returns-in_err-text-clause-works : goal.returns-in_err-text-clause-works
returns-in_err-text-clause-works g c = λ database has.
    let d = c.args.given.now.options.dialect in
    let x = g.S.Store.state c.args.store.now in
    untouched_works d (release_calls database) database x _ OutOfMemory (search rules) has

pub returns-in_err-text-clause-any_moment : goal.returns-in_err-text-clause-any_moment
returns-in_err-text-clause-any_moment g c = λ database has.
    untouched_crashes c.args.given.now.options.dialect (release_calls database) database (g.S.Store.state c.args.store.now) (g.S.Store.crashes c.args.store.now)

-- the lock is free

pub returns-in-Ok-clause-tells : goal.returns-in-Ok-clause-tells
returns-in-Ok-clause-tells g c = λ database has.
    let same = lock_is c.args.given.now.options.dialect (g.S.Store.state c.args.store.now) database has c.lock.result.now (c.lock.ensures c.requires.ready.has.live) in
    text_ends (released_text database.lock) (Ok c.with.result) (record { status = c.with.ensures.status; out = c.with.ensures.out ∙ ap Some (c.in_ok-text.ensures ∙ ap released_text same); warned = quiet_lines c.with.result (c.with.ensures.own, c.with.ensures.warned) })

pub returns-in-Ok-clause-answers : goal.returns-in-Ok-clause-answers
returns-in-Ok-clause-answers g c = λ database has. ap ends c.with.ensures.status

pub returns-in-Ok-clause-refused : goal.returns-in-Ok-clause-refused
returns-in-Ok-clause-refused g c = λ database has. kept_none None c.args.store.now c.free.new.store refl

pub returns-in-Ok-clause-works : goal.returns-in-Ok-clause-works
returns-in-Ok-clause-works g c = λ database has.
    done_works c.args.given.now.options.dialect (release_calls database) database (g.S.Store.state c.args.store.now) (g.S.Store.state c.free.new.store) c.with.result c.with.ensures.status (c.in-Ok.ensures.leaves database has)

-- a fault is met

pub returns-in-Err-clause-tells : goal.returns-in-Err-clause-tells
returns-in-Err-clause-tells g c =
    text_cut_on_its c.args.given.now.options.dialect (g.S.Store.state c.args.store.now) (λ e. released_text e.lock) c.fault_answer.result c.fault_answer.ensures.unfinished c.fault_answer.ensures.quiet

pub returns-in-Err-clause-answers : goal.returns-in-Err-clause-answers
returns-in-Err-clause-answers g c = λ database has. answers_end c.fault_answer.result c.fault_answer.ensures.fault c.fault_answer.ensures.ends

pub returns-in-Err-clause-refused : goal.returns-in-Err-clause-refused
returns-in-Err-clause-refused g c = λ database has. kept_none None c.args.store.now c.free.new.store refl

pub returns-in-Err-clause-works : goal.returns-in-Err-clause-works
returns-in-Err-clause-works g c = λ database has.
    unfinished_works c.args.given.now.options.dialect (release_calls database) database (g.S.Store.state c.args.store.now) (g.S.Store.state c.free.new.store) c.in-Err.fault c.fault_answer.result c.fault_answer.ensures.unfinished c.fault_answer.ensures.same
    (c.in-Err.ensures.behind database has) (c.in-Err.ensures.full database has)

pub returns-in-Err-clause-disk : goal.returns-in-Err-clause-disk
returns-in-Err-clause-disk g c = λ disk. fault_rose c.in-Err.fault (g.S.Store.faults c.args.store.now) (g.S.Store.faults c.free.new.store) c.in-Err.ensures.faults (c.fault_answer.ensures.disk disk)
