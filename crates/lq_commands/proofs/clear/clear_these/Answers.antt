use Rattle.std.proofs.Common.{ap, rules, ◌∙◌}
use Rattle.std.specs.Prelude.{None, Ok, Some, length}
use Rattle.lq_report.specs.Output.{cleared_text}
use Rattle.lq_tell.specs.declared.status.Status.TheVariants.{OutOfMemory}
use Rattle.lq_commands.proofs.Commanded.{answers_end, fault_rose, lacking, unfinished_works}
use Rattle.lq_commands.proofs.Endings.{done_works, untouched_crashes, untouched_works}
use Rattle.lq_commands.proofs.Telling.{text_cut, text_ends}
use Rattle.lq_commands.proofs.Warned.{quiet_lines}
use Rattle.lq_commands.specs.Refusals.{ends}
use Rattle.lq_turns.specs.Script.{clear_calls}
use Rattle.lq_commands.proofs.clear.clear_these.Goals as goal

-- there is no memory for the text

pub returns-in_err-text-clause-answers : goal.returns-in_err-text-clause-answers
returns-in_err-text-clause-answers g c = lacking None _ (search rules)

pub returns-in_err-text-clause-works : goal.returns-in_err-text-clause-works
returns-in_err-text-clause-works g c = λ database has.
    untouched_works c.args.dialect (clear_calls database) database (g.S.Store.state c.args.store.now) _ OutOfMemory (search rules) has

pub returns-in_err-text-clause-any_moment : goal.returns-in_err-text-clause-any_moment
returns-in_err-text-clause-any_moment g c = λ database has.
    untouched_crashes c.args.dialect (clear_calls database) database (g.S.Store.state c.args.store.now) (g.S.Store.crashes c.args.store.now)

-- the sums are taken

pub returns-in-Ok-clause-tells : goal.returns-in-Ok-clause-tells
returns-in-Ok-clause-tells g c = text_ends (cleared_text (length c.args.rows.now)) (Ok c.with.result) (record { status = c.with.ensures.status; out = c.with.ensures.out ∙ ap Some c.in_ok-text.ensures; warned = quiet_lines c.with.result (c.with.ensures.own, c.with.ensures.warned) })

pub returns-in-Ok-clause-answers : goal.returns-in-Ok-clause-answers
returns-in-Ok-clause-answers g c = ap ends c.with.ensures.status

pub returns-in-Ok-clause-works : goal.returns-in-Ok-clause-works
returns-in-Ok-clause-works g c = λ database has.
    done_works c.args.dialect (clear_calls database) database (g.S.Store.state c.args.store.now) (g.S.Store.state c.clear_all.new.store) c.with.result c.with.ensures.status (c.in-Ok.ensures.leaves database has)

-- a fault is met

pub returns-in-Err-clause-tells : goal.returns-in-Err-clause-tells
returns-in-Err-clause-tells g c = text_cut (cleared_text (length c.args.rows.now)) c.fault_answer.result c.fault_answer.ensures.unfinished c.fault_answer.ensures.quiet

pub returns-in-Err-clause-answers : goal.returns-in-Err-clause-answers
returns-in-Err-clause-answers g c = answers_end c.fault_answer.result c.fault_answer.ensures.fault c.fault_answer.ensures.ends

pub returns-in-Err-clause-works : goal.returns-in-Err-clause-works
returns-in-Err-clause-works g c = λ database has.
    unfinished_works c.args.dialect (clear_calls database) database (g.S.Store.state c.args.store.now) (g.S.Store.state c.clear_all.new.store) c.in-Err.fault c.fault_answer.result c.fault_answer.ensures.unfinished c.fault_answer.ensures.same
    (c.in-Err.ensures.behind database has) (c.in-Err.ensures.full database has)

pub returns-in-Err-clause-disk : goal.returns-in-Err-clause-disk
returns-in-Err-clause-disk g c = λ disk. fault_rose c.in-Err.fault (g.S.Store.faults c.args.store.now) (g.S.Store.faults c.clear_all.new.store) c.in-Err.ensures.faults (c.fault_answer.ensures.disk disk)
