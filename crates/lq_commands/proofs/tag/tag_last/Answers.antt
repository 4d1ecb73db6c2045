use Rattle.std.proofs.Common.{ap, rules, ◌∙◌}
use Rattle.std.specs.Prelude.{Err, None, Ok, Some}
use Rattle.lq_store.specs.Journal.{is_open}
use Rattle.lq_tell.specs.declared.status.Status.TheVariants.{OutOfMemory}
use Rattle.lq_commands.proofs.Commanded.{answers_end, fault_rose, lacking, tag_behind, tag_crashes, tag_leaves, unfinished_works}
use Rattle.lq_commands.proofs.Endings.{done_works, full_once, untouched_crashes, untouched_works}
use Rattle.lq_commands.proofs.Telling.{text_cut, text_ends}
use Rattle.lq_commands.proofs.Warned.{quiet_lines}
use Rattle.lq_commands.specs.Refusals.{ends}
use Rattle.lq_turns.specs.Script.{tag_calls}
use Rattle.lq_report.specs.Output.{tagged_text}
use Rattle.lq_commands.proofs.tag.tag_last.Goals as goal

pub tag_row-requires-clause-closed : goal.tag_row-requires-clause-closed
tag_row-requires-clause-closed g c = ap (is_open 1) c.requires.ready.has.shut

-- there is no memory for a text

pub returns-in_err-text-clause-answers : goal.returns-in_err-text-clause-answers
returns-in_err-text-clause-answers g c = lacking None _ (search rules)

pub returns-in_err-text-clause-works : goal.returns-in_err-text-clause-works
returns-in_err-text-clause-works g c = λ database has.
    let calls = tag_calls c.args.tag.now database in
    let x = g.S.Store.state c.args.store.now in
    untouched_works c.args.dialect calls database x _ OutOfMemory (search rules) has

pub returns-in_err-text-clause-any_moment : goal.returns-in_err-text-clause-any_moment
returns-in_err-text-clause-any_moment g c = λ database has.
    untouched_crashes c.args.dialect (tag_calls c.args.tag.now database) database (g.S.Store.state c.args.store.now) (g.S.Store.crashes c.args.store.now)

pub returns-in_err-name-clause-answers : goal.returns-in_err-name-clause-answers
returns-in_err-name-clause-answers g c = lacking None _ (search rules)

pub returns-in_err-name-clause-works : goal.returns-in_err-name-clause-works
returns-in_err-name-clause-works g c = λ database has.
    let calls = tag_calls c.args.tag.now database in
    let x = g.S.Store.state c.args.store.now in
    untouched_works c.args.dialect calls database x _ OutOfMemory (search rules) has

pub returns-in_err-name-clause-any_moment : goal.returns-in_err-name-clause-any_moment
returns-in_err-name-clause-any_moment g c = λ database has.
    untouched_crashes c.args.dialect (tag_calls c.args.tag.now database) database (g.S.Store.state c.args.store.now) (g.S.Store.crashes c.args.store.now)

-- the row is tagged

pub returns-in-Ok-clause-tells : goal.returns-in-Ok-clause-tells
returns-in-Ok-clause-tells g c = text_ends (tagged_text c.args.tag.now) (Ok c.with.result) (record { status = c.with.ensures.status; out = c.with.ensures.out ∙ ap Some (c.in_ok-text.ensures ∙ ap tagged_text c.as_str.ensures); warned = quiet_lines c.with.result (c.with.ensures.own, c.with.ensures.warned) })

pub returns-in-Ok-clause-answers : goal.returns-in-Ok-clause-answers
returns-in-Ok-clause-answers g c = ap ends c.with.ensures.status

pub returns-in-Ok-clause-works : goal.returns-in-Ok-clause-works
returns-in-Ok-clause-works g c = λ database has.
    let x = g.S.Store.state c.args.store.now in
    let y = g.S.Store.state c.tag_row.new.store in
    done_works c.args.dialect (tag_calls c.args.tag.now database) database x y c.with.result c.with.ensures.status
    (tag_leaves c.args.dialect c.args.of c.in_ok-name.name c.args.tag.now x c.in_ok-name.ensures c.requires.short y (Ok tt) c.in-Ok.ensures.leaves database has (c.requires.last database has))

pub returns-in-Ok-clause-any_moment : goal.returns-in-Ok-clause-any_moment
returns-in-Ok-clause-any_moment g c = λ database has.
    tag_crashes c.args.dialect c.args.of c.in_ok-name.name c.args.tag.now (g.S.Store.state c.args.store.now) c.in_ok-name.ensures c.requires.short (g.S.Store.crashes c.args.store.now) (g.S.Store.crashes c.tag_row.new.store)
    c.in-Ok.ensures.any_moment database has (c.requires.last database has)

-- a fault is met

pub returns-in-Err-clause-tells : goal.returns-in-Err-clause-tells
returns-in-Err-clause-tells g c = text_cut (tagged_text c.args.tag.now) c.fault_answer.result c.fault_answer.ensures.unfinished c.fault_answer.ensures.quiet

pub returns-in-Err-clause-answers : goal.returns-in-Err-clause-answers
returns-in-Err-clause-answers g c = answers_end c.fault_answer.result c.fault_answer.ensures.fault c.fault_answer.ensures.ends

pub returns-in-Err-clause-works : goal.returns-in-Err-clause-works
returns-in-Err-clause-works g c = λ database has.
    let x = g.S.Store.state c.args.store.now in
    let y = g.S.Store.state c.tag_row.new.store in
    unfinished_works c.args.dialect (tag_calls c.args.tag.now database) database x y c.in-Err.fault c.fault_answer.result c.fault_answer.ensures.unfinished c.fault_answer.ensures.same
    (tag_behind c.args.dialect c.args.of c.in_ok-name.name c.args.tag.now x c.in_ok-name.ensures c.requires.short y c.in-Err.ensures.behind database has (c.requires.last database has))
    (full_once c.args.dialect (tag_calls c.args.tag.now database) database x y c.in-Err.fault
    (tag_leaves c.args.dialect c.args.of c.in_ok-name.name c.args.tag.now x c.in_ok-name.ensures c.requires.short y (Err c.in-Err.fault) c.in-Err.ensures.leaves database has (c.requires.last database has)))

pub returns-in-Err-clause-any_moment : goal.returns-in-Err-clause-any_moment
returns-in-Err-clause-any_moment g c = λ database has.
    tag_crashes c.args.dialect c.args.of c.in_ok-name.name c.args.tag.now (g.S.Store.state c.args.store.now) c.in_ok-name.ensures c.requires.short (g.S.Store.crashes c.args.store.now) (g.S.Store.crashes c.tag_row.new.store)
    c.in-Err.ensures.any_moment database has (c.requires.last database has)

pub returns-in-Err-clause-disk : goal.returns-in-Err-clause-disk
returns-in-Err-clause-disk g c = λ disk. fault_rose c.in-Err.fault (g.S.Store.faults c.args.store.now) (g.S.Store.faults c.tag_row.new.store) c.in-Err.ensures.faults (c.fault_answer.ensures.disk disk)
