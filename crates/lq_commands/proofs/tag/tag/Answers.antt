use Rattle.std.proofs.Common.{rules, sym, ◌∙◌}
use Rattle.lq_commands.proofs.Commanded.{first_refuses, lacking_by, second_answers, second_keeps}
use Rattle.lq_commands.proofs.Endings.{untouched_crashes, untouched_works}
use Rattle.lq_commands.specs.Refusals.{held, refusal, untagged}
use Rattle.lq_base.specs.declared.command.Command.TheVariants as command
use Rattle.lq_turns.specs.Script.{tag_calls}
use Rattle.lq_commands.proofs.tag.tag.Goals as goal

pub returns-in_err-check_lock-clause-answers : goal.returns-in_err-check_lock-clause-answers
returns-in_err-check_lock-clause-answers g c = λ database has. first_refuses _ (held database) (untagged database.rows) c.in_err-check_lock.field-0.0 _ (c.in_err-check_lock.ensures database has) (search rules)

pub returns-in_err-rows-clause-answers : goal.returns-in_err-rows-clause-answers
returns-in_err-rows-clause-answers g c = λ database has. lacking_by (refusal (command.Tag c.args.tag.now) c.args.given.now database) c.in_err-rows.field-0.0 _ c.in_err-rows.ensures.passes (search rules)

pub tag_rows-requires-clause-rows : goal.tag_rows-requires-clause-rows
tag_rows-requires-clause-rows g c = λ database has. c.in_ok-rows.ensures.rows database has ∙ sym c.as_slice.ensures

pub returns-clause-answers : goal.returns-clause-answers
returns-clause-answers g c = λ database has.
    second_answers (held database) untagged tt c.as_slice.result.now database.rows (c.in_ok-check_lock.ensures database has) (c.as_slice.ensures ∙ sym (c.in_ok-rows.ensures.rows database has)) c.tag_rows.result c.tag_rows.ensures.answers

pub returns-clause-refused : goal.returns-clause-refused
returns-clause-refused g c = λ database has.
    second_keeps (held database) untagged tt c.as_slice.result.now database.rows (c.in_ok-check_lock.ensures database has) (c.as_slice.ensures ∙ sym (c.in_ok-rows.ensures.rows database has)) c.args.store.now c.tag_rows.new.store c.tag_rows.ensures.refused

-- a check that refuses leaves what was there

pub returns-in_err-check_lock-clause-works : goal.returns-in_err-check_lock-clause-works
returns-in_err-check_lock-clause-works g c = λ database has.
    let d = c.args.given.now.options.dialect in
    let calls = tag_calls c.args.tag.now database in
    let x = g.S.Store.state c.args.store.now in
    untouched_works d calls database x _ c.in_err-check_lock.field-0.0 (search rules) has

pub returns-in_err-check_lock-clause-any_moment : goal.returns-in_err-check_lock-clause-any_moment
returns-in_err-check_lock-clause-any_moment g c = λ database has.
    untouched_crashes c.args.given.now.options.dialect (tag_calls c.args.tag.now database) database (g.S.Store.state c.args.store.now) (g.S.Store.crashes c.args.store.now)

pub returns-in_err-rows-clause-works : goal.returns-in_err-rows-clause-works
returns-in_err-rows-clause-works g c = λ database has.
    let d = c.args.given.now.options.dialect in
    let calls = tag_calls c.args.tag.now database in
    let x = g.S.Store.state c.args.store.now in
    untouched_works d calls database x _ c.in_err-rows.field-0.0 (search rules) has

pub returns-in_err-rows-clause-any_moment : goal.returns-in_err-rows-clause-any_moment
returns-in_err-rows-clause-any_moment g c = λ database has.
    untouched_crashes c.args.given.now.options.dialect (tag_calls c.args.tag.now database) database (g.S.Store.state c.args.store.now) (g.S.Store.crashes c.args.store.now)
