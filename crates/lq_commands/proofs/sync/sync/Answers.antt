use Rattle.std.proofs.Common.{rules, sym, ◌∙◌}
use Rattle.std.specs.Prelude.{Err, ◌≡◌}
use Rattle.lq_tell.specs.declared.status.Status.TheVariants as status
use Rattle.lq_commands.proofs.Commanded.{kept_none, lacking, none_of, passed, refused_as}
use Rattle.lq_commands.proofs.Endings.{untouched_crashes, untouched_works}
use Rattle.lq_commands.specs.Refusals.{unready}
use Rattle.lq_commands.specs.Scripts.{sync_script}
use Rattle.lq_commands.proofs.sync.sync.Goals as goal

pub returns-in_err-rows-clause-answers : goal.returns-in_err-rows-clause-answers
returns-in_err-rows-clause-answers g c = λ database has. refused_as _ (unready c.args.given database) c.in_err-rows.field-0.0 _ (c.in_err-rows.ensures.passes database has) (search rules)

pub returns-in_err-made-clause-answers : goal.returns-in_err-made-clause-answers
returns-in_err-made-clause-answers g c = λ database has. lacking (unready c.args.given database) _ (search rules)

pub returns-in_err-rows-clause-works : goal.returns-in_err-rows-clause-works
returns-in_err-rows-clause-works g c = λ database has.
    let is : c.from_residual.result ≡ Err c.in_err-rows.field-0.0 = search rules in
    untouched_works c.args.given.options.dialect (sync_script c.args.given database) database (g.S.Store.state c.args.store.now) c.from_residual.result c.in_err-rows.field-0.0 is has

pub returns-in_err-rows-clause-any_moment : goal.returns-in_err-rows-clause-any_moment
returns-in_err-rows-clause-any_moment g c = λ database has. untouched_crashes c.args.given.options.dialect (sync_script c.args.given database) database (g.S.Store.state c.args.store.now) (g.S.Store.crashes c.args.store.now)

pub returns-in_err-made-clause-works : goal.returns-in_err-made-clause-works
returns-in_err-made-clause-works g c = λ database has.
    let is : c.from_residual-in_err-made.result ≡ Err status.OutOfMemory = search rules in
    untouched_works c.args.given.options.dialect (sync_script c.args.given database) database (g.S.Store.state c.args.store.now) c.from_residual-in_err-made.result status.OutOfMemory is has

pub returns-in_err-made-clause-any_moment : goal.returns-in_err-made-clause-any_moment
returns-in_err-made-clause-any_moment g c = λ database has. untouched_crashes c.args.given.options.dialect (sync_script c.args.given database) database (g.S.Store.state c.args.store.now) (g.S.Store.crashes c.args.store.now)

pub insert-requires-clause-before : goal.insert-requires-clause-before
insert-requires-clause-before g c = λ database has. c.in_ok-rows.ensures.rows database has ∙ sym c.as_slice-before.ensures

pub returns-clause-answers : goal.returns-clause-answers
returns-clause-answers g c = λ database has.
    passed (unready c.args.given database) c.in_ok-rows.rows c.insert.result (c.in_ok-rows.ensures.passes database has) c.insert.ensures.answers

pub returns-clause-refused : goal.returns-clause-refused
returns-clause-refused g c = λ database has.
    kept_none (unready c.args.given database) c.args.store.now c.insert.new.store (none_of (unready c.args.given database) c.in_ok-rows.rows (c.in_ok-rows.ensures.passes database has))
