use Rattle.std.proofs.Common.{rules, ◌∙◌}
use Rattle.std.specs.Prelude.{Err, Ok, ◌≡◌}
use Rattle.lq_run.specs.Crashes.{LeftBehind}
use Rattle.lq_turns.specs.Deed.{contents_of}
use Rattle.lq_turns.specs.Settle.{own_choice}
use Rattle.lq_commands.proofs.Endings.{untouched_crashes, untouched_works, works_left, works_same}
use Rattle.lq_commands.proofs.Updated.{not_halt, own_answers, passed, rows_answers, so_of_update, updated_tells}
use Rattle.lq_commands.specs.Refusals.{unready}
use Rattle.lq_commands.specs.Scripts.{log_in, settled_in, update_script}
use Rattle.lq_commands.specs.Works.{CrashesIn, Works}
use Rattle.lq_commands.proofs.update.update.Goals as goal

pub returns-in_err-rows-clause-answers : goal.returns-in_err-rows-clause-answers
returns-in_err-rows-clause-answers g c = λ database has.
    let is : c.from_residual.result ≡ Err c.in_err-rows.field-0.0 = search rules in
    rows_answers c.args.given database c.from_residual.result c.in_err-rows.field-0.0 is (c.in_err-rows.ensures.passes database has)

pub returns-in_err-own-clause-answers : goal.returns-in_err-own-clause-answers
returns-in_err-own-clause-answers g c = λ database has.
    let is : c.from_residual-in_err-own.result ≡ Err c.in_err-own.field-0.0 = search rules in
    own_answers c.args.given database c.from_residual-in_err-own.result c.in_err-own.field-0.0 is (passed (unready c.args.given database) c.in_ok-rows.rows (c.in_ok-rows.ensures.passes database has)) (c.in_err-own.ensures.passes database has)

pub returns-in_err-rows-clause-works : goal.returns-in_err-rows-clause-works
returns-in_err-rows-clause-works g c = λ database has.
    let is : c.from_residual.result ≡ Err c.in_err-rows.field-0.0 = search rules in
    untouched_works c.args.given.options.dialect (update_script c.args.given database) database (g.S.Store.state c.args.store.now) c.from_residual.result c.in_err-rows.field-0.0 is has

pub returns-in_err-rows-clause-any_moment : goal.returns-in_err-rows-clause-any_moment
returns-in_err-rows-clause-any_moment g c = λ database has. untouched_crashes c.args.given.options.dialect (update_script c.args.given database) database (g.S.Store.state c.args.store.now) (g.S.Store.crashes c.args.store.now)

pub returns-in_err-own-clause-works : goal.returns-in_err-own-clause-works
returns-in_err-own-clause-works g c = λ database has.
    let is : c.from_residual-in_err-own.result ≡ Err c.in_err-own.field-0.0 = search rules in
    untouched_works c.args.given.options.dialect (update_script c.args.given database) database (g.S.Store.state c.args.store.now) c.from_residual-in_err-own.result c.in_err-own.field-0.0 is has

pub returns-in_err-own-clause-any_moment : goal.returns-in_err-own-clause-any_moment
returns-in_err-own-clause-any_moment g c = λ database has. untouched_crashes c.args.given.options.dialect (update_script c.args.given database) database (g.S.Store.state c.args.store.now) (g.S.Store.crashes c.args.store.now)

pub returns-in_err-done-clause-any_moment : goal.returns-in_err-done-clause-any_moment
returns-in_err-done-clause-any_moment g c = λ database has.
    so_of_update c.args.given database (not_halt (own_choice (log_in c.args.given) (contents_of database)) c.in_ok-own.own (c.in_ok-own.ensures.passes database has))
    (λ calls. CrashesIn c.args.given.options.dialect calls database (g.S.Store.state c.args.store.now) (g.S.Store.crashes c.args.store.now) (g.S.Store.crashes c.update_on.new.store)) (c.update_on.ensures.any_moment database has)

pub returns-clause-any_moment : goal.returns-clause-any_moment
returns-clause-any_moment g c = λ database has.
    so_of_update c.args.given database (not_halt (own_choice (log_in c.args.given) (contents_of database)) c.in_ok-own.own (c.in_ok-own.ensures.passes database has))
    (λ calls. CrashesIn c.args.given.options.dialect calls database (g.S.Store.state c.args.store.now) (g.S.Store.crashes c.args.store.now) (g.S.Store.crashes c.update_on.new.store)) (c.update_on.ensures.any_moment database has)

pub returns-clause-tells : goal.returns-clause-tells
returns-clause-tells g c = λ database has.
    let by = own_choice (log_in c.args.given) (contents_of database) in
    updated_tells c.args.prints (contents_of database) (settled_in c.args.prints c.args.given database) c.in_ok-done.done c.with_own.result c.with_own.ensures.status c.with_own.ensures.out c.in_ok-done.ensures.own
    c.with_own.ensures.warned by (not_halt by c.in_ok-own.own (c.in_ok-own.ensures.passes database has)) (c.with_own.ensures.own ∙ c.in_ok-own.ensures.own database has) (c.in_ok-done.ensures.tells database has)

pub returns-in_err-done-clause-works : goal.returns-in_err-done-clause-works
returns-in_err-done-clause-works g c = λ database has.
    let is : c.from_residual-in_err-done.result ≡ Err c.in_err-done.field-0.0 = search rules in
    let goes = not_halt (own_choice (log_in c.args.given) (contents_of database)) c.in_ok-own.own (c.in_ok-own.ensures.passes database has) in
    works_left c.args.given.options.dialect (update_script c.args.given database) database (g.S.Store.state c.args.store.now) (g.S.Store.state c.update_on.new.store) c.from_residual-in_err-done.result c.in_err-done.field-0.0 is
    (so_of_update c.args.given database goes (λ calls. LeftBehind c.args.given.options.dialect calls database (g.S.Store.state c.args.store.now) (g.S.Store.state c.update_on.new.store)) (c.in_err-done.ensures.works database has))

pub returns-clause-works : goal.returns-clause-works
returns-clause-works g c = λ database has.
    let x = g.S.Store.state c.args.store.now in
    let y = g.S.Store.state c.update_on.new.store in
    let goes = not_halt (own_choice (log_in c.args.given) (contents_of database)) c.in_ok-own.own (c.in_ok-own.ensures.passes database has) in
    works_same c.args.given.options.dialect (update_script c.args.given database) database x y c.in_ok-done.done c.with_own.result c.with_own.ensures.status
    (so_of_update c.args.given database goes (λ calls. Works c.args.given.options.dialect calls database x (Ok c.in_ok-done.done) y) (c.in_ok-done.ensures.works database has))
