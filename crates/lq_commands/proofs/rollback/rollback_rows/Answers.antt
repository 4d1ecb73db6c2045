use Rattle.std.proofs.Common.{refl, rules, subst, sym}
use Rattle.std.specs.Prelude.{Err, List, reverse, ◌≡◌}
use Rattle.lq_back.specs.Reversal.{AreWays}
use Rattle.lq_kept.specs.declared.way.TakenBack.{TakenBack}
use Rattle.lq_commands.proofs.Endings.{untouched_crashes, untouched_works}
use Rattle.lq_commands.proofs.RolledBack.{kept_none, missing_answers, target_no_disk, target_so, target_tells_ok, way_answers, way_no_disk, way_there}
use Rattle.lq_commands.proofs.Updated.{answers_so}
use Rattle.lq_commands.specs.Refusals.{no_way_back}
use Rattle.lq_commands.specs.Scripts.{rollback_script}
use Rattle.lq_commands.specs.Works.{CrashesIn, Works}
use Rattle.lq_commands.proofs.rollback.rollback_rows.Goals as goal

-- no row has the tag

pub returns-in_err-undone-clause-answers : goal.returns-in_err-undone-clause-answers
returns-in_err-undone-clause-answers g c =
    missing_answers c.args.given c.args.target.now c.args.rows.now c.from_residual.result c.in_err-undone.field-0.0 (search rules) c.in_err-undone.ensures.missing.0 c.in_err-undone.ensures.missing.1

pub returns-in_err-undone-clause-refused : goal.returns-in_err-undone-clause-refused
returns-in_err-undone-clause-refused g c = λ refused. refl

pub returns-in_err-undone-clause-works : goal.returns-in_err-undone-clause-works
returns-in_err-undone-clause-works g c = λ database has.
    let is : c.from_residual.result ≡ Err c.in_err-undone.field-0.0 = search rules in
    untouched_works c.args.given.options.dialect (rollback_script c.args.given c.args.target.now database) database (g.S.Store.state c.args.store.now) c.from_residual.result c.in_err-undone.field-0.0 is has

pub returns-in_err-undone-clause-any_moment : goal.returns-in_err-undone-clause-any_moment
returns-in_err-undone-clause-any_moment g c = λ database has. untouched_crashes c.args.given.options.dialect (rollback_script c.args.given c.args.target.now database) database (g.S.Store.state c.args.store.now) (g.S.Store.crashes c.args.store.now)

pub returns-in_err-undone-clause-disk : goal.returns-in_err-undone-clause-disk
returns-in_err-undone-clause-disk g c =
    let is : c.from_residual.result ≡ Err c.in_err-undone.field-0.0 = search rules in
    λ disk. absurd (target_no_disk c.from_residual.result c.in_err-undone.field-0.0 is c.in_err-undone.ensures.missing.0 disk)

-- nothing takes one of the rows back

pub returns-in_err-ways-clause-answers : goal.returns-in_err-ways-clause-answers
returns-in_err-ways-clause-answers g c =
    way_answers c.args.given c.args.target.now c.args.rows.now (reverse c.in_ok-undone.undone.now) c.in_ok-undone.ensures.undone c.from_residual-in_err-ways.result c.in_err-ways.field-0.0 (search rules) c.in_err-ways.ensures.passes

pub returns-in_err-ways-clause-refused : goal.returns-in_err-ways-clause-refused
returns-in_err-ways-clause-refused g c = λ refused. refl

pub returns-in_err-ways-clause-works : goal.returns-in_err-ways-clause-works
returns-in_err-ways-clause-works g c = λ database has.
    let is : c.from_residual-in_err-ways.result ≡ Err c.in_err-ways.field-0.0 = search rules in
    untouched_works c.args.given.options.dialect (rollback_script c.args.given c.args.target.now database) database (g.S.Store.state c.args.store.now) c.from_residual-in_err-ways.result c.in_err-ways.field-0.0 is has

pub returns-in_err-ways-clause-any_moment : goal.returns-in_err-ways-clause-any_moment
returns-in_err-ways-clause-any_moment g c = λ database has. untouched_crashes c.args.given.options.dialect (rollback_script c.args.given c.args.target.now database) database (g.S.Store.state c.args.store.now) (g.S.Store.crashes c.args.store.now)

pub returns-in_err-ways-clause-disk : goal.returns-in_err-ways-clause-disk
returns-in_err-ways-clause-disk g c =
    let is : c.from_residual-in_err-ways.result ≡ Err c.in_err-ways.field-0.0 = search rules in
    λ disk. absurd (way_no_disk c.args.given (reverse c.in_ok-undone.undone.now) c.from_residual-in_err-ways.result c.in_err-ways.field-0.0 is c.in_err-ways.ensures.passes disk)

-- each row has its way

pub take_back-requires-clause-ways : goal.take_back-requires-clause-ways
take_back-requires-clause-ways g c = subst (λ (ways : List TakenBack). AreWays c.args.given.changelog.sets c.in_ok-undone.undone.now ways) (sym c.as_slice.ensures) c.in_ok-ways.ensures.ways

pub returns-clause-tells : goal.returns-clause-tells
returns-clause-tells g c =
    target_tells_ok c.args.given (g.S.Store.state c.args.store.now) c.args.prints c.take_back.result c.args.target.now c.args.rows.now (reverse c.in_ok-undone.undone.now) c.requires.rows c.in_ok-undone.ensures.undone c.take_back.ensures.tells

pub returns-clause-answers : goal.returns-clause-answers
returns-clause-answers g c =
    answers_so (no_way_back c.args.given c.args.target.now c.args.rows.now) c.take_back.result
    (way_there c.args.given c.args.target.now c.args.rows.now (reverse c.in_ok-undone.undone.now) c.in_ok-undone.ensures.undone c.in_ok-ways.ways c.in_ok-ways.ensures.passes) c.take_back.ensures.answers

pub returns-clause-refused : goal.returns-clause-refused
returns-clause-refused g c =
    kept_none (no_way_back c.args.given c.args.target.now c.args.rows.now) c.args.store.now c.take_back.new.store
    (way_there c.args.given c.args.target.now c.args.rows.now (reverse c.in_ok-undone.undone.now) c.in_ok-undone.ensures.undone c.in_ok-ways.ways c.in_ok-ways.ensures.passes)

pub returns-clause-works : goal.returns-clause-works
returns-clause-works g c = λ database has.
    let x = g.S.Store.state c.args.store.now in
    let y = g.S.Store.state c.take_back.new.store in
    target_so c.args.given database c.args.target.now c.args.rows.now (reverse c.in_ok-undone.undone.now) (c.requires.rows database has) c.in_ok-undone.ensures.undone
    (λ calls. Works c.args.given.options.dialect calls database x c.take_back.result y) (c.take_back.ensures.works database has)

pub returns-clause-any_moment : goal.returns-clause-any_moment
returns-clause-any_moment g c = λ database has.
    let x = g.S.Store.state c.args.store.now in
    let before = g.S.Store.crashes c.args.store.now in
    let now = g.S.Store.crashes c.take_back.new.store in
    target_so c.args.given database c.args.target.now c.args.rows.now (reverse c.in_ok-undone.undone.now) (c.requires.rows database has) c.in_ok-undone.ensures.undone
    (λ calls. CrashesIn c.args.given.options.dialect calls database x before now) (c.take_back.ensures.any_moment database has)
