use Rattle.std.proofs.Common.{refl, subst}
use Rattle.std.specs.Prelude.{IfSome, ◌≤◌}
use Rattle.lq_base.specs.Number.{char_count}
use Rattle.lq_base.specs.declared.command.Command.{Command}
use Rattle.lq_base.specs.declared.command.Command.TheVariants as command
use Rattle.lq_report.specs.Output.{status_text, validated_text}
use Rattle.lq_track.specs.Database.{Database}
use Rattle.lq_turns.specs.Printed.{pending}
use Rattle.lq_commands.proofs.Commanded.{answers_as, crashes_as, kept_as, works_as}
use Rattle.lq_commands.proofs.Endings.{untouched_crashes}
use Rattle.lq_commands.proofs.MayWrite.{writes}
use Rattle.lq_commands.proofs.Telling.{on_its_tells, tells_as, text_ends}
use Rattle.lq_commands.specs.Outputs.{EndsText, TellsText, released_text}
use Rattle.lq_commands.specs.Scripts.{script, sets_in, tag_in}
use Rattle.lq_commands.proofs.command.run_at_once.Goals as goal

pub tag-requires-clause-short : goal.tag-requires-clause-short
tag-requires-clause-short g c = subst (λ (k : Command). IfSome (tag_in k) (λ tag. char_count tag ≤ 255)) c.in-Tag.is c.requires.tag

pub returns-in-Validate-clause-answers : goal.returns-in-Validate-clause-answers
returns-in-Validate-clause-answers g c = λ database has. answers_as c.args.command.now command.Validate c.in-Validate.is c.args.given.now database c.validate.result (c.validate.ensures.answers database has)

pub returns-in-Validate-clause-works : goal.returns-in-Validate-clause-works
returns-in-Validate-clause-works g c = λ database has.
    works_as c.args.command.now command.Validate c.in-Validate.is c.args.given.now database (g.S.Store.state c.args.store.now) (g.S.Store.state c.args.store.now) c.validate.result (c.validate.ensures.works database has)

pub returns-in-Validate-clause-disk : goal.returns-in-Validate-clause-disk
returns-in-Validate-clause-disk g c = λ disk. absurd (c.validate.ensures.sure disk)

pub returns-in-Status-clause-answers : goal.returns-in-Status-clause-answers
returns-in-Status-clause-answers g c = λ database has. answers_as c.args.command.now command.Status c.in-Status.is c.args.given.now database c.status.result (c.status.ensures.answers database has)

pub returns-in-Status-clause-works : goal.returns-in-Status-clause-works
returns-in-Status-clause-works g c = λ database has.
    works_as c.args.command.now command.Status c.in-Status.is c.args.given.now database (g.S.Store.state c.args.store.now) (g.S.Store.state c.args.store.now) c.status.result (c.status.ensures.works database has)

pub returns-in-Status-clause-disk : goal.returns-in-Status-clause-disk
returns-in-Status-clause-disk g c = λ disk. absurd (c.status.ensures.sure disk)

pub returns-in-Tag-clause-answers : goal.returns-in-Tag-clause-answers
returns-in-Tag-clause-answers g c = λ database has. answers_as c.args.command.now (command.Tag c.in-Tag.name) c.in-Tag.is c.args.given.now database c.tag.result (c.tag.ensures.answers database has)

pub returns-in-Tag-clause-refused : goal.returns-in-Tag-clause-refused
returns-in-Tag-clause-refused g c = λ database has. kept_as c.args.command.now (command.Tag c.in-Tag.name) c.in-Tag.is c.args.given.now database c.args.store.now c.tag.new.store (c.tag.ensures.refused database has)

pub returns-in-Tag-clause-works : goal.returns-in-Tag-clause-works
returns-in-Tag-clause-works g c = λ database has.
    works_as c.args.command.now (command.Tag c.in-Tag.name) c.in-Tag.is c.args.given.now database (g.S.Store.state c.args.store.now) (g.S.Store.state c.tag.new.store) c.tag.result (c.tag.ensures.works database has)

pub returns-in-Release-clause-answers : goal.returns-in-Release-clause-answers
returns-in-Release-clause-answers g c = λ database has. answers_as c.args.command.now command.Release c.in-Release.is c.args.given.now database c.release.result (c.release.ensures.answers database has)

pub returns-in-Release-clause-refused : goal.returns-in-Release-clause-refused
returns-in-Release-clause-refused g c = λ database has. kept_as c.args.command.now command.Release c.in-Release.is c.args.given.now database c.args.store.now c.release.new.store (c.release.ensures.refused database has)

pub returns-in-Release-clause-works : goal.returns-in-Release-clause-works
returns-in-Release-clause-works g c = λ database has.
    works_as c.args.command.now command.Release c.in-Release.is c.args.given.now database (g.S.Store.state c.args.store.now) (g.S.Store.state c.release.new.store) c.release.result (c.release.ensures.works database has)

-- these may write

pub returns-in-Tag-clause-reads : goal.returns-in-Tag-clause-reads
returns-in-Tag-clause-reads g c = λ reads. writes c.args.command.now (command.Tag c.in-Tag.name) c.in-Tag.is refl reads

pub returns-in-Release-clause-reads : goal.returns-in-Release-clause-reads
returns-in-Release-clause-reads g c = λ reads. writes c.args.command.now command.Release c.in-Release.is refl reads

-- at any moment

pub returns-in-Validate-clause-any_moment : goal.returns-in-Validate-clause-any_moment
returns-in-Validate-clause-any_moment g c = λ database has.
    let given = c.args.given.now in
    untouched_crashes given.options.dialect (script c.args.command.now given database) database (g.S.Store.state c.args.store.now) (g.S.Store.crashes c.args.store.now)

pub returns-in-Status-clause-any_moment : goal.returns-in-Status-clause-any_moment
returns-in-Status-clause-any_moment g c = λ database has.
    let given = c.args.given.now in
    untouched_crashes given.options.dialect (script c.args.command.now given database) database (g.S.Store.state c.args.store.now) (g.S.Store.crashes c.args.store.now)

pub returns-in-Tag-clause-any_moment : goal.returns-in-Tag-clause-any_moment
returns-in-Tag-clause-any_moment g c = λ database has.
    crashes_as c.args.command.now (command.Tag c.in-Tag.name) c.in-Tag.is c.args.given.now database (g.S.Store.state c.args.store.now) (g.S.Store.crashes c.args.store.now) (g.S.Store.crashes c.tag.new.store) (c.tag.ensures.any_moment database has)

pub returns-in-Release-clause-any_moment : goal.returns-in-Release-clause-any_moment
returns-in-Release-clause-any_moment g c = λ database has.
    crashes_as c.args.command.now command.Release c.in-Release.is c.args.given.now database (g.S.Store.state c.args.store.now) (g.S.Store.crashes c.args.store.now) (g.S.Store.crashes c.release.new.store) (c.release.ensures.any_moment database has)

-- what they tell

pub returns-in-Validate-clause-tells : goal.returns-in-Validate-clause-tells
returns-in-Validate-clause-tells g c = λ database has.
    tells_as c.args.command.now command.Validate c.in-Validate.is c.args.given.now database c.validate.result (text_ends validated_text c.validate.result c.validate.ensures.tells)

pub returns-in-Status-clause-tells : goal.returns-in-Status-clause-tells
returns-in-Status-clause-tells g c = λ database has.
    let given = c.args.given.now in
    let listed = λ (e : Database). status_text (pending (sets_in given) e.rows) in
    tells_as c.args.command.now command.Status c.in-Status.is given database c.status.result
    (text_ends (listed database) c.status.result (on_its_tells given.options.dialect (g.S.Store.state c.args.store.now) c.status.result (λ done e. TellsText (listed e) done) c.status.ensures.tells database has))

pub returns-in-Tag-clause-tells : goal.returns-in-Tag-clause-tells
returns-in-Tag-clause-tells g c = λ database has. tells_as c.args.command.now (command.Tag c.in-Tag.name) c.in-Tag.is c.args.given.now database c.tag.result c.tag.ensures.tells

pub returns-in-Release-clause-tells : goal.returns-in-Release-clause-tells
returns-in-Release-clause-tells g c = λ database has.
    let given = c.args.given.now in
    tells_as c.args.command.now command.Release c.in-Release.is given database c.release.result
    (on_its_tells given.options.dialect (g.S.Store.state c.args.store.now) c.release.result (λ done e. EndsText (released_text e.lock) done) c.release.ensures.tells database has)
