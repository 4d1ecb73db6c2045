use Rattle.std.proofs.Common.{rules}
use Rattle.std.specs.Prelude.{[]}
use Rattle.lq_report.specs.Output.{validated_text}
use Rattle.lq_commands.proofs.Commanded.{answers_done, invalid_no_disk, no_disk, passed, refused_as}
use Rattle.lq_commands.proofs.Endings.{untouched_works, works_nothing}
use Rattle.lq_commands.proofs.Telling.{text_tells}
use Rattle.lq_commands.specs.Refusals.{invalid}
use Rattle.lq_commands.specs.Scripts.{sets_in}
use Rattle.lq_turns.specs.Faults.{faults}
use Rattle.lq_commands.proofs.listing.validate.Goals as goal

pub returns-in_err-valid_rows-clause-answers : goal.returns-in_err-valid_rows-clause-answers
returns-in_err-valid_rows-clause-answers g c = λ database has.
    refused_as _ (invalid c.args.given.now database.rows) c.in_err-valid_rows.field-0.0 _ (c.in_err-valid_rows.ensures.passes database has) (search rules)

pub returns-in_err-valid_rows-clause-works : goal.returns-in_err-valid_rows-clause-works
returns-in_err-valid_rows-clause-works g c = λ database has. untouched_works c.args.given.now.options.dialect [] database (g.S.Store.state c.args.store.now) _ c.in_err-valid_rows.field-0.0 (search rules) has

pub returns-in_err-valid_rows-clause-sure : goal.returns-in_err-valid_rows-clause-sure
returns-in_err-valid_rows-clause-sure g c = λ disk.
    let at = c.requires.ready in
    invalid_no_disk _ (faults (sets_in c.args.given.now) at.database.rows) c.in_err-valid_rows.field-0.0 _ (c.in_err-valid_rows.ensures.passes at.database at.has) disk (search rules)

pub returns-clause-answers : goal.returns-clause-answers
returns-clause-answers g c = λ database has.
    passed (invalid c.args.given.now database.rows) c.in_ok-valid_rows.field-0 c.validated.result (c.in_ok-valid_rows.ensures.passes database has) (answers_done c.validated.result c.validated.ensures.fault c.validated.ensures.done)

pub returns-clause-works : goal.returns-clause-works
returns-clause-works g c = λ database has. works_nothing c.args.given.now.options.dialect database (g.S.Store.state c.args.store.now) c.validated.result c.validated.ensures.done has

pub returns-clause-sure : goal.returns-clause-sure
returns-clause-sure g c = no_disk c.validated.result c.validated.ensures.fault

pub returns-clause-tells : goal.returns-clause-tells
returns-clause-tells g c = text_tells validated_text c.validated.result c.validated.ensures.done c.validated.ensures.out c.validated.ensures.quiet
