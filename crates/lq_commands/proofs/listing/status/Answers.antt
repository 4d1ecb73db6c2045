use Rattle.std.proofs.Common.{rules, sym, ◌∙◌}
use Rattle.std.specs.Prelude.{[]}
use Rattle.lq_commands.proofs.Commanded.{answers_done, invalid_no_disk, no_disk, passed, pending_told, refused_as}
use Rattle.lq_commands.proofs.Endings.{untouched_works, works_nothing}
use Rattle.lq_commands.specs.Refusals.{invalid}
use Rattle.lq_commands.specs.Scripts.{sets_in}
use Rattle.lq_turns.specs.Faults.{faults}
use Rattle.lq_commands.proofs.listing.status.Goals as goal

pub returns-in_err-rows-clause-answers : goal.returns-in_err-rows-clause-answers
returns-in_err-rows-clause-answers g c = λ database has. refused_as _ (invalid c.args.given.now database.rows) c.in_err-rows.field-0.0 _ (c.in_err-rows.ensures.passes database has) (search rules)

pub returns-in_err-rows-clause-works : goal.returns-in_err-rows-clause-works
returns-in_err-rows-clause-works g c = λ database has. untouched_works c.args.given.now.options.dialect [] database (g.S.Store.state c.args.store.now) _ c.in_err-rows.field-0.0 (search rules) has

pub returns-in_err-rows-clause-sure : goal.returns-in_err-rows-clause-sure
returns-in_err-rows-clause-sure g c = λ disk.
    let at = c.requires.ready in
    invalid_no_disk _ (faults (sets_in c.args.given.now) at.database.rows) c.in_err-rows.field-0.0 _ (c.in_err-rows.ensures.passes at.database at.has) disk (search rules)

pub returns-clause-answers : goal.returns-clause-answers
returns-clause-answers g c = λ database has.
    passed (invalid c.args.given.now database.rows) c.in_ok-rows.rows c.listed.result (c.in_ok-rows.ensures.passes database has) (answers_done c.listed.result c.listed.ensures.fault c.listed.ensures.done)

pub returns-clause-works : goal.returns-clause-works
returns-clause-works g c = λ database has. works_nothing c.args.given.now.options.dialect database (g.S.Store.state c.args.store.now) c.listed.result c.listed.ensures.done has

pub returns-clause-sure : goal.returns-clause-sure
returns-clause-sure g c = no_disk c.listed.result c.listed.ensures.fault

pub returns-clause-tells : goal.returns-clause-tells
returns-clause-tells g c =
    pending_told c.args.given.now (g.S.Store.state c.args.store.now) c.as_slice.result.now c.listed.result (λ database has. c.in_ok-rows.ensures.rows database has ∙ sym c.as_slice.ensures) c.listed.ensures.done c.listed.ensures.out c.listed.ensures.quiet
