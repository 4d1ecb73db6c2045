use Rattle.std.proofs.Common.{rules, sym, ◌∙◌}
use Rattle.std.specs.Prelude.{[]}
use Rattle.lq_commands.proofs.Commanded.{answers_done, no_disk}
use Rattle.lq_commands.proofs.Endings.{untouched_works, works_nothing}
use Rattle.lq_commands.proofs.Jobbed.{rows_told}
use Rattle.lq_commands.proofs.listing.history.Goals as goal

pub returns-in_err-rows-clause-works : goal.returns-in_err-rows-clause-works
returns-in_err-rows-clause-works g c = λ database has. untouched_works c.args.dialect [] database (g.S.Store.state c.args.store.now) _ c.in_err-rows.field-0.0 (search rules) has

pub returns-clause-answers : goal.returns-clause-answers
returns-clause-answers g c = answers_done c.told_rows.result c.told_rows.ensures.fault c.told_rows.ensures.done

pub returns-clause-works : goal.returns-clause-works
returns-clause-works g c = λ database has. works_nothing c.args.dialect database (g.S.Store.state c.args.store.now) c.told_rows.result c.told_rows.ensures.done has

pub returns-clause-sure : goal.returns-clause-sure
returns-clause-sure g c = no_disk c.told_rows.result c.told_rows.ensures.fault

pub returns-clause-tells : goal.returns-clause-tells
returns-clause-tells g c =
    rows_told c.args.dialect (g.S.Store.state c.args.store.now) c.as_slice.result.now c.told_rows.result (λ database has. c.in_ok-rows.ensures.rows database has ∙ sym c.as_slice.ensures) c.told_rows.ensures.done c.told_rows.ensures.out c.told_rows.ensures.quiet
