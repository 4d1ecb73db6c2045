use Rattle.std.proofs.Common.{refl, rules, sym, ◌∙◌}
use Rattle.std.specs.Prelude.{List}
use Rattle.lq_base.specs.declared.tracking.Tracked.{Tracked}
use Rattle.lq_cli.specs.declared.line.Job.TheVariants.{UpdateSql}
use Rattle.lq_commands.proofs.Commanded.{both_pass, first_refuses, second_refuses}
use Rattle.lq_commands.proofs.Telling.{failed_tells}
use Rattle.lq_commands.specs.Refusals.{invalid, own_halt}
use Rattle.lq_commands.proofs.command.print_update.Goals as goal

pub returns-in_err-rows-clause-answers : goal.returns-in_err-rows-clause-answers
returns-in_err-rows-clause-answers g c = λ database has.
    first_refuses _ (invalid c.args.given database.rows) (own_halt c.args.given database) c.in_err-rows.field-0.0 _ (c.in_err-rows.ensures.passes database has) (search rules)

pub check_own-requires-clause-rows : goal.check_own-requires-clause-rows
check_own-requires-clause-rows g c = λ database has. c.in_ok-rows.ensures.rows database has ∙ sym c.as_slice.ensures

pub returns-in_err-check_own-clause-answers : goal.returns-in_err-check_own-clause-answers
returns-in_err-check_own-clause-answers g c = λ database has.
    second_refuses (invalid c.args.given database.rows) (λ (rows : List Tracked). own_halt c.args.given database) c.in_ok-rows.rows database.rows database.rows (c.in_ok-rows.ensures.passes database has) refl _ c.in_err-check_own.field-0.0 _
    (c.in_err-check_own.ensures.passes database has) (search rules)

pub free_and_update-requires-clause-passes : goal.free_and_update-requires-clause-passes
free_and_update-requires-clause-passes g c = λ database has.
    both_pass (invalid c.args.given database.rows) (λ (rows : List Tracked). own_halt c.args.given database) c.in_ok-rows.rows database.rows database.rows (c.in_ok-rows.ensures.passes database has) refl c.in_ok-check_own.field-0
    (c.in_ok-check_own.ensures.passes database has)

-- a check that refuses tells nothing

pub returns-in_err-rows-clause-tells : goal.returns-in_err-rows-clause-tells
returns-in_err-rows-clause-tells g c = λ database has. failed_tells UpdateSql c.args.given database c.from_residual.result c.in_err-rows.field-0.0 (search rules)

pub returns-in_err-check_own-clause-tells : goal.returns-in_err-check_own-clause-tells
returns-in_err-check_own-clause-tells g c = λ database has. failed_tells UpdateSql c.args.given database c.from_residual-in_err-check_own.result c.in_err-check_own.field-0.0 (search rules)
