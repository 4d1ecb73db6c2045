use Rattle.std.proofs.Common.{rules, sym, ◌∙◌}
use Rattle.lq_cli.specs.declared.line.Job.TheVariants.{RollbackSql}
use Rattle.lq_commands.proofs.Commanded.{both_pass, first_refuses, second_refuses}
use Rattle.lq_commands.proofs.Telling.{failed_tells}
use Rattle.lq_commands.specs.Refusals.{invalid, no_way_back}
use Rattle.lq_commands.proofs.command.print_rollback.Goals as goal

pub returns-in_err-rows-clause-answers : goal.returns-in_err-rows-clause-answers
returns-in_err-rows-clause-answers g c = λ database has.
    first_refuses _ (invalid c.args.given database.rows) (no_way_back c.args.given c.args.target.now database.rows) c.in_err-rows.field-0.0 _ (c.in_err-rows.ensures.passes database has) (search rules)

pub returns-in_err-check_back-clause-answers : goal.returns-in_err-check_back-clause-answers
returns-in_err-check_back-clause-answers g c = λ database has.
    second_refuses (invalid c.args.given database.rows) (no_way_back c.args.given c.args.target.now) c.in_ok-rows.rows c.as_slice.result.now database.rows (c.in_ok-rows.ensures.passes database has)
    (c.as_slice.ensures ∙ sym (c.in_ok-rows.ensures.rows database has)) _ c.in_err-check_back.field-0.0 _ c.in_err-check_back.ensures (search rules)

pub free_and_rollback-requires-clause-passes : goal.free_and_rollback-requires-clause-passes
free_and_rollback-requires-clause-passes g c = λ database has.
    both_pass (invalid c.args.given database.rows) (no_way_back c.args.given c.args.target.now) c.in_ok-rows.rows c.as_slice.result.now database.rows (c.in_ok-rows.ensures.passes database has)
    (c.as_slice.ensures ∙ sym (c.in_ok-rows.ensures.rows database has)) tt c.in_ok-check_back.ensures

-- a check that refuses tells nothing

pub returns-in_err-rows-clause-tells : goal.returns-in_err-rows-clause-tells
returns-in_err-rows-clause-tells g c = λ database has. failed_tells (RollbackSql c.args.target.now) c.args.given database c.from_residual.result c.in_err-rows.field-0.0 (search rules)

pub returns-in_err-check_back-clause-tells : goal.returns-in_err-check_back-clause-tells
returns-in_err-check_back-clause-tells g c = λ database has. failed_tells (RollbackSql c.args.target.now) c.args.given database c.from_residual-in_err-check_back.result c.in_err-check_back.field-0.0 (search rules)
