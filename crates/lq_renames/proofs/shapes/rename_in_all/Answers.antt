use Rattle.std.proofs.Common.{arith, length, ◌<◌, ◌≡◌}
use Rattle.lq_base.specs.Name.{is_named}
use Rattle.lq_model.specs.Tables.{with_column_renamed}
use Rattle.lq_rows.proofs.Continued.{goes_further}
use Rattle.lq_renames.proofs.Places.{partly_all, partly_more, partly_ordered, partly_within}
use Rattle.lq_renames.proofs.shapes.rename_in_all.Goals as goal

pub rename_at-requires-clause-within : goal.rename_at-requires-clause-within
rename_at-requires-clause-within c =
    let less : c.loop-at.at < length c.tables-at-end.result.now = omega (arith, c.loop-at-test.true) in
    partly_within _ c.args.parts.now c.loop-at.parts c.loop-at.at c.tables-at-end.result.now c.tables-at-end.ensures c.loop-at.invariant less

pub rename_at-requires-clause-ordered : goal.rename_at-requires-clause-ordered
rename_at-requires-clause-ordered c = partly_ordered _ c.args.parts.now c.loop-at.parts c.loop-at.at c.loop-at.invariant c.requires

pub returns-in_err-rename_at-clause-goes : goal.returns-in_err-rename_at-clause-goes
returns-in_err-rename_at-clause-goes c = goes_further c.args.parts.now c.loop-at.parts c.rename_at.new.parts c.loop-at.invariant.goes c.rename_at.ensures.goes

pub loop-at-preserved : goal.loop-at-preserved
loop-at-preserved c =
    partly_more (λ n. with_column_renamed c.args.table.now (is_named c.args.table.now n) c.args.from.now c.args.to.now) c.args.parts.now c.loop-at.parts c.loop-at.at c.rename_at.new.parts c.loop-at.invariant c.in_ok-rename_at.ensures.ok c.in_ok-rename_at.ensures.goes

pub returns-clause-ok : goal.returns-clause-ok
returns-clause-ok c =
    let ended : c.loop-at.at ≡ length c.tables-at-end.result.now = omega (arith, c.loop-at-test.false, c.loop-at.auto.at-end) in
    partly_all (λ n. with_column_renamed c.args.table.now (is_named c.args.table.now n) c.args.from.now c.args.to.now) c.args.parts.now c.loop-at.parts c.loop-at.at c.tables-at-end.result.now c.tables-at-end.ensures c.loop-at.invariant ended
