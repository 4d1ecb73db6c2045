use Rattle.std.proofs.Common.{rules}
use Rattle.std.specs.Prelude.{reverse}
use Rattle.lq_commands.proofs.Commanded.{missing_passes, way_passes, way_refuses}
use Rattle.lq_commands.proofs.command.check_back.Goals as goal

pub returns-in_err-undone : goal.returns-in_err-undone
returns-in_err-undone c = missing_passes c.args.given.now c.args.target.now c.args.rows.now c.in_err-undone.field-0.0 _ c.in_err-undone.ensures.missing.0 c.in_err-undone.ensures.missing.1 (search rules)

pub returns-in_err-check_ways : goal.returns-in_err-check_ways
returns-in_err-check_ways c =
    way_refuses c.args.given.now c.args.target.now c.args.rows.now (reverse c.in_ok-undone.undone.now) c.in_ok-undone.ensures.undone _ c.in_err-check_ways.field-0.0 _ c.in_err-check_ways.ensures.passes (search rules)

pub returns : goal.returns
returns c = way_passes c.args.given.now c.args.target.now c.args.rows.now (reverse c.in_ok-undone.undone.now) c.in_ok-undone.ensures.undone c.in_ok-check_ways.field-0 tt c.in_ok-check_ways.ensures.passes
