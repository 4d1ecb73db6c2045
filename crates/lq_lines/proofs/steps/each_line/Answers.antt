use Rattle.std.proofs.Common.{rules, []}
use Rattle.lq_lines.specs.File.{step_of}
use Rattle.lq_lines.proofs.EachLemmas.{line_goes, line_stops}
use Rattle.lq_lines.proofs.Faults.{carried}
use Rattle.lq_lines.proofs.steps.each_line.Goals as goal

pub returns-in_err-steps : goal.returns-in_err-steps
returns-in_err-steps c =
    carried _ _ c.with_line.result c.from_residual.result c.in_err-steps.field-0.0
    (line_stops (step_of c.args.count) c.args.lines.now c.loop-line.line-index (record { ref_ptr = (0, 0); now = [] }) c.loop-line.steps _ (search rules) c.loop-line.invariant)
    c.with_line.ensures (search rules) (search rules)

pub loop-line-preserved : goal.loop-line-preserved
loop-line-preserved c =
    line_goes (step_of c.args.count) c.args.lines.now c.loop-line.line-index (record { ref_ptr = (0, 0); now = [] }) c.loop-line.steps c.in_ok-steps.steps _ (search rules) c.loop-line.invariant c.in_ok-steps.ensures
