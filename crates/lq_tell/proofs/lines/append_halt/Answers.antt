use Rattle.std.proofs.Common.{◌++◌, ◌∙◌, ap}
use Rattle.lq_tell.specs.Lines.{halted_at}
use Rattle.lq_tell.proofs.LineLemmas.{halted_same, on_ok}
use Rattle.lq_tell.proofs.lines.append_halt.Goals as goal

pub returns : goal.returns
returns c = on_ok c.append_halted.result c.append_halted.ensures (λ is.
    is ∙ ap (λ line. c.args.to.now ++ line) (halted_same c.as_ref.result c.args.why ∙ ap (λ place. halted_at place c.args.why) c.as_ref.ensures.value))
