use Rattle.std.proofs.Common.{◌++◌, ◌∙◌, ap}
use Rattle.lq_tell.specs.Lines.{warned_at}
use Rattle.lq_tell.proofs.LineLemmas.{on_ok, warned_same}
use Rattle.lq_tell.proofs.lines.append_warned.Goals as goal

pub returns : goal.returns
returns c = on_ok c.append_warning.result c.append_warning.ensures (λ is.
    is ∙ ap (λ line. c.args.to.now ++ line) (warned_same c.as_ref.result c.args.why ∙ ap (λ place. warned_at place c.args.why) c.as_ref.ensures.value))
