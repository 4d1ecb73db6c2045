use Rattle.std.proofs.Common.{ap, ◌∙◌}
use Rattle.std.proofs.lemmas.List.{append-nil}
use Rattle.std.specs.Prelude.{[], ◌++◌}
use Rattle.lq_report.specs.Mark.{mark_text}
use Rattle.lq_report.proofs.mark.mark_text.Goals as goal

pub returns : goal.returns
returns c =
    let said = mark_text (c.args.mark.now.identity.now, c.args.mark.now.form, c.args.mark.now.statement.now) in
    c.in_ok-append_mark.ensures ∙ (ap (λ t. t ++ (said ++ [])) c.in_ok-text.ensures ∙ append-nil said)
