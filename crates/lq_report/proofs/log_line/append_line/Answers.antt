use Rattle.std.proofs.Common.{◌++◌, ◌∙◌, ℕ, List, ap, codes}
use Rattle.lq_report.specs.Output.{log_line}
use Rattle.lq_report.proofs.Appended.{on_ok, one}
use Rattle.lq_report.proofs.log_line.append_line.Goals as goal

pub returns : goal.returns
returns c = on_ok c.push_all.result c.push_all.ensures.ok (λ is.
    one _ _ _ (log_line c.args.text.now) is (ap (λ (t : List ℕ). codes "liquibase: " ++ (t ++ codes "\n")) (c.as_str.ensures ∙ c.in_ok-text.ensures)))
