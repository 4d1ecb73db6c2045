use Rattle.std.proofs.Common.{◌++◌, ◌∙◌, codes, append_assoc}
use Rattle.std.proofs.lemmas.List.{append-nil}
use Rattle.lq_words.specs.Words.{place_text, why_text}
use Rattle.lq_report.specs.Output.{warning_line}
use Rattle.lq_report.proofs.Appended.{lined, then}
use Rattle.lq_report.proofs.run_log.append_warning.Goals as goal

pub returns : goal.returns
unfolding warning_line
returns c = lined c.append_line.result _ _ _ (codes "warning: " ++ place_text c.args.place ++ codes ": " ++ why_text c.args.why) c.append_line.ensures
    (c.as_str.ensures ∙ then _ _ _ _ (then _ _ _ _ c.in_ok-text.ensures c.in_ok-append_place.ensures) c.in_ok-append_why.ensures ∙ simp append_assoc)
