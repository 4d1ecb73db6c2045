use Rattle.std.proofs.Common.{◌++◌, ◌∙◌, codes}
use Rattle.std.proofs.lemmas.List.{append-nil}
use Rattle.lq_words.specs.Words.{held_text}
use Rattle.lq_report.proofs.Appended.{lined, then}
use Rattle.lq_report.proofs.lock.append_held_log.Goals as goal

pub returns : goal.returns
returns c = lined c.append_line.result _ _ _ (codes "locked by " ++ held_text c.args.lock.now) c.append_line.ensures
    (c.as_str.ensures ∙ then _ _ _ _ c.in_ok-text.ensures c.in_ok-append_held.ensures ∙ simp append-nil)
