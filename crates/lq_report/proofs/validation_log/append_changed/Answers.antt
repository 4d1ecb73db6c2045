use Rattle.std.proofs.Common.{◌≡◌, ◌++◌, ◌∙◌, ℕ, List, [], codes, append_assoc}
use Rattle.std.proofs.lemmas.List.{append-nil}
use Rattle.lq_base.specs.Name.{identity_text}
use Rattle.lq_report.specs.Output.{changed_line}
use Rattle.lq_report.proofs.Appended.{lined, then}
use Rattle.lq_report.proofs.validation_log.append_changed.Goals as goal

parts : (front identity at was comma is : List ℕ)
    → (front ++ (identity ++ at)) ++ (was ++ (comma ++ (is ++ []))) ≡ front ++ identity ++ at ++ was ++ comma ++ is
parts front identity at was comma is = simp (append_assoc, append-nil)

pub returns : goal.returns
unfolding changed_line
returns c = lined c.append_line.result _ _ _ (codes "checksum of " ++ identity_text c.args.identity.now ++ codes " was " ++ c.args.was.now ++ codes ", is " ++ c.args.is.now) c.append_line.ensures
    (c.as_str.ensures ∙ then _ _ _ _ (then _ _ _ _ c.in_ok-text.ensures c.in_ok-append_named.ensures) c.in_ok-push_all.ensures.ok
    ∙ parts (codes "checksum of ") (identity_text c.args.identity.now) (codes " was ") c.args.was.now (codes ", is ") c.args.is.now)
