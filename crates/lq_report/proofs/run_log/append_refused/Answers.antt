use Rattle.std.proofs.Common.{◌≡◌, ◌++◌, ◌∙◌, ℕ, List, codes, append_assoc}
use Rattle.std.specs.Fmt.{decimal}
use Rattle.lq_base.specs.Name.{reason_text, identity_text}
use Rattle.lq_report.specs.Output.{refused_line}
use Rattle.lq_report.proofs.Appended.{lined, then}
use Rattle.lq_report.proofs.run_log.append_refused.Goals as goal

parts : (front identity at statement comma kept why name reason : List ℕ) → name ≡ reason
    → (((front ++ (identity ++ at)) ++ (statement ++ comma)) ++ (kept ++ why)) ++ name ≡ front ++ identity ++ at ++ statement ++ comma ++ kept ++ why ++ reason
parts front identity at statement comma kept why name reason is = rw is (simp append_assoc)

pub returns : goal.returns
unfolding refused_line
returns c = lined c.append_line.result _ _ _ (codes "refused at " ++ identity_text c.args.identity.now ++ codes ", statement " ++ decimal c.args.statement ++ codes ", " ++ decimal c.args.kept ++ codes " kept: " ++ reason_text c.args.reason) c.append_line.ensures
    (c.as_str.ensures ∙ then _ _ _ _ (then _ _ _ _ (then _ _ _ _ (then _ _ _ _ c.in_ok-line.ensures c.in_ok-append_named.ensures) c.in_ok-append_counted.ensures) c.in_ok-append_counted-2.ensures) c.in_ok-push_str.ensures.ok
    ∙ parts (codes "refused at ") (identity_text c.args.identity.now) (codes ", statement ") (decimal c.args.statement) (codes ", ") (decimal c.args.kept) (codes " kept: ") c.text.result.now (reason_text c.args.reason) c.text.ensures)
