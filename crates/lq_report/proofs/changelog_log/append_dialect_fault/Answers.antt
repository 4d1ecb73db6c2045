use Rattle.std.proofs.Common.{◌≡◌, ◌++◌, ◌∙◌, ℕ, List, codes, append_assoc}
use Rattle.lq_base.specs.Name.{dialect_text}
use Rattle.lq_report.specs.Output.{dialect_fault_line}
use Rattle.lq_report.proofs.Appended.{lined, then}
use Rattle.lq_report.proofs.changelog_log.append_dialect_fault.Goals as goal

parts : (front path colon place rule name dialect : List ℕ) → name ≡ dialect
    → (front ++ (path ++ (colon ++ (place ++ rule)))) ++ name ≡ front ++ path ++ colon ++ place ++ rule ++ dialect
parts front path colon place rule name dialect is = rw is (simp append_assoc)

pub returns : goal.returns
unfolding dialect_fault_line
returns c = lined c.append_line.result _ _ _ (codes "changelog fault: " ++ c.args.path.now ++ codes ": " ++ c.args.place.now ++ codes ": not for " ++ dialect_text c.args.dialect) c.append_line.ensures
    (c.as_str.ensures ∙ then _ _ _ _ (then _ _ _ _ c.in_ok-line.ensures c.in_ok-push_all.ensures.ok) c.in_ok-push_str.ensures.ok
    ∙ parts (codes "changelog fault: ") c.args.path.now (codes ": ") c.args.place.now (codes ": not for ") c.text.result.now (dialect_text c.args.dialect) c.text.ensures)
