use Rattle.std.proofs.Common.{ap, sym, ◌∙◌}
use Rattle.std.specs.Prelude.{List, Option, Some, ℕ}
use Rattle.lq_commands.proofs.Updated.{no_output}
use Rattle.lq_commands.proofs.rollback.text_of.Goals as goal

pub returns-in_ok-text : goal.returns-in_ok-text
returns-in_ok-text c = λ finished. ap (λ (text : List ℕ). let o : Option (List ℕ) = Some text in o) c.in_ok-text.ensures

pub returns-else-has_output : goal.returns-else-has_output
returns-else-has_output c = λ finished. absurd (no_output c.args.by.now (sym c.has_output.ensures ∙ c.if-has_output.false) c.requires.ends finished)
