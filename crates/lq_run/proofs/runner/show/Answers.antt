use Rattle.std.proofs.Common.{sym, ◌∙◌}
use Rattle.lq_run.proofs.Known.{shows_nothing, shows_statement}
use Rattle.lq_run.proofs.runner.show.Goals as goal

pub returns-then-is_statement-clause-shows : goal.returns-then-is_statement-clause-shows
returns-then-is_statement-clause-shows g c = λ showing stamp told. shows_statement c.args.dialect c.args.call _ _ _ (sym c.is_statement.ensures ∙ c.if-is_statement.true) (c.look_at.ensures.looks showing stamp told)

pub returns-else-is_statement-clause-shows : goal.returns-else-is_statement-clause-shows
returns-else-is_statement-clause-shows g c = λ showing stamp told. shows_nothing c.args.dialect c.args.call _ _ (sym c.is_statement.ensures ∙ c.if-is_statement.false)
