use Rattle.std.proofs.Common.{◌≡◌, ◌++◌, length, map}
use Rattle.lq_model.specs.TestText.{after_commas}
use Rattle.lq_sql.proofs.spell.spell_after_commas.Given as goal

abbrev pub invariant-loop-rest : goal.invariant-loop-rest
invariant-loop-rest g l = l.to ++ after_commas (map (g.T.Spell.text l.style.dialect) l.rest) ≡ l.fn.to ++ after_commas (map (g.T.Spell.text l.style.dialect) l.items)

abbrev pub decreases-loop-rest : goal.decreases-loop-rest
decreases-loop-rest g l = length l.rest
