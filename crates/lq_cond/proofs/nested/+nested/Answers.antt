use Rattle.std.proofs.Common.{Err, rules, subst, sym}
use Rattle.lq_tree.specs.Look.{Reads}
use Rattle.lq_cond.proofs.Levels.{one_level}
use Rattle.lq_cond.proofs.nested.+nested.Goals as goal

pub conditions-returns-in-Some : goal.conditions-returns-in-Some
conditions-returns-in-Some g t c = rw (one_level g.P.SqlText.dialect c.args.levels c.args.node.now c.if-levels-eq0.false) (search rules)

pub conditions-returns-in-None : goal.conditions-returns-in-None
conditions-returns-in-None g t c =
    subst (λ meant. Reads meant (Err c.bad-in-None.result)) (sym (one_level g.P.SqlText.dialect c.args.levels c.args.node.now c.if-levels-eq0.false)) (search rules)
