use Rattle.std.proofs.Common.{◌-◌, length, sym, ◌∙◌, refl}
use Rattle.lq_expr.proofs.Levels.{inside_is, last_of}
use Rattle.lq_expr.proofs.reading.before_close.Goals as goal

pub returns-then-is_close : goal.returns-then-is_close
returns-then-is_close c =
    sym (inside_is c.args.words.now (length c.args.words.now - 1) _ (last_of _ _ c.is_empty.ensures c.if-is_empty.false) c.index-words-last.is
    ∙ rw (sym c.is_close.ensures ∙ c.if-is_close.true) refl)

pub returns-else-is_close : goal.returns-else-is_close
returns-else-is_close c =
    sym (inside_is c.args.words.now (length c.args.words.now - 1) _ (last_of _ _ c.is_empty.ensures c.if-is_empty.false) c.index-words-last.is
    ∙ rw (sym c.is_close.ensures ∙ c.if-is_close.false) refl)
