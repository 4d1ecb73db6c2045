use Rattle.std.proofs.Common.{◌≡◌, ◌+◌, ◌-◌, suc, ◌∙◌, ap, sym, arith, length, length-drop}
use Rattle.std.proofs.lemmas.List.{take_rest}
use Rattle.lq_sqllex.proofs.EndSteps.{comment_closed, comment_opened, comment_on}
use Rattle.lq_sqllex.proofs.comment.comment_end.Goals as goal

pub loop-rest-preserved-then-closes : goal.loop-rest-preserved-then-closes
loop-rest-preserved-then-closes c =
    let rest = c.loop-rest.rest.now in
    let less : c.loop-rest.outer ≡ suc (c.loop-rest.outer - 1) = omega arith in
    record {
      whole = rw (← less) (comment_closed _ _ _ _ _ c.loop-rest.invariant.whole c.in-len2-up.len_at_least (sym c.closes.ensures ∙ c.if-closes.true));
      count = omega (arith, ap length (take_rest rest 2), length-drop 2 rest);
      depth = omega arith;
    }

pub loop-rest-preserved-then-opens : goal.loop-rest-preserved-then-opens
loop-rest-preserved-then-opens c =
    let rest = c.loop-rest.rest.now in
    let more : c.loop-rest.outer + 1 ≡ suc c.loop-rest.outer = omega arith in
    record {
      whole = rw more (comment_opened _ _ _ _ _ c.loop-rest.invariant.whole c.in-len2-up.len_at_least (sym c.closes.ensures ∙ c.if-closes.false) (sym c.opens.ensures ∙ c.if-opens.true));
      count = omega (arith, ap length (take_rest rest 2), length-drop 2 rest);
      depth = omega arith;
    }

pub loop-rest-preserved : goal.loop-rest-preserved
loop-rest-preserved c =
    let rest = c.loop-rest.rest.now in
    record {
      whole = comment_on _ _ _ _ _ c.loop-rest.invariant.whole c.in-len2-up.len_at_least (sym c.closes.ensures ∙ c.if-closes.false) (sym c.opens.ensures ∙ c.if-opens.false);
      count = omega (arith, ap length (take_rest rest 1), length-drop 1 rest);
      depth = omega arith;
    }
