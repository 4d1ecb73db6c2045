use Rattle.std.proofs.Common.{◌∙◌, ap, sym, arith, length, length-drop}
use Rattle.std.proofs.lemmas.Bool.{ne_eqb}
use Rattle.std.proofs.lemmas.List.{take_rest}
use Rattle.lq_sqllex.proofs.EndSteps.{quoted_on}
use Rattle.lq_sqllex.proofs.quoted.quoted_end.Goals as goal

pub loop-rest-preserved : goal.loop-rest-preserved
loop-rest-preserved c =
    let rest = c.loop-rest.rest.now in
    record {
      whole = quoted_on _ _ _ _ _ c.loop-rest.invariant.whole c.in-len2-up.len_at_least (sym c.is_pair.ensures ∙ c.if-is_pair.false) (ne_eqb _ _ c.if-first-quote.false);
      count = omega (arith, ap length (take_rest rest 1), length-drop 1 rest);
    }
