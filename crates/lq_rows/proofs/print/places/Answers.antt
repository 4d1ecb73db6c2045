use Rattle.std.proofs.Common.{◌∙◌, subst}
use Rattle.std.proofs.lemmas.Result.{IfOk-weaker}
use Rattle.lq_rows.specs.Stored.{ArePrints}
use Rattle.lq_rows.proofs.PrintLemmas.{placed}
use Rattle.lq_rows.proofs.print.places.Goals as goal

pub returns-in-Some-clause-places : goal.returns-in-Some-clause-places
returns-in-Some-clause-places c =
    let known = c.as_slice.ensures ∙ subst (ArePrints c.args.rows.now.now) c.in-Some.is c.requires in
    IfOk-weaker c.places_of.result _ _ (λ places found.
    placed c.args.text.now c.args.rows.now.now c.text_print-print.result c.as_slice.result.now places.items c.text_print-print.ensures known found)
    c.places_of.ensures

pub returns-clause-places : goal.returns-clause-places
returns-clause-places c =
    let known = c.as_slice-2.ensures ∙ c.in_ok-known.ensures in
    placed c.args.text.now c.args.rows.now.now c.text_print-print.result c.as_slice-2.result.now c.in_ok-places.places.items c.text_print-print.ensures known c.in_ok-places.ensures
