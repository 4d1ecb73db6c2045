use Rattle.std.proofs.Common.{ap, slice_get, subst, ◌∙◌}
use Rattle.std.specs.List.{filter_map}
use Rattle.lq_rows.specs.Stored.{ArePrints}
use Rattle.lq_rows.proofs.PrintLemmas.{fronted}
use Rattle.lq_rows.proofs.print.front.Goals as goal

pub returns : goal.returns
returns c =
    let rows = c.args.rows.now.now in
    let known = c.as_slice.ensures ∙ subst (ArePrints rows) c.in-Some.is c.requires in
    fronted c.args.text.now rows _ c.text_print.result c.as_slice.result.now c.in_ok-places.places.items c.text_print.ensures known c.in_ok-places.ensures
    (c.in_ok-some.ensures ∙ ap (filter_map (slice_get rows)) c.as_slice-2.ensures.value)
