use Rattle.std.proofs.Common.{ap, sym, true, List, ◌∙◌, ◌≡◌}
use Rattle.std.specs.List.{list_all}
use Rattle.lq_base.specs.declared.value.Value.{Value}
use Rattle.lq_codec.specs.Values.{value_codec}
use Rattle.lq_coded.proofs.Each.{freed}
use Rattle.lq_state.proofs.ShapedLemmas.{row_fits}
use Rattle.lq_state.proofs.rows.append_row.Goals as goal

pub returns-clause-fits : goal.returns-clause-fits
returns-clause-fits c =
    let row = c.as_slice.result.now in
    row_fits c.args.columns.now c.args.row.now
    (ap (λ (l : List Value). list_all value_codec.ok l) (sym c.as_slice.ensures) ∙ freed row (list_all value_codec.ok row ≡ true) c.in_ok-append_each.ensures.fits)
