use Rattle.std.proofs.Common.{◌∙◌, ap, sym}
use Rattle.std.proofs.lemmas.Map.Text.{is_eq-slice_cmp}
use Rattle.lq_base.specs.Name.{is_named}
use Rattle.lq_track.proofs.row_reading.is_text.Goals as goal

pub returns : goal.returns
returns c = c.eq.ensures ∙ (sym (is_eq-slice_cmp c.as_str.result.now c.args.word.now) ∙ ap (λ text. is_named text c.args.word.now) c.as_str.ensures)
