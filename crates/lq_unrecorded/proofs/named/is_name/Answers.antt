use Rattle.std.proofs.Common.{◌∙◌, ap, sym}
use Rattle.std.proofs.lemmas.Map.Text.{is_eq-slice_cmp}
use Rattle.lq_base.specs.Name.{is_text}
use Rattle.lq_unrecorded.proofs.named.is_name.Goals as goal

pub returns : goal.returns
returns c = c.eq.ensures ∙ (sym (is_eq-slice_cmp c.args.name.now c.as_str.result.now) ∙ ap (is_text c.args.name.now) c.as_str.ensures)
