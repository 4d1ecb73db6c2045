use Rattle.std.proofs.Common.{◌∙◌, ap, sym}
use Rattle.std.proofs.lemmas.Map.Text.{is_eq-slice_cmp}
use Rattle.lq_base.specs.Name.{is_named}
use Rattle.lq_unrecorded.proofs.named.is_same.Goals as goal

pub returns : goal.returns
returns c = c.eq.ensures ∙ (sym (is_eq-slice_cmp c.as_str.result.now c.args.other.now) ∙ ap (λ text. is_named text c.args.other.now) c.as_str.ensures)
