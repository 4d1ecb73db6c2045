use Rattle.std.proofs.Common.{◌∙◌, ap, sym}
use Rattle.std.proofs.lemmas.Map.Text.{is_eq-slice_cmp}
use Rattle.lq_base.specs.Name.{is_named}
use Rattle.lq_track.proofs.lock_reading.is_named.Goals as goal

pub returns : goal.returns
returns c = c.eq.ensures ∙ (sym (is_eq-slice_cmp c.args.text.now c.as_key.result.now) ∙ ap (is_named c.args.text.now) c.as_key.ensures.value)
