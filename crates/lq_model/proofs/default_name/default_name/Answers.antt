use Rattle.std.proofs.Common.{Err, ap, sym, ◌∙◌}
use Rattle.lq_base.specs.Number.{has_control}
use Rattle.lq_base.specs.Name.{is_name}
use Rattle.lq_model.specs.Sound.{cut}
use Rattle.lq_model.proofs.DefaultNames.{by_default}
use Rattle.lq_model.proofs.Lists.{true_false}
use Rattle.lq_model.proofs.default_name.default_name.Goals as goal

pub unreachable-requires : goal.unreachable-requires
unreachable-requires c =
    let whole = c.as_bytes.ensures.value ∙ c.as_str.ensures.value ∙ c.in_ok-text.ensures.value in
    true_false
    (ap is_name (c.cut.ensures ∙ ap (cut 63) whole) ∙ by_default c.args.prefix.now c.args.table.now c.args.columns.now c.requires (sym (ap has_control c.in_ok-text.ensures.value) ∙ c.in_ok-text.ensures.clean))
    (c.new.ensures.bad.0 (c.in-Err-BadName.is ∙ ap (λ fault. Err fault) c.in-Err-BadName.field-0-is))
