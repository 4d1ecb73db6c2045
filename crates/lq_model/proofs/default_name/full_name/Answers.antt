use Rattle.std.proofs.Common.{ap, rules, sym, ◌∙◌, ◌++◌, ◌≡◌, string_bytes}
use Rattle.std.proofs.lemmas.List.{append-nil}
use Rattle.lq_base.specs.Number.{has_control}
use Rattle.lq_base.specs.Name.{text_of}
use Rattle.lq_model.proofs.DefaultNames.{clean_joined, name_clean, prefix_clean}
use Rattle.lq_model.proofs.default_name.full_name.Goals as goal

pub loop-column-init : goal.loop-column-init
loop-column-init c =
    let is : string_bytes c.push_str.new.self ≡ c.args.prefix.now ++ text_of c.args.table.now = search rules in (
      is ∙ sym (append-nil (c.args.prefix.now ++ text_of c.args.table.now)),
      ap has_control is ∙ clean_joined c.args.prefix.now (text_of c.args.table.now) (prefix_clean c.args.prefix.now c.requires) (name_clean (text_of c.args.table.now) c.text.ensures.name),
    )
