use Rattle.std.proofs.Common.{◌≡◌, rules, is_some, false, sym, ◌∙◌, string_bytes}
use Rattle.std.proofs.lemmas.Map.Text.{hash_map_updates_text}
use Rattle.indexmap.specs.IndexMap.{get_by_text}
use Rattle.lq_props.proofs.Defined.{put}
use Rattle.lq_props.proofs.values.define_in.Goals as goal

pub returns-clause-ok : goal.returns-clause-ok
returns-clause-ok c n =
    let none : is_some (get_by_text c.args.values.now c.args.name.now) ≡ false = sym c.contains_key.ensures ∙ c.if-contains_key.false in
    put c.args.values.now c.insert.new.self c.in_ok-key.key c.in_ok-text.text c.args.name.now c.args.value.now n (search rules) (search rules) none
    (hash_map_updates_text (string_bytes c.in_ok-key.key) c.args.values.now c.insert.new.self _ c.in_ok-insert.ensures.updates n)
