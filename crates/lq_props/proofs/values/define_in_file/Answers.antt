use Rattle.std.proofs.Common.{◌≡◌, rules, None, Some, sym, ap, ◌∙◌, string_bytes, option_and_then}
use Rattle.std.proofs.lemmas.Map.Text.{hash_map_updates_text}
use Rattle.indexmap.specs.IndexMap.{get_by_text}
use Rattle.lq_props.specs.Replaced.{value_in}
use Rattle.lq_props.proofs.Defined.{defined_file, same_file, empty_has_none, on_ok, on_err}
use Rattle.lq_props.proofs.values.define_in_file.Goals as goal

pub returns-in-Some-clause-ok : goal.returns-in-Some-clause-ok
returns-in-Some-clause-ok c =
    let is = c.define_in.new.values in
    let new = c.get_mut.follows.lender is in
    let was : Some c.in-Some.values.now ≡ get_by_text c.args.files.now c.args.file.now = search rules in
    on_ok c.define_in.result c.define_in.ensures.ok
    (λ now f n. defined_file c.args.files.now new is (value_in c.in-Some.values.now) c.args.file.now c.args.name.now c.args.value.now f n
    (hash_map_updates_text c.args.file.now c.args.files.now new _ ((c.get_mut.follows.holds is).3 (search rules)) f)
    (ap (option_and_then (λ m. value_in m n)) was) (now n))

pub returns-in-Some-clause-err : goal.returns-in-Some-clause-err
returns-in-Some-clause-err c =
    let is = c.define_in.new.values in
    let new = c.get_mut.follows.lender is in
    let was : Some c.in-Some.values.now ≡ get_by_text c.args.files.now c.args.file.now = search rules in
    on_err c.define_in.result c.define_in.ensures.err
    (λ now f n. same_file c.args.files.now new is c.args.file.now f n
    (hash_map_updates_text c.args.file.now c.args.files.now new _ ((c.get_mut.follows.holds is).3 (search rules)) f)
    (now n ∙ ap (option_and_then (λ m. value_in m n)) was))

pub returns-clause-ok : goal.returns-clause-ok
returns-clause-ok c f n =
    let none : get_by_text c.args.files.now c.args.file.now ≡ None = search rules in
    let key : string_bytes c.in_ok-key.key ≡ c.args.file.now = search rules in
    let changed = hash_map_updates_text (string_bytes c.in_ok-key.key) c.get_mut.follows.lender-at-none c.insert.new.self _ c.in_ok-insert.ensures.updates f in
    defined_file c.args.files.now c.insert.new.self _ (value_in c.new-values.result) c.args.file.now c.args.name.now c.args.value.now f n
    (rw (key, c.get_mut.follows.holds-at-none) at changed)
    (empty_has_none c.new-values.result n (search rules) ∙ ap (option_and_then (λ m. value_in m n)) (sym none))
    (c.in_ok-define_in.ensures.ok n)
