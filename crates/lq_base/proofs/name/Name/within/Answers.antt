use Rattle.std.proofs.Common.{◌≡◌, ◌++◌, ◌∷◌, [], append_assoc, ◌∙◌, ap, string_bytes, true, false}
use Rattle.lq_base.specs.Name.{is_name, is_named, public}
use Rattle.lq_base.proofs.NameLemmas.{is_name_key_name, is_name_key_within, told}
use Rattle.lq_base.proofs.name.Name.within.Goals as goal

pub invariant_of-result : goal.invariant_of-result
invariant_of-result c =
    let good : is_name c.args.text.now ≡ true = search c.if-not-is_name-2.ensures in
    told (rw c.in_ok-key.ensures.ok (is_name_key_name c.args.text.now good))

pub invariant_of-result-2 : goal.invariant_of-result-2
invariant_of-result-2 c =
    let one : is_name c.args.schema.now ≡ true = search c.if-not-is_name.ensures in
    let two : is_name c.args.text.now ≡ true = search c.if-not-is_name-2.ensures in
    let other : is_named c.args.schema.now public ≡ false = search c.if-is_public.ensures in
    let key : string_bytes c.push_str-2.new.self ≡ c.args.schema.now ++ 31 ∷ c.args.text.now =
    c.in_ok-push_str-2.ensures.bytes ∙ ap (λ z. z ++ c.args.text.now) (c.in_ok-push_str.ensures.bytes ∙ ap (λ z. z ++ 31 ∷ []) c.in_ok-key-2.ensures.ok) ∙ append_assoc c.args.schema.now (31 ∷ []) c.args.text.now in
    told (rw key (is_name_key_within c.args.schema.now c.args.text.now one two other))
