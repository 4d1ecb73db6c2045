use Rattle.std.proofs.Common.{[], append_assoc, ap, refl, rules, ◌++◌, ◌≡◌, ◌∙◌}
use Rattle.lq_model.proofs.Numerals.{atom_from_parts}
use Rattle.lq_canon.proofs.rewriting.append_atom.Goals as goal

pub returns : goal.returns
returns c =
    let to = c.args.to.now.items in
    let head = c.as_bytes.result.now in
    let text = c.args.text.now in
    let both : c.extend_from_slice-2.new.self.items ≡ (to ++ head) ++ text = search rules in
    both ∙ (append_assoc to head text ∙ ap (λ part. to ++ part) (atom_from_parts [] text head text (c.as_bytes.ensures.value ∙ c.in_ok-head.ensures) refl))
