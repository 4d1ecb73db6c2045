use Rattle.std.proofs.Common.{ap, ◌∙◌, ◌++◌}
use Rattle.std.proofs.lemmas.Result.{on_ok_weaker}
use Rattle.lq_model.proofs.Numerals.{atom_from_parts}
use Rattle.lq_model.proofs.canon.append_atom.Goals as goal

pub returns-clause-ok : goal.returns-clause-ok
returns-clause-ok c =
    on_ok_weaker c.append_both.result
    (λ appended. appended ∙ ap (λ part. c.args.bytes.now.items ++ part) (atom_from_parts c.args.mark.now c.args.text.now c.as_bytes.result.now c.as_bytes-2.result.now (c.as_bytes.ensures.value ∙ c.in_ok-head.ensures) c.as_bytes-2.ensures.value))
    c.append_both.ensures.ok
