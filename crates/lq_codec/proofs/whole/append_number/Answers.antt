use Rattle.std.proofs.Common.{ap, ◌∙◌, ◌++◌, List, ℕ, ℤ}
use Rattle.std.specs.Int.{cast_unsigned, to_be_bytes, w128}
use Rattle.std.proofs.lemmas.Int.{to_z-of_z}
use Rattle.lq_codec.specs.Words as words
use Rattle.lq_codec.proofs.whole.append_number.Goals as goal

pub returns-clause-bytes : goal.returns-clause-bytes
unfolding words.number words.number_bytes
returns-clause-bytes c =
    c.in_ok-extend_from_slice.ensures.items
    ∙ ap (λ (l : List ℕ). c.args.to.now.items ++ l) c.to_be_bytes.ensures
    ∙ ap (λ (z : ℤ). c.args.to.now.items ++ to_be_bytes w128 (cast_unsigned w128 z)) (to_z-of_z w128 c.args.n c.ranges.n)
