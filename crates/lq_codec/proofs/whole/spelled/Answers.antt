use Rattle.std.proofs.Common.{rules, ap, ◌∙◌, ℕ, ◌≡◌, ◌<◌, length, get_or}
use Rattle.std.specs.Int.{w128}
use Rattle.std.proofs.lemmas.Int.{to_z-of_z}
use Rattle.lq_codec.specs.Words as words
use Rattle.lq_codec.proofs.Sixteen.{front_bytes}
use Rattle.lq_codec.proofs.whole.spelled.Goals as goal

pub returns : goal.returns
returns c =
    let same = to_z-of_z w128 c.from_be_bytes.result (record { sfits = c.from_be_bytes.type_inv }) in
    let len : length c.args.front ≡ 16 = search rules in
    let small : (i : ℕ) → get_or c.args.front i 0 < 256 = search rules in
    ap words.number_bytes (same ∙ c.from_be_bytes.ensures) ∙ front_bytes c.args.front len small
