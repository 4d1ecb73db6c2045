use Rattle.std.proofs.Common.{arith, ap, ◌∙◌, sym, Some, drop, take, length, ◌≡◌, ◌-◌, ℤ, List, ℕ}
use Rattle.std.specs.Int.{w128}
use Rattle.std.proofs.lemmas.Int.{to_z-of_z}
use Rattle.std.proofs.lemmas.List.{length-drop, take_all}
use Rattle.lq_codec.specs.Words as words
use Rattle.lq_codec.proofs.Sixteen.{whole_number}
use Rattle.lq_codec.proofs.whole.number.Goals as goal

pub returns-in-Ok : goal.returns-in-Ok
unfolding words.number
returns-in-Ok c =
    let b : List ℕ = c.args.bytes.now in
    let n : ℤ = c.spelled.result in
    let same = to_z-of_z w128 n (record { sfits = c.spelled.type_inv }) in
    let front : c.in-Ok.front ≡ take 16 b = c.in-Ok.ensures.1.same in
    let rest : take (length b - 16) (drop 16 b) ≡ drop 16 b = take_all (length b - 16) (drop 16 b) (omega (arith, length-drop 16 b)) in
    whole_number b n (omega arith) (record { sfits = c.spelled.type_inv }) (c.spelled.ensures ∙ front)
    ∙ ap (λ (l : List ℕ). Some (n, l)) (sym rest)
    ∙ ap (λ (z : ℤ). Some (z, take (length b - 16) (drop 16 b))) (sym same)
