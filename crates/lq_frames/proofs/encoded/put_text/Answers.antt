use Rattle.std.proofs.Common.{rules, ◌≡◌, ◌+◌, ◌-◌, ℕ, List, [], ◌∷◌, ◌++◌, length, take, drop, arith, ◌∙◌, ap}
use Rattle.lq_frames.specs.Body.{number}
use Rattle.lq_frames.proofs.Numbers.{number-length}
use Rattle.lq_frames.proofs.Texts.{entry_of-last}
use Rattle.lq_frames.proofs.encoded.put_text.Goals as goal

pub returns : goal.returns
returns c texts is =
    let old = c.args.bytes.now.items in
    let mid : List ℕ = c.push_reserved.new.self.items in
    let mid_is : mid ≡ take (length old - 1) old ++ number (length c.args.text.now) ++ c.args.text.now ++ 0 ∷ [] = search rules in
    let len_is : c.number-len.result ≡ number (length mid - 5) = search rules in
    let size : 0 + length c.number-len.result ≡ 4 = omega (arith, ap length len_is, number-length (length mid - 5)) in
    c.overwrite.ensures ∙ ap (λ (n : ℕ). c.number-len.result ++ drop n mid) size ∙ ap (λ (l : List ℕ). l ++ drop 4 mid) len_is
    ∙ entry_of-last texts c.args.text.now old mid is mid_is
