use Rattle.std.proofs.Common.{◌≡◌, ◌∷◌, map, string_bytes, take}
use Rattle.lq_lines.proofs.command.named.Given as goal

abbrev pub invariant-loop-word : goal.invariant-loop-word
invariant-loop-word l = map (λ w. string_bytes w) l.given.items ≡ l.name ∷ l.url ∷ map (λ w. w.now) (take l.word-index l.others)
