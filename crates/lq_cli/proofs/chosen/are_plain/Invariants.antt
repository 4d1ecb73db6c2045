use Rattle.std.proofs.Common.{◌≡◌, map, drop, string_bytes}
use Rattle.lq_cli.specs.Options.{are_plain}
use Rattle.lq_cli.proofs.chosen.are_plain.Given as goal

abbrev pub invariant-loop-word : goal.invariant-loop-word
invariant-loop-word l = are_plain (map (λ w. string_bytes w) l.words) ≡ are_plain (map (λ w. string_bytes w) (drop l.word-index l.words))
