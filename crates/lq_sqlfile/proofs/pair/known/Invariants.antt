use Rattle.std.proofs.Common.{◌≡◌, drop, map}
use Rattle.lq_sqlfile.specs.Words.{known}
use Rattle.lq_sqlfile.proofs.pair.known.Given as goal

abbrev pub invariant-loop-word : goal.invariant-loop-word
invariant-loop-word l = known (map (λ w. w.now) (drop l.word-index l.words)) l.name ≡ known (map (λ w. w.now) l.words) l.name
