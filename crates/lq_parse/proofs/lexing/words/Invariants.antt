use Rattle.std.proofs.Common.{◌≡◌, ◌++◌, ℕ, List, length, option_map}
use Rattle.lq_model.specs.SqlWord.{words}
use Rattle.lq_parse.specs.Kinds.{AreEven, words_kept}
use Rattle.lq_parse.proofs.lexing.words.Given as goal

abbrev pub invariant-loop-rest : goal.invariant-loop-rest
invariant-loop-rest l =
    (option_map (λ more. words_kept l.kinds l.texts ++ more) (words l.dialect l.rest) ≡ words l.dialect l.text)
    × ((front : List ℕ) × (l.text ≡ front ++ l.rest))
    × AreEven l.kinds l.texts

abbrev pub decreases-loop-rest : goal.decreases-loop-rest
decreases-loop-rest l = length l.rest
