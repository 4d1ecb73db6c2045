use Rattle.std.proofs.Common.{◌≡◌, length, map}
use Rattle.lq_model.specs.SqlWord.{kind_in}
use Rattle.lq_parse.proofs.spelling.kind_in.Given as goal

abbrev pub invariant-loop-spellings : goal.invariant-loop-spellings
invariant-loop-spellings l =
    kind_in (map (λ spelling. (spelling.0.now, spelling.1)) l.spellings) l.other l.bytes
    ≡ kind_in (map (λ spelling. (spelling.0.now, spelling.1)) l.initial.spellings) l.other l.bytes

abbrev pub decreases-loop-spellings : goal.decreases-loop-spellings
decreases-loop-spellings l = length l.spellings
