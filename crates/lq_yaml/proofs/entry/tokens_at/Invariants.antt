use Rattle.std.proofs.Common.{◌≡◌, ◌+◌, length, option_map}
use Rattle.lq_yaml.specs.Line.{tokens_at}
use Rattle.lq_yaml.specs.Laws.{shallow, enough}
use Rattle.lq_yaml.proofs.Pushed.{goes_on}
use Rattle.lq_yaml.proofs.entry.tokens_at.Given as goal

abbrev pub invariant-loop-rest : goal.invariant-loop-rest
invariant-loop-rest l =
    (option_map (shallow enough) (tokens_at l.fn.column l.fn.from) ≡ goes_on l.tokens.items (tokens_at l.column l.rest)) × (l.column + length l.rest ≡ l.fn.column + length l.fn.from)

abbrev pub decreases-loop-rest : goal.decreases-loop-rest
decreases-loop-rest l = length l.rest
