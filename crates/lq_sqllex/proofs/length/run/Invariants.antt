use Rattle.std.proofs.Common.{◌≡◌, ◌+◌, drop}
use Rattle.std.specs.List.{prefix_len}
use Rattle.lq_base.specs.Sql.{goes_on}
use Rattle.lq_sqllex.proofs.length.run.Given as goal

abbrev pub invariant-loop-count : goal.invariant-loop-count
invariant-loop-count l = prefix_len (goes_on l.sort) l.text ≡ l.count + prefix_len (goes_on l.sort) (drop l.count l.text)
