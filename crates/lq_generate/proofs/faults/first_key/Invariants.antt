use Rattle.std.proofs.Common.{◌≡◌, drop}
use Rattle.lq_generate.specs.Faults.{first_of, foreign_fault}
use Rattle.lq_generate.proofs.faults.first_key.Given as goal

abbrev pub invariant-loop-key : goal.invariant-loop-key
invariant-loop-key l = first_of (foreign_fault l.table) (drop l.key-index l.keys) ≡ first_of (foreign_fault l.table) l.keys
