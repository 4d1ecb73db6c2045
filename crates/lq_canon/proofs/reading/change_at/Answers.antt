use Rattle.std.proofs.Common.{Some, ap, rules}
use Rattle.lq_canon.specs.Passing.{part_of}
use Rattle.lq_canon.proofs.PartsRead.{change_read, change_there, no_atom_at_bracket}
use Rattle.lq_canon.proofs.reading.change_at.Goals as goal

pub returns-in_default-clause-read : goal.returns-in_default-clause-read
returns-in_default-clause-read c = λ change x is. absurd (change_there c.args.bytes.now x change is (search rules))

pub returns-clause-read : goal.returns-clause-read
returns-clause-read c = λ change x is.
    rw c.without_first.ensures (ap Some (change_read c.args.bytes.now x change (part_of c.in-Some.name) is c.in-Some.ensures.read))

pub returns-clause-none : goal.returns-clause-none
returns-clause-none c = λ x is. absurd (no_atom_at_bracket c.args.bytes.now x (part_of c.in-Some.name) is c.in-Some.ensures.read)
