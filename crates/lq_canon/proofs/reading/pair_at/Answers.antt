use Rattle.std.proofs.Common.{rules}
use Rattle.lq_canon.specs.Passing.{part_of}
use Rattle.lq_canon.proofs.PartsRead.{is_there, no_atom_at_brace, pair_read, value_there}
use Rattle.lq_canon.proofs.reading.pair_at.Goals as goal

pub returns-in_default-clause-read : goal.returns-in_default-clause-read
returns-in_default-clause-read c = λ key v x is. absurd (is_there c.args.bytes.now key _ is (search rules))

pub returns-in_default-value_at-clause-read : goal.returns-in_default-value_at-clause-read
returns-in_default-value_at-clause-read c = λ key v x is.
    absurd (value_there c.args.bytes.now key x v (part_of c.in-Some.key) is c.in-Some.ensures.read (λ w y at. c.in_default-value_at.ensures.read w y at))

pub returns-clause-read : goal.returns-clause-read
returns-clause-read c = λ key v x is.
    pair_read c.args.bytes.now key x v (part_of c.in-Some.key) (part_of c.in-Some-value_at.value) is c.in-Some.ensures.read (λ w y at. c.in-Some-value_at.ensures.read w y at)

pub returns-clause-none : goal.returns-clause-none
returns-clause-none c = λ x is. absurd (no_atom_at_brace c.args.bytes.now x (part_of c.in-Some.key) is c.in-Some.ensures.read)
