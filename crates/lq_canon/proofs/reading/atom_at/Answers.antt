use Rattle.std.proofs.Common.{rules}
use Rattle.lq_canon.proofs.AtomShorter.{no_count}
use Rattle.lq_canon.proofs.reading.atom_at.Goals as goal

pub returns-then-count-ge-NO_COUNT-clause-read : goal.returns-then-count-ge-NO_COUNT-clause-read
returns-then-count-ge-NO_COUNT-clause-read c =
    no_count c.loop-rest.count c.loop-rest.rest.now c.args.bytes.now (search rules) (search rules) (search rules) c.loop-rest.invariant.0
