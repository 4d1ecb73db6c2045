use Rattle.lq_laying.proofs.turn.push_one.Goals as goal

pub push_within-requires-clause-some : goal.push_within-requires-clause-some
push_within-requires-clause-some c = c.requires.some

pub push_within-requires-clause-whole : goal.push_within-requires-clause-whole
push_within-requires-clause-whole c = c.if-marking.true

pub push_apart-requires-clause-some : goal.push_apart-requires-clause-some
push_apart-requires-clause-some c = c.requires.some

pub push_apart-requires-clause-apart : goal.push_apart-requires-clause-apart
push_apart-requires-clause-apart c = c.if-marking.false

pub returns-then-marking : goal.returns-then-marking
returns-then-marking c = c.push_within.ensures

pub returns-else-marking : goal.returns-else-marking
returns-else-marking c = c.push_apart.ensures
