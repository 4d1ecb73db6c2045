use Rattle.std.proofs.Common.{refl}
use Rattle.lq_shapes.proofs.TestedLemmas as lemma
use Rattle.lq_shapes.proofs.tested.+names.Goals as goal

pub returns-in-And : goal.returns-in-And
returns-in-And t c = rw (c.names.ensures, c.names-in-And.ensures, c.get.ensures, c.get-in-And.ensures, c.in-And.is, lemma.in_both c.args.column.now) refl

pub returns-in-Or : goal.returns-in-Or
returns-in-Or t c = rw (c.names-in-Or.ensures, c.names-in-Or-2.ensures, c.get-in-Or.ensures, c.get-in-Or-2.ensures, c.in-Or.is, lemma.in_either c.args.column.now) refl
