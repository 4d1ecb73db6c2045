use Rattle.std.proofs.Common.{sym}
use Rattle.lq_expr.proofs.Parts.{first_cut, cut_all}
use Rattle.lq_expr.proofs.reading.first_part.Goals as goal

pub returns-then-place-words-clause-parts : goal.returns-then-place-words-clause-parts
returns-then-place-words-clause-parts c = first_cut c.args.operator c.args.words.now c.place_of-place.result c.place_of-place.ensures c.if-place-words.true

pub returns-else-place-words-clause-parts : goal.returns-else-place-words-clause-parts
returns-else-place-words-clause-parts c = cut_all c.args.operator 0 c.args.words.now (rw (sym c.place_of-place.ensures) c.if-place-words.false)
