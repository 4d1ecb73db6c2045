use Rattle.std.proofs.Common.{rules}
use Rattle.lq_rows.proofs.SeenLemmas as lemma
use Rattle.lq_rows.proofs.whole.note.Goals as goal

pub returns-then-has_null-clause-set : goal.returns-then-has_null-clause-set
returns-then-has_null-clause-set c = lemma.null_added _ c.args.set.now (search rules)

pub returns-clause-set : goal.returns-clause-set
returns-clause-set c = lemma.added _ c.args.set.now c.insert.new.self (search rules) (search rules)
