use Rattle.std.proofs.Common.{rules}
use Rattle.lq_rows.proofs.SeenLemmas as lemma
use Rattle.lq_rows.proofs.seen.add.Goals as goal

pub returns-then-has_null : goal.returns-then-has_null
returns-then-has_null c = lemma.null_added _ c.args.set.now (search rules)

pub returns : goal.returns
returns c = lemma.added _ c.args.set.now c.insert.new.self (search rules) (search rules)
