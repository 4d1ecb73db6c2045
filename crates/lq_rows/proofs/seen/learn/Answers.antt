use Rattle.std.proofs.Common.{refl}
use Rattle.lq_rows.proofs.SeenLemmas as lemma
use Rattle.lq_rows.proofs.seen.learn.Goals as goal

pub returns-clause-ok : goal.returns-clause-ok
returns-clause-ok c = λ rows shows. lemma.one_with c.args.columns.now rows c.args.row.now c.args.seen.now.items c.args.at c.index_mut-one.result.now _ _ c.as_slice.ensures c.index_mut-one.ensures.value refl c.in_ok-add.ensures shows
