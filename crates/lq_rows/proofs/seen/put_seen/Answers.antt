use Rattle.lq_rows.proofs.SeenLemmas as lemma
use Rattle.lq_rows.proofs.seen.put_seen.Goals as goal

pub returns-clause-ok : goal.returns-clause-ok
returns-clause-ok c = λ columns rows shows is. rw (c.in_ok-push.ensures.items) (lemma.all_and_one columns rows c.args.all.now.items c.args.seen shows is)
