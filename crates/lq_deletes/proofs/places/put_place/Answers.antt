use Rattle.std.proofs.Common.{rules}
use Rattle.lq_deletes.proofs.PlaceLemmas as lemma
use Rattle.lq_deletes.proofs.places.put_place.Goals as goal

pub returns-then-has_null : goal.returns-then-has_null
returns-then-has_null c = lemma.null_placed _ c.args.places.now c.args.at (search rules)

pub returns : goal.returns
returns c = lemma.placed _ c.args.places.now c.insert.new.self c.args.at (search rules) (search rules)
