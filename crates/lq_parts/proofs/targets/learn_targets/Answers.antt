use Rattle.std.proofs.Common.{map, subst}
use Rattle.lq_parts.specs.Taken.{AreCounts}
use Rattle.lq_parts.proofs.TargetLemmas.{count_more}
use Rattle.lq_parts.proofs.targets.learn_targets.Goals as goal

pub returns-in_ok-count_keys-in-Some : goal.returns-in_ok-count_keys-in-Some
returns-in_ok-count_keys-in-Some c = λ ns known.
    count_more (map (λ f. f.table) c.args.shape.now.foreign) ns c.in-Some.counts c.count_keys.new.counts
    (rw (c.as_slice.ensures) at c.in_ok-count_keys-in-Some.ensures) (subst (AreCounts ns) c.in-Some.is known)
