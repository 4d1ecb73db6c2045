use Rattle.std.proofs.Common.{map, subst, ◌++◌}
use Rattle.lq_parts.specs.Taken.{AreCounts}
use Rattle.lq_parts.proofs.TargetLemmas.{count_less}
use Rattle.lq_parts.proofs.targets.unlearn_targets.Goals as goal

pub returns-in_ok-discount_keys-in-Some : goal.returns-in_ok-discount_keys-in-Some
returns-in_ok-discount_keys-in-Some c = λ ns known.
    let keys = map (λ f. f.table) c.args.shape.now.foreign in
    count_less keys ns c.in-Some.counts c.discount_keys.new.counts
    (rw (c.as_slice.ensures) at c.in_ok-discount_keys-in-Some.ensures) (subst (AreCounts (keys ++ ns)) c.in-Some.is known)
