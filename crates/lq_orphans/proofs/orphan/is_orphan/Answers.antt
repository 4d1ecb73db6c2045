use Rattle.std.proofs.Common.{subst, ◌≡◌}
use Rattle.std.specs.Prelude.{IfOk}
use Rattle.lq_orphans.proofs.OrphanLemmas.{orphans_are}
use Rattle.lq_orphans.proofs.orphan.is_orphan.Goals as goal

pub returns : goal.returns
returns c =
    let found = rw c.as_slice.ensures at c.lacks_one.ensures in
    subst (λ b. IfOk c.lacks_one.result (λ found. found ≡ b)) (orphans_are c.args.parts.now.now c.args.columns.now c.args.key.now c.args.rows.now.now c.in_ok-set.set c.in_ok-set.ensures) found
