use Rattle.std.proofs.Common.{subst, ◌≡◌}
use Rattle.std.specs.Prelude.{IfOk}
use Rattle.lq_rowops.proofs.OrphanLemmas.{orphans_are}
use Rattle.lq_rowops.proofs.orphan.has_orphan.Goals as goal

pub returns : goal.returns
returns c =
    let found = rw c.as_slice.ensures at c.lacks_one.ensures in
    subst (λ b. IfOk c.lacks_one.result (λ found. found ≡ b)) (orphans_are c.args.parts.now.now c.args.columns.now c.args.key.now c.args.rows.now.now c.in_ok-targets.targets c.in_ok-targets.ensures) found
