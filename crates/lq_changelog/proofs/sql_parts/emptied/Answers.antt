use Rattle.std.proofs.Common.{[], rules, ◌≡◌}
use Rattle.lq_kinds.specs.ChangeSets.{sum_of}
use Rattle.lq_changelog.proofs.Short.{emptied_short}
use Rattle.lq_changelog.proofs.sql_parts.emptied.Goals as goal

pub returns-clause-short : goal.returns-clause-short
returns-clause-short c =
    let none : c.new.result ≡ [] = search rules in
    let is : c.in_ok-sums.sums.sum ≡ sum_of [] = search rules in
    emptied_short c.args.set c.new.result c.in_ok-sums.sums.sum c.in_ok-sums.sums.old_sum none is c.requires
