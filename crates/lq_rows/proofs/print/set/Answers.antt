use Rattle.std.proofs.Common.{slice_set, ap, ◌∙◌}
use Rattle.lq_rows.proofs.PrintLemmas.{prints_set}
use Rattle.lq_rows.proofs.print.set.Goals as goal

pub returns-in-Some : goal.returns-in-Some
returns-in-Some c = λ rows less are.
    prints_set rows c.args.prints.now _ c.set.new.self c.args.at c.args.row.now c.in-Some.is (c.set.ensures ∙ ap (slice_set _ c.args.at) c.fingerprint.ensures) are
