use Rattle.std.proofs.Common.{ap, is_none, refl, rules, ◌∙◌, ◌≡◌}
use Rattle.std.specs.Option.{option_copied}
use Rattle.lq_arm.specs.Verdict.{verdict_of}
use Rattle.lq_arm.proofs.Arms.{agree}
use Rattle.lq_keyops.proofs.TableLemmas.{found_any}
use Rattle.lq_keyops.proofs.anywhere.anywhere_tests.Goals as goal

pub returns : goal.returns
returns c =
    let none : c.is_none.result ≡ is_none (option_copied c.table_with.result) = search rules in
    let missing = none ∙ found_any c.args.name.now c.tables.result.now c.args.parts.now.now (option_copied c.table_with.result) c.tables.ensures c.table_with.ensures in
    rw (c.no_tests.ensures) (ap verdict_of (agree c.is_reserved.ensures missing refl refl refl refl refl refl refl refl refl))
