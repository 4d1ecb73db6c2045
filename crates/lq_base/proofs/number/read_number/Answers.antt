use Rattle.std.proofs.Common.{◌≡◌}
use Rattle.lq_base.specs.Number.{number_of}
use Rattle.lq_base.specs.Spells.{SpellsNumber}
use Rattle.lq_base.proofs.NumberSpelled.{number_of-spells, spells-number_of}
use Rattle.lq_base.proofs.ReadLemmas.{some_spelled, none_spelled}
use Rattle.lq_base.proofs.number.read_number.Goals as goal

pub returns-clause-spelled : goal.returns-clause-spelled
returns-clause-spelled c =
    let t = c.args.text.now in
    let read : c.number_of.result ≡ number_of t = cc in
    some_spelled (SpellsNumber t) (number_of t) (number_of-spells t) (spells-number_of t) c.number_of.result read

pub returns-clause-none : goal.returns-clause-none
returns-clause-none c =
    let t = c.args.text.now in
    let read : c.number_of.result ≡ number_of t = cc in
    none_spelled (SpellsNumber t) (number_of t) (number_of-spells t) (spells-number_of t) c.number_of.result read
