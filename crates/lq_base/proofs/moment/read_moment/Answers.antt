use Rattle.std.proofs.Common.{◌≡◌}
use Rattle.lq_base.specs.Moment.{moment_of}
use Rattle.lq_base.specs.Spells.{SpellsMoment}
use Rattle.lq_base.proofs.MomentSpelled.{moment_of-spells, spells-moment_of}
use Rattle.lq_base.proofs.ReadLemmas.{some_spelled, none_spelled}
use Rattle.lq_base.proofs.moment.read_moment.Goals as goal

pub returns-clause-spelled : goal.returns-clause-spelled
returns-clause-spelled c =
    let t = c.args.text.now in
    let read : c.moment_of.result ≡ moment_of t = cc in
    some_spelled (SpellsMoment t) (moment_of t) (moment_of-spells t) (spells-moment_of t) c.moment_of.result read

pub returns-clause-none : goal.returns-clause-none
returns-clause-none c =
    let t = c.args.text.now in
    let read : c.moment_of.result ≡ moment_of t = cc in
    none_spelled (SpellsMoment t) (moment_of t) (moment_of-spells t) (spells-moment_of t) c.moment_of.result read
