use Rattle.std.proofs.Common.{◌≡◌}
use Rattle.lq_base.specs.Kind.{kind_of}
use Rattle.lq_base.specs.Spells.{NamesKind}
use Rattle.lq_base.proofs.KindSpelled.{kind_of-names, names-kind_of}
use Rattle.lq_base.proofs.ReadLemmas.{some_spelled, none_spelled}
use Rattle.lq_base.proofs.kind.Kind.read.Goals as goal

pub returns-clause-named : goal.returns-clause-named
returns-clause-named c =
    let t = c.args.text.now in
    let read : c.kind_of.result ≡ kind_of t = cc in
    some_spelled (NamesKind t) (kind_of t) (kind_of-names t) (names-kind_of t) c.kind_of.result read

pub returns-clause-none : goal.returns-clause-none
returns-clause-none c =
    let t = c.args.text.now in
    let read : c.kind_of.result ≡ kind_of t = cc in
    none_spelled (NamesKind t) (kind_of t) (kind_of-names t) (names-kind_of t) c.kind_of.result read
