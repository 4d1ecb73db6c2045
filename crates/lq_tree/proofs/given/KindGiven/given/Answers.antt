use Rattle.std.proofs.Common.{◌≡◌, rules}
use Rattle.lq_base.specs.Kind.{kind_of as kind_named}
use Rattle.lq_base.proofs.KindSpelled.{read_is_kind_of}
use Rattle.lq_tree.proofs.given.KindGiven.given.Goals as goal

pub returns-in-Some : goal.returns-in-Some
returns-in-Some c =
    let read : c.read.result ≡ kind_named c.as_str.result.now = read_is_kind_of _ c.read.result c.read.ensures.named in
    search rules

pub returns : goal.returns
returns c =
    let read : c.read.result ≡ kind_named c.as_str.result.now = read_is_kind_of _ c.read.result c.read.ensures.named in
    search rules
