use Rattle.std.specs.Str.{IsUtf8}
use Rattle.lq_base.proofs.PlainLemmas.{IsUtf8-text_since}
use Rattle.lq_base.proofs.moment.append_since.Goals as goal

pub unreachable-requires : goal.unreachable-requires
unreachable-requires c =
    let utf8 : IsUtf8 c.bytes_since-bytes.result = rw c.bytes_since-bytes.ensures (IsUtf8-text_since c.args.since) in
    c.in-Err.ensures.cases.0 utf8
