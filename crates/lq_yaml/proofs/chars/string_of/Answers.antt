use Rattle.std.proofs.lemmas.List.{take_more, append-nil}
use Rattle.std.proofs.lemmas.Str.{encodes-append}
use Rattle.lq_yaml.proofs.chars.string_of.Goals as goal

pub loop-c-preserved : goal.loop-c-preserved
loop-c-preserved c =
    let more = take_more c.args.from.now c.loop-c.c-index c.c-item.result c.loop-c-test.true in
    rw (c.in_ok-push.ensures.bytes, more, encodes-append, ← c.c-item.is, c.loop-c.invariant) (simp append-nil)
