use Rattle.std.proofs.lemmas.List.{take_rest}
use Rattle.lq_parse.proofs.PlainInside.{inside_is}
use Rattle.lq_parse.proofs.quoted.plain_inside.Goals as goal

pub returns : goal.returns
returns c = inside_is c.args.escaping c.args.bytes.now _ c.plain_front-count.result (take_rest c.args.bytes.now 1) c.plain_front-count.ensures.value c.if-rest-count-ne1.false
