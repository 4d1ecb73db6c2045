use Rattle.std.proofs.Common.{◌∙◌}
use Rattle.lq_parse.proofs.Short.{marks_are_enough}
use Rattle.lq_parse.proofs.spelling.kind_of_word.Goals as goal

pub returns-then-bytes-lt2 : goal.returns-then-bytes-lt2
returns-then-bytes-lt2 c = c.kind_in.ensures ∙ marks_are_enough c.args.other c.args.bytes.now c.if-bytes-lt2.true
