use Rattle.std.proofs.Common.{sym, arith, None}
use Rattle.std.proofs.lemmas.Str.Pattern.{strip_prefix_char}
use Rattle.lq_props.proofs.Cuts.{no_use}
use Rattle.lq_props.proofs.replacing.used_value.Goals as goal

pub returns-in-None : goal.returns-in-None
returns-in-None c = sym (no_use _ c.args.behind.now (strip_prefix_char 123 c.args.behind.now None c.in-None.ensures.cases (omega arith)))
