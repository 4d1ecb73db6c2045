use Rattle.std.proofs.Common.{arith}
use Rattle.std.proofs.lemmas.Str.Pattern.{split_parts}
use Rattle.lq_base.proofs.NameLemmas.{parts_of_is}
use Rattle.lq_base.proofs.name.parts_of.Goals as goal

pub returns : goal.returns
returns c = parts_of_is c.args.key.now _ (split_parts 31 c.args.key.now _ c.split_once.ensures.cases (omega arith))
