use Rattle.std.proofs.lemmas.Str.Pattern.{split_parts}
use Rattle.lq_cli.proofs.Cuts.{cut_is}
use Rattle.lq_cli.proofs.values.cut_at.Goals as goal

pub returns : goal.returns
returns c = cut_is c.args.mark c.args.text.now _ (split_parts c.args.mark c.args.text.now _ c.split_once.ensures.cases c.requires)
