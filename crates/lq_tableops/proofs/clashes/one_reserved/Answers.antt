use Rattle.std.proofs.Common.{◌∙◌}
use Rattle.lq_tableops.proofs.ClashLemmas.{reserved_of}
use Rattle.lq_tableops.proofs.clashes.one_reserved.Goals as goal

pub returns : goal.returns
returns c = c.each_reserved.ensures ∙ reserved_of c.args.by c.args.names.now
