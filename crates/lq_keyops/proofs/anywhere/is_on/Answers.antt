use Rattle.std.proofs.Common.{◌∙◌}
use Rattle.lq_base.specs.Name.{beside}
use Rattle.lq_keyops.proofs.Ended.{named}
use Rattle.lq_keyops.proofs.anywhere.is_on.Goals as goal

pub returns : goal.returns
returns c = c.is_index_inside.ensures ∙ named c.args.name.now (λ i. beside c.args.entry.now.0 i.name) c.args.entry.now.1.now.indexes
