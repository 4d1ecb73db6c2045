use Rattle.std.proofs.Common.{◌∙◌, ap}
use Rattle.std.specs.Map.{lookup_key}
use Rattle.lq_tree.proofs.Least.{least_unknown}
use Rattle.lq_tree.proofs.node.Node.unknown_key.Goals as goal

pub returns-in-Map-clause-least : goal.returns-in-Map-clause-least
returns-in-Map-clause-least c = least_unknown _ _ c.in-Map.entries _ c.in-Map.is (c.unknown_in.ensures ∙ ap (lookup_key _) c.as_slice.ensures)
