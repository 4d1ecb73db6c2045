use Rattle.std.proofs.Common.{◌≡◌, ◌++◌, drop, map}
use Rattle.lq_props.specs.Props.{own}
use Rattle.lq_sources.specs.Items.{filled, value_in}
use Rattle.lq_sources.proofs.values.+filled.Given as goal

abbrev pub invariant-nodes_filled-loop-node : goal.invariant-nodes_filled-loop-node
invariant-nodes_filled-loop-node l = l.made ++ map (filled (value_in (own l.fn.props) l.fn.file)) (drop l.node-index l.nodes) ≡ map (filled (value_in (own l.fn.props) l.fn.file)) l.nodes

abbrev pub invariant-entries_filled-loop-entry : goal.invariant-entries_filled-loop-entry
invariant-entries_filled-loop-entry l = l.made ++ map (λ e. (e.0, filled (value_in (own l.fn.props) l.fn.file) e.1)) (drop l.entry-index l.entries) ≡ map (λ e. (e.0, filled (value_in (own l.fn.props) l.fn.file) e.1)) l.entries
