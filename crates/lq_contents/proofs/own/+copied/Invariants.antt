use Rattle.std.proofs.Common.{◌≡◌, ◌++◌, drop}
use Rattle.lq_contents.proofs.own.+copied.Given as goal

abbrev pub invariant-nodes_copied-loop-node : goal.invariant-nodes_copied-loop-node
invariant-nodes_copied-loop-node l = l.copy ++ drop l.node-index l.nodes ≡ l.nodes

abbrev pub invariant-entries_copied-loop-entry : goal.invariant-entries_copied-loop-entry
invariant-entries_copied-loop-entry l = l.copy ++ drop l.entry-index l.entries ≡ l.entries
