use Rattle.std.proofs.Common.{◌≡◌, drop, vec_len}
use Rattle.lq_deletes.specs.Places.{notes}
use Rattle.lq_deletes.proofs.spread.note_all.Given as goal

abbrev pub invariant-loop-node : goal.invariant-loop-node
invariant-loop-node l = (notes (drop l.node-index l.nodes) (l.marks.items, l.work.items) ≡ notes l.fn.nodes (l.fn.marks.items, l.fn.work.items)) × (vec_len l.marks ≡ vec_len l.fn.marks)
