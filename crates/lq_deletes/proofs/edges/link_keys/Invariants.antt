use Rattle.std.proofs.Common.{take, vec_len, ◌≡◌}
use Rattle.lq_parts.specs.Steps.{tables_of}
use Rattle.lq_deletes.specs.Places.{Gains, keys_linked}
use Rattle.lq_deletes.proofs.edges.link_keys.Given as goal

abbrev pub invariant-loop-key : goal.invariant-loop-key
invariant-loop-key l = Gains (keys_linked (tables_of l.entries) l.first l.held.now (take l.key-index l.keys)) l.fn.edges.items l.edges.items × (vec_len l.edges ≡ vec_len l.fn.edges)
