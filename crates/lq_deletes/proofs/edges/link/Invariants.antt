use Rattle.std.proofs.Common.{length, map, vec_len, ◌+◌, ◌≡◌}
use Rattle.std.specs.BTreeMap.{get}
use Rattle.lq_model.specs.Catalogue.{picked}
use Rattle.lq_rows.specs.Stored.{values_cmp}
use Rattle.lq_deletes.proofs.PlaceLemmas.{Linked}
use Rattle.lq_deletes.proofs.edges.link.Given as goal

abbrev pub invariant-loop-row : goal.invariant-loop-row
invariant-loop-row l =
    Linked (get values_cmp l.places) l.first (map (picked l.columns l.names) l.rows.now) l.fn.edges.items l.edges.items l.at (map (picked l.columns l.names) l.row-iterator)
    × (l.at + length l.row-iterator ≡ l.first + length l.rows.now)
    × (vec_len l.edges ≡ vec_len l.fn.edges)
