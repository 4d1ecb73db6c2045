-- What the calls of a changelog-sync leave.
use Rattle.std.proofs.Common.{ap, subst, ◌∙◌}
use Rattle.std.specs.List.{list_all}
use Rattle.std.specs.Prelude.{Err, List, Ok, [], map, refl, true, ◌++◌, ◌∷◌, ◌≡◌}
use Rattle.lq_base.specs.declared.dialect.Dialect.{Dialect}
use Rattle.lq_base.specs.declared.tracking.Tracked.{Tracked}
use Rattle.lq_track.specs.Database.{Database}
use Rattle.lq_turns.specs.Deed.{Contents, contents_of, if_accepted, rows_after}
use Rattle.lq_turns.specs.Session.{committed_if, went, went_by, all_called, left_by}
use Rattle.lq_turns.specs.Laws.{IsAtRest, SyncLeaves, all_inserted, inserted_then, synced, with_rows}
use Rattle.lq_turns.specs.Script.{rows_to_sync, sync_calls, sync_of}
use Rattle.lq_turns.specs.Set.{Changelog}
use Rattle.lq_turns.specs.declared.call.Call.{Call}
use Rattle.lq_turns.specs.declared.call.Call.TheVariants.{Begin, Commit, Execute}
use Rattle.lq_turns.specs.declared.deed.Deed.TheVariants.{Rows}
use Rattle.lq_turns.specs.declared.deed.OnRows.TheVariants.{Inserted}
use Rattle.lq_turns.specs.declared.stamp.Stamp.{Stamp}
use Rattle.lq_turns.specs.Turn.{made}
use Rattle.lq_turns.proofs.Made.{At, is_turns, takes}
use Rattle.lq_turns.proofs.TurnLeft.{row_not_own, twice}
use Rattle.lq_turns.proofs.Updates.{free_before, freed, locked_leaves, unmoved}

abbrev inserts : List Tracked → List Call
inserts rows = map (λ r. Execute (Rows (Inserted r))) rows ++ Commit ∷ []

are_turns : (rows : List Tracked) → list_all is_turns (inserts rows) ≡ true
are_turns [] = refl
are_turns (row ∷ rows) = are_turns rows

-- the committed contents stay until all rows are in
goes_in : (d : Dialect) (rows : List Tracked) (c : Contents) (now : List Tracked) → went d (inserts rows) (c, record c { rows = now }) ≡ twice (with_rows c (all_inserted rows now))
goes_in d [] c now = refl
goes_in d (row ∷ rows) c now = elim (rows_after (Inserted row) now) as (λ r. went_by d (Rows (Inserted row)) (went d (inserts rows)) (c, record c { rows = now }) (if_accepted (λ z. record c { rows = z }) r) ≡ twice (with_rows c (inserted_then (all_inserted rows) r))) [
  | Ok after ↦ ap (λ o. went d (inserts rows) (committed_if o c (record c { rows = after }), record c { rows = after })) (row_not_own d (Inserted row)) ∙ goes_in d rows c after
  | Err reason ↦ ap (λ o. twice (committed_if o c (record c { rows = now }))) (row_not_own d (Inserted row))
]

module _ (d : Dialect) (stamp : Stamp) where
  rows_rest : (rows : List Tracked) (database : Database) → IsAtRest database (with_rows (contents_of database) (all_inserted rows database.rows)) (left_by d (sync_of d stamp rows database) database)
  rows_rest [] database = unmoved database (contents_of database) refl
  rows_rest (row ∷ rows) database =
      freed database (left_by d (sync_of d stamp (row ∷ rows) database) database) _
      (locked_leaves d stamp database (made d (Begin ∷ inserts (row ∷ rows)) (contents_of database)) (with_rows (contents_of database) (all_inserted (row ∷ rows) database.rows))
      (λ s at. subst (At (all_called d (made d (Begin ∷ inserts (row ∷ rows)) (contents_of database)) s)) (goes_in d (row ∷ rows) (contents_of database) database.rows) (takes d (Begin ∷ inserts (row ∷ rows)) (twice (contents_of database)) s (are_turns (row ∷ rows)) at)))

pub sync_rests : {Key : Type 0} (d : Dialect) (stamp : Stamp) (g : Changelog Key) (database : Database) → IsAtRest database (synced stamp.reading g.sets (contents_of database)).contents (left_by d (sync_calls d stamp g database) database)
sync_rests d stamp g database = rows_rest d stamp (rows_to_sync stamp.reading g.sets database.rows) database

pub sync_leaves : (Key : Type 0) → SyncLeaves Key
sync_leaves Key d stamp g database unlocked = free_before database (left_by d (sync_calls d stamp g database) database) _ unlocked (sync_rests d stamp g database)
