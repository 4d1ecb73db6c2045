-- What calls leave in the journal, run again from the beginning, leads to the database that they leave.
use Rattle.std.specs.List.{All, list_all}
use Rattle.std.specs.Prelude.{Bool, IfSome, List, Ok, [], false, map, true, ℕ, ◌&&◌, ◌∷◌, ◌≡◌, ◌≤◌}
use Rattle.std.specs.Str.{IsUtf8}
use Rattle.lq_base.specs.Number.{char_count}
use Rattle.lq_base.specs.declared.dialect.Dialect.{Dialect}
use Rattle.lq_model.specs.Catalogue.{Catalogue}
use Rattle.lq_model.specs.Sound.{IsSound}
use Rattle.lq_model.specs.Step.{is_statement}
use Rattle.lq_track.specs.Database.{Database, has_twin_rows}
use Rattle.lq_turns.specs.Deed.{made_of}
use Rattle.lq_turns.specs.Laws.{AreRead}
use Rattle.lq_turns.specs.Schedule.{StandsFor, all_fit, entry_deeds, fits, run_made}
use Rattle.lq_turns.specs.Script.{clear_calls, release_calls, rollback_of, sync_calls, tag_calls, update_calls}
use Rattle.lq_turns.specs.Session.{Session, called, left_by, session_on}
use Rattle.lq_turns.specs.Set.{Changelog, Meaning, Set}
use Rattle.lq_turns.specs.declared.call.Call.{Call}
use Rattle.lq_turns.specs.declared.call.Call.TheVariants.{Abort, Alone, Begin, Commit, Execute}
use Rattle.lq_turns.specs.declared.deed.OnRows.{OnRows}
use Rattle.lq_turns.specs.declared.deed.OnRows.TheVariants.{Cleared, Deleted, Filled, Inserted, Renewed, Tagged}
use Rattle.lq_turns.specs.declared.stamp.Stamp.{Stamp}
use Rattle.lq_turns.specs.declared.turn.Turn.{Turn}

-- each deed of a call fits what the session sees when it is executed
abbrev pub call_fits : Dialect → Call → Session → Bool
call_fits d (Alone deeds room) s = all_fit d deeds s.seen
call_fits d (Execute deed) s = fits d deed s.seen
call_fits d Begin s = true
call_fits d Commit s = true
call_fits d Abort s = true

abbrev pub calls_fit : Dialect → List Call → Session → Bool
calls_fit d [] s = true
calls_fit d (call ∷ calls) s = call_fits d call s && calls_fit d calls (called d call s)

-- from each catalogue that stands for the database before, to one that stands for the database after
abbrev pub JournalReplays : Type 0
JournalReplays = (d : Dialect) (calls : List Call) (database : Database) (c : Catalogue) → StandsFor d c database → calls_fit d calls (session_on database) ≡ true
    → (e : Catalogue) × (run_made d (map (made_of d) (entry_deeds d calls database)) c ≡ Ok e) × StandsFor d e (left_by d calls database)

-- That the deeds of a command fit what they are done to.

-- a reading of the clock that can be printed
abbrev pub IsTime : ℕ → Type 0
IsTime reading = reading ≤ 253402300799999

-- the texts that a changeset's row takes over whole are short, and those that it cuts are UTF-8
pub record HasTexts {Key : Type 0} (x : Set Key) : Type 0 where
  pub file : char_count x.identity.file ≤ 255
  pub id : char_count x.identity.id ≤ 255
  pub author : char_count x.identity.author ≤ 255
  pub sum : char_count x.sum ≤ 35
  pub tag : IfSome x.tag (λ tag. char_count tag ≤ 255)
  pub description : IsUtf8 x.description
  pub comments : IsUtf8 x.comments
  pub contexts : IsUtf8 x.contexts
  pub labels : IsUtf8 x.labels

abbrev pub UpdateFits : {Key : Type 0} → Meaning Key → Type 0
UpdateFits {Key} m = (d : Dialect) (stamp : Stamp) (g : Changelog Key) (database : Database)
    → IsSound d database.users → has_twin_rows database.rows ≡ false → IsTime stamp.reading → AreRead d m g.sets → All HasTexts g.sets
    → calls_fit d (update_calls d m stamp g database) (session_on database) ≡ true

abbrev pub SyncFits : Type 0 → Type 0
SyncFits Key = (d : Dialect) (stamp : Stamp) (g : Changelog Key) (database : Database) → IsTime stamp.reading → All HasTexts g.sets
    → calls_fit d (sync_calls d stamp g database) (session_on database) ≡ true

abbrev pub is_deleted : OnRows → Bool
is_deleted (Deleted of) = true
is_deleted (Inserted row) = false
is_deleted (Renewed row) = false
is_deleted (Filled of sum) = false
is_deleted (Tagged of tag) = false
is_deleted Cleared = false

-- a turn that takes a row back by statements of the dialect
abbrev pub is_return : Dialect → Turn → Bool
is_return d turn = list_all (is_statement d) turn.statements && is_deleted turn.row

abbrev pub RollbackFits : Type 0
RollbackFits = (d : Dialect) (stamp : Stamp) (turns : List Turn) (database : Database) → IsTime stamp.reading → list_all (is_return d) turns ≡ true
    → calls_fit d (rollback_of d stamp turns database) (session_on database) ≡ true

abbrev pub TagFits : Type 0
TagFits = (d : Dialect) (tag : List ℕ) (c : Catalogue) (database : Database) → StandsFor d c database → char_count tag ≤ 255
    → calls_fit d (tag_calls tag database) (session_on database) ≡ true

abbrev pub ClearFits : Type 0
ClearFits = (d : Dialect) (c : Catalogue) (database : Database) → StandsFor d c database → calls_fit d (clear_calls database) (session_on database) ≡ true

abbrev pub ReleaseFits : Type 0
ReleaseFits = (d : Dialect) (c : Catalogue) (database : Database) → StandsFor d c database → calls_fit d (release_calls database) (session_on database) ≡ true
