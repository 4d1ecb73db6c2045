-- What undo-unrecorded takes back, told by journals: where an update was stopped, where it was stopped itself, and between the stops of an update.
use Rattle.std.specs.List.{All, last_or, list_all, list_any}
use Rattle.std.specs.Prelude.{List, None, Ok, Option, Some, [], false, length, true, ℕ, ◌++◌, ◌<◌, ◌==◌, ◌^◌, ◌∷◌, ◌≡◌, ◌⊎◌}
use Rattle.laws_repair.specs.Repair.{IsWhole, Mark, RunsFirst, all_fit, marked_set}
use Rattle.lq_base.specs.Name.{identity_text}
use Rattle.lq_base.specs.declared.dialect.Dialect.{Dialect}
use Rattle.lq_base.specs.declared.dialect.Dialect.TheVariants.{Mysql}
use Rattle.lq_base.specs.declared.tracking.Tracked.{Tracked}
use Rattle.lq_beside.specs.Replays.{HasTexts, IsTime}
use Rattle.lq_db.specs.Db.{last_text}
use Rattle.lq_expr.specs.declared.options.Options.{Options}
use Rattle.lq_any.specs.declared.any_change.AnyChange.{AnyChange}
use Rattle.lq_kinds.specs.declared.change_set.Changelog.{Changelog}
use Rattle.lq_mending.specs.Comes.{back_refused}
use Rattle.lq_mending.specs.Undoes.{Standing, first_of, made_in, refusal, sets_in, undo_script, unrecorded}
use Rattle.lq_model.specs.Catalogue.{Catalogue}
use Rattle.lq_model.specs.Sound.{IsSound}
use Rattle.lq_run.specs.Stands.{entries_of}
use Rattle.lq_seen.specs.View.{any_meaning, view_log}
use Rattle.lq_stand.specs.Stays.{IsClean}
use Rattle.lq_store.specs.Journal.{Entry, database as catalogue_by}
use Rattle.lq_track.specs.Database.{Database}
use Rattle.lq_turns.specs.Deed.{Contents, all_done, contents_of}
use Rattle.lq_turns.specs.Faults.{faults}
use Rattle.lq_turns.specs.Laws.{AreRead, IsAtRest}
use Rattle.lq_turns.specs.Schedule.{StandsFor}
use Rattle.lq_turns.specs.Script.{release_calls, turn_by, update_calls}
use Rattle.lq_turns.specs.Session.{left_by}
use Rattle.lq_turns.specs.Set.{Changelog as Log, Set}
use Rattle.lq_turns.specs.Settle.{Settled, all_settled, choice, updated}
use Rattle.lq_turns.specs.Stops.{IsLeft, IsSteady, Journal, are_twins, has_own_sum, joined}
use Rattle.lq_turns.specs.Within.{IsWithin}
use Rattle.lq_turns.specs.declared.call.Call.{Call}
use Rattle.lq_turns.specs.declared.stamp.Stamp.{Stamp}
use Rattle.lq_turns.specs.declared.turn.Turn.{Turn}

-- a journal by its entries, as a load finds it, and the database that it leads to
pub record Found (d : Dialect) (entries : List Entry) (database : Database) : Type 0 where
  pub catalogue : Catalogue
  pub leads : catalogue_by d entries ≡ Some catalogue
  pub stands : StandsFor d catalogue database
  pub clean : IsClean d database

-- calls on it were stopped with the lock held, and left another
pub record StopsHeld (d : Dialect) (calls : List Call) (database : Database) (before after : List Entry) : Type 0 where
  pub written : Journal
  pub left : IsLeft d calls database [] written
  pub entries : after ≡ before ++ entries_of d written
  pub now : Database
  pub led : all_done d (joined written) database ≡ Ok now
  pub held : now.lock.locked ≡ true
  pub found : Found d after now

-- what the first changesets of an update do from a database on
abbrev pub turns_on : Dialect → Stamp → List (Set AnyChange) → Database → Settled
turns_on d stamp turns start = all_settled d any_meaning stamp.reading turns (contents_of start)

-- An update, begun where no lock was held, was stopped within the statements of a changeset that runs there for the first time; the changesets before it are done.
pub record UpdateCut (d : Dialect) (stamp : Stamp) (log : Log AnyChange) (start : Database) (before after : List Entry) : Type 0 where
  pub found : Found d before start
  pub unlocked : start.lock.locked ≡ false
  pub who : list_any (λ b. b == 124) stamp.who ≡ false
  pub time : IsTime stamp.reading
  pub read : AreRead d any_meaning log.sets
  pub texts : All HasTexts log.sets
  pub stop : StopsHeld d (update_calls d any_meaning stamp log start) start before after
  pub turns : List (Set AnyChange)
  pub set : Set AnyChange
  pub others : List (Set AnyChange)
  pub are : log.sets ≡ turns ++ set ∷ others
  pub goes_on : (turns_on d stamp turns start).stop ≡ None
  pub turn : Turn
  pub turn_is : turn_by d any_meaning stamp set (turns_on d stamp turns start).contents.rows (choice set (turns_on d stamp turns start).contents) ≡ Some turn
  pub within : IsWithin d stamp turn (turns_on d stamp turns start).contents (last_or None (joined stop.written)) stop.now
  pub first : RunsFirst d any_meaning set (turns_on d stamp turns start).contents

-- the changelog gives the changeset that was stopped, and prints no other one as it that is here and has no row
pub record Gives (o : Options) (g : Changelog) (rows : List Tracked) (stopped : Set AnyChange) : Type 0 where
  pub set : Set AnyChange
  pub found : marked_set (identity_text stopped.identity) rows (sets_in o g) ≡ Some set
  pub identity : set.identity ≡ stopped.identity
  pub changes : set.changes ≡ stopped.changes
  pub few : length (made_in o set) < 2 ^ 64

module _ (o : Options) (g : Changelog) where
  -- the calls of undo-unrecorded on a journal
  abbrev pub calls_on : List Entry → Database → List Call
  calls_on entries database = undo_script o g (last_text entries) database

  -- it was stopped any number of times, each time run with the same files on what the stop before left
  abbrev pub AreUndone : List Entry → Database → List (List Entry) → List Entry → Database → Type 0
  AreUndone before database [] after now = (after ≡ before) × (now ≡ database)
  AreUndone before database (next ∷ more) after now = (stop : StopsHeld o.dialect (calls_on before database) database before next) × AreUndone next stop.now more after now

  -- Run to its end it leaves these contents with a free lock. No check refuses it, where the changelog goes with the rows and the changeset has no rollback block, and no statement is refused that takes another one back.
  pub record TakesBack (point : Contents) (set : Set AnyChange) (entries : List Entry) (database : Database) : Type 0 where
    pub leaves : IsWhole point (left_by o.dialect (calls_on entries database) database)
    pub passes : faults (sets_in o g) database.rows ≡ [] → set.rollback ≡ None → refusal o g database.lock database.rows ≡ None
    pub accepted : (part : Standing) × (unrecorded o g (last_text entries) database.lock database.rows ≡ Some part) × (back_refused o.dialect (first_of o part) database.users ≡ None)

-- What an update's stop left of a changeset is taken back, however often undo-unrecorded was stopped too: what stands then is what the changesets before it left.
abbrev pub PartsAreTakenBack : Type 0
PartsAreTakenBack = (o : Options) (g : Changelog) (stamp : Stamp) (log : Log AnyChange) (start : Database) (before first : List Entry) (cut : UpdateCut o.dialect stamp log start before first)
    (gives : Gives o g (turns_on o.dialect stamp cut.turns start).contents.rows cut.set) (stops : List (List Entry)) (entries : List Entry) (database : Database)
    → AreUndone o g first cut.stop.now stops entries database → TakesBack o g (turns_on o.dialect stamp cut.turns start).contents gives.set entries database

module _ (o : Options) (g : Changelog) (stamp : Stamp) (begin : List Entry) (start : Database) where
  -- the journal behind which these entries stand
  abbrev pub journal_on : Journal → List Entry
  journal_on written = begin ++ entries_of Mysql written

  -- what is run there is stopped: the update where no lock is held, undo-unrecorded where it has the mark of a changeset's statement, release-locks where it is held without one
  abbrev pub StopsAt : Database → Journal → Journal → Type 0
  StopsAt database before after =
      ((database.lock.locked ≡ false) × ((who : List ℕ) × (list_any (λ b. b == 124) who ≡ false) × IsLeft Mysql (update_calls Mysql any_meaning (record stamp { who = who }) (view_log o g) database) database before after))
      ⊎ ((database.lock.locked ≡ true) × Mark database.lock × IsLeft Mysql (calls_on o g (journal_on before) database) database before after)
      ⊎ ((database.lock.locked ≡ true) × (Mark database.lock → ⊥) × IsLeft Mysql (release_calls database) database before after)

  abbrev pub AreStopped : Journal → List Journal → Journal → Type 0
  AreStopped from [] to = from ≡ to
  AreStopped from (next ∷ more) to = ((database : Database) × (all_done Mysql (joined from) start ≡ Ok database) × Found Mysql (journal_on from) database × StopsAt database from next) × AreStopped next more to

-- A steady update in MySQL each of whose pending changesets fits: stopped any number of times, each time followed by undo-unrecorded or release-locks, and then run to its end, it leaves what it would have left, with a free lock, or the database as it was before the first where nothing was called.
abbrev pub UndoMends : Type 0
UndoMends = (o : Options) (g : Changelog) (stamp : Stamp) (begin : List Entry) (start database : Database) (stops : List Journal) (last : Journal) → o.dialect ≡ Mysql
    → IsSound Mysql start.users → start.lock.locked ≡ false → IsTime stamp.reading → All HasTexts (sets_in o g) → AreRead Mysql any_meaning (sets_in o g) → list_all has_own_sum (sets_in o g) ≡ true → are_twins (sets_in o g) ≡ false
    → IsSteady Mysql any_meaning stamp (view_log o g) (contents_of start) → all_fit any_meaning stamp (sets_in o g) (sets_in o g) (contents_of start) ≡ true
    → AreStopped o g stamp begin start [] stops last → all_done Mysql (joined last) start ≡ Ok database → database.lock.locked ≡ false
    → IsAtRest start (updated Mysql any_meaning stamp.reading (view_log o g) (contents_of start)).contents (left_by Mysql (update_calls Mysql any_meaning stamp (view_log o g) database) database)
    × ((updated Mysql any_meaning stamp.reading (view_log o g) (contents_of database)).stop ≡ (updated Mysql any_meaning stamp.reading (view_log o g) (contents_of start)).stop)
