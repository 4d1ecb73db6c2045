-- A database that was loaded is ready, and what its store holds is what the bytes hold.
use Rattle.std.proofs.Common.{ap, subst, sym, ◌∙◌}
use Rattle.std.specs.Option.{option_map}
use Rattle.std.specs.Prelude.{IfSome, List, Ok, Option, Result, Some, true, ℕ, ◌++◌, ◌≡◌}
use Rattle.lq_base.specs.declared.dialect.Dialect.{Dialect}
use Rattle.lq_commands.specs.Works.{IsReady}
use Rattle.lq_db.specs.Db.{IsDb, IsNew, state}
use Rattle.lq_session.specs.Session.{begun_in}
use Rattle.lq_entries.specs.Load.{catalogue_of, is_clean, is_clean_database}
use Rattle.lq_entries.specs.Log.{entries_in}
use Rattle.lq_db.specs.declared.db.Db.{Db}
use Rattle.lq_journal.specs.State.{dialect_of, limit_of}
use Rattle.lq_model.specs.Catalogue.{Catalogue}
use Rattle.lq_model.specs.Sound.{IsSound}
use Rattle.lq_outside.specs.Crash.{Crashes}
use Rattle.lq_run.specs.Commands.{HasDatabase, Leaves}
use Rattle.lq_run.specs.Stands.{entries_of}
use Rattle.lq_stand.proofs.Clean.{clean_stands}
use Rattle.lq_stand.proofs.Places.{places_are_small}
use Rattle.lq_store.specs.Executor.{Held, kept}
use Rattle.lq_store.specs.Journal.{Entry, database as catalogue_by, State}
use Rattle.lq_track.specs.Database.{Database}
use Rattle.lq_turns.specs.Schedule.{StandsFor}
use Rattle.lq_turns.specs.Session.{all_called, left_by, session_on}
use Rattle.lq_turns.specs.Stops.{Journal}
use Rattle.lq_turns.specs.declared.call.Call.{Call}
use Rattle.lq_jobs.specs.Bytes.{Becomes, Holds, Opens, most_bytes}

ok_is : {a b : Catalogue} → (let r : Result Catalogue ℕ = Ok a in r) ≡ Ok b → a ≡ b
ok_is h = Prim.cc

module _ {D P E : Type 0} (d p : Dialect) (told : Option (List ℕ)) (crashes : Crashes) (h : Held) (db : Db D P E) (is : IsDb p told crashes h db) (new : IsNew d most_bytes db) where
  has_database : (database : Database) → StandsFor d (kept h) database → HasDatabase d (state told h db) database
  has_database database stands = record {
    dialect = new.dialect_is;
    live = new.live;
    shut = ap (begun_in h) new.closed;
    committed = stands;
  }

  pub is_ready : is_clean d (kept h) ≡ true → IsReady d (state told h db)
  is_ready clean =
      let sound = subst (λ e. IsSound e (kept h)) new.dialect_is is.is_held.sound in
      let it = clean_stands d (kept h) sound clean in
      record { database = it.0; has = has_database it.0 it.1; clean = ap (is_clean_database d) (sym it.1.is) ∙ clean; small = places_are_small d (kept h) it.0 sound it.1 }

  -- the database that opens is the one that was loaded
  pub opened : (before : Option (List ℕ)) (database : Database) → told ≡ before → IfSome before (λ bytes. catalogue_of d most_bytes bytes ≡ Ok (kept h)) → Opens d before database → HasDatabase d (state told h db) database
  opened before database same read opens =
      has_database database (subst (λ c. StandsFor d c database) (ok_is (sym opens.read ∙ subst (λ o. IfSome o (λ bytes. catalogue_of d most_bytes bytes ≡ Ok (kept h))) opens.told_is read)) opens.stands)

  -- what was read is what the disk of the database tells
  pub still_read : (before : Option (List ℕ)) → told ≡ before → IfSome before (λ bytes. catalogue_of d most_bytes bytes ≡ Ok (kept h)) → IfSome told (λ bytes. catalogue_of d most_bytes bytes ≡ Ok (kept h))
  still_read before same read = subst (λ o. IfSome o (λ bytes. catalogue_of d most_bytes bytes ≡ Ok (kept h))) (sym same) read

-- after entries, with the database to which they lead
module _ {D P E : Type 0} (d p : Dialect) (told : Option (List ℕ)) (crashes : Crashes) (h : Held) (db : Db D P E) (is : IsDb p told crashes h db) (at : db.dialect ≡ d) (limit : limit_of db.journal ≡ most_bytes)
    (database : Database) (x : State) (written : Journal) (stands : StandsFor d (kept h) database) (adds : (state told h db).entries ≡ option_map (λ entries. entries ++ entries_of d written) x.entries) where
  abbrev more : List Entry
  more = entries_of d written

  entries_same : entries_in (dialect_of db.journal) (limit_of db.journal) told ≡ entries_in d most_bytes told
  entries_same = ap (λ e. entries_in e (limit_of db.journal) told) (is.journal_is ∙ at) ∙ ap (λ n. entries_in d n told) limit

  now_are : entries_in d most_bytes told ≡ option_map (λ entries. entries ++ more) x.entries
  now_are = sym entries_same ∙ adds

  pub holds_then : (before : Option (List ℕ)) (there : List Entry) → x.entries ≡ entries_in d most_bytes before → entries_in d most_bytes before ≡ Some there
      → Holds d told database × (entries_in d most_bytes told ≡ option_map (λ (entries : List Entry). entries ++ more) (entries_in d most_bytes before))
  holds_then before there were some = (
    record {
      entries = there ++ more;
      told_are = all;
      catalogue = kept h;
      leads = subst (λ e. catalogue_by e (there ++ more) ≡ Some (kept h)) at (subst (λ o. IfSome o (λ entries. catalogue_by db.dialect entries ≡ Some (kept h))) (entries_same ∙ all) is.is_held.is_journal);
      stands = stands;
    },
    now_are ∙ ap (option_map (λ (entries : List Entry). entries ++ more)) were,
  ) where
    all : entries_in d most_bytes told ≡ Some (there ++ more)
    all = now_are ∙ ap (option_map (λ (entries : List Entry). entries ++ more)) (were ∙ some)

-- after calls
module _ {D P E : Type 0} (d p : Dialect) (told : Option (List ℕ)) (crashes : Crashes) (h : Held) (db : Db D P E) (is : IsDb p told crashes h db) (at : db.dialect ≡ d) (limit : limit_of db.journal ≡ most_bytes)
    (calls : List Call) (database : Database) (x : State) (leaves : Leaves d calls database x (state told h db)) where
  pub becomes : (before : Option (List ℕ)) (there : List Entry) → x.entries ≡ entries_in d most_bytes before → entries_in d most_bytes before ≡ Some there → Becomes d calls database before told
  becomes before there were some =
      let it = holds_then d p told crashes h db is at limit (left_by d calls database) x (all_called d calls (session_on database)).entries leaves.database_is.committed leaves.entries before there were some in
      record { holds = it.0; entries = it.1 }
