-- What a soak's commands leave, and the text that tells of it.
use Rattle.std.proofs.Common.{ap, arith, refl, subst, sym, ◌∙◌}
use Rattle.std.proofs.lemmas.List.{length-map}
use Rattle.std.specs.List.{list_all, list_any}
use Rattle.std.specs.Option.{option_map}
use Rattle.std.specs.Prelude.{Bool, IfOk, IfSome, List, None, Ok, OnOk, Err, Option, Result, Some, [], cond, false, length, map, take, true, ℕ, ◌&&◌, ◌||◌, ◌+◌, ◌++◌, ◌∷◌, ◌≡◌}
use Rattle.hex.specs.Hex.{encode_lower}
use Rattle.md5.specs.Md5.{md5}
use Rattle.lq_base.specs.declared.command.Command.{Command}
use Rattle.lq_base.specs.declared.command.Command.TheVariants as command
use Rattle.lq_base.specs.declared.dialect.Dialect.{Dialect}
use Rattle.lq_base.specs.declared.dialect.Dialect.TheVariants.{Mysql, Postgresql}
use Rattle.lq_base.specs.declared.name.Name.{Name}
use Rattle.lq_commands.proofs.Warned.{quiet_lines}
use Rattle.lq_commands.specs.Scripts.{script}
use Rattle.lq_commands.specs.Stamp.{stamp_of}
use Rattle.lq_commands.specs.Works.{OnIts, Works, is_finished}
use Rattle.lq_commands.specs.declared.given.Given.{Given}
use Rattle.lq_engine.proofs.Marks.{nothing_sound}
use Rattle.lq_db.specs.Db.{IsDb, IsNew, IsValid, state}
use Rattle.lq_session.specs.Session.{begun_in}
use Rattle.lq_entries.specs.Log.{as_entry, entries_in, if_undamaged, unplaced}
use Rattle.lq_db.specs.declared.db.Db.{Db}
use Rattle.lq_journal.proofs.Entries.{short}
use Rattle.lq_frames.specs.Body.{is_state, from_last_state, has_state}
use Rattle.lq_journal.specs.State.{dialect_of, limit_of}
use Rattle.lq_frames.specs.declared.entry.Body.{Body}
use Rattle.lq_frames.specs.declared.entry.Body.TheVariants.{State, Texts}
use Rattle.lq_frames.specs.declared.entry.Entry.{Entry as Placed}
use Rattle.lq_journal.specs.Reading.{IsRead}
use Rattle.lq_kinds.specs.declared.change_set.Changelog.{Changelog}
use Rattle.lq_model.proofs.Lists.{all-append, and_right}
use Rattle.lq_model.specs.Catalogue.{no_objects}
use Rattle.lq_model.specs.NameSpaces.{is_taken}
use Rattle.lq_outside.specs.Crash.{Crashes}
use Rattle.lq_report.specs.Output.{soak_text}
use Rattle.lq_run.specs.Commands.{HasDatabase, Leaves}
use Rattle.lq_run.specs.Stands.{entries_of}
use Rattle.lq_sources.proofs.Sources.{has_source}
use Rattle.lq_sources.specs.Faults.{Loaded}
use Rattle.lq_store.specs.Executor.{Held, kept}
use Rattle.lq_store.specs.Calls.{is_of_texts}
use Rattle.lq_store.specs.Journal.{Entry, database as catalogue_by, State as StoreState}
use Rattle.lq_tell.specs.SoakLog.{soak_changelog, soak_path}
use Rattle.lq_tell.specs.declared.done.Done.{Done}
use Rattle.lq_tell.specs.declared.status.Status.{Status}
use Rattle.lq_tell.specs.declared.status.Status.TheVariants as status
use Rattle.lq_track.specs.Database.{Database}
use Rattle.lq_turns.specs.Schedule.{StandsFor, own_names}
use Rattle.lq_turns.specs.Session.{left_by}
use Rattle.lq_turns.specs.Stops.{Journal}
use Rattle.lq_turns.specs.declared.call.Call.{Call}
use Rattle.lq_turns.specs.declared.stamp.Stamp.{Stamp}
use Rattle.lq_jobs.proofs.InUse.{sizes_are}
use Rattle.lq_jobs.proofs.Ready.{becomes}
use Rattle.lq_jobs.specs.Bytes.{Holds, in_use, most_bytes}
use Rattle.lq_soak.specs.Soaked.{Did, DidOn, DidOnEach, IsLeft, IsMade, IsMeasured, Soaks, TakenBack, TellsSoak, all_entries, empty, soak_given, take_back, taken_back, update_entries, updated}

some_same : {A : Type 0} {a b : A} → Some a ≡ Some b → a ≡ b
some_same h = Prim.cc

none_some : {A : Type 0} {a : A} → (let o : Option A = None in o) ≡ Some a → ⊥
none_some h = Prim.cc

false_true : false ≡ true → ⊥
false_true h = Prim.cc

ok_same : {a b : Changelog} → (let r : Loaded Changelog = Ok a in r) ≡ Ok b → a ≡ b
ok_same h = Prim.cc

-- what two facts say of an answer that is there
pub ok_both : {A E : Type 0} (r : Result A E) (P Q R : A → Type 0) → IfOk r P → IfOk r Q → ((a : A) → P a → Q a → R a) → IfOk r R
ok_both (Ok a) P Q R is too so = so a is too
ok_both (Err e) P Q R is too so = tt

-- a command that was done leaves what its calls do
pub done_leaves : (d : Dialect) (calls : Database → List Call) (x y : StoreState) (done : Done) (r : Result (Unit {0}) Status) → OnIts d x (λ database. Works d (calls database) database x (Ok done) y) → OnOk r (done.status ≡ status.Done)
    → OnOk r (OnIts d x (λ database. Leaves d (calls database) database x y))
done_leaves d calls x y done (Ok u) works is = λ database has. (works database has).0 (subst (λ s. is_finished s ≡ true) (sym is) refl)
done_leaves d calls x y done (Err s) works is = tt

-- on a database that was loaded from a file that holds one
module _ {D P E : Type 0} (given : Given) (p : Dialect) (told now : Option (List ℕ)) (crashes later : Crashes) (h k : Held) (db left : Db D P E) (is : IsDb p told crashes h db) (new : IsNew given.options.dialect most_bytes db)
    (valid : IsValid p now later k left) (database : Database) (holds : Holds given.options.dialect told database) where
  abbrev d : Dialect
  d = given.options.dialect

  abbrev x : StoreState
  x = state told h db

  abbrev y : StoreState
  y = state now k left

  entries_were : entries_in (dialect_of db.journal) (limit_of db.journal) told ≡ entries_in d most_bytes told
  entries_were = ap (λ e. entries_in e (limit_of db.journal) told) (is.journal_is ∙ new.dialect_is) ∙ ap (λ n. entries_in d n told) new.limit_is

  journal_is : catalogue_by db.dialect holds.entries ≡ Some (kept h)
  journal_is = subst (λ o. IfSome o (λ entries. catalogue_by db.dialect entries ≡ Some (kept h))) (entries_were ∙ holds.told_are) is.is_held.is_journal

  kept_is : holds.catalogue ≡ kept h
  kept_is = some_same (sym holds.leads ∙ subst (λ e. catalogue_by e holds.entries ≡ Some (kept h)) new.dialect_is journal_is)

  pub has_it : HasDatabase d x database
  has_it = record {
    dialect = new.dialect_is;
    live = new.live;
    shut = ap (begun_in h) new.closed;
    committed = subst (λ c. StandsFor d c database) kept_is holds.stands;
  }

  pub did_on : (c : Command) (sets rows tables : ℕ) → Leaves d (script c given database) database x y → IsLeft sets (left_by d (script c given database) database) rows tables → DidOn given c sets database told now rows tables
  did_on c sets rows tables leaves remains = record {
    becomes =
        becomes d p now later k left (valid.lives leaves.database_is.live) leaves.database_is.dialect (leaves.limit ∙ new.limit_is) (script c given database) database x leaves told holds.entries entries_were holds.told_are;
    left = remains;
  }

-- with the changelog that is made
pub did_so : (d : Dialect) (number sets : ℕ) (stamp : Stamp) (c : Command) (given : Given) (told before after : Option (List ℕ)) (rows tables : ℕ) → given ≡ soak_given d given.changelog stamp → IsMade d number sets given.changelog → told ≡ before
    → DidOnEach given c sets told after rows tables → Did d number sets stamp c before after rows tables
did_so d number sets stamp c given told before after rows tables given_is made same does = record {
  changelog = given.changelog;
  made = made;
  does = subst (λ (o : Option (List ℕ)). DidOnEach (soak_given d given.changelog stamp) c sets o after rows tables) same (subst (λ (g : Given). DidOnEach g c sets told after rows tables) given_is does);
}

-- there is one
pub same_made : (d : Dialect) (number sets : ℕ) (one other : Changelog) → IsMade d number sets one → IsMade d number sets other → one ≡ other
same_made d number sets one other is so =
    let source = has_source ((soak_path, soak_changelog number sets) ∷ []) in
    ok_same (sym (is source.0 source.1) ∙ so source.0 source.1)

-- a journal without a state begins with its first entry

no_state : (entries : List Placed) → list_all is_of_texts (map unplaced entries) ≡ true → has_state entries ≡ false
no_state [] all = refl
no_state (entry ∷ entries) all = by entry.body refl (no_state entries) all where
  by : (b : Body) → entry.body ≡ b → (list_all is_of_texts (map unplaced entries) ≡ true → has_state entries ≡ false) → is_of_texts (as_entry b) && list_all is_of_texts (map unplaced entries) ≡ true → is_state entry.body || has_state entries ≡ false
  by (Texts texts) is more all = ap (λ (b : Body). is_state b || has_state entries) is ∙ more all
  by (State bytes) is more all = absurd (false_true all)

from_first : (entries : List Placed) → list_all is_of_texts (map unplaced entries) ≡ true → from_last_state entries ≡ entries
from_first [] all = refl
from_first (entry ∷ entries) all = ap (λ (b : Bool). cond b (from_last_state entries) (entry ∷ entries)) (no_state entries (and_right (is_of_texts (unplaced entry)) _ all))

pub measured : (d : Dialect) (told : Option (List ℕ)) (entries : List Placed) (many used : ℕ) → IfSome told (λ bytes. IsRead d most_bytes bytes entries used) → many ≡ length entries → IsMeasured d told many used
measured d None entries many used read many_are there are all = absurd (none_some are)
measured d (Some bytes) entries many used read many_are there are all =
    let same : map unplaced read.all ≡ there = some_same (sym (ap if_undamaged read.journal_is) ∙ are) in
    let first = from_first read.all (ap (list_all is_of_texts) same ∙ all) in
    (many_are ∙ ap length (read.entries_are ∙ first) ∙ sym (length-map read.all unplaced) ∙ ap length same, read.used_is ∙ ap (λ (n : ℕ). 17 + n) (sizes_are read.all) ∙ ap in_use same)

-- what commands write are transactions

all_texts : (d : Dialect) (entries : Journal) → list_all is_of_texts (entries_of d entries) ≡ true
all_texts d [] = refl
all_texts d (deeds ∷ entries) = all_texts d entries

-- a file without bytes holds a database without anything

nothing_in : (d : Dialect) → entries_in d most_bytes (Some []) ≡ Some []
nothing_in d = ap if_undamaged (short d most_bytes [] (omega arith) (omega arith))

nothing_named : (d : Dialect) → list_any (λ (n : Name). is_taken d n no_objects) (own_names d) ≡ false
nothing_named Postgresql = refl
nothing_named Mysql = refl

nothing_stands : (d : Dialect) → StandsFor d no_objects empty
nothing_stands d = record { ordered = (nothing_sound d).ordered; is = refl; sound = nothing_sound d; names = nothing_named d; few = refl }

pub nothing_holds : (d : Dialect) → Holds d (Some []) empty
nothing_holds d = record { entries = []; told_are = nothing_in d; catalogue = no_objects; leads = refl; stands = nothing_stands d }

same_text : (sets : ℕ) (e f b u : ℕ) (s z : List ℕ) (l m r q t v : ℕ) → e ≡ f → b ≡ u → s ≡ z → l ≡ m → r ≡ q → t ≡ v
    → soak_text (record { sets = sets; entries = e; bytes = b; sum = s; later = l; rows = r; tables = t }) ≡ soak_text (record { sets = sets; entries = f; bytes = u; sum = z; later = m; rows = q; tables = v })
same_text sets e f b u s z l m r q t v entries bytes sum later rows tables =
    ap (λ (e : ℕ). soak_text (record { sets = sets; entries = e; bytes = b; sum = s; later = l; rows = r; tables = t })) entries
    ∙ ap (λ (b : ℕ). soak_text (record { sets = sets; entries = f; bytes = b; sum = s; later = l; rows = r; tables = t })) bytes
    ∙ ap (λ (s : List ℕ). soak_text (record { sets = sets; entries = f; bytes = u; sum = s; later = l; rows = r; tables = t })) sum
    ∙ ap (λ (l : ℕ). soak_text (record { sets = sets; entries = f; bytes = u; sum = z; later = l; rows = r; tables = t })) later
    ∙ ap (λ (r : ℕ). soak_text (record { sets = sets; entries = f; bytes = u; sum = z; later = m; rows = r; tables = t })) rows
    ∙ ap (λ (t : ℕ). soak_text (record { sets = sets; entries = f; bytes = u; sum = z; later = m; rows = q; tables = t })) tables

-- the update on a file without bytes, what is measured of it, and the rollback
module _ (d : Dialect) (number sets : ℕ) (stamp : Stamp) (begins told here : Option (List ℕ)) (nothing : begins ≡ Some []) (r t entries used : ℕ) (did : Did d number sets stamp command.Update begins told r t) (measures : IsMeasured d told entries used)
    (same : here ≡ told) (bytes sum text : List ℕ) (bytes_are : here ≡ Some bytes) (sum_is : sum ≡ encode_lower (md5 (take used bytes))) (back : TakenBack d number sets stamp here entries used sum text) where
  abbrev given : Given
  given = soak_given d did.changelog stamp

  update_did : DidOn given command.Update sets empty (Some []) told r t
  update_did = subst (λ (o : Option (List ℕ)). DidOnEach given command.Update sets o told r t) nothing did.does empty (nothing_holds d)

  entries_are : entries_in d most_bytes told ≡ Some (update_entries given)
  entries_are = update_did.becomes.entries ∙ ap (option_map (λ (before : List Entry). before ++ update_entries given)) (nothing_in d)

  back_did : DidOn given (take_back sets) sets (updated given).committed here back.last back.rows back.tables
  back_did =
      subst (λ (g : Changelog). DidOnEach (soak_given d g stamp) (take_back sets) sets here back.last back.rows back.tables) (same_made d number sets back.did.changelog did.changelog back.did.made did.made) back.did.does
      (updated given).committed (subst (λ (o : Option (List ℕ)). Holds d o (updated given).committed) (sym same) update_did.becomes.holds)

  all_are : entries_in d most_bytes back.last ≡ Some (all_entries given sets)
  all_are = back_did.becomes.entries ∙ ap (option_map (λ (before : List Entry). before ++ entries_of d (taken_back given sets).entries)) (ap (entries_in d most_bytes) same ∙ entries_are)

  pub soaks : Soaks d number sets stamp text
  soaks =
      let there = measures (update_entries given) entries_are (all_texts d (updated given).entries) in
      let later = back.measured (all_entries given sets) all_are (all-append is_of_texts (update_entries given) (entries_of d (taken_back given sets).entries) (all_texts d (updated given).entries) (all_texts d (taken_back given sets).entries)) in
      record {
        changelog = did.changelog;
        made = did.made;
        bytes = bytes;
        holds = ap (entries_in d most_bytes) (sym bytes_are ∙ same) ∙ entries_are;
        is = back.is ∙ same_text sets _ _ _ _ _ _ _ _ _ _ _ _ there.0 there.1 (sum_is ∙ ap (λ (n : ℕ). encode_lower (md5 (take n bytes))) there.1) later.0 back_did.left.rows_are back_did.left.tables_are;
      }

-- what the rollback left was measured
pub taken_so : (d : Dialect) (number sets : ℕ) (stamp : Stamp) (c : Command) (told last : Option (List ℕ)) (entries bytes : ℕ) (sum text : List ℕ) (later used rows tables : ℕ) → c ≡ take_back sets → Did d number sets stamp c told last rows tables → IsMeasured d last later used
    → text ≡ soak_text (record { sets = sets; entries = entries; bytes = bytes; sum = sum; later = later; rows = rows; tables = tables }) → TakenBack d number sets stamp told entries bytes sum text
taken_so d number sets stamp c told last entries bytes sum text later used rows tables same did measures is = record {
  last = last;
  later = later;
  used = used;
  rows = rows;
  tables = tables;
  did = subst (λ (c : Command). Did d number sets stamp c told last rows tables) same did;
  measured = measures;
  is = is;
}

-- it is done with that text
pub tells_soak : (d : Dialect) (number sets : ℕ) (who : List ℕ) (last reading : ℕ) (text : List ℕ) (done : Done) → done.status ≡ status.Done → done.out ≡ Some text → done.own ≡ None → done.warned ≡ [] → last ≡ reading → Soaks d number sets (stamp_of who reading) text → TellsSoak d number sets (stamp_of who last) (Ok done)
tells_soak d number sets who last reading text done done_is out own warned same told = (
  text,
  record { status = done_is; out = out; warned = quiet_lines done (own, warned) },
  subst (λ (n : ℕ). Soaks d number sets (stamp_of who n) text) (sym same) told,
)
