-- A file that a command leaves is opened again, and finds the database that its calls leave, or a stop of them.
use Rattle.std.proofs.Common.{ap, refl, subst, sym, ◌∙◌}
use Rattle.std.specs.Prelude.{Bool, Err, List, None, Ok, Option, Result, Some, cond, false, true, ℕ, ◌≡◌}
use Rattle.lq_base.specs.declared.command.Command.{Command}
use Rattle.lq_base.specs.declared.command.Command.TheVariants as command
use Rattle.lq_base.specs.declared.dialect.Dialect.{Dialect}
use Rattle.lq_cli.specs.declared.line.Job.{Job}
use Rattle.lq_cli.specs.declared.line.Job.TheVariants.{Drill, History, RollbackSql, Run, Soak, UpdateCount, UpdateSql, UpdateTestingRollback, UpdateTo, Generate, ClearSums, UndoUnrecorded, Snapshot}
use Rattle.lq_rehearsal.proofs.FirstScripts.{AreFirst, rehearsal_first, rollback_first}
use Rattle.lq_commands.proofs.Planned.{kept}
use Rattle.lq_commands.proofs.ViewsRead.{views_are_read}
use Rattle.lq_commands.specs.Rehearsal.{counted_in}
use Rattle.lq_commands.specs.Scripts.{log_in, script}
use Rattle.lq_commands.specs.declared.given.Given.{Given}
use Rattle.lq_entries.proofs.Folded.{folds}
use Rattle.lq_entries.specs.Load.{folded, if_clean, is_clean, is_clean_database, read_entries}
use Rattle.lq_entries.specs.Log.{entries_in, if_undamaged}
use Rattle.lq_frames.specs.Body.{journal_of, used_by}
use Rattle.lq_frames.specs.declared.entry.Entry.{Entry as Placed}
use Rattle.lq_kinds.specs.ReadFor.{AreFor}
use Rattle.lq_any.specs.declared.any_change.AnyChange.{AnyChange}
use Rattle.lq_model.specs.Catalogue.{Catalogue, no_objects}
use Rattle.lq_seen.specs.View.{any_meaning}
use Rattle.lq_stand.proofs.FirstRows.{clear_is_first, release_is_first, sync_is_first, tag_is_first, update_is_first}
use Rattle.lq_stand.proofs.StaysClean.{calls_stay_clean, clean_is_found, stops_stay_clean}
use Rattle.lq_stand.specs.Stays.{calls_are_first, IsClean}
use Rattle.lq_store.specs.Journal.{database as catalogue_by}
use Rattle.lq_track.specs.Database.{Database}
use Rattle.lq_turns.specs.Session.{left_by, session_on}
use Rattle.lq_turns.specs.declared.call.Call.{Call}
use Rattle.lq_turns.specs.declared.stamp.Stamp.{Stamp}
use Rattle.lq_jobs.proofs.InPart.{counted_read}
use Rattle.lq_jobs.specs.Asks.{Asks, Files}
use Rattle.lq_jobs.specs.Bytes.{Becomes, Holds, IsLeftOn, Opens, most_bytes}
use Rattle.lq_jobs.specs.Jobs.{job_script}
use Rattle.lq_jobs.specs.Run.{OpensAtCrash, given_by}

none_some : {A : Type 0} {a : A} → (let o : Option A = None in o) ≡ Some a → ⊥
none_some h = Prim.cc

some_same : {A : Type 0} {a b : A} → (let o : Option A = Some a in o) ≡ Some b → a ≡ b
some_same h = Prim.cc

ok_same : {a b : Catalogue} → (let r : Result Catalogue ℕ = Ok a in r) ≡ Ok b → a ≡ b
ok_same h = Prim.cc

err_ok : {n : ℕ} {b : Catalogue} → (let r : Result Catalogue ℕ = Err n in r) ≡ Ok b → ⊥
err_ok h = Prim.cc

abbrev clean_or : Catalogue → ℕ → Bool → Result Catalogue ℕ
clean_or c at b = cond b (Ok c) (Err at)

clean_is : (c : Catalogue) (at : ℕ) (e : Catalogue) (b : Bool) → clean_or c at b ≡ Ok e → b ≡ true
clean_is c at e true is = refl
clean_is c at e false is = absurd (err_ok is)

module _ (d : Dialect) where
  -- what is read is clean

  clean_by : (c : Catalogue) (at : ℕ) (e : Catalogue) (b : Bool) → is_clean d c ≡ b → clean_or c at b ≡ Ok e → is_clean d e ≡ true
  clean_by c at e true clean is = ap (is_clean d) (sym (ok_same is)) ∙ clean
  clean_by c at e false clean is = absurd (err_ok is)

  if_read : (at : ℕ) (r : Result Catalogue ℕ) (e : Catalogue) → if_clean d at r ≡ Ok e → is_clean d e ≡ true
  if_read at (Ok c) e is = clean_by c at e (is_clean d c) refl is
  if_read at (Err place) e is = absurd (err_ok is)

  read_clean : (r : Result (List Placed) ℕ) (e : Catalogue) → read_entries d r ≡ Ok e → is_clean d e ≡ true
  read_clean (Err at) e is = absurd (err_ok is)
  read_clean (Ok entries) e is = if_read (used_by entries) (folded d entries (Ok no_objects)) e is

  pub was_clean : (told : Option (List ℕ)) (database : Database) → Opens d told database → IsClean d database
  was_clean told database opens = ap (is_clean_database d) (sym opens.stands.is) ∙ read_clean (journal_of d most_bytes opens.bytes) opens.catalogue opens.read

  -- and what entries lead to is read where it is clean

  module _ (told : Option (List ℕ)) (database : Database) (holds : Holds d told database) where
    leads_to : (entries : List Placed) → if_undamaged (Ok entries) ≡ Some holds.entries → folded d entries (Ok no_objects) ≡ Ok holds.catalogue
    leads_to entries there = folds d entries holds.catalogue (ap (catalogue_by d) (some_same there) ∙ holds.leads)

    opens_by : is_clean d holds.catalogue ≡ true → Opens d told database
    opens_by clean = by told refl holds.told_are where
      by_read : (bytes : List ℕ) → told ≡ Some bytes → (r : Result (List Placed) ℕ) → journal_of d most_bytes bytes ≡ r → if_undamaged r ≡ Some holds.entries → Opens d told database
      by_read bytes tells (Err at) is there = absurd (none_some there)
      by_read bytes tells (Ok entries) is there = record {
        bytes = bytes;
        told_is = tells;
        catalogue = holds.catalogue;
        read = ap (read_entries d) is ∙ ap (if_clean d (used_by entries)) (leads_to entries there) ∙ ap (clean_or holds.catalogue (used_by entries)) clean;
        stands = holds.stands;
      }

      by : (o : Option (List ℕ)) → told ≡ o → entries_in d most_bytes o ≡ Some holds.entries → Opens d told database
      by None tells there = absurd (none_some there)
      by (Some bytes) tells there = by_read bytes tells (journal_of d most_bytes bytes) refl there

    pub holds_opens : IsClean d database → Opens d told database
    holds_opens clean = opens_by (clean_is_found d holds.catalogue database holds.stands clean)

    -- it opens for each database that it holds
    pub still_opens : (other : Database) → Opens d told other → Opens d told database
    still_opens other opens = opens_by (by (journal_of d most_bytes opens.bytes) opens.read (sym (ap (entries_in d most_bytes) opens.told_is) ∙ holds.told_are)) where
      by : (r : Result (List Placed) ℕ) → read_entries d r ≡ Ok opens.catalogue → if_undamaged r ≡ Some holds.entries → is_clean d holds.catalogue ≡ true
      by (Err at) read there = absurd (err_ok read)
      by (Ok entries) read there = clean_is holds.catalogue (used_by entries) opens.catalogue (is_clean d holds.catalogue) (sym (ap (if_clean d (used_by entries)) (leads_to entries there)) ∙ read)

-- after calls whose new rows are the first of their identities, and stand behind all others, and after a stop of them

module _ (d : Dialect) (told : Option (List ℕ)) (database : Database) (opens : Opens d told database) (calls : List Call) (first : calls_are_first d calls (session_on database) ≡ true) where
  pub opens_behind : (after : Option (List ℕ)) → Becomes d calls database told after → Opens d after (left_by d calls database)
  opens_behind after becomes =
      holds_opens d after (left_by d calls database) becomes.holds
      (calls_stay_clean d calls database becomes.holds.catalogue (was_clean d told database opens) first becomes.holds.stands)

  pub opens_stopped : (after : Option (List ℕ)) (left : IsLeftOn d calls database told after) → Opens d after left.now
  opens_stopped after left =
      holds_opens d after left.now left.holds
      (stops_stay_clean d calls database left.now left.written left.holds.catalogue (was_clean d told database opens) first left.stops left.led left.holds.stands)

-- the new rows of each command are such

module _ (given : Given) (database : Database) where
  abbrev d : Dialect
  d = given.options.dialect

  abbrev IsFirst : List Call → Type 0
  IsFirst calls = AreFirst given database calls

  module _ (told : Option (List ℕ)) (opens : Opens d told database) (read : AreFor d given.changelog) where
    script_first : (c : Command) → IsFirst (script c given database)
    script_first command.Validate = refl
    script_first command.Status = refl
    script_first command.Update = update_is_first any_meaning kept d given.stamp (log_in given) database opens.stands.sound (views_are_read d given.options given.changelog read)
    script_first (command.Tag name) = tag_is_first d name database
    script_first (command.Rollback target) = rollback_first given database target
    script_first command.Sync = sync_is_first AnyChange d given.stamp (log_in given) database
    script_first command.Release = release_is_first d database

    job_first : (job : Job) → IsFirst (job_script job given database)
    job_first (Run c) = script_first c
    job_first UpdateSql = refl
    job_first (UpdateCount count) =
        let part = counted_in count given database.rows in
        update_is_first any_meaning kept d given.stamp (log_in part) database opens.stands.sound (views_are_read d given.options part.changelog (counted_read count given database.rows read))
    job_first (UpdateTo tag) = script_first command.Update
    job_first UpdateTestingRollback = rehearsal_first given database opens.stands.sound read
    job_first ClearSums = clear_is_first d database
    job_first History = refl
    job_first (Generate author) = refl
    job_first (RollbackSql target) = refl
    job_first (Drill path) = refl
    job_first (Soak number sets) = refl
    job_first UndoUnrecorded = refl
    job_first Snapshot = refl

    -- after its calls
    pub opens_after : (job : Job) (after : Option (List ℕ)) → Becomes d (job_script job given database) database told after → Opens d after (left_by d (job_script job given database) database)
    opens_after job after becomes = opens_behind d told database opens (job_script job given database) (job_first job) after becomes

    -- after a stop of them
    pub opens_left : (job : Job) (after : Option (List ℕ)) (left : IsLeftOn d (job_script job given database) database told after) → Opens d after left.now
    opens_left job after left = opens_stopped d told database opens (job_script job given database) (job_first job) after left

-- where nothing was written it opens still
pub opens_same : (d : Dialect) (told after : Option (List ℕ)) (database now : Database) → Opens d told database → after ≡ told → Holds d after now → Opens d after now
opens_same d told after database now opens same holds = still_opens d after now holds database (subst (λ o. Opens d o database) (sym same) opens)

-- and so is what a crash left
pub crash_opens : {words : List (List ℕ)} {files : Files} (asks : Asks words files) (stamp : Stamp) (before : Option (List ℕ)) → AreFor asks.line.options.dialect asks.changelog → (bytes : List ℕ) → OpensAtCrash asks stamp before bytes
crash_opens asks stamp before read bytes = λ database opens cut. opens_left (given_by asks stamp) database before opens read asks.line.job (Some bytes) cut
