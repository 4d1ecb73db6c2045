-- A file that holds a database holds it still where nothing is written.
use Rattle.std.proofs.Common.{ap, inl, refl, subst, sym, ◌∙◌}
use Rattle.std.proofs.lemmas.List.{append-nil}
use Rattle.std.specs.Option.{option_map}
use Rattle.std.specs.Prelude.{Bool, Err, IfOk, IfSome, List, None, Ok, Option, Result, Some, [], cond, false, map, true, ℕ, ◌++◌, ◌∷◌, ◌≡◌}
use Rattle.lq_base.specs.declared.dialect.Dialect.{Dialect}
use Rattle.lq_commands.specs.Outputs.{TellsJob}
use Rattle.lq_commands.specs.Refusals.{Answers}
use Rattle.lq_commands.specs.Works.{is_finished}
use Rattle.lq_commands.specs.declared.given.Given.{Given}
use Rattle.lq_entries.proofs.Folded.{folded_runs}
use Rattle.lq_entries.specs.Load.{folded, if_clean, is_clean, read_entries}
use Rattle.lq_entries.specs.Log.{entries_in, if_undamaged, unplaced}
use Rattle.lq_frames.specs.Body.{journal_of, used_by}
use Rattle.lq_frames.specs.declared.entry.Entry.{Entry as Placed}
use Rattle.lq_model.specs.Catalogue.{Catalogue, no_objects}
use Rattle.lq_run.specs.Stands.{HadRoom}
use Rattle.lq_store.specs.Journal.{Entry}
use Rattle.lq_track.specs.Database.{Database}
use Rattle.lq_tell.specs.declared.done.Done.{Done}
use Rattle.lq_tell.specs.declared.status.Status.{Status}
use Rattle.lq_turns.proofs.Journal.{journal_leads}
use Rattle.lq_turns.specs.Session.{all_called, left_by, session_on}
use Rattle.lq_turns.specs.Stops.{Journal}
use Rattle.lq_turns.specs.declared.call.Call.{Call}
use Rattle.lq_turns.specs.declared.deed.Deed.{Deed}
use Rattle.lq_jobs.specs.Bytes.{Becomes, HadRoomOn, Holds, IsLeftOn, OnFile, Opens, SaysFullOn, TellsRoomOn, WorksOn, in_use, most_bytes, job_of}
use Rattle.lq_jobs.specs.Jobs.{DoesJob, MakesAgain, goes_on, is_apart, is_own, job_calls, job_refusal, job_script}
use Rattle.lq_jobs.specs.declared.copying.Printing.{Printing}
use Rattle.lq_jobs.specs.declared.copying.Printing.TheVariants as print

ok_same : {a b : Catalogue} → (let r : Result Catalogue ℕ = Ok a in r) ≡ Ok b → a ≡ b
ok_same h = Prim.cc

err_ok : {n : ℕ} {b : Catalogue} → (let r : Result Catalogue ℕ = Err n in r) ≡ Ok b → ⊥
err_ok h = Prim.cc

false_true : false ≡ true → ⊥
false_true h = Prim.cc

module _ (d : Dialect) where
  clean_is : (c : Catalogue) (at : ℕ) (e : Catalogue) (b : Bool) → (let r : Result Catalogue ℕ = cond b (Ok c) (Err at) in r) ≡ Ok e → c ≡ e
  clean_is c at e true is = ok_same is
  clean_is c at e false is = absurd (err_ok is)

  was_clean : (at : ℕ) (r : Result Catalogue ℕ) (e : Catalogue) → if_clean d at r ≡ Ok e → r ≡ Ok e
  was_clean at (Ok c) e is = ap Ok (clean_is c at e (is_clean d c) is)
  was_clean at (Err place) e is = is

  read_is : (r : Result (List Placed) ℕ) (e : Catalogue) → read_entries d r ≡ Ok e → (entries : List Placed) × (r ≡ Ok entries) × (folded d entries (Ok no_objects) ≡ Ok e)
  read_is (Err at) e is = absurd (err_ok is)
  read_is (Ok entries) e is = (entries, refl, was_clean (used_by entries) (folded d entries (Ok no_objects)) e is)

  pub holds_it : (before : Option (List ℕ)) (database : Database) → Opens d before database → Holds d before database
  holds_it before database opens =
      let it = read_is (journal_of d most_bytes opens.bytes) opens.catalogue opens.read in
      record {
        entries = map unplaced it.0;
        told_are = ap (entries_in d most_bytes) opens.told_is ∙ ap if_undamaged it.1;
        catalogue = opens.catalogue;
        leads = folded_runs d it.0 opens.catalogue it.2;
        stands = opens.stands;
      }

no_more : (o : Option (List Entry)) → o ≡ option_map (λ (entries : List Entry). entries ++ []) o
no_more None = refl
no_more (Some entries) = ap Some (sym (append-nil entries))

-- no call leaves it as it was
pub becomes_same : (d : Dialect) (database : Database) (before after : Option (List ℕ)) → Opens d before database → after ≡ before → Becomes d [] database before after
becomes_same d database before after opens same =
    subst (λ told. Becomes d [] database before told) (sym same) (record { holds = holds_it d before database opens; entries = no_more (entries_in d most_bytes before) })

-- and asks for no room

not_empty : {A : Type 0} {x : A} {xs : List A} → x ∷ xs ≡ [] → ⊥
not_empty h = Prim.cc

no_entry : (front : Journal) (entry : List Deed) (rest : Journal) → front ++ entry ∷ rest ≡ [] → ⊥
no_entry [] entry rest is = not_empty is
no_entry (first ∷ front) entry rest is = not_empty is

none_asked : (d : Dialect) (o : Option (List Entry)) → IfSome o (λ (there : List Entry). HadRoom d most_bytes (in_use there) [])
none_asked d None = tt
none_asked d (Some there) = λ front entry rest is. absurd (no_entry front entry rest (sym is))

pub no_room : (d : Dialect) (database : Database) (before : Option (List ℕ)) → HadRoomOn d [] database before
no_room d database before = none_asked d (entries_in d most_bytes before)

-- and it is what a stop before the first call leaves
pub left_same : (d : Dialect) (calls : List Call) (database : Database) (before after : Option (List ℕ)) → Opens d before database → after ≡ before → IsLeftOn d calls database before after
left_same d calls database before after opens same =
    subst (λ told. IsLeftOn d calls database before told) (sym same) (record {
      written = [];
      stops = record { front = []; rest = (all_called d calls (session_on database)).entries; entries = refl; now = database; led = refl; is = inl refl };
      closes = inl ((all_called d calls (session_on database)).entries, refl);
      entries = no_more (entries_in d most_bytes before);
      now = database;
      led = refl;
      holds = holds_it d before database opens;
    })

-- what whole calls leave a stop of them may leave
pub becomes_left : (d : Dialect) (calls : List Call) (database : Database) (before after : Option (List ℕ)) → Becomes d calls database before after → IsLeftOn d calls database before after
becomes_left d calls database before after becomes =
    let all = (all_called d calls (session_on database)).entries in
    record {
      written = all;
      stops = record { front = all; rest = []; entries = sym (append-nil all); now = left_by d calls database; led = journal_leads d calls database; is = inl refl };
      closes = inl ([], sym (append-nil all));
      entries = becomes.entries;
      now = left_by d calls database;
      led = journal_leads d calls database;
      holds = becomes.holds;
    }

-- what a job tells of room in the file's journal

module _ (d : Dialect) (calls : List Call) (database : Database) (before : Option (List ℕ)) where
  pub had_room : (done : Result Done Status) → IfOk done (λ (ended : Done). TellsRoomOn d calls database before ended.status) → IfOk done (λ (ended : Done). is_finished ended.status ≡ true → HadRoomOn d calls database before)
  had_room (Ok ended) room = room.0
  had_room (Err s) room = tt

  pub says_full : (done : Result Done Status) → IfOk done (λ (ended : Done). TellsRoomOn d calls database before ended.status) → IfOk done (λ (ended : Done). SaysFullOn d calls database before ended.status)
  says_full (Ok ended) room = room.1
  says_full (Err s) room = tt

-- what is printed is written nowhere

no_calls : (printing : Printing) (given : Given) (database : Database) → job_script (job_of printing) given database ≡ []
no_calls print.Update given database = refl
no_calls (print.Rollback target) given database = refl

-- which is on the file, and no command
pub prints_on_file : {A : Type 0} (printing : Printing) → is_apart (job_of printing) ≡ true → A
prints_on_file print.Update off = absurd (false_true off)
prints_on_file (print.Rollback target) off = absurd (false_true off)

pub prints_no_command : {A : Type 0} (printing : Printing) → is_own (job_of printing) ≡ true → A
prints_no_command print.Update is = absurd (false_true is)
prints_no_command (print.Rollback target) is = absurd (false_true is)

pub prints_no_goal : (printing : Printing) → goes_on (job_of printing) ≡ false
prints_no_goal print.Update = refl
prints_no_goal (print.Rollback target) = refl

prints : (printing : Printing) (given : Given) (database : Database) (before : Option (List ℕ)) (done : Result Done Status) (after : Option (List ℕ)) → Opens given.options.dialect before database → after ≡ before
    → WorksOn given.options.dialect (job_script (job_of printing) given database) database before done after
prints printing given database before (Ok done) after opens same = (
  λ finished. subst (λ calls. Becomes given.options.dialect calls database before after) (sym (no_calls printing given database)) (becomes_same given.options.dialect database before after opens same),
  λ unfinished. left_same given.options.dialect (job_script (job_of printing) given database) database before after opens same,
)
prints printing given database before (Err s) after opens same = left_same given.options.dialect (job_script (job_of printing) given database) database before after opens same

-- for the database of a file
on_database : (d : Dialect) (calls : Database → List Call) (before : Option (List ℕ)) (done : Result Done Status) (database : Database) → Opens d before database
    → IfOk done (λ (ended : Done). OnFile d before (λ database. TellsRoomOn d (calls database) database before ended.status)) → IfOk done (λ (ended : Done). TellsRoomOn d (calls database) database before ended.status)
on_database d calls before (Ok ended) database opens room = room database opens
on_database d calls before (Err s) database opens room = tt

prints_again : (printing : Printing) (given : Given) (database : Database) (done : Result Done Status) → MakesAgain (job_of printing) given database done
prints_again print.Update given database done = tt
prints_again (print.Rollback target) given database done = tt

pub printed_does : (printing : Printing) (given : Given) (database : Database) (before : Option (List ℕ)) (done : Result Done Status) (after : Option (List ℕ)) → Opens given.options.dialect before database
    → Answers (job_refusal (job_of printing) given database) done → TellsJob (job_of printing) given database done
    → IfOk done (λ (ended : Done). OnFile given.options.dialect before (λ database. TellsRoomOn given.options.dialect (job_calls (job_of printing) given database) database before ended.status)) → after ≡ before
    → DoesJob (job_of printing) given database before done after
printed_does printing given database before done after opens answers tells told same =
    let calls = job_calls (job_of printing) given database in
    let room = on_database given.options.dialect (job_calls (job_of printing) given) before done database opens told in
    record {
      answers = answers;
      refused = λ some. same;
      reads = λ only. same;
      works = prints printing given database before done after opens same;
      tells = tells;
      again = prints_again printing given database done;
      room = had_room given.options.dialect calls database before done room;
      full = says_full given.options.dialect calls database before done room;
      rests = λ own. prints_no_command printing own;
    }
