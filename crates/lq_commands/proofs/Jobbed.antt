-- Jobs, from the commands that they are.
use Rattle.std.proofs.Common.{ap, refl, subst, sym, ◌∙◌}
use Rattle.std.specs.Prelude.{Err, IfOk, List, None, Ok, Result, Some, [], false, length, true, ℕ, ◌≡◌}
use Rattle.lq_base.specs.declared.dialect.Dialect.{Dialect}
use Rattle.lq_base.specs.declared.tracking.Tracked.{Tracked}
use Rattle.lq_cli.specs.declared.line.Job.{Job}
use Rattle.lq_cli.specs.declared.line.Job.TheVariants.{ClearSums, History, UpdateCount, UpdateTo}
use Rattle.lq_report.specs.Output.{cleared_text, history_text}
use Rattle.lq_run.specs.Commands.{HasDatabase}
use Rattle.lq_store.specs.Journal.{Crashes, State}
use Rattle.lq_tell.specs.declared.done.Done.{Done}
use Rattle.lq_tell.specs.declared.status.Status.{Status}
use Rattle.lq_tell.specs.declared.status.Status.TheVariants as status
use Rattle.lq_track.specs.Database.{Database}
use Rattle.lq_turns.specs.Script.{clear_calls}
use Rattle.lq_base.specs.declared.command.Command.TheVariants as command
use Rattle.lq_commands.proofs.Commanded.{kept_none, lacking_by}
use Rattle.lq_commands.proofs.Endings.{untouched_crashes, untouched_works}
use Rattle.lq_commands.proofs.Telling.{failed_tells, on_its_tells, text_ends}
use Rattle.lq_commands.proofs.Warned.{quiet_lines}
use Rattle.lq_commands.specs.Jobs.{DidJob, job_refusal, job_script}
use Rattle.lq_commands.specs.Outputs.{TellsJob, EndsText, TellsText}
use Rattle.lq_commands.specs.Rehearsal.{counted_in}
use Rattle.lq_commands.specs.Refusals.{Answers, held, refusal}
use Rattle.lq_commands.specs.Scripts.{update_script, updated_in}
use Rattle.lq_commands.specs.Works.{EndsUpdate, IsQuiet, CrashesIn, IsKept, OnIts, Works}
use Rattle.lq_commands.specs.declared.given.Given.{Given}

false_true : false ≡ true → ⊥
false_true h = Prim.cc

module _ {S : Type 0} (state : S → State) (crashes : S → Crashes) where
  -- each job as it was asked for
  pub did_as : (j k : Job) → j ≡ k → (given : Given) (before : S) (done : Result Done Status) (after : S) → DidJob state crashes k given before done after → DidJob state crashes j given before done after
  did_as j k is given before done after did = subst (λ (job : Job). DidJob state crashes job given before done after) (sym is) did

  -- there was no memory for it
  pub memory_did : (job : Job) (given : Given) (before : S) (s : Status) (done : Result Done Status) → s ≡ status.OutOfMemory → done ≡ Err s → DidJob state crashes job given before done before
  memory_did job given before s done memory is = record {
    answers = λ database has. lacking_by (job_refusal job given database) s done memory is;
    refused = λ database has some. refl;
    reads = λ only. refl;
    works = λ database has. untouched_works given.options.dialect (job_script job given database) database (state before) done s is has;
    any_moment = λ database has. untouched_crashes given.options.dialect (job_script job given database) database (state before) (crashes before);
    tells = λ database has. failed_tells job given database done s is;
  }

  -- an update of what it was given
  module _ (given : Given) (before : S) (done : Result Done Status) (after : S) (answers : OnIts given.options.dialect (state before) (λ database. Answers (refusal command.Update given database) done))
      (refused : OnIts given.options.dialect (state before) (λ database. IsKept (refusal command.Update given database) before after))
      (works : OnIts given.options.dialect (state before) (λ database. Works given.options.dialect (update_script given database) database (state before) done (state after)))
      (moments : OnIts given.options.dialect (state before) (λ database. CrashesIn given.options.dialect (update_script given database) database (state before) (crashes before) (crashes after)))
      (tells : IfOk done (λ (ended : Done). OnIts given.options.dialect (state before) (λ database. EndsUpdate false (updated_in false given database) ended))) where
    pub updated_did : (tag : List ℕ) → DidJob state crashes (UpdateTo tag) given before done after
    updated_did tag = record {
      answers = answers;
      refused = refused;
      reads = λ only. absurd (false_true only);
      works = works;
      any_moment = moments;
      tells = on_its_tells given.options.dialect (state before) done (λ ended database. EndsUpdate false (updated_in false given database) ended) tells;
    }

    -- of the first changesets of another
    pub counted_did : (whole : Given) (count : ℕ) (rows : List Tracked) → given ≡ counted_in count whole rows → OnIts whole.options.dialect (state before) (λ database. database.rows ≡ rows) → DidJob state crashes (UpdateCount count) whole before done after
    counted_did whole count rows is same =
        let dialect_is : given.options.dialect ≡ whole.options.dialect = ap (λ (g : Given). g.options.dialect) is in
        let there : (database : Database) → HasDatabase whole.options.dialect (state before) database → HasDatabase given.options.dialect (state before) database = λ database has. subst (λ (d : Dialect). HasDatabase d (state before) database) (sym dialect_is) has in
        let now : (database : Database) → HasDatabase whole.options.dialect (state before) database → given ≡ counted_in count whole database.rows = λ database has. is ∙ ap (λ (rs : List Tracked). counted_in count whole rs) (sym (same database has)) in
        let did = updated_did [] in
        record {
          answers = λ database has. subst (λ (g : Given). Answers (refusal command.Update g database) done) (now database has) (did.answers database (there database has));
          refused = λ database has. subst (λ (g : Given). IsKept (refusal command.Update g database) before after) (now database has) (did.refused database (there database has));
          reads = λ only. absurd (false_true only);
          works = λ database has. subst (λ (g : Given). Works g.options.dialect (update_script g database) database (state before) done (state after)) (now database has) (did.works database (there database has));
          any_moment = λ database has. subst (λ (g : Given). CrashesIn g.options.dialect (update_script g database) database (state before) (crashes before) (crashes after)) (now database has) (did.any_moment database (there database has));
          tells = λ database has. subst (λ (g : Given). TellsJob (UpdateTo []) g database done) (now database has) (did.tells database (there database has));
        }

  -- the checksums are taken
  pub cleared_did : (given : Given) (before : S) (done : Result Done Status) (after : S) → OnIts given.options.dialect (state before) (λ database. Answers (held database) done)
      → OnIts given.options.dialect (state before) (λ database. IsKept (held database) before after)
      → OnIts given.options.dialect (state before) (λ database. Works given.options.dialect (clear_calls database) database (state before) done (state after))
      → OnIts given.options.dialect (state before) (λ database. CrashesIn given.options.dialect (clear_calls database) database (state before) (crashes before) (crashes after))
      → IfOk done (λ (ended : Done). OnIts given.options.dialect (state before) (λ database. EndsText (cleared_text (length database.rows)) ended)) → DidJob state crashes ClearSums given before done after
  cleared_did given before done after answers refused works moments tells = record {
    answers = answers;
    refused = refused;
    reads = λ only. absurd (false_true only);
    works = works;
    any_moment = moments;
    tells = on_its_tells given.options.dialect (state before) done (λ ended database. EndsText (cleared_text (length database.rows)) ended) tells;
  }

  -- the list of the rows
  pub listed_did : (given : Given) (before : S) (done : Result Done Status) → Answers None done → OnIts given.options.dialect (state before) (λ database. Works given.options.dialect [] database (state before) done (state before))
      → IfOk done (λ (ended : Done). OnIts given.options.dialect (state before) (λ database. TellsText (history_text database.rows) ended)) → DidJob state crashes History given before done before
  listed_did given before done answers works tells = record {
    answers = λ database has. answers;
    refused = λ database has. kept_none None before before refl;
    reads = λ only. refl;
    works = works;
    any_moment = λ database has. untouched_crashes given.options.dialect [] database (state before) (crashes before);
    tells = λ database has. text_ends (history_text database.rows) done (on_its_tells given.options.dialect (state before) done (λ ended database. TellsText (history_text database.rows) ended) tells database has);
  }

-- the rows of the database are listed
pub rows_told : (d : Dialect) (x : State) (rows : List Tracked) (r : Result Done Status) → OnIts d x (λ (database : Database). database.rows ≡ rows) → IfOk r (λ (done : Done). done.status ≡ status.Done)
    → IfOk r (λ (done : Done). done.out ≡ Some (history_text rows)) → IfOk r IsQuiet → IfOk r (λ (done : Done). OnIts d x (λ (database : Database). TellsText (history_text database.rows) done))
rows_told d x rows (Ok done) same is tells quiet = λ database has. record { status = is; out = tells ∙ ap (λ (rs : List Tracked). Some (history_text rs)) (sym (same database has)); warned = quiet_lines done quiet }
rows_told d x rows (Err s) same is tells quiet = tt
