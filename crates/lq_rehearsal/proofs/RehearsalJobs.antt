-- The runs of a rehearsal, from what updates and rollbacks do, and the job that they are.
use Rattle.std.proofs.Common.{ap, refl, rules, subst, sym, tests, ◌∙◌}
use Rattle.std.specs.Option.{option_or}
use Rattle.std.specs.Prelude.{Err, IfOk, List, None, Ok, Option, Result, Some, [], false, length, true, ℕ, ◌++◌, ◌≡◌, ◌≤◌}
use Rattle.lq_base.specs.declared.command.Command.TheVariants as command
use Rattle.lq_base.specs.declared.command.Target.TheVariants.{Count}
use Rattle.lq_base.specs.declared.dialect.Dialect.{Dialect}
use Rattle.lq_base.specs.declared.tracking.Tracked.{Tracked}
use Rattle.lq_cli.specs.declared.line.Job.TheVariants.{UpdateTestingRollback}
use Rattle.lq_kinds.specs.ReadFor.{AreFor}
use Rattle.lq_run.specs.Commands.{HasDatabase, Leaves}
use Rattle.lq_run.specs.Crashes.{LeftBehind}
use Rattle.lq_store.specs.Journal.{Crashes, IsStore, State}
use Rattle.lq_tell.specs.declared.done.Done.{Done}
use Rattle.lq_tell.specs.declared.status.Status.{Status}
use Rattle.lq_tell.specs.declared.status.Status.TheVariants as status
use Rattle.lq_track.specs.Database.{Database}
use Rattle.lq_commands.proofs.Commanded.{answers_so, first_refuses, kept_none, none_of}
use Rattle.lq_commands.proofs.Endings.{untouched_crashes, untouched_works}
use Rattle.lq_rehearsal.proofs.FirstScripts.{ready_again, rollback_first, update_first}
use Rattle.lq_rehearsal.proofs.OneAfterAnother.{behind_first, crash_first}
use Rattle.lq_rehearsal.proofs.Rehearsed.{IsJoined, both_did, done_is, done_not, stopped_did}
use Rattle.lq_commands.proofs.Sequenced.{IsOver}
use Rattle.lq_rehearsal.proofs.Shut.{rollback_over, update_over}
use Rattle.lq_commands.proofs.Telling.{failed_tells}
use Rattle.lq_commands.specs.Jobs.{DidJob}
use Rattle.lq_rehearsal.specs.Returns.{is_done, DidRun}
use Rattle.lq_commands.specs.Outputs.{back_in}
use Rattle.lq_commands.specs.Refusals.{Answers, IsFault, Passes, ends, own_halt, refusal, unready}
use Rattle.lq_commands.specs.Rehearsal.{Run, EndsRun, after_update, came, rehearsal, rehearsal_refusal, takes_back, then_run, unrehearsed, updates, updates_again}
use Rattle.lq_commands.specs.Scripts.{rollback_script, sets_script, settled_in, update_script, updated_in}
use Rattle.lq_commands.specs.Works.{EndsRollback, EndsUpdate, CrashesIn, IsKept, IsReady, OnIts, Works, is_finished}
use Rattle.lq_commands.specs.declared.given.Given.{Given}

false_true : false ≡ true → ⊥
false_true h = Prim.cc

-- a database has at most 100,000 rows
pub few_rows : (d : Dialect) (x : State) (database : Database) → HasDatabase d x database → (rows : List Tracked) → database.rows ≡ rows → length rows ≤ 100000
few_rows d x database has rows same = subst (λ (rs : List Tracked). length rs ≤ 100000) same (let few = has.committed.few in search (rules, tests))

-- what answers is refused by no check
ok_none : (o : Option Status) (done : Done) → Answers o (Ok done) → o ≡ None
ok_none None done answers = refl
ok_none (Some refused) done answers = absurd answers

ok_ends : (o : Option Status) (done : Done) → Answers o (Ok done) → ends done.status ≡ true
ok_ends None done answers = answers
ok_ends (Some refused) done answers = absurd answers

module _ {S : Type 0} (state : S → State) (crashes : S → Crashes) (given : Given) (before after : S) where
  abbrev d : Dialect
  d = given.options.dialect

  abbrev On : (Database → Type 0) → Type 0
  On holds = OnIts d (state before) holds

  -- an update without its changelog's own condition
  pub again_run : (r : Result Done Status) → IsReady d (state before) → Answers None r → On (λ database. Works d (sets_script given database) database (state before) r (state after))
      → On (λ database. CrashesIn d (sets_script given database) database (state before) (crashes before) (crashes after))
      → IfOk r (λ (done : Done). On (λ database. EndsUpdate false (settled_in false given database) done)) → DidRun state crashes d (updates_again given) before r after
  again_run (Ok done) ready answers works moments tells = record {
    answers = answers;
    works = works;
    any_moment = moments;
    tells = λ database has. let it = tells database has in ((λ finished. let told = it.0 finished in record { status = told.status; out = told.out; warned = told.warned }), it.1);
  }
  again_run (Err s) ready answers works moments tells = record { answers = answers; works = works; any_moment = moments; tells = λ database has. tt }

  -- the rollback of so many rows, which came behind those that stay

  module _ (stay n : ℕ) (same : On (λ database. n ≡ came stay database)) where
    abbrev BackWorks : Result Done Status → Type 0
    BackWorks r = On (λ database. Works d (rollback_script given (Count n) database) database (state before) r (state after))

    abbrev BackCrashes : Type 0
    BackCrashes = On (λ database. CrashesIn d (rollback_script given (Count n) database) database (state before) (crashes before) (crashes after))

    pub back_run : (done : Done) → IsReady d (state before) → On (λ database. Answers (refusal (command.Rollback (Count n)) given database) (Ok done)) → BackWorks (Ok done) → BackCrashes
        → On (λ database. EndsRollback false (back_in false given (Count n) database) done) → DidRun state crashes d (takes_back given stay) before (Ok done) after
    back_run done ready answers works moments tells = record {
      answers = ok_ends (refusal (command.Rollback (Count n)) given ready.database) done (answers ready.database ready.has);
      works = λ database has. subst (λ (m : ℕ). Works d (rollback_script given (Count m) database) database (state before) (Ok done) (state after)) (same database has) (works database has);
      any_moment = λ database has. subst (λ (m : ℕ). CrashesIn d (rollback_script given (Count m) database) database (state before) (crashes before) (crashes after)) (same database has) (moments database has);
      tells = λ database has.
          let it = subst (λ (m : ℕ). EndsRollback false (back_in false given (Count m) database) done) (same database has) (tells database has) in
          ((λ finished. let told = it.0 finished in record { status = told.status; out = told.out; warned = told.warned }), it.1);
    }

    pub back_failed : (s t : Status) → IsFault t → BackWorks (Err s) → BackCrashes → DidRun state crashes d (takes_back given stay) before (Err t) after
    back_failed s t fault works moments = record {
      answers = fault;
      works = λ database has. subst (λ (m : ℕ). LeftBehind d (rollback_script given (Count m) database) database (state before) (state after)) (same database has) (works database has);
      any_moment = λ database has. subst (λ (m : ℕ). CrashesIn d (rollback_script given (Count m) database) database (state before) (crashes before) (crashes after)) (same database has) (moments database has);
      tells = λ database has. tt;
    }

  -- the first update, once the other checks are passed

  module _ (stay : ℕ) (are : On (λ database. length database.rows ≡ stay)) (passed : On (λ database. unready given database ≡ None)) (free : On (λ database. unrehearsed given database.rows ≡ None)) where
    refusal_is : (database : Database) → HasDatabase d (state before) database → rehearsal_refusal given database ≡ own_halt given database
    refusal_is database has =
        ap (λ (o : Option Status). option_or o (option_or (unrehearsed given database.rows) (own_halt given database))) (passed database has)
        ∙ ap (λ (o : Option Status). option_or o (own_halt given database)) (free database has)

    update_is : (database : Database) → HasDatabase d (state before) database → refusal command.Update given database ≡ own_halt given database
    update_is database has = ap (λ (o : Option Status). option_or o (own_halt given database)) (passed database has)

    both_are : (database : Database) → HasDatabase d (state before) database → refusal command.Update given database ≡ rehearsal_refusal given database
    both_are database has = update_is database has ∙ sym (refusal_is database has)

    run_is : (database : Database) → HasDatabase d (state before) database → rehearsal given database ≡ then_run d (updates given) (after_update given stay)
    run_is database has = ap (λ (n : ℕ). then_run d (updates given) (after_update given n)) (are database has)

    pub first_failed : (s : Status) (r : Result Done Status) → r ≡ Err s → On (λ database. Answers (refusal command.Update given database) (Err s)) → On (λ database. IsKept (refusal command.Update given database) before after)
        → On (λ database. Works d (update_script given database) database (state before) (Err s) (state after)) → On (λ database. CrashesIn d (update_script given database) database (state before) (crashes before) (crashes after))
        → DidJob state crashes UpdateTestingRollback given before r after
    first_failed s r is answers refused works moments = subst (λ (q : Result Done Status). DidJob state crashes UpdateTestingRollback given before q after) (sym is) (record {
      answers = λ database has. subst (λ (o : Option Status). Answers o (Err s)) (both_are database has) (answers database has);
      refused = λ database has. subst (λ (o : Option Status). IsKept o before after) (both_are database has) (refused database has);
      reads = λ only. absurd (false_true only);
      works = λ database has. behind_first d (update_script given database) _ database (update_over given database) (state before) (state after) (works database has);
      any_moment = λ database has. crash_first d (update_script given database) _ database (update_over given database) (state before) (crashes before) (crashes after) (moments database has);
      tells = λ database has. tt;
    })

  -- of an update that answers
  pub update_run : (done : Done) → IsReady d (state before) → On (λ database. Answers (refusal command.Update given database) (Ok done))
      → On (λ database. Works d (update_script given database) database (state before) (Ok done) (state after)) → On (λ database. CrashesIn d (update_script given database) database (state before) (crashes before) (crashes after))
      → On (λ database. EndsUpdate false (updated_in false given database) done) → DidRun state crashes d (updates given) before (Ok done) after
  update_run done ready answers works moments tells = record {
    answers = ok_ends (refusal command.Update given ready.database) done (answers ready.database ready.has);
    works = works;
    any_moment = moments;
    tells = λ database has. let it = tells database has in ((λ finished. let told = it.0 finished in record { status = told.status; out = told.out; warned = told.warned }), it.1);
  }

-- the whole job, whose update answered
module _ {S : Type 0} (state : S → State) (crashes : S → Crashes) (given : Given) (before mid after : S) (stay : ℕ) (are : OnIts given.options.dialect (state before) (λ database. length database.rows ≡ stay))
    (passed : OnIts given.options.dialect (state before) (λ database. unready given database ≡ None)) (free : OnIts given.options.dialect (state before) (λ database. unrehearsed given database.rows ≡ None)) where
  pub run_did : (first : Done) (r : Result Done Status) → OnIts given.options.dialect (state before) (λ database. Answers (refusal command.Update given database) (Ok first))
      → DidRun state crashes given.options.dialect (then_run given.options.dialect (updates given) (after_update given stay)) before r after → DidJob state crashes UpdateTestingRollback given before r after
  run_did first r answers did = record {
    answers = λ database has. answers_so (rehearsal_refusal given database) r (none database has) did.answers;
    refused = λ database has. kept_none (rehearsal_refusal given database) before after (none database has);
    reads = λ only. absurd (false_true only);
    works = λ database has. subst (λ (run : Run). Works given.options.dialect (run.calls database) database (state before) r (state after)) (sym (run_is state crashes given before mid stay are passed free database has)) (did.works database has);
    any_moment = λ database has. subst (λ (run : Run). CrashesIn given.options.dialect (run.calls database) database (state before) (crashes before) (crashes after)) (sym (run_is state crashes given before mid stay are passed free database has)) (did.any_moment database has);
    tells = λ database has. subst (λ (run : Run). IfOk r (λ (ended : Done). EndsRun (run.told database) ended)) (sym (run_is state crashes given before mid stay are passed free database has)) (did.tells database has);
  }
    where
      none : (database : Database) → HasDatabase given.options.dialect (state before) database → rehearsal_refusal given database ≡ None
      none database has = sym (both_are state crashes given before mid stay are passed free database has) ∙ ok_none (refusal command.Update given database) first (answers database has)

-- what the checks refuse, with the store as it was
module _ {S : Type 0} (state : S → State) (crashes : S → Crashes) (given : Given) (before : S) where
  pub checked_did : (r : Result Done Status) (s : Status) → r ≡ Err s → OnIts given.options.dialect (state before) (λ database. Answers (rehearsal_refusal given database) r) → DidJob state crashes UpdateTestingRollback given before r before
  checked_did r s is answers = record {
    answers = answers;
    refused = λ database has some. refl;
    reads = λ only. refl;
    works = λ database has. untouched_works given.options.dialect ((rehearsal given database).calls database) database (state before) r s is has;
    any_moment = λ database has. untouched_crashes given.options.dialect ((rehearsal given database).calls database) database (state before) (crashes before);
    tells = λ database has. failed_tells UpdateTestingRollback given database r s is;
  }

module _ (given : Given) (database : Database) (r : Result Done Status) (s : Status) (is : r ≡ Err s) where
  -- by the lock, or the rows
  pub unready_answers : Passes {A = List Tracked} (unready given database) (Err s) → Answers (rehearsal_refusal given database) r
  unready_answers passes = first_refuses (List Tracked) (unready given database) (option_or (unrehearsed given database.rows) (own_halt given database)) s r passes is

  -- by a changeset that cannot be taken back
  pub bound_answers : (rows : List Tracked) → database.rows ≡ rows → Passes (unready given database) (Ok rows) → Passes {A = Unit {0}} (unrehearsed given rows) (Err s) → Answers (rehearsal_refusal given database) r
  bound_answers rows same ready passes =
      subst (λ (o : Option Status). Answers (option_or o (option_or (unrehearsed given database.rows) (own_halt given database))) r) (sym (none_of (unready given database) rows ready))
      (first_refuses (Unit {0}) (unrehearsed given database.rows) (own_halt given database) s r (subst (λ (rs : List Tracked). Passes {A = Unit {0}} (unrehearsed given rs) (Err s)) (sym same) passes) is)

-- the rollback, and then the update again

module _ {S : Type 0} (state : S → State) (crashes : S → Crashes) (given : Given) (before mid : S) (stay : ℕ) where
  abbrev back_over : OnIts given.options.dialect (state before) (λ database. IsOver given.options.dialect ((takes_back given stay).calls database) database)
  back_over = λ database has. rollback_over given database (Count (came stay database))

  pub failed_back : (s : Status) (r : Result Done Status) → r ≡ Err s → DidRun state crashes given.options.dialect (takes_back given stay) before (Err s) mid → DidRun state crashes given.options.dialect (after_update given stay) before r mid
  failed_back s r is did =
      subst (λ (q : Result Done Status). DidRun state crashes given.options.dialect (after_update given stay) before q mid) (sym is)
      (stopped_did state crashes given.options.dialect (takes_back given stay) (updates_again given) before back_over mid (Err s) did tt)

  module _ (first : Done) (did : DidRun state crashes given.options.dialect (takes_back given stay) before (Ok first) mid) where
    pub stopped_back : is_done first.status ≡ false → DidRun state crashes given.options.dialect (after_update given stay) before (Ok first) mid
    stopped_back is = stopped_did state crashes given.options.dialect (takes_back given stay) (updates_again given) before back_over mid (Ok first) did (done_not first.status is)

    module _ (done : is_done first.status ≡ true) (ready : IsReady given.options.dialect (state before)) (store : (state mid).live ≡ true → IsStore (state mid)) where
      back_leaves : OnIts given.options.dialect (state before) (λ database. Leaves given.options.dialect ((takes_back given stay).calls database) database (state before) (state mid))
      back_leaves = λ database has. (did.works database has).0 (ap is_finished (done_is first.status done))

      back_store : IsStore (state mid)
      back_store = store (back_leaves ready.database ready.has).database_is.live

      pub ready_back : IsReady given.options.dialect (state mid)
      ready_back = ready_again given.options.dialect (state before) (state mid) (takes_back given stay).calls ready back_leaves (λ database has. rollback_first given database (Count (came stay database))) back_store

      pub joined_back : (after : S) (r whole : Result Done Status) → ((state after).live ≡ true → IsStore (state after)) → DidRun state crashes given.options.dialect (updates_again given) mid r after → IsJoined first r whole
          → DidRun state crashes given.options.dialect (after_update given stay) before whole after
      joined_back after r whole later more joined =
          both_did state crashes given.options.dialect (takes_back given stay) (updates_again given) before back_over mid after first r whole (done_is first.status done) did back_store later more joined

-- the update, and then those two

module _ {S : Type 0} (state : S → State) (crashes : S → Crashes) (given : Given) (before mid : S) (stay : ℕ) (are : OnIts given.options.dialect (state before) (λ database. length database.rows ≡ stay))
    (passed : OnIts given.options.dialect (state before) (λ database. unready given database ≡ None)) (free : OnIts given.options.dialect (state before) (λ database. unrehearsed given database.rows ≡ None)) (ready : IsReady given.options.dialect (state before))
    (first : Done) (answers : OnIts given.options.dialect (state before) (λ database. Answers (refusal command.Update given database) (Ok first)))
    (works : OnIts given.options.dialect (state before) (λ database. Works given.options.dialect (update_script given database) database (state before) (Ok first) (state mid)))
    (moments : OnIts given.options.dialect (state before) (λ database. CrashesIn given.options.dialect (update_script given database) database (state before) (crashes before) (crashes mid)))
    (tells : OnIts given.options.dialect (state before) (λ database. EndsUpdate false (updated_in false given database) first)) where
  abbrev first_over : OnIts given.options.dialect (state before) (λ database. IsOver given.options.dialect ((updates given).calls database) database)
  first_over = λ database has. update_over given database

  first_run : DidRun state crashes given.options.dialect (updates given) before (Ok first) mid
  first_run = update_run state crashes given before mid first ready answers works moments tells

  pub stopped_job : is_done first.status ≡ false → DidJob state crashes UpdateTestingRollback given before (Ok first) mid
  stopped_job is =
      run_did state crashes given before mid mid stay are passed free first (Ok first) answers
      (stopped_did state crashes given.options.dialect (updates given) (after_update given stay) before first_over mid (Ok first) first_run (done_not first.status is))

  module _ (done : is_done first.status ≡ true) (read : AreFor given.options.dialect given.changelog) (store : (state mid).live ≡ true → IsStore (state mid)) where
    first_leaves : OnIts given.options.dialect (state before) (λ database. Leaves given.options.dialect (update_script given database) database (state before) (state mid))
    first_leaves = λ database has. (works database has).0 (ap is_finished (done_is first.status done))

    first_store : IsStore (state mid)
    first_store = store (first_leaves ready.database ready.has).database_is.live

    pub ready_then : IsReady given.options.dialect (state mid)
    ready_then = ready_again given.options.dialect (state before) (state mid) (update_script given) ready first_leaves (λ database has. update_first given database has.committed.sound read) first_store

    pub joined_job : (after : S) (r whole : Result Done Status) → ((state after).live ≡ true → IsStore (state after)) → DidRun state crashes given.options.dialect (after_update given stay) mid r after → IsJoined first r whole
        → DidJob state crashes UpdateTestingRollback given before whole after
    joined_job after r whole later more joined =
        run_did state crashes given before mid after stay are passed free first whole answers
        (both_did state crashes given.options.dialect (updates given) (after_update given stay) before first_over mid after first r whole (done_is first.status done) first_run first_store later more joined)
