-- A changelog is generated, or is not: the store is as it was.
use Rattle.std.specs.Prelude.{Err, IfOk, List, Ok, Result, [], ℕ, ◌≡◌}
use Rattle.lq_cli.specs.declared.line.Job.TheVariants.{Generate}
use Rattle.lq_store.specs.Journal.{Crashes, State}
use Rattle.lq_tell.specs.declared.done.Done.{Done}
use Rattle.lq_tell.specs.declared.status.Status.{Status}
use Rattle.lq_tell.specs.declared.status.Status.TheVariants as status
use Rattle.lq_commands.proofs.Endings.{untouched_crashes, works_nothing}
use Rattle.lq_commands.specs.Rehearsal.{generate_text}
use Rattle.lq_commands.specs.Outputs.{TellsJob, EndsText, TellsText}
use Rattle.lq_commands.proofs.Warned.{none_up_to}
use Rattle.lq_commands.specs.Works.{CrashesIn, OnIts, Works}
use Rattle.lq_commands.specs.declared.given.Given.{Given}

-- it came to its end with its text
is_done : (text : List ℕ) (r : Result Done Status) → IfOk r (TellsText text) → IfOk r (λ (done : Done). done.status ≡ status.Done)
is_done text (Ok done) tells = tells.status
is_done text (Err s) tells = tt

told_end : (text : List ℕ) (r : Result Done Status) → IfOk r (TellsText text) → IfOk r (λ (done : Done). EndsText text done)
told_end text (Ok done) tells = ((λ finished. tells), none_up_to [] done tells.warned)
told_end text (Err s) tells = tt

module _ (author : List ℕ) (given : Given) (x : State) (r : Result Done Status)
    (tells : OnIts given.options.dialect x (λ database. IfOk r (TellsText (generate_text author given database)))) where
  pub generated_works : OnIts given.options.dialect x (λ database. Works given.options.dialect [] database x r x)
  generated_works database has = works_nothing given.options.dialect database x r (is_done (generate_text author given database) r (tells database has)) has

  pub generated_moments : (now : Crashes) → OnIts given.options.dialect x (λ database. CrashesIn given.options.dialect [] database x now now)
  generated_moments now database has = untouched_crashes given.options.dialect [] database x now

  pub generated_told : OnIts given.options.dialect x (λ database. TellsJob (Generate author) given database r)
  generated_told database has = told_end (generate_text author given database) r (tells database has)
