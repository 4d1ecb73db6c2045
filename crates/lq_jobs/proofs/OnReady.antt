-- What a command answers on a database that is ready.
use Rattle.std.proofs.Common.{subst, sym}
use Rattle.std.specs.Prelude.{List, Option, Result, ℕ, ◌≡◌}
use Rattle.lq_base.specs.declared.dialect.Dialect.{Dialect}
use Rattle.lq_cli.specs.declared.line.Job.{Job}
use Rattle.lq_commands.proofs.PlainRefusals.{IsPlain, print_rollback_plain, print_update_plain}
use Rattle.lq_commands.specs.Outputs.{TellsJob}
use Rattle.lq_commands.specs.Refusals.{Answers}
use Rattle.lq_commands.specs.Works.{IsReady, OnIts}
use Rattle.lq_commands.specs.declared.given.Asked.{Asked}
use Rattle.lq_commands.specs.declared.given.Given.{Given}
use Rattle.lq_run.specs.Commands.{HasDatabase}
use Rattle.lq_store.specs.Journal.{State}
use Rattle.lq_tell.specs.declared.done.Done.{Done}
use Rattle.lq_tell.specs.declared.status.Status.{Status}
use Rattle.lq_track.specs.Database.{Database}
use Rattle.lq_turns.specs.declared.stamp.Stamp.{Stamp}
use Rattle.lq_jobs.proofs.RefusedKinds.{answers_kind, answers_whole}
use Rattle.lq_jobs.specs.Bytes.{TellsDamage, given_at, job_of}
use Rattle.lq_jobs.specs.Jobs.{job_refusal}
use Rattle.lq_jobs.specs.Kinds.{IsOfDatabase}
use Rattle.lq_jobs.specs.declared.copying.Printing.{Printing}
use Rattle.lq_jobs.specs.declared.copying.Printing.TheVariants as print

module _ (d e : Dialect) (same : e ≡ d) (x : State) (ready : IsReady d x) (refused : Database → Option Status) (plain : (database : Database) → IsPlain (refused database)) (r : Result Done Status)
    (answers : OnIts e x (λ database. Answers (refused database) r)) where
  answers_there : Answers (refused ready.database) r
  answers_there = answers ready.database (subst (λ d. HasDatabase d x ready.database) (sym same) ready.has)

  pub ready_kind : IsOfDatabase r
  ready_kind = answers_kind (refused ready.database) r (plain ready.database) answers_there

  pub ready_tells : (told : Option (List ℕ)) → TellsDamage d told r
  ready_tells told = answers_whole d told (refused ready.database) r (plain ready.database) answers_there

-- what a command answers with what was given, read with the clock, it answers to what was asked for
pub answers_so : (job : Job) (asked : Asked) (stamp : Stamp) (given : Given) → given ≡ given_at asked stamp → (x : State) (r : Result Done Status)
    → OnIts given.options.dialect x (λ database. Answers (job_refusal job given database) r) → OnIts asked.options.dialect x (λ database. Answers (job_refusal job (given_at asked stamp) database) r)
answers_so job asked stamp given given_so x r answers = subst (λ (given : Given). OnIts given.options.dialect x (λ database. Answers (job_refusal job given database) r)) given_so answers

pub tells_so : (job : Job) (asked : Asked) (stamp : Stamp) (given : Given) → given ≡ given_at asked stamp → (x : State) (r : Result Done Status)
    → OnIts given.options.dialect x (λ database. TellsJob job given database r) → OnIts asked.options.dialect x (λ database. TellsJob job (given_at asked stamp) database r)
tells_so job asked stamp given given_so x r tells = subst (λ (given : Given). OnIts given.options.dialect x (λ database. TellsJob job given database r)) given_so tells

pub printing_plain : (printing : Printing) (given : Given) (database : Database) → IsPlain (job_refusal (job_of printing) given database)
printing_plain print.Update given database = print_update_plain given database
printing_plain (print.Rollback target) given database = print_rollback_plain given target.now database
