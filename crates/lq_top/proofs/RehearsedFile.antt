-- What a rehearsal that came to its end left on its file, and that nothing refuses it.
use Rattle.std.proofs.Common.{ap, refl, subst, ◌∙◌}
use Rattle.std.specs.Prelude.{List, Option, Result, not, true, ℕ, ◌≡◌}
use Rattle.lq_beside.proofs.TablesRead.{not_is}
use Rattle.lq_cli.specs.declared.line.Job.{Job}
use Rattle.lq_cli.specs.declared.line.Job.TheVariants.{UpdateTestingRollback}
use Rattle.lq_commands.proofs.Planned.{kept}
use Rattle.lq_commands.proofs.ViewsRead.{views_are_read}
use Rattle.lq_commands.specs.Rehearsal.{rehearsal_script, rehearsed}
use Rattle.lq_commands.specs.Scripts.{log_in}
use Rattle.lq_commands.specs.Works.{status_by, is_finished}
use Rattle.lq_commands.specs.declared.given.Given.{Given}
use Rattle.lq_kinds.specs.ReadFor.{AreFor}
use Rattle.lq_model.proofs.Lists.{and_left}
use Rattle.lq_rehearsal.proofs.Returned.{returned, unrefused}
use Rattle.lq_rehearsal.specs.Returns.{Returned}
use Rattle.lq_seen.specs.View.{any_meaning}
use Rattle.lq_tell.specs.declared.done.Done.{Done}
use Rattle.lq_tell.specs.declared.status.Status.{Status}
use Rattle.lq_tell.specs.declared.status.Status.TheVariants as status
use Rattle.lq_track.specs.Database.{Database, SameDatabase, has_twin_rows}
use Rattle.lq_turns.proofs.Updates.{update_leaves}
use Rattle.lq_turns.specs.Session.{left_by}
use Rattle.lq_turns.specs.declared.stamp.Stamp.{Stamp}
use Rattle.lq_turns.specs.declared.stop.Stop.{Stop}
use Rattle.lq_jobs.proofs.OpensAgain.{was_clean}
use Rattle.lq_top.proofs.Said.{is_taken_by}
use Rattle.lq_jobs.proofs.Written.{IsWritten, over_does}
use Rattle.lq_jobs.specs.Asks.{Files}
use Rattle.lq_jobs.specs.Bytes.{Becomes}
use Rattle.lq_jobs.specs.Headline.{HasRehearsed, IsTaken, Rehearses}
use Rattle.lq_jobs.specs.Jobs.{DoesLine, is_on_file, job_refusal, job_script}
use Rattle.lq_jobs.specs.Run.{EndsBy, Runs, given_by, is_over}
use Rattle.lq_jobs.specs.Says.{Said, SaysJob}

same_again : (a b c : Database) → SameDatabase a b → SameDatabase b c → SameDatabase a c
same_again a b c one more = record { users = one.users ∙ more.users; rows = one.rows ∙ more.rows; lock = one.lock ∙ more.lock }

finished_over : (s : Status) → is_finished s ≡ true → is_over s ≡ true
finished_over status.Done finished = finished
finished_over status.Usage finished = finished
finished_over status.ReadFault finished = finished
finished_over (status.Changelog fault) finished = finished
finished_over (status.Invalid faults) finished = finished
finished_over (status.Locked lock) finished = finished
finished_over (status.Halted place why) finished = finished
finished_over (status.Refused identity statement held reason) finished = finished
finished_over status.NoTarget finished = finished
finished_over (status.NotReversible identity) finished = finished
finished_over status.NothingToUndo finished = finished
finished_over (status.NotWritable at) finished = finished
finished_over status.DiskFault finished = finished
finished_over (status.Damaged at) finished = finished
finished_over (status.Full used next) finished = finished
finished_over status.WriteFault finished = refl
finished_over status.OutOfMemory finished = finished
finished_over (status.Busy session) finished = finished

said_status : (given : Given) (database : Database) (s : Status) (before after : Option (List ℕ)) → SaysJob UpdateTestingRollback given database s before after → s ≡ status_by (rehearsed given database).stop
said_status given database s before after says = says.status

module _ {words : List (List ℕ)} {files : Files} (stamp : Stamp) (before : Option (List ℕ)) (done : Result Done Status) (after : Option (List ℕ)) (s : Status) (by : IsWritten done s)
    (it : Rehearses words files stamp before) (does : DoesLine it.asks.line.job (given_by it.asks stamp) before done after) where
  abbrev given : Given
  given = given_by it.asks stamp

  read_by : is_over s ≡ true → AreFor given.options.dialect given.changelog
  read_by over = (over_does it.asks.line.job given before done after s by it.database it.opens (does (ap is_on_file it.is_rehearsal) it.database it.opens) over).0.read

  whole : is_over s ≡ true → Returned given it.database
  whole over =
      let clean = was_clean given.options.dialect before it.database it.opens in
      returned given it.database it.may it.opens.stands.sound (not_is (has_twin_rows it.database.rows) (and_left (not (has_twin_rows it.database.rows)) _ clean)) (read_by over)

  pub has_rehearsed : Runs it.asks stamp before s after → HasRehearsed it s after
  has_rehearsed runs over =
      let d = given.options.dialect in
      let made = subst (λ (job : Job). Becomes d (job_script job given it.database) it.database before after) it.is_rehearsal ((runs (ap is_on_file it.is_rehearsal) it.database it.opens).works over) in
      let left = update_leaves any_meaning kept d given.stamp (log_in given) it.database it.opens.stands.sound it.may.unlocked (views_are_read d given.options given.changelog (read_by over)) in
      (left_by d (rehearsal_script given it.database) it.database, made.holds, same_again _ _ _ (whole over).same left)

  pub is_rehearsed : (out now : Option (List ℕ)) → Runs it.asks stamp before s after → Said it.asks stamp before s out now → IsTaken s
  is_rehearsed out now runs said =
      let ran = runs (ap is_on_file it.is_rehearsal) it.database it.opens in
      is_taken_by s
      (subst (λ (o : Option Status). EndsBy o s) (unrefused given it.database it.may) (subst (λ (job : Job). EndsBy (job_refusal job given it.database) s) it.is_rehearsal ran.ends))
      (λ finished.
      said_status given it.database s out now (subst (λ (job : Job). SaysJob job given it.database s out now) it.is_rehearsal (said it.database it.opens finished))
      ∙ ap (λ (o : Option Stop). status_by o) (whole (finished_over s finished)).ends)
