-- A soak that is not done ends as its update or its rollback does.
use Rattle.std.proofs.Common.{ap, inl, inr, refl, subst, sym, ◌∙◌}
use Rattle.std.specs.Prelude.{Bool, Err, IfErr, List, None, Ok, Option, Result, Some, [], false, true, ℕ, ◌≡◌}
use Rattle.lq_base.specs.declared.command.Command.{Command}
use Rattle.lq_base.specs.declared.command.Command.TheVariants as command
use Rattle.lq_base.specs.declared.dialect.Dialect.{Dialect}
use Rattle.lq_cli.specs.declared.line.Job.TheVariants.{Run}
use Rattle.lq_commands.specs.Outputs.{TellsJob}
use Rattle.lq_commands.specs.Refusals.{Answers, IsFault, ends, refusal}
use Rattle.lq_commands.specs.Stamp.{stamp_of}
use Rattle.lq_commands.specs.Works.{status_by, OnIts, is_finished}
use Rattle.lq_commands.specs.declared.given.Given.{Given}
use Rattle.lq_db.specs.Db.{IsDb, IsNew, IsValid, state}
use Rattle.lq_db.specs.declared.db.Db.{Db}
use Rattle.lq_kinds.specs.declared.change_set.Changelog.{Changelog}
use Rattle.lq_outside.specs.Crash.{Crashes}
use Rattle.lq_store.specs.Executor.{Held}
use Rattle.lq_store.specs.Journal.{State}
use Rattle.lq_tell.specs.declared.done.Done.{Done}
use Rattle.lq_tell.specs.declared.status.Status.{Status}
use Rattle.lq_tell.specs.declared.status.Status.TheVariants as status
use Rattle.lq_track.specs.Database.{Database}
use Rattle.lq_turns.specs.declared.stamp.Stamp.{Stamp}
use Rattle.lq_turns.specs.declared.stop.Stop.{Stop}
use Rattle.lq_jobs.specs.Bytes.{Holds, most_bytes, copy_status}
use Rattle.lq_soak.proofs.SoakRuns.{has_it, nothing_holds, same_made}
use Rattle.lq_soak.specs.Soaked.{Did, DidOn, DidOnEach, Ended, EndsIn, EndsOn, EndsOnEach, FailsSoak, IsMade, LacksOr, TellsSoak, empty, is_done, soak_given, stop_in, take_back, updated}

false_true : false ≡ true → ⊥
false_true h = Prim.cc

true_false : true ≡ false → ⊥
true_false h = Prim.cc

-- it came to its end in its run

ends_so : (s : Status) (stop : Option Stop) → ends s ≡ true → (is_finished s ≡ true → s ≡ status_by stop) → EndsIn None stop s
ends_so status.Done stop is tells = inl (tells refl)
ends_so (status.Halted place why) stop is tells = inl (tells refl)
ends_so (status.Refused identity statement kept reason) stop is tells = inl (tells refl)
ends_so (status.Full used next) stop is tells = inr (used, next, refl)
ends_so s stop is tells = absurd (false_true is)

told_stop : (c : Command) (given : Given) (database : Database) (done : Done) → TellsJob (Run c) given database (Ok done) → is_finished done.status ≡ true → done.status ≡ status_by (stop_in c given database)
told_stop command.Validate given database done tells finished = (tells.0 finished).status
told_stop command.Status given database done tells finished = (tells.0 finished).status
told_stop command.Update given database done tells finished = (tells.0 finished).status
told_stop (command.Tag name) given database done tells finished = (tells.0 finished).status
told_stop (command.Rollback target) given database done tells finished = (tells.0 finished).status
told_stop command.Sync given database done tells finished = (tells.0 finished).status
told_stop command.Release given database done tells finished = (tells.0 finished).status

done_so : (o : Option Status) (stop : Option Stop) (done : Done) → Answers o (Ok done) → (is_finished done.status ≡ true → done.status ≡ status_by stop) → EndsIn o stop done.status
done_so None stop done answers tells = ends_so done.status stop answers tells
done_so (Some refused) stop done answers tells = absurd answers

-- so it stops where it is not done
pub run_stops : (d : Dialect) (x : State) (c : Command) (given : Given) (done : Done) (r : Result (Unit {0}) Status) → OnIts d x (λ database. Answers (refusal c given database) (Ok done)) → OnIts d x (λ database. TellsJob (Run c) given database (Ok done))
    → IfErr r (λ s. s ≡ done.status) → IfErr r (λ s. LacksOr s (OnIts d x (λ database. EndsOn c given database s)))
run_stops d x c given done (Ok u) answers tells is = tt
run_stops d x c given done (Err s) answers tells is =
    inr (λ database has. subst (EndsOn c given database) (sym is) (done_so (refusal c given database) (stop_in c given database) done (answers database has) (told_stop c given database done (tells database has))))

-- it failed

abbrev faulty : Status → Bool
faulty status.DiskFault = true
faulty status.OutOfMemory = true
faulty s = false

memory_copy : (s : Status) → faulty s ≡ true → copy_status s ≡ status.OutOfMemory
memory_copy status.DiskFault is = refl
memory_copy status.OutOfMemory is = refl
memory_copy s is = absurd (false_true is)

same_copy : (s : Status) → faulty s ≡ false → copy_status s ≡ s
same_copy status.DiskFault is = absurd (true_false is)
same_copy s is = refl

no_fault : (s : Status) → faulty s ≡ false → IsFault s → ⊥
no_fault s is (inl disk) = true_false (sym (ap faulty disk) ∙ is)
no_fault s is (inr memory) = true_false (sym (ap faulty memory) ∙ is)

refused_so : (o : Option Status) (stop : Option Stop) (s : Status) → faulty s ≡ false → Answers o (Err s) → EndsIn o stop s
refused_so None stop s is fault = absurd (no_fault s is fault)
refused_so (Some refused) stop s is (inl same) = same
refused_so (Some refused) stop s is (inr fault) = absurd (no_fault s is fault)

pub fails_so : (d : Dialect) (x : State) (c : Command) (given : Given) (s now : Status) → OnIts d x (λ database. Answers (refusal c given database) (Err s)) → now ≡ copy_status s → LacksOr now (OnIts d x (λ database. EndsOn c given database now))
fails_so d x c given s now answers is = by (faulty s) refl where
  by : (b : Bool) → faulty s ≡ b → LacksOr now (OnIts d x (λ database. EndsOn c given database now))
  by true fault = inl (is ∙ memory_copy s fault)
  by false none = inr (λ database has. subst (EndsOn c given database) (sym (is ∙ same_copy s none)) (refused_so (refusal c given database) (stop_in c given database) s none (answers database has)))

-- of the changelog that is made, on a file
pub ended_so : (d : Dialect) (number sets : ℕ) (stamp : Stamp) (c : Command) (given : Given) (told before : Option (List ℕ)) (s : Status) → given ≡ soak_given d given.changelog stamp → IsMade d number sets given.changelog → told ≡ before
    → LacksOr s (EndsOnEach given c told s) → LacksOr s (Ended d number sets stamp c before s)
ended_so d number sets stamp c given told before s given_is made same (inl memory) = inl memory
ended_so d number sets stamp c given told before s given_is made same (inr each) = inr (record {
  changelog = given.changelog;
  made = made;
  ends = subst (λ (o : Option (List ℕ)). EndsOnEach (soak_given d given.changelog stamp) c o s) same (subst (λ (g : Given). EndsOnEach g c told s) given_is each);
})

pub err_map : {A E : Type 0} (r : Result A E) (P Q : E → Type 0) → IfErr r P → ((e : E) → P e → Q e) → IfErr r Q
err_map (Ok a) P Q p f = tt
err_map (Err e) P Q p f = f e p

-- on a database that was loaded from a file that holds one
pub ends_each : {D P E : Type 0} (given : Given) (p : Dialect) (told now : Option (List ℕ)) (crashes later : Crashes) (h k : Held) (db left : Db D P E) → IsDb p told crashes h db → IsNew given.options.dialect most_bytes db → IsValid p now later k left
    → (c : Command) (s : Status) → LacksOr s (OnIts given.options.dialect (state told h db) (λ database. EndsOn c given database s)) → LacksOr s (EndsOnEach given c told s)
ends_each given p told now crashes later h k db left is new valid c s (inl memory) = inl memory
ends_each given p told now crashes later h k db left is new valid c s (inr on) = inr (λ database holds. on database (has_it given p told now crashes later h k db left is new valid database holds))

-- the update ended the soak
pub update_stops : (d : Dialect) (number sets : ℕ) (stamp : Stamp) (begins : Option (List ℕ)) (s : Status) → begins ≡ Some [] → LacksOr s (Ended d number sets stamp command.Update begins s) → FailsSoak d number sets stamp s
update_stops d number sets stamp begins s nothing (inl memory) = inl memory
update_stops d number sets stamp begins s nothing (inr ended) = inr (record {
  changelog = ended.changelog;
  made = ended.made;
  ends = inl (ended.ends empty (subst (λ (o : Option (List ℕ)). Holds d o empty) (sym nothing) (nothing_holds d)));
})

-- or the rollback of what it left
pub back_stops : (d : Dialect) (number sets : ℕ) (stamp : Stamp) (begins told here : Option (List ℕ)) (r t : ℕ) (s : Status) → begins ≡ Some [] → Did d number sets stamp command.Update begins told r t → here ≡ told
    → LacksOr s (Ended d number sets stamp (take_back sets) here s) → FailsSoak d number sets stamp s
back_stops d number sets stamp begins told here r t s nothing did same (inl memory) = inl memory
back_stops d number sets stamp begins told here r t s nothing did same (inr ended) =
    let given = soak_given d did.changelog stamp in
    let done : DidOn given command.Update sets empty (Some []) told r t = subst (λ (o : Option (List ℕ)). DidOnEach given command.Update sets o told r t) nothing did.does empty (nothing_holds d) in
    let each : EndsOnEach given (take_back sets) here s =
    subst (λ (g : Changelog). EndsOnEach (soak_given d g stamp) (take_back sets) here s) (same_made d number sets ended.changelog did.changelog ended.made did.made) ended.ends in
    inr (record {
      changelog = did.changelog;
      made = did.made;
      ends = inr (each (updated given).committed (subst (λ (o : Option (List ℕ)). Holds d o (updated given).committed) (sym same) done.becomes.holds));
    })

-- by the reading that the clock gave last
pub fails_soak : (d : Dialect) (number sets : ℕ) (who : List ℕ) (last reading : ℕ) (s : Status) → is_done s ≡ false → last ≡ reading → FailsSoak d number sets (stamp_of who reading) s → TellsSoak d number sets (stamp_of who last) (Err s)
fails_soak d number sets who last reading s undone same fails = (undone, inr (subst (λ (n : ℕ). FailsSoak d number sets (stamp_of who n) s) (sym same) fails))
