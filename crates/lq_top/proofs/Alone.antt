-- A command by itself is the one runner of a machine.
use Rattle.std.proofs.Common.{ap, append-nil, inl, inr, refl, subst, sym, ◌∙◌}
use Rattle.std.specs.Option.{option_map}
use Rattle.std.specs.Prelude.{Bool, IfSome, List, None, Option, Some, [], false, if◌then◌else◌, is_some, true, ℕ, ◌&&◌, ◌+◌, ◌++◌, ◌∷◌, ◌≡◌, ◌≤◌, ◌⊎◌}
use Rattle.lq_base.specs.declared.command.Command.{Command}
use Rattle.lq_base.specs.declared.dialect.Dialect.{Dialect}
use Rattle.lq_base.specs.declared.tracking.Lock.{Lock}
use Rattle.lq_cli.specs.declared.line.Job.{Job}
use Rattle.lq_cli.specs.declared.line.Job.TheVariants.{Run}
use Rattle.lq_commands.specs.Refusals.{refusal}
use Rattle.lq_commands.specs.Scripts.{script}
use Rattle.lq_commands.specs.Works.{is_finished}
use Rattle.lq_commands.specs.declared.given.Given.{Given}
use Rattle.lq_entries.specs.Log.{entries_in}
use Rattle.lq_drill.specs.Faults.{answer_of, freed, HadRoom, room_of_entry as room_in_drill}
use Rattle.lq_any.specs.declared.any_change.AnyChange.{AnyChange}
use Rattle.lq_model.specs.declared.caller.Room.{Room}
use Rattle.lq_playing.specs.Checked.{Work}
use Rattle.lq_players.specs.AnyCommand.{works}
use Rattle.lq_players.specs.Reports.{report_of}
use Rattle.lq_players.specs.Tasks.{refuses}
use Rattle.lq_playing.specs.Answers.{as_busy, as_locked, came, only}
use Rattle.lq_playing.specs.declared.came.Came.{Came}
use Rattle.lq_run.specs.Stands.{HadRoom as HadRoomAlone, entries_of, room_of_entry}
use Rattle.lq_store.specs.Journal.{Entry, end_of, size_of_all}
use Rattle.lq_tell.specs.declared.status.Status.{Status}
use Rattle.lq_tell.specs.declared.status.Status.TheVariants as status
use Rattle.lq_track.specs.Database.{Database}
use Rattle.lq_turns.specs.Jobs.{Task, needs_lock}
use Rattle.lq_turns.specs.Session.{all_called, session_on}
use Rattle.lq_turns.specs.Stops.{Journal}
use Rattle.lq_turns.specs.declared.answer.Answer.{Answer}
use Rattle.lq_turns.specs.declared.answer.Answer.TheVariants.{Locked}
use Rattle.lq_turns.specs.declared.call.Call.{Call}
use Rattle.lq_turns.specs.declared.deed.Deed.{Deed}
use Rattle.lq_turns.specs.declared.deed.Deed.TheVariants.{Locks}
use Rattle.lq_turns.specs.declared.deed.OnLock.TheVariants.{Freed}
use Rattle.lq_turns.specs.declared.stamp.Stamp.{Stamp}
use Rattle.lq_top.proofs.AsRunner.{calls_same, checked_of, last_answer, last_finished, refusal_told, status_said, task_of}
use Rattle.lq_jobs.proofs.InPart.{command_on_file, runs_command, same_dialect, says_command}
use Rattle.lq_top.proofs.OneRunner.{Follows, follows, refused}
use Rattle.lq_jobs.proofs.Unchanged.{becomes_same, left_same, no_room}
use Rattle.lq_drills.specs.Players.{EndsWith, HasAnswered, IsCutShort, TakesSteps, WasCutShort, status_of}
use Rattle.lq_jobs.specs.Asks.{Asks, Files}
use Rattle.lq_jobs.specs.Bytes.{Becomes, HadRoomOn, Holds, IsLeftOn, Opens, in_use, most_bytes}
use Rattle.lq_jobs.specs.Run.{EndsBy, IsOutside, Runs, RunsJob, given_by, is_end, is_over}
use Rattle.lq_jobs.specs.Says.{Said, SaysJob}

false_true : false ≡ true → ⊥
false_true h = Prim.cc

-- a run that ended came to its end, or its text could not be written, or the journal was full
ended_as : (s : Status) → is_end s ≡ true → ((is_finished s ≡ true) × (is_over s ≡ true)) ⊎ ((s ≡ status.WriteFault) ⊎ ((used : ℕ) × (next : ℕ) × (s ≡ status.Full used next)))
ended_as status.Done end = inl (refl, refl)
ended_as status.Usage end = absurd (false_true end)
ended_as status.ReadFault end = absurd (false_true end)
ended_as (status.Changelog fault) end = absurd (false_true end)
ended_as (status.Invalid faults) end = absurd (false_true end)
ended_as (status.Locked lock) end = absurd (false_true end)
ended_as (status.Halted place why) end = inl (refl, refl)
ended_as (status.Refused identity statement kept reason) end = inl (refl, refl)
ended_as status.NoTarget end = absurd (false_true end)
ended_as (status.NotReversible identity) end = absurd (false_true end)
ended_as status.NothingToUndo end = absurd (false_true end)
ended_as (status.NotWritable at) end = absurd (false_true end)
ended_as status.DiskFault end = absurd (false_true end)
ended_as (status.Damaged at) end = absurd (false_true end)
ended_as (status.Full used next) end = inr (inr (used, next, refl))
ended_as status.WriteFault end = inr (inl refl)
ended_as status.OutOfMemory end = absurd (false_true end)
ended_as (status.Busy session) end = absurd (false_true end)

outside_not_over : (s : Status) → IsOutside s → is_over s ≡ false
outside_not_over s (inl read) = ap is_over read
outside_not_over s (inr (inl disk)) = ap is_over disk
outside_not_over s (inr (inr memory)) = ap is_over memory

-- what its checks come to is an answer alone
first_only : (held : Bool) (lock : Lock) (a : Option Answer) → (if held then Some (as_locked lock) else option_map only a) ≡ option_map only (if held then Some (Locked lock) else a)
first_only true lock a = refl
first_only false lock a = refl

-- the journal that a stop left, as a front and what frees the lock
abbrev Cut : Journal → Journal → Type 0
Cut front written = (tail : Journal) × ((tail ≡ []) ⊎ (tail ≡ freed)) × (written ≡ front ++ tail)

cut_of : {A : Type 0} (front written : Journal) → (written ≡ front) ⊎ ((written ≡ front ++ freed) × A) → Cut front written
cut_of front written (inl is) = ([], inl refl, is ∙ sym (append-nil front))
cut_of front written (inr is) = (freed, inr refl, is.0)

-- an entry may fill the journal as far in a drill as of a command by itself
room_same : (entry : List Deed) → room_of_entry entry ≡ room_in_drill entry
room_same (Locks Freed ∷ []) = refl
room_same entry = refl

room_there : (d : Dialect) (es : Journal) (o : Option (List Entry)) → IfSome o (λ (there : List Entry). HadRoomAlone d most_bytes (in_use there) es) → IfSome o (λ (there : List Entry). HadRoom d most_bytes (in_use there) es)
room_there d es None room = tt
room_there d es (Some there) room = λ front entry rest is. subst (λ (r : Room). in_use there + size_of_all (entries_of d (front ++ entry ∷ [])) ≤ end_of r most_bytes) (room_same entry) (room front entry rest is)

module _ (d : Dialect) (task : Task AnyChange) (database : Database) (before : Option (List ℕ)) (s : Status) (after : Option (List ℕ)) where
  abbrev jobs : ℕ → Work
  jobs = works d (λ n. task)

  abbrev Makes : List Call → Came → Type 0
  Makes calls a = Follows Came as_locked as_busy d jobs database calls a

  answered : (calls : List Call) (a : Came) → Makes calls a → EndsWith a.answer s → Becomes d calls database before after → HadRoomOn d calls database before → HasAnswered d task database before s after
  answered calls a made ends becomes room = record {
    steps = made.steps;
    said = a;
    gave = ap (answer_of 1) made.answers;
    first = λ k few. ap (answer_of 1) (made.silent k few);
    ends = ends;
    file = record {
      holds = subst (Holds d after) (sym made.committed) becomes.holds;
      entries = becomes.entries ∙ ap (λ (es : Journal). option_map (λ (entries : List Entry). entries ++ entries_of d es) (entries_in d most_bytes before)) (sym made.entries);
      room = subst (λ (es : Journal). IfSome (entries_in d most_bytes before) (λ (there : List Entry). HadRoom d most_bytes (in_use there) es)) (sym made.entries) (room_there d (all_called d calls (session_on database)).entries (entries_in d most_bytes before) room);
    };
  }

  cut_short : (calls : List Call) (a : Came) → Makes calls a → IsCutShort s → IsLeftOn d calls database before after → WasCutShort d task database before s after
  cut_short calls a made cause left =
      let it : Cut left.stops.front left.written = cut_of left.stops.front left.written left.stops.is in
      record {
        cause = cause;
        steps = made.steps;
        front = left.stops.front;
        rest = left.stops.rest;
        brought = made.entries ∙ left.stops.entries;
        tail = it.0;
        once = it.1;
        entries = left.entries ∙ ap (λ (es : Journal). option_map (λ (entries : List Entry). entries ++ entries_of d es) (entries_in d most_bytes before)) it.2;
      }

module _ (c : Command) (given : Given) (database : Database) (before : Option (List ℕ)) (s : Status) (after out written : Option (List ℕ)) (opens : Opens given.options.dialect before database)
    (ran : RunsJob (Run c) given database before s after) (says : is_finished s ≡ true → SaysJob (Run c) given database s out written) where
  abbrev Goes : Type 0
  Goes = HasAnswered given.options.dialect (task_of given c) database before s after ⊎ WasCutShort given.options.dialect (task_of given c) database before s after

  abbrev its_jobs : ℕ → Work
  its_jobs = works given.options.dialect (λ n. task_of given c)

  abbrev MakesIts : List Call → Came → Type 0
  MakesIts calls a = Follows Came as_locked as_busy given.options.dialect its_jobs database calls a

  -- what it comes to that makes its calls
  abbrev last_came : Came
  last_came = came (report_of false given.options.dialect (task_of given c) database) (last_answer given database c)

  -- its checks refuse it, and the file is as it was

  refused_goes : (a : Answer) → MakesIts [] (only a) → after ≡ before → (s ≡ status_of a) ⊎ IsOutside s → Goes
  refused_goes a made same (inl is) = inl (answered given.options.dialect (task_of given c) database before s after [] (only a) made (inl is) (becomes_same given.options.dialect database before after opens same) (no_room given.options.dialect database before))
  refused_goes a made same (inr out) = inr (cut_short given.options.dialect (task_of given c) database before s after [] (only a) made (inl out) (left_same given.options.dialect [] database before after opens same))

  -- or it makes its calls

  module _ (passes : refusal c given database ≡ None) (made : MakesIts (script c given database) last_came) where
    cut_goes : IsCutShort s → is_over s ≡ false → Goes
    cut_goes cause stopped = inr (cut_short given.options.dialect (task_of given c) database before s after (script c given database) last_came made cause (ran.left stopped))

    over_goes : EndsWith (last_answer given database c) s → is_over s ≡ true → Goes
    over_goes ends over = inl (answered given.options.dialect (task_of given c) database before s after (script c given database) last_came made ends (ran.works over) (ran.room passes over))

    end_goes : ((is_finished s ≡ true) × (is_over s ≡ true)) ⊎ ((s ≡ status.WriteFault) ⊎ ((used : ℕ) × (next : ℕ) × (s ≡ status.Full used next))) → Goes
    end_goes (inl both) = over_goes (inl (status_said given database c s out written (says both.0))) both.1
    end_goes (inr (inl is)) = over_goes (inr (last_finished given database c, is)) (ap is_over is)
    end_goes (inr (inr full)) = cut_goes (inr full) (ap is_over full.2)

    made_goes : (is_end s ≡ true) ⊎ IsOutside s → Goes
    made_goes (inl end) = end_goes (ended_as s end)
    made_goes (inr out) = cut_goes (inl out) (outside_not_over s out)

  by_checks : (o : Option Answer) → checked_of given database c ≡ o → Goes
  by_checks (Some a) is =
      let refusal_is : refusal c given database ≡ Some (status_of a) = refusal_told given database c ∙ ap (option_map status_of) is in
      refused_goes a (refused Came as_locked as_busy given.options.dialect its_jobs database (only a) (first_only (needs_lock c && database.lock.locked) database.lock (refuses given.options.dialect (task_of given c) database) ∙ ap (option_map only) is)) (ran.refused (ap is_some refusal_is)) (subst (λ (o : Option Status). EndsBy o s) refusal_is ran.ends)
  by_checks None is =
      let refusal_is : refusal c given database ≡ None = refusal_told given database c ∙ ap (option_map status_of) is in
      made_goes refusal_is
      (subst (λ (calls : List Call). MakesIts calls last_came) (calls_same given database c) (follows Came as_locked as_busy given.options.dialect its_jobs database (first_only (needs_lock c && database.lock.locked) database.lock (refuses given.options.dialect (task_of given c) database) ∙ ap (option_map only) is)))
      (subst (λ (o : Option Status). EndsBy o s) refusal_is ran.ends)

  goes : Goes
  goes = by_checks (checked_of given database c) refl

pub takes_steps : {words : List (List ℕ)} {files : Files} (asks : Asks words files) (stamp : Stamp) (before : Option (List ℕ)) (s : Status) (after out written : Option (List ℕ)) → Runs asks stamp before s after → Said asks stamp before s out written
    → TakesSteps asks stamp before s after
takes_steps asks stamp before s after out written runs said database opens c part is =
    let given : Given = given_by asks stamp in
    let job : Job = asks.line.job in
    let run : Command × Given = (c, part) in
    goes c part database before s after out written (subst (λ (d : Dialect). Opens d before database) (same_dialect given database run job is) opens)
    (runs_command given database run job is before s after (runs (command_on_file given database run job is) database opens))
    (λ finished. says_command given database run job is s out written (said database opens finished))
