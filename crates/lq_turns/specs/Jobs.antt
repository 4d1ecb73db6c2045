-- The commands of a schedule as its runners take them.
use Rattle.std.specs.Prelude.{Bool, List, Option, [], false, true, ℕ, ◌≡◌}
use Rattle.lq_base.specs.declared.command.Command.{Command}
use Rattle.lq_base.specs.declared.command.Command.TheVariants.{Release, Rollback, Status, Sync, Tag, Update, Validate}
use Rattle.lq_base.specs.declared.dialect.Dialect.{Dialect}
use Rattle.lq_base.specs.declared.tracking.Lock.{Lock}
use Rattle.lq_track.specs.Database.{Database}
use Rattle.lq_turns.specs.Schedule.{Job, all_moved, start}
use Rattle.lq_turns.specs.Script.{release_calls, sync_calls, tag_calls, update_calls}
use Rattle.lq_turns.specs.Serial.{is_early, none_early}
use Rattle.lq_turns.specs.Set.{Changelog, Meaning}
use Rattle.lq_turns.specs.Trails.{rollback_to}
use Rattle.lq_turns.specs.declared.call.Call.{Call}
use Rattle.lq_turns.specs.declared.stamp.Stamp.{Stamp}

abbrev pub needs_lock : Command → Bool
needs_lock Update = true
needs_lock Sync = true
needs_lock (Rollback target) = true
needs_lock (Tag tag) = true
needs_lock Release = false
needs_lock Validate = false
needs_lock Status = false

-- a runner's command, with its changelog, who runs it and when
pub record Task (Key : Type 0) : Type 0 where
  pub command : Command
  pub changelog : Changelog Key
  pub stamp : Stamp

module _ {Key : Type 0} (d : Dialect) (m : Meaning Key) where
  abbrev pub script_of : Command → Stamp → Changelog Key → Database → List Call
  script_of Update stamp g database = update_calls d m stamp g database
  script_of Sync stamp g database = sync_calls d stamp g database
  script_of (Rollback target) stamp g database = rollback_to d m stamp g.sets target database
  script_of (Tag tag) stamp g database = tag_calls tag database
  script_of Release stamp g database = release_calls database
  script_of Validate stamp g database = []
  script_of Status stamp g database = []

-- with what its checks refuse, and what it answers
abbrev pub job_of : {Key : Type 0} (Answer : Type 0) (locked : Lock → Answer) (busy : ℕ → Answer) → Dialect → Meaning Key → (Task Key → Database → Option Answer) → (Task Key → Database → Answer) → Task Key → Job Answer locked busy
job_of Answer locked busy d m refuses answer task = record { needs_lock = needs_lock task.command; refuses = refuses task; script = script_of d m task.command task.stamp task.changelog; answer = answer task }

-- The first runner in a schedule that makes its first call while another still runs has the command release-locks.
abbrev pub OnlyReleasesAreEarly : {Key : Type 0} → Type 0 → Meaning Key → Type 0
OnlyReleasesAreEarly {Key} Answer m = (locked : Lock → Answer) (busy : ℕ → Answer) (d : Dialect) (refuses : Task Key → Database → Option Answer) (answer : Task Key → Database → Answer) (tasks : ℕ → Task Key)
    (database : Database) (schedule : List ℕ) (n : ℕ)
    → none_early Answer locked busy d (λ k. job_of Answer locked busy d m refuses answer (tasks k)) schedule (start Answer locked busy database) ≡ true
    → is_early Answer locked busy d (λ k. job_of Answer locked busy d m refuses answer (tasks k)) n (all_moved Answer locked busy d (λ k. job_of Answer locked busy d m refuses answer (tasks k)) schedule (start Answer locked busy database)) ≡ true
    → (tasks n).command ≡ Release
