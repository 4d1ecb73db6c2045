-- A command of any kind, as a player.
use Rattle.std.specs.List.{list_any}
use Rattle.std.specs.Prelude.{All, Bool, List, None, Option, Some, [], false, nat_eq, nat_lt, slice_get, suc, true, ℕ, ◌&&◌, ◌==◌, ◌∷◌, ◌≡◌, ◌≢◌}
use Rattle.lq_base.specs.declared.command.Command.TheVariants.{Release}
use Rattle.lq_base.specs.declared.dialect.Dialect.{Dialect}
use Rattle.lq_base.specs.declared.tracking.Lock.{Lock}
use Rattle.lq_base.specs.declared.tracking.Tracked.{Tracked}
use Rattle.lq_drill.specs.Drill.{Each, IsNew}
use Rattle.lq_drill.specs.Faults.{is_barred}
use Rattle.lq_drill.specs.Player.{Standing}
use Rattle.lq_any.specs.declared.any_change.AnyChange.{AnyChange}
use Rattle.lq_drill.specs.declared.fault.DrillFault.{DrillFault}
use Rattle.lq_players.specs.AtOnce.{HasShortTag, command_of, once_ends, once_job, once_reports, once_way}
use Rattle.lq_players.specs.RollingBack.{IsRead, back_ends, back_job, back_reports, back_way, turns_left}
use Rattle.lq_players.specs.Syncing.{FitColumns, sync_ends, sync_job, sync_reports, sync_way}
use Rattle.lq_players.specs.Tasks.{work_of}
use Rattle.lq_players.specs.Updating.{IsUpdateFor, update_ends, update_job, update_left, update_reports, update_way}
use Rattle.lq_players.specs.declared.any_command.AnyCommand.{AnyCommand}
use Rattle.lq_players.specs.declared.any_command.AnyCommand.TheVariants as any
use Rattle.lq_players.specs.declared.at_once.AtOnce.{AtOnce}
use Rattle.lq_players.specs.declared.rolling_back.RollingBack.{RollingBack}
use Rattle.lq_players.specs.declared.syncing.Syncing.{Syncing}
use Rattle.lq_players.specs.declared.updating.Updating.{Updating}
use Rattle.lq_playing.specs.Answers.{as_busy, as_failed, as_locked}
use Rattle.lq_playing.specs.Checked.{Work}
use Rattle.lq_playing.specs.Playing.{is_locked, is_owed, stands}
use Rattle.lq_playing.specs.declared.came.Came.{Came}
use Rattle.lq_playing.specs.declared.playing.Playing.{Playing}
use Rattle.lq_run.specs.Stands.{IsHeld}
use Rattle.lq_seen.specs.View.{any_meaning}
use Rattle.lq_track.specs.Database.{Database}
use Rattle.lq_track.specs.Log.{identity_of}
use Rattle.lq_turns.specs.Jobs.{Task}
use Rattle.lq_turns.specs.Rest.{NoMore}
use Rattle.lq_turns.specs.Schedule.{Holder, start}
use Rattle.lq_turns.specs.Serial.{none_early}
use Rattle.lq_turns.specs.Set.{row_at}
use Rattle.lq_turns.specs.declared.stamp.Stamp.{Stamp}

-- each kind, between two of its steps

abbrev pub once_stands : Playing AtOnce → Standing Came as_locked as_busy
once_stands p = stands any_meaning (λ (it : AtOnce). NoMore) once_way (λ (it : AtOnce) (d : Dialect). HasShortTag (command_of it.command)) once_job once_ends once_reports p

abbrev pub update_stands : Playing Updating → Standing Came as_locked as_busy
update_stands p = stands any_meaning update_left update_way IsUpdateFor update_job update_ends update_reports p

abbrev pub back_stands : Playing RollingBack → Standing Came as_locked as_busy
back_stands p = stands any_meaning (λ (it : RollingBack). turns_left it.turns) back_way IsRead back_job back_ends back_reports p

abbrev pub sync_stands : Playing Syncing → Standing Came as_locked as_busy
sync_stands p = stands any_meaning (λ (it : Syncing). NoMore) sync_way (λ (it : Syncing) (d : Dialect). FitColumns it) sync_job sync_ends sync_reports p

-- it stands as the player that it is
abbrev pub command_stands : AnyCommand → Standing Came as_locked as_busy
command_stands (any.AtOnce p) = once_stands p
command_stands (any.Update p) = update_stands p
command_stands (any.Rollback p) = back_stands p
command_stands (any.Sync p) = sync_stands p

-- a lock that it took is held
pub command_locked : (player : AnyCommand) (lock : Lock) → (command_stands player).owns lock → lock.locked ≡ true
command_locked (any.AtOnce p) = is_locked p.runner.stamp
command_locked (any.Update p) = is_locked p.runner.stamp
command_locked (any.Rollback p) = is_locked p.runner.stamp
command_locked (any.Sync p) = is_locked p.runner.stamp

-- the fault that it met is what it is to answer
pub command_owed : (player : AnyCommand) (why : DrillFault) (h : Holder Came as_locked as_busy) → (command_stands player).owes why → (command_stands player).is_at h → h.answer ≡ as_failed why
command_owed (any.AtOnce p) = is_owed any_meaning (λ (it : AtOnce). NoMore) once_way (λ (it : AtOnce) (d : Dialect). HasShortTag (command_of it.command)) once_job once_ends once_reports p
command_owed (any.Update p) = is_owed any_meaning update_left update_way IsUpdateFor update_job update_ends update_reports p
command_owed (any.Rollback p) = is_owed any_meaning (λ (it : RollingBack). turns_left it.turns) back_way IsRead back_job back_ends back_reports p
command_owed (any.Sync p) = is_owed any_meaning (λ (it : Syncing). NoMore) sync_way (λ (it : Syncing) (d : Dialect). FitColumns it) sync_job sync_ends sync_reports p

-- it has made no step, and is ready for the first one, for statements of the dialect
pub record IsUnstarted (d : Dialect) (player : AnyCommand) : Type 0 where
  pub new : (n : ℕ) → IsNew n (command_stands player)
  pub ready : (command_stands player).ready
  pub dialect : (command_stands player).dialect ≡ d

-- it is to start, with this task, and keeps what is to be printed, or not
pub record Starts (prints : Bool) (d : Dialect) (task : Task AnyChange) (player : AnyCommand) : Type 0 where
  pub unstarted : IsUnstarted d player
  pub job : (command_stands player).job ≡ work_of prints d task
  pub owns : (lock : Lock) → (command_stands player).owns lock → IsHeld task.stamp lock

-- Commands whose names differ take different locks.

-- Names without a bar: with a mark behind the name too, no lock is that of both.
abbrev pub NamesAreApart : Type 0
NamesAreApart = (one two : Stamp) → list_any (λ b. b == 124) one.who ≡ false → list_any (λ b. b == 124) two.who ≡ false → one.who ≢ two.who → (lock : Lock) → IsHeld one lock → IsHeld two lock → ⊥

-- Commands take the steps of a schedule over one store.

-- the commands of the tasks, by number; nothing is printed
abbrev pub works : Dialect → (ℕ → Task AnyChange) → ℕ → Work
works d tasks n = work_of false d (tasks n)

-- who runs the command of this number
abbrev pub name_of : (ℕ → Task AnyChange) → ℕ → List ℕ
name_of tasks n = (tasks n).stamp.who

-- The command of this number has its task. Who runs it has a name without a bar, and a lock that it took carries that.
pub record HasTask (d : Dialect) (tasks : ℕ → Task AnyChange) (n : ℕ) (r : Standing Came as_locked as_busy) : Type 0 where
  pub job : r.job ≡ work_of false d (tasks n)
  pub owns : (lock : Lock) → r.owns lock → IsHeld (tasks n).stamp lock
  pub bare : is_barred (name_of tasks n) ≡ false

-- So has each, and no two names are one.
pub record HaveTasks (d : Dialect) (tasks : ℕ → Task AnyChange) (players : List AnyCommand) : Type 0 where
  pub each : Each command_stands (HasTask d tasks) players
  pub differ : (p q : ℕ) (one two : AnyCommand) → slice_get players p ≡ Some one → slice_get players q ≡ Some two → nat_eq p q ≡ false → name_of tasks (suc p) ≢ name_of tasks (suc q)

-- no command of the schedule is a release-locks
abbrev pub NoneReleases : (ℕ → Task AnyChange) → List ℕ → Type 0
NoneReleases tasks steps = All (λ n. (tasks n).command ≢ Release) steps

-- no command makes its first call while another still runs
abbrev pub BeginInTurn : Dialect → (ℕ → Task AnyChange) → Database → List ℕ → Type 0
BeginInTurn d tasks database steps = none_early Came as_locked as_busy d (works d tasks) steps (start Came as_locked as_busy database) ≡ true

-- Rows in run order, each with a place and an identity of its own.

abbrev pub has_order : ℕ → Option Tracked → Bool
has_order n None = false
has_order n (Some row) = nat_eq row.order n

-- each row stands behind the one before it, and the first behind this place
abbrev pub stand_behind : ℕ → List Tracked → Bool
stand_behind last [] = true
stand_behind last (row ∷ rows) = nat_lt last row.order && stand_behind row.order rows

-- the first row of its identity has its place
abbrev pub is_first : Tracked → List Tracked → Bool
is_first row rows = has_order row.order (row_at (identity_of row) rows)

-- it stands behind the last place, and no row before it has its identity
abbrev pub follows : ℕ → Tracked → List Tracked → Bool
follows last row rows = nat_lt last row.order && is_first row rows
