-- What a run's end says of the database that it leaves.
use Rattle.std.proofs.Common.{ap, refl, rules, subst, sym, ◌∙◌}
use Rattle.std.proofs.lemmas.List.{append-nil}
use Rattle.std.specs.Option.{option_map}
use Rattle.std.specs.Prelude.{Err, IfOk, List, None, Ok, Option, Result, Some, [], false, true, ℕ, ◌++◌, ◌≡◌}
use Rattle.lq_base.specs.declared.dialect.Dialect.{Dialect}
use Rattle.lq_model.specs.declared.fault.StoreFault.{StoreFault}
use Rattle.lq_model.specs.declared.fault.StoreFault.TheVariants as fault
use Rattle.lq_run.proofs.Behind.{none_left}
use Rattle.lq_run.proofs.Rooms.{no_entries}
use Rattle.lq_run.proofs.Since.{leave_none}
use Rattle.lq_run.specs.Commands.{HasDatabase, Leaves, LeavesAs}
use Rattle.lq_run.specs.Crashes.{LeftBehind, LeftInCommand}
use Rattle.lq_run.specs.Left.{LeavesOnce, LeftAs, RestsIn}
use Rattle.lq_run.specs.declared.runner.End.{End}
use Rattle.lq_run.specs.declared.runner.End.TheVariants as end
use Rattle.lq_store.specs.Journal.{Crashes, Entry, State}
use Rattle.lq_tell.specs.declared.done.Done.{Done}
use Rattle.lq_tell.specs.declared.status.Status.{Status}
use Rattle.lq_tell.specs.declared.status.Status.TheVariants as status
use Rattle.lq_track.specs.Database.{Database}
use Rattle.lq_turns.specs.declared.call.Call.{Call}
use Rattle.lq_commands.specs.Refusals.{fault_status}
use Rattle.lq_commands.specs.Works.{CrashesIn, FullAs, KeptLock, RestsFull, SaysFull, TellsFull, Works, is_finished, is_whole}

not_true : false ≡ true → ⊥
not_true h = Prim.cc

used_same : {a b used next : ℕ} → status.Full a b ≡ status.Full used next → a ≡ used
used_same h = Prim.cc

next_same : {a b used next : ℕ} → status.Full a b ≡ status.Full used next → b ≡ next
next_same h = Prim.cc

disk_full : {used next : ℕ} → status.DiskFault ≡ status.Full used next → ⊥
disk_full h = Prim.cc

memory_full : {used next : ℕ} → status.OutOfMemory ≡ status.Full used next → ⊥
memory_full h = Prim.cc

no_more : (o : Option (List Entry)) → o ≡ option_map (λ (entries : List Entry). entries ++ []) o
no_more None = refl
no_more (Some entries) = ap Some (sym (append-nil entries))

-- no calls leave the database as it is
pub leaves_nothing : (d : Dialect) (database : Database) (x : State) → HasDatabase d x database → Leaves d [] database x x
leaves_nothing d database x has = record { database_is = has; limit = refl; entries = no_more x.entries; used = search rules; room = no_entries d x.limit x.used }

module _ (d : Dialect) (calls : List Call) (database : Database) (x y : State) where
  pub whole_leaves : (e : End) → is_whole e ≡ true → LeavesAs d calls database x e y → Leaves d calls database x y
  whole_leaves end.Done whole leaves = leaves
  whole_leaves (end.Refused refusal) whole leaves = leaves
  whole_leaves (end.Locked lock) whole leaves = absurd leaves
  whole_leaves end.Disk whole leaves = absurd (not_true whole)
  whole_leaves (end.Full used next) whole leaves = absurd (not_true whole)
  whole_leaves end.OutOfMemory whole leaves = absurd (not_true whole)

  pub kept_lock : (e : End) → LeavesAs d calls database x e y → KeptLock e
  kept_lock end.Done leaves = tt
  kept_lock (end.Refused refusal) leaves = tt
  kept_lock (end.Locked lock) leaves = leaves
  kept_lock end.Disk leaves = tt
  kept_lock (end.Full used next) leaves = tt
  kept_lock end.OutOfMemory leaves = tt

  -- how full a full journal was

  -- whoever rests so tells how full it was
  pub says_full : (s : Status) → RestsFull d calls database x s y → SaysFull d calls database x s
  says_full s rests used next is = (rests used next is).full

  finished_full : (s : Status) → is_finished s ≡ true → RestsFull d calls database x s y
  finished_full s finished used next is = absurd (not_true (sym (ap is_finished is) ∙ finished))

  same_full : (a b : ℕ) → RestsIn d calls database x y a b → RestsFull d calls database x (status.Full a b) y
  same_full a b rests used next is = subst (λ (n : ℕ). RestsIn d calls database x y used n) (next_same is) (subst (λ (n : ℕ). RestsIn d calls database x y n b) (used_same is) rests)

  pub full_as : (e : End) → LeftAs d calls database x e y → FullAs d calls database x e y
  full_as end.Done left = tt
  full_as (end.Refused refusal) left = tt
  full_as (end.Locked lock) left = tt
  full_as end.Disk left = tt
  full_as (end.Full used next) left = left
  full_as end.OutOfMemory left = left

  full_by : (e : End) (s : Status) → TellsFull e s → FullAs d calls database x e y → RestsFull d calls database x s y
  full_by end.Done s tells full = finished_full s tells
  full_by (end.Refused refusal) s tells full = finished_full s tells
  full_by (end.Locked lock) s tells full = absurd tells
  full_by end.Disk s tells full = absurd tells
  full_by (end.Full used next) s tells full = subst (λ (t : Status). RestsFull d calls database x t y) (sym tells) (same_full used next full)
  full_by end.OutOfMemory s tells full = absurd tells

  -- of a call that stands alone
  pub full_once : (why : StoreFault) → LeavesOnce d calls database x (Err why) y → RestsFull d calls database x (fault_status why) y
  full_once fault.Disk leaves used next is = absurd (disk_full is)
  full_once (fault.Full a b) leaves used next is = same_full a b leaves.1 used next is
  full_once fault.OutOfMemory leaves used next is = absurd (memory_full is)
  full_once (fault.Busy n) leaves used next is = absurd leaves
  full_once fault.NotSql leaves used next is = absurd leaves
  full_once (fault.Refused reason) leaves used next is = absurd leaves

  pub works_by : (e : End) (r : Result Done Status) → IfOk r (λ (done : Done). is_finished done.status ≡ true → is_whole e ≡ true) → IfOk r (λ (done : Done). TellsFull e done.status) → LeavesAs d calls database x e y
      → LeftBehind d calls database x y → FullAs d calls database x e y → Works d calls database x r y
  works_by e (Ok done) whole tells leaves left full = (λ finished. whole_leaves e (whole finished) leaves, λ stopped. left, full_by e done.status tells full)
  works_by e (Err s) whole tells leaves left full = left

  -- one that is done
  pub done_works : (done : Done) → done.status ≡ status.Done → Leaves d calls database x y → Works d calls database x (Ok done) y
  done_works done is leaves = (λ finished. leaves, λ unfinished. absurd (not_true (sym unfinished ∙ ap is_finished is)), finished_full done.status (ap is_finished is))

  -- it met a fault, or there was no memory
  pub works_left : (r : Result Done Status) (s : Status) → r ≡ Err s → LeftBehind d calls database x y → Works d calls database x r y
  works_left r s is left = subst (λ (q : Result Done Status). Works d calls database x q y) (sym is) left

  -- what is done has the same status
  pub works_same : (before after : Done) → after.status ≡ before.status → Works d calls database x (Ok before) y → Works d calls database x (Ok after) y
  works_same before after same works = (λ finished. works.0 (ap is_finished (sym same) ∙ finished), λ stopped. works.1 (ap is_finished (sym same) ∙ stopped), subst (λ (t : Status). RestsFull d calls database x t y) (sym same) works.2)

-- where there were no calls
pub works_nothing : (d : Dialect) (database : Database) (x : State) (r : Result Done Status) → IfOk r (λ (done : Done). done.status ≡ status.Done) → HasDatabase d x database → Works d [] database x r x
works_nothing d database x (Ok done) is has = done_works d [] database x x done is (leaves_nothing d database x has)
works_nothing d database x (Err s) is has = none_left d [] database x has

-- where none was made
module _ (d : Dialect) (calls : List Call) (database : Database) (x : State) where
  pub untouched_works : (r : Result Done Status) (s : Status) → r ≡ Err s → HasDatabase d x database → Works d calls database x r x
  untouched_works r s is has = works_left d calls database x x r s is (none_left d calls database x has)

  pub untouched_crashes : (now : Crashes) → CrashesIn d calls database x now now
  untouched_crashes now = leave_none x.entries (LeftInCommand d calls database) now
