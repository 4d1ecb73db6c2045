-- What the calls of undo-unrecorded leave, in words of its answers.
use Rattle.std.proofs.Common.{ap, inl, inr, refl, subst, sym, ◌∙◌}
use Rattle.std.specs.List.{list_all}
use Rattle.std.specs.Prelude.{Bool, Err, IfOk, IfSome, List, None, Ok, Option, Result, Some, [], false, if◌then◌else◌, is_some, option_and_then, suc, take, true, zero, ℕ, ◌∷◌, ◌≡◌}
use Rattle.laws_repair.specs.Repair.{repair_calls}
use Rattle.lq_base.proofs.ValueLemmas.{and_then_some}
use Rattle.lq_base.specs.declared.dialect.Dialect.{Dialect}
use Rattle.lq_base.specs.declared.identity.Identity.{Identity}
use Rattle.lq_base.specs.declared.tracking.Lock.{Lock}
use Rattle.lq_base.specs.declared.tracking.Tracked.{Tracked}
use Rattle.lq_beside.proofs.TablesRead.{map_some}
use Rattle.lq_beside.specs.Replays.{ReleaseFits, calls_fit}
use Rattle.lq_expr.specs.declared.options.Options.{Options}
use Rattle.lq_kinds.specs.declared.change_set.Changelog.{Changelog}
use Rattle.lq_model.proofs.Lists.{and_left, and_right, and_true}
use Rattle.lq_report.specs.Mark.{lock_mark}
use Rattle.lq_run.proofs.Behind.{none_left}
use Rattle.lq_run.proofs.Since.{leave_none}
use Rattle.lq_run.specs.Commands.{HasDatabase, LeavesAs}
use Rattle.lq_run.specs.Crashes.{LeftInCommand}
use Rattle.lq_run.specs.Beside.{is_disk_end}
use Rattle.lq_run.specs.declared.runner.End.{End}
use Rattle.lq_run.specs.declared.runner.End.TheVariants as end
use Rattle.lq_store.specs.Journal.{Crashes, State}
use Rattle.lq_track.specs.Database.{Database, lock_of, rows_of}
use Rattle.lq_turns.specs.Script.{closing}
use Rattle.lq_turns.specs.Session.{session_on}
use Rattle.lq_turns.specs.declared.call.Call.{Call}
use Rattle.lq_turns.specs.declared.stop.Refusal.{Refusal}
use Rattle.lq_unrecorded.specs.Part.{if_part}
use Rattle.lq_mending.specs.Mends.{TellsEnd, TellsFull}
use Rattle.lq_mending.specs.Comes.{back_refused}
use Rattle.lq_mending.specs.Undoes.{Answers, FullBy, IsPart, LeavesBy, Made, OnIts, Passes, Standing, TellsBy, TellsOf, answer_of, calls_of, first_of, is_of_calls, made_in, refusal, set_marked, standing_in, undo_script, unrecorded}
use Rattle.lq_mending.specs.declared.outcome.RepairFault.{RepairFault}
use Rattle.lq_mending.specs.declared.outcome.RepairFault.TheVariants as fault
use Rattle.lq_mending.specs.declared.outcome.Repaired.{Repaired}
use Rattle.lq_mending.specs.declared.part.Part.{Part}

true_false : {A : Type 0} → (let b : Bool = true in b) ≡ false → A
true_false e = absurd (clash e) where
  clash : true ≡ false → ⊥
  clash h = Prim.cc

-- by how the calls ended
module _ (of : Identity) (many : ℕ) where
  pub answers_by : (e : End) → Answers None (answer_of of many e)
  answers_by end.Done = tt
  answers_by (end.Refused refused) = inl refl
  answers_by (end.Locked lock) = inr refl
  answers_by end.Disk = inl refl
  answers_by (end.Full used next) = inl refl
  answers_by end.OutOfMemory = inr refl

  pub leaves_by : (d : Dialect) (calls : List Call) (database : Database) (x y : State) (e : End) → LeavesAs d calls database x e y → LeavesBy d calls database x (answer_of of many e) y
  leaves_by d calls database x y end.Done leaves = leaves
  leaves_by d calls database x y (end.Refused refused) leaves = leaves
  leaves_by d calls database x y (end.Locked lock) leaves = tt
  leaves_by d calls database x y end.Disk leaves = tt
  leaves_by d calls database x y (end.Full used next) leaves = tt
  leaves_by d calls database x y end.OutOfMemory leaves = tt

  pub full_by : (d : Dialect) (calls : List Call) (database : Database) (x y : State) (e : End) → TellsFull d calls database x e y → FullBy d calls database x (answer_of of many e) y
  full_by d calls database x y end.Done full = tt
  full_by d calls database x y (end.Refused refused) full = tt
  full_by d calls database x y (end.Locked lock) full = tt
  full_by d calls database x y end.Disk full = tt
  full_by d calls database x y (end.Full used next) full = full
  full_by d calls database x y end.OutOfMemory full = tt

  pub tells_by : (refused : Option Refusal) (e : End) → TellsEnd refused e → TellsBy of many refused (answer_of of many e)
  tells_by refused end.Done tells = (refl, tells)
  tells_by refused (end.Refused why) tells = (refl, tells)
  tells_by refused (end.Locked lock) tells = tt
  tells_by refused end.Disk tells = tt
  tells_by refused (end.Full used next) tells = tt
  tells_by refused end.OutOfMemory tells = tt

  pub disk_by : (e : End) → answer_of of many e ≡ Err fault.Disk → is_disk_end e ≡ true
  disk_by end.Done is = Prim.cc
  disk_by (end.Refused refused) is = Prim.cc
  disk_by (end.Locked lock) is = Prim.cc
  disk_by end.Disk is = refl
  disk_by (end.Full used next) is = Prim.cc
  disk_by end.OutOfMemory is = Prim.cc

-- a fault that no call gave
module _ (d : Dialect) (calls : List Call) (database : Database) (x y : State) where
  pub leaves_none : (e : RepairFault) → is_of_calls e ≡ false → LeavesBy d calls database x (Err e) y
  leaves_none fault.NothingToUndo is = tt
  leaves_none (fault.Invalid found) is = tt
  leaves_none (fault.NotReversible of) is = tt
  leaves_none (fault.Refused of refused) is = true_false is
  leaves_none fault.Disk is = tt
  leaves_none (fault.Full used next) is = tt
  leaves_none fault.OutOfMemory is = tt

  pub full_none : (e : RepairFault) → is_of_calls e ≡ false → FullBy d calls database x (Err e) y
  full_none fault.NothingToUndo is = tt
  full_none (fault.Invalid found) is = tt
  full_none (fault.NotReversible of) is = tt
  full_none (fault.Refused of refused) is = tt
  full_none fault.Disk is = tt
  full_none (fault.Full used next) is = true_false is
  full_none fault.OutOfMemory is = tt

tells_none : (of : Identity) (many : ℕ) (refused : Option Refusal) (e : RepairFault) → is_of_calls e ≡ false → TellsBy of many refused (Err e)
tells_none of many refused fault.NothingToUndo is = tt
tells_none of many refused (fault.Invalid found) is = tt
tells_none of many refused (fault.NotReversible at) is = tt
tells_none of many refused (fault.Refused at why) is = true_false is
tells_none of many refused fault.Disk is = tt
tells_none of many refused (fault.Full used next) is = tt
tells_none of many refused fault.OutOfMemory is = tt

pub told_none : (o : Options) (database : Database) (part : Option Standing) (e : RepairFault) → is_of_calls e ≡ false → TellsOf o database part (Err e)
told_none o database None e is = tt
told_none o database (Some part) e is = tells_none part.0.identity part.1 (back_refused o.dialect (first_of o part) database.users) e is

pub not_disk : (e : RepairFault) → is_of_calls e ≡ false → (let r : Result Repaired RepairFault = Err e in r) ≡ Err fault.Disk → ⊥
not_disk fault.NothingToUndo is same = Prim.cc
not_disk (fault.Invalid found) is same = Prim.cc
not_disk (fault.NotReversible of) is same = Prim.cc
not_disk (fault.Refused of refused) is same = true_false is
not_disk fault.Disk is same = true_false is
not_disk (fault.Full used next) is same = true_false is
not_disk fault.OutOfMemory is same = Prim.cc

module _ {S : Type 0} (state : S → State) (crashes : S → Crashes) (d : Dialect) (calls : List Call) (database : Database) where
  -- none was made
  pub made_none : (before : S) (e : RepairFault) → HasDatabase d (state before) database → is_of_calls e ≡ false → Made state crashes d calls database before (Err e) before
  made_none before e has is = record {
    leaves = leaves_none d calls database (state before) (state before) e is;
    behind = none_left d calls database (state before) has;
    any_moment = leave_none (state before).entries (LeftInCommand d calls database) (crashes before);
    full = full_none d calls database (state before) (state before) e is;
  }

-- the checks

pub refuses : (refused : Option RepairFault) (e : RepairFault) → Passes {A = Part} refused (Err e) → Answers refused (Err e)
refuses None e is = inr is
refuses (Some refused) e is = is

pub none_refused : (refused : Option RepairFault) (part : Part) → Passes refused (Ok part) → refused ≡ None
none_refused None part passed = refl
none_refused (Some refused) part passed = absurd passed

pub passed_kept : {A : Type 0} (refused : Option RepairFault) → refused ≡ None → is_some refused ≡ true → A
passed_kept None is some = absurd (clash some) where
  clash : false ≡ true → ⊥
  clash h = Prim.cc
passed_kept (Some refused) is some = absurd (clash is) where
  clash : (let o : Option RepairFault = Some refused in o) ≡ None → ⊥
  clash h = Prim.cc

-- the first of statements that can be written
pub all_first : {A : Type 0} (p : A → Bool) (n : ℕ) (xs : List A) → list_all p xs ≡ true → list_all p (take n xs) ≡ true
all_first p zero xs all = refl
all_first p (suc n) [] all = refl
all_first p (suc n) (x ∷ xs) all = and_true (p x) _ (and_left (p x) _ all) (all_first p n xs (and_right (p x) _ all))

-- the part that they leave

no_part : {A B : Type 0} {x : A} → (let o : Option A = None in o) ≡ Some x → B
no_part e = absurd (clash e) where
  clash : {A : Type 0} {x : A} → (let o : Option A = None in o) ≡ Some x → ⊥
  clash h = Prim.cc

module _ (o : Options) (g : Changelog) (last : Option (List ℕ)) (database : Database) (part : Part) (is : IsPart o (unrecorded o g last database.lock database.rows) database.lock part) where
  pub script_is : undo_script o g last database ≡ repair_calls o.dialect part.who part.identity (take part.count part.statements) database
  script_is =
      ap (calls_of o database) is.found_is
      ∙ ap (λ who. repair_calls o.dialect who is.set.identity (take part.count (made_in o is.set)) database) (sym is.who)
      ∙ ap (λ of. repair_calls o.dialect part.who of (take part.count (made_in o is.set)) database) (sym is.identity)
      ∙ ap (λ ss. repair_calls o.dialect part.who part.identity (take part.count ss) database) (sym is.statements)

  pub told_is : (answer : Result Repaired RepairFault) → TellsBy part.identity part.count (back_refused o.dialect (take part.count part.statements) database.users) answer
      → TellsOf o database (unrecorded o g last database.lock database.rows) answer
  told_is answer tells =
      subst (λ p. TellsOf o database p answer) (sym is.found_is)
      (subst (λ of. TellsBy of part.count (back_refused o.dialect (take part.count (made_in o is.set)) database.users) answer) is.identity
      (subst (λ ss. TellsBy part.identity part.count (back_refused o.dialect (take part.count ss) database.users) answer) is.statements tells))

-- a part is told of a lock that is held

held_if : {A B : Type 0} (f : A → Option B) (x : Option A) (b : Bool) (p : B) → option_and_then f (if b then x else None) ≡ Some p → b ≡ true
held_if f x true p is = refl
held_if f x false p is = no_part is

part_held : (o : Options) (g : Changelog) (last : Option (List ℕ)) (lock : Lock) (rows : List Tracked) (p : Standing) → unrecorded o g last lock rows ≡ Some p → lock.locked ≡ true
part_held o g last lock rows p is = held_if (λ mark. standing_in o.dialect last lock mark (set_marked o g rows mark)) (option_and_then if_part (lock_mark lock)) lock.locked p is

-- and that has its row
pub row_there : ReleaseFits → (o : Options) (g : Changelog) (last : Option (List ℕ)) (x : State) (database : Database) (part : Part) → HasDatabase o.dialect x database
    → IsPart o (unrecorded o g last database.lock database.rows) database.lock part → database.has_lock_row ≡ true
row_there fit o g last x database part has is =
    let held = part_held o g last database.lock database.rows (is.set, part.count) is.found_is in
    let one : calls_fit o.dialect (closing ∷ []) (session_on database) ≡ true =
    subst (λ b. calls_fit o.dialect (if b then closing ∷ [] else []) (session_on database) ≡ true) held (fit o.dialect x.committed database has.committed) in
    and_left database.has_lock_row _ (and_left _ _ one)

-- the lock and the rows of a store are those of its database

lock_there : (d : Dialect) (x : State) (database : Database) → HasDatabase d x database → lock_of d x.committed ≡ Some database.lock
lock_there d x database has =
    let rows = and_then_some _ (rows_of x.committed) database has.committed.is in
    let l = map_some _ (lock_of d x.committed) database rows.2 in
    l.1 ∙ ap (λ (e : Database). Some e.lock) l.2

pub lock_is : (d : Dialect) (x : State) (database : Database) (lock : Lock) → HasDatabase d x database → IfSome (lock_of x.dialect x.committed) (λ meant. lock ≡ meant) → lock ≡ database.lock
lock_is d x database lock has is = subst (λ o. IfSome o (λ meant. lock ≡ meant)) (ap (λ e. lock_of e x.committed) has.dialect ∙ lock_there d x database has) is

pub passes_there : (o : Options) (g : Changelog) (lock : Lock) (rows : List Tracked) (x : State) (result : Result Part RepairFault)
    → ((database : Database) → HasDatabase o.dialect x database → (lock ≡ database.lock) × (database.rows ≡ rows))
    → Passes (refusal o g lock rows) result → OnIts o.dialect x (λ database. Passes (refusal o g database.lock database.rows) result)
passes_there o g lock rows x result same passes = λ database has.
    let at = same database has in
    subst (λ (l : Lock). Passes (refusal o g l database.rows) result) at.0 (subst (λ (rs : List Tracked). Passes (refusal o g lock rs) result) (sym at.1) passes)

pub part_there : (o : Options) (g : Changelog) (last : Option (List ℕ)) (lock : Lock) (rows : List Tracked) (x : State) (result : Result Part RepairFault)
    → ((database : Database) → HasDatabase o.dialect x database → (lock ≡ database.lock) × (database.rows ≡ rows))
    → IfOk result (IsPart o (unrecorded o g last lock rows) lock)
    → IfOk result (λ part. OnIts o.dialect x (λ database. IsPart o (unrecorded o g last database.lock database.rows) database.lock part))
part_there o g last lock rows x (Ok part) same is = λ database has.
    let at = same database has in
    subst (λ (l : Lock). IsPart o (unrecorded o g last l database.rows) l part) at.0 (subst (λ (rs : List Tracked). IsPart o (unrecorded o g last lock rs) lock part) (sym at.1) is)
part_there o g last lock rows x (Err e) same is = tt
