-- What a crash of the machine at any moment of a drill leaves on its file.
use Rattle.std.proofs.Common.{ap, arith, inl, inr, refl, sym, ◌∙◌}
use Rattle.std.specs.Option.{option_map}
use Rattle.std.specs.Prelude.{Bool, Err, IsTrue, List, None, Ok, Option, Result, Some, [], map, slice_get, suc, true, zero, ℕ, ◌++◌, ◌∷◌, ◌≡◌, ◌≤◌, ◌⊎◌}
use Rattle.lq_base.specs.declared.dialect.Dialect.{Dialect}
use Rattle.lq_entries.specs.Log.{crashes_in, entries_in, if_undamaged}
use Rattle.lq_drill.specs.Drill.{HasFaulted as PlayerFaulted, LeftInDrill}
use Rattle.lq_drill.specs.Faults.{Comes, FreesEarly, entries_of}
use Rattle.lq_frames.specs.Body.{journal_of}
use Rattle.lq_any.specs.declared.any_change.AnyChange.{AnyChange}
use Rattle.lq_outside.specs.Crash.{Crashes as DiskCrashes, IsSound, LeavesOnly}
use Rattle.lq_playing.specs.Answers.{as_busy, as_failed, as_locked}
use Rattle.lq_playing.specs.declared.came.Came.{Came}
use Rattle.lq_players.specs.AnyCommand.{command_stands, works}
use Rattle.lq_players.specs.declared.any_command.AnyCommand.{AnyCommand}
use Rattle.lq_store.specs.Journal.{Since, Entry, State}
use Rattle.lq_tell.specs.declared.done.Done.{Done}
use Rattle.lq_tell.specs.declared.status.Status.{Status}
use Rattle.lq_tell.specs.declared.status.Status.TheVariants as status
use Rattle.lq_track.specs.Database.{Database}
use Rattle.lq_turns.specs.Jobs.{Task}
use Rattle.lq_turns.specs.Schedule.{start}
use Rattle.lq_drills.proofs.DrillCame.{comes_met, early_release}
use Rattle.lq_jobs.specs.Bytes.{most_bytes}
use Rattle.lq_drills.specs.Drilled.{CameTo, Commands, CrashesTo, Drills, HasFaulted, IsIdle, IsLeftInDrill, ReleasesEarly, Went}
use Rattle.lq_drills.specs.Players.{faults_in}
use Rattle.lq_jobs.specs.declared.entrants.Drilling.{Drilling}

-- lists of what players have

none_some : {A B : Type 0} {a : A} → (let o : Option A = None in o) ≡ Some a → B
none_some h = Prim.cc

pub mapped : {A B : Type 0} (f : A → B) (xs : List A) (place : ℕ) (y : B) → slice_get (map f xs) place ≡ Some y → (x : A) × (slice_get xs place ≡ Some x) × (y ≡ f x)
mapped f [] place y is = none_some is
mapped f (x ∷ xs) zero y is = (x, refl, some_is is) where
  some_is : Some (f x) ≡ Some y → y ≡ f x
  some_is h = Prim.cc
mapped f (x ∷ xs) (suc place) y is = mapped f xs place y is

pub placed : {A B : Type 0} (f : A → B) (xs : List A) (place : ℕ) (x : A) → slice_get xs place ≡ Some x → slice_get (map f xs) place ≡ Some (f x)
placed f [] place x is = none_some is
placed f (y ∷ xs) zero x is = ap (option_map f) is
placed f (y ∷ xs) (suc place) x is = placed f xs place x is

-- a player that met a fault, and its place among those that did

pub fault_shown : (players : List AnyCommand) (n : ℕ) → PlayerFaulted command_stands players n → HasFaulted (faults_in players) n
fault_shown players n met = (met.place, met.number, placed (λ (p : AnyCommand). (command_stands p).faulted) players met.place met.player met.there ∙ ap (λ (b : Bool). Some b) met.faulted)

-- what the journal's crashes leave the file's leave
module _ (d : Dialect) (tasks : ℕ → Task AnyChange) (steps : List ℕ) (database : Database) (last : List AnyCommand) (x : State) (told : Option (List ℕ)) where
  abbrev pub LeftBy : List Entry → List Entry → Type 0
  LeftBy there left = LeftInDrill command_stands (works d tasks) (record x { dialect = d }) database as_failed steps last there left

  abbrev pub LeftOn : Option (List ℕ) → Type 0
  LeftOn file = IsLeftInDrill d tasks steps database (faults_in last) told file

  abbrev first : Commands
  first = start Came as_locked as_busy database

  pub came_to : (front : List ℕ) (now : Commands) → Comes as_failed d (works d tasks) (PlayerFaulted command_stands last) front first now → CameTo d tasks steps database (faults_in last) told front now
  came_to front now came = comes_met d tasks (PlayerFaulted command_stands last) (HasFaulted (faults_in last)) (fault_shown last) front first now came

  releases_early : (front : List ℕ) (now : Commands) → FreesEarly as_failed d (works d tasks) (PlayerFaulted command_stands last) front first now → ReleasesEarly d tasks steps database (faults_in last) told front now
  releases_early front now early = record {
    frees = record {
      before = early.before;
      next = early.next;
      later = early.later;
      is = early.is;
      now = early.now;
      came = came_to early.before early.now early.came;
      holder = early.holder;
      held = early.held;
      gave_up = early.gave_up;
      early = early.early;
      unlocked = early.unlocked;
      goes_on = comes_met d tasks (PlayerFaulted command_stands last) (HasFaulted (faults_in last)) (fault_shown last) (early.next ∷ early.later) early.now now early.goes_on;
    };
    is_release = early_release d tasks early.next early.now early.early early.unlocked;
  }

  module _ (there : List Entry) (were : entries_in d most_bytes told ≡ Some there) where
    pub left_there : (left : List Entry) (file : Option (List ℕ)) → entries_in d most_bytes file ≡ Some left → LeftBy there left → LeftOn file
    left_there left file are it = record {
      front = it.front;
      rest = it.rest;
      is = it.is;
      now = it.now;
      came = came_to it.front it.now it.came;
      written = it.leaves.front;
      more = it.leaves.more;
      brought = it.leaves.came;
      entries = are ∙ ap (λ (entries : List Entry). Some entries) it.leaves.is ∙ ap (option_map (λ (entries : List Entry). entries ++ entries_of d it.leaves.front)) (sym were);
      once = elim it.once [ inl early ↦ inl (releases_early it.front it.now early) | inr once ↦ inr once ];
    }

    pub crashes_on : (before now : DiskCrashes) → Since (LeftBy there) (crashes_in d most_bytes before) (crashes_in d most_bytes now) → CrashesTo d LeftOn before now
    crashes_on before now since = record {
      honest = since.honest;
      later = since.later;
      each = λ honest t bytes le left. elim (since.each honest t (if_undamaged (journal_of d most_bytes bytes)) le (bytes, left, refl)) [
        | inl was ↦ inl (was.0, was.1, sym was.2)
        | inr is ↦ inr (left_there is.0 (Some bytes) is.1 is.2)
      ];
    }

-- since an earlier moment, behind which nothing was written
module _ (told : Option (List ℕ)) (a : DiskCrashes) (sound : IsSound told a) (b : DiskCrashes) (read : LeavesOnly a b a.leaves) where
  earlier : IsTrue a.is_honest → (t : ℕ) (those : List ℕ) → t ≤ a.moment → b.left_since t those → a.left_since t those
  earlier honest t those le left = elim (read.before honest t those le left) [ inl was ↦ was | inr leaves ↦ sound.counts_now honest t those le leaves ]

  pub crashes_read : (d : Dialect) (Left : Option (List ℕ) → Type 0) → CrashesTo d Left a b
  crashes_read d Left = record {
    honest = read.honest;
    later = read.later;
    each = λ honest t bytes le left. inl (bytes, earlier honest t bytes le left, refl);
  }

  pub crashes_after : (d : Dialect) (Left : Option (List ℕ) → Type 0) (c : DiskCrashes) → CrashesTo d Left b c → CrashesTo d Left a c
  crashes_after d Left c then = record {
    honest = then.honest ∙ read.honest;
    later = omega (arith, read.later, then.later);
    each = λ honest t bytes le left. elim (then.each (read.honest ∙ honest) t bytes (omega (arith, le, read.later)) left) [
      | inl was ↦ inl (was.0, earlier honest t was.0 le was.1, was.2)
      | inr is ↦ inr is
    ];
  }

  module _ (d : Dialect) (who : List ℕ) (drill : Drilling) (readings : List ℕ) (now : Option (List ℕ)) (c : DiskCrashes) where
    abbrev pub went_after : Went d who drill readings told now b c → Went d who drill readings told now a c
    went_after went = record {
      one_each = went.one_each;
      answers = went.answers;
      faulted = went.faulted;
      as_many = went.as_many;
      goes = went.goes;
      until = went.until;
      met = went.met;
      crash = λ tasks own database opens. crashes_after d (IsLeftInDrill d tasks drill.steps database went.faulted told) c (went.crash tasks own database opens);
      left = went.left;
      opens = went.opens;
    }

    idle_after : IsIdle d told now b c → IsIdle d told now a c
    idle_after idle = record { same = idle.same; crash = crashes_after d (λ left. ⊥) c idle.crash }

    part_after : IsIdle d told now b c ⊎ Went d who drill readings told now b c → IsIdle d told now a c ⊎ Went d who drill readings told now a c
    part_after (inl idle) = inl (idle_after idle)
    part_after (inr went) = inr (went_after went)

    disk_after : Drills d who drill readings told b (Err status.DiskFault) now c → Drills d who drill readings told a (Err status.DiskFault) now c
    disk_after (inl idle) = inl (idle_after idle)
    disk_after (inr did) = inr (went_after did.0, did.1)

    pub drills_after : (r : Result Done Status) → Drills d who drill readings told b r now c → Drills d who drill readings told a r now c
    drills_after (Ok done) drills = (drills.0, (went_after drills.1.0, drills.1.1, drills.1.2))
    drills_after (Err (status.Full used next)) drills = (went_after drills.0, drills.1)
    drills_after (Err status.DiskFault) drills = disk_after drills
    drills_after (Err status.OutOfMemory) drills = part_after drills
    drills_after (Err s) drills = idle_after drills
