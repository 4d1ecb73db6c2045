-- A drill that was not begun.
use Rattle.std.proofs.Common.{arith, inl, refl, subst, sym}
use Rattle.std.specs.Prelude.{Err, List, Option, Result, length, ℕ, ◌≡◌, ◌≤◌}
use Rattle.lq_base.specs.declared.dialect.Dialect.{Dialect}
use Rattle.lq_outside.specs.Crash.{Crashes as DiskCrashes}
use Rattle.lq_tell.specs.declared.done.Done.{Done}
use Rattle.lq_tell.specs.declared.status.Status.{Status}
use Rattle.lq_tell.specs.declared.status.Status.TheVariants as status
use Rattle.lq_drills.proofs.Readings.{unread}
use Rattle.lq_jobs.specs.Kinds.{ReadUpTo}
use Rattle.lq_drills.specs.Drilled.{CrashesTo, DoesDrill, Drills, IsIdle, IsOfDrill}
use Rattle.lq_jobs.specs.declared.entrants.Drilling.{Drilling}

no_less : (n : ℕ) → n ≤ n
no_less n = omega arith

-- no time went by
pub same_crashes : (d : Dialect) (Left : Option (List ℕ) → Type 0) (c : DiskCrashes) → CrashesTo d Left c c
same_crashes d Left c = record { honest = refl; later = no_less c.moment; each = λ honest t bytes less left. inl (bytes, left, refl) }

pub idle : (d : Dialect) (before after : Option (List ℕ)) → after ≡ before → (c : DiskCrashes) → IsIdle d before after c c
idle d before after same c = record { same = same; crash = same_crashes d (λ left. ⊥) c }

-- A status other than that of a full journal, which only a step can meet.
abbrev pub IsUnfilled : Status → Type 0
IsUnfilled (status.Full used next) = ⊥
IsUnfilled s = Unit {0}

module _ (d : Dialect) (who : List ℕ) (drill : Drilling) (coming left : Option (List ℕ)) (up : ReadUpTo (length drill.entrants) coming left) (before after : Option (List ℕ)) (c e : DiskCrashes) (nothing : IsIdle d before after c e) where
  drills_nothing : (s : Status) → IsUnfilled s → Drills d who drill up.0 before c (Err s) after e
  drills_nothing (status.Full used next) unfilled = absurd unfilled
  drills_nothing status.DiskFault unfilled = inl nothing
  drills_nothing status.OutOfMemory unfilled = inl nothing
  drills_nothing s unfilled = nothing

  pub not_begun : (s : Status) → IsOfDrill (Err s) → IsUnfilled s → DoesDrill d who drill coming left before c (Err s) after e
  not_begun s kind unfilled = record { readings = up.0; read = up.2; few = up.1; kind = kind; drills = drills_nothing s unfilled }

-- nor was its disk used
pub unused_drill : {D : Type 0} (told : D → Option (List ℕ)) (crashes : D → DiskCrashes) (d : Dialect) (who : List ℕ) (drill : Drilling) (coming : Option (List ℕ)) (before after : D) → after ≡ before → (done : Result Done Status) (s : Status) → done ≡ Err s → IsOfDrill (Err s) → IsUnfilled s
    → DoesDrill d who drill coming coming (told before) (crashes before) done (told after) (crashes after)
unused_drill told crashes d who drill coming before after same done s is kind unfilled =
    subst (λ r. DoesDrill d who drill coming coming (told before) (crashes before) r (told after) (crashes after)) (sym is)
    (subst (λ disk. DoesDrill d who drill coming coming (told before) (crashes before) (Err s) (told disk) (crashes disk)) (sym same)
    (not_begun d who drill coming coming (unread (length drill.entrants) coming) (told before) (told before) (crashes before) (crashes before) (idle d (told before) (told before) refl (crashes before)) s kind unfilled))
