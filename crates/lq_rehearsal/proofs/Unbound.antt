-- What the check of a rehearsal's turns answers.
use Rattle.std.proofs.Common.{inr, refl, subst, sym}
use Rattle.std.specs.Prelude.{Err, None, Ok, Option, Result, Some, ◌≡◌, ◌⊎◌}
use Rattle.lq_base.specs.declared.identity.Identity.{Identity}
use Rattle.lq_tell.specs.declared.status.Status.{Status}
use Rattle.lq_tell.specs.declared.status.Status.TheVariants as status
use Rattle.lq_commands.specs.Refusals.{Passes, if_not}

abbrev Checks : Option Identity → Result (Unit {0}) Status → Type 0
Checks o r = Passes (if_not o) r

pub bound_refuses : (o : Option Identity) (of : Identity) (s : Status) → Some of ≡ o → (s ≡ status.NotReversible of) ⊎ (s ≡ status.OutOfMemory) → Checks o (Err s)
bound_refuses o of s is refuses = subst (λ (p : Option Identity). Checks p (Err s)) is refuses

pub bound_passes : (o : Option Identity) (a : Unit {0}) → (let n : Option Identity = None in n) ≡ o → Checks o (Ok a)
bound_passes o a is = subst (λ (p : Option Identity). Checks p (Ok a)) is tt

pub bound_lacks : (o : Option Identity) (r : Result (Unit {0}) Status) → r ≡ Err status.OutOfMemory → Checks o r
bound_lacks o r is = subst (Checks o) (sym is) (by o) where
  by : (p : Option Identity) → Checks p (Err status.OutOfMemory)
  by (Some of) = inr refl
  by None = refl
