-- Which lock stays held.
use Rattle.std.proofs.Common.{inl, inr}
use Rattle.std.specs.Prelude.{Bool, IfSome, None, Some, false, refl, true, ◌≡◌}
use Rattle.lq_base.specs.declared.dialect.Dialect.{Dialect}
use Rattle.lq_model.specs.declared.fault.StoreFault.{StoreFault}
use Rattle.lq_resting.specs.Resting.{Stays}
use Rattle.lq_run.proofs.Losing.{told_at}
use Rattle.lq_run.specs.Stands.{Holds}
use Rattle.lq_run.specs.declared.holding.Holding.TheVariants as holding
use Rattle.lq_store.specs.Journal.{State}
use Rattle.lq_track.specs.Database.{lock_of}
use Rattle.lq_turns.specs.declared.stamp.Stamp.{Stamp}

-- a lock that has a mark stays held

module _ (d : Dialect) (stamp : Stamp) (why : StoreFault) (within : Bool) (x : State) where
  pub stays_within : within ≡ true → Stays d stamp (Some why) within x None
  stays_within is = inr (inl is)

  pub stays_bare : IfSome (lock_of x.dialect x.committed) (λ lock. Holds stamp lock holding.Bare) → Stays d stamp (Some why) within x None
  stays_bare bare = inr (inr (λ same database stands held. told_at (λ lock. Holds stamp lock holding.Bare) x.dialect d x.committed database bare same stands))

  pub stays_lost : IfSome (lock_of x.dialect x.committed) (λ lock. Holds stamp lock holding.Lost) → Stays d stamp (Some why) within x None
  stays_lost lost = inr (inr (λ same database stands held. absurd (told_at (λ lock. Holds stamp lock holding.Lost) x.dialect d x.committed database lost same stands held)))

  pub stays_marked : within ≡ false → IfSome (lock_of x.dialect x.committed) (λ lock. Holds stamp lock holding.Marked) → Stays d stamp (Some why) within x (Some why)
  stays_marked shut marked = (refl, shut, λ same database stands. told_at (λ lock. Holds stamp lock holding.Marked) x.dialect d x.committed database marked same stands)
