-- Whether another call is to come after a fault of the store.
use Rattle.std.specs.Prelude.{Bool, None, Option, Some, false, true, ◌≡◌, ◌⊎◌}
use Rattle.lq_base.specs.declared.dialect.Dialect.{Dialect}
use Rattle.lq_model.specs.declared.fault.StoreFault.{StoreFault}
use Rattle.lq_run.specs.Stands.{IsBare, IsHeld, IsMarked}
use Rattle.lq_store.specs.Journal.{State}
use Rattle.lq_track.specs.Database.{Database}
use Rattle.lq_turns.specs.Schedule.{StandsFor}
use Rattle.lq_turns.specs.declared.stamp.Stamp.{Stamp}

-- after a fault no other call comes where no transaction is open and the lock has a mark
abbrev pub Stays : Dialect → Stamp → Option StoreFault → Bool → State → Option StoreFault → Type 0
Stays d stamp met within x None = (met ≡ None) ⊎ ((within ≡ true) ⊎ (x.dialect ≡ d → (database : Database) → StandsFor d x.committed database → IsHeld stamp database.lock → IsBare stamp database.lock))
Stays d stamp met within x (Some why) = (met ≡ Some why) × (within ≡ false) × (x.dialect ≡ d → (database : Database) → StandsFor d x.committed database → IsMarked stamp database.lock)
