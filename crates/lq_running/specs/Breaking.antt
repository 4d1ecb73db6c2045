-- A command whose calls are broken off.
use Rattle.std.specs.Prelude.{Bool, Option, false, true, ℕ, ◌≡◌}
use Rattle.lq_base.specs.declared.dialect.Dialect.{Dialect}
use Rattle.lq_model.specs.declared.fault.StoreFault.{StoreFault}
use Rattle.lq_run.specs.Crashing.{LeftInRun}
use Rattle.lq_run.specs.Does.{AbortFor}
use Rattle.lq_run.specs.Ends.{CameFrom, EndsAs, IsBefore, IsRunning}
use Rattle.lq_run.specs.Steps.{Standing}
use Rattle.lq_run.specs.declared.runner.End.{End}
use Rattle.lq_store.specs.Journal.{Crashes, CrashesLeave, State}
use Rattle.lq_turns.specs.Session.{Session}
use Rattle.lq_turns.specs.Set.{Meaning}
use Rattle.lq_turns.specs.declared.stamp.Stamp.{Stamp}

-- what is open is taken back
abbrev pub TakenBack : Dialect → ℕ → Bool → State → State → Type 0
TakenBack d number true x y = AbortFor d number x y
TakenBack d number false x y = y ≡ x

module _ {Key Told : Type 0} (d : Dialect) (m : Meaning Key) (stamp : Stamp) (number : ℕ) where
  -- wherever its calls began and lead to
  abbrev pub OnEachWay : Standing Key Told → State → (State → Session → Session → Type 0) → Type 0
  OnEachWay r x holds = (start : State) (first last s : Session) (told : Told) → IsRunning d m stamp number r x start s told → CameFrom d first s → IsBefore s last → holds start first last

  -- it ends as one that there was no memory for, whatever fault was met before the first session
  abbrev pub BreaksOff : Standing Key Told → State → End → State → Type 0
  BreaksOff r x e y = OnEachWay r x (λ start first last. (met : Option StoreFault) → EndsAs d m stamp number start first last true met e y)

  abbrev pub CrashesOff : Standing Key Told → State → Crashes → Crashes → Type 0
  CrashesOff r x before now = OnEachWay r x (λ start first last. CrashesLeave start.entries (LeftInRun d stamp first last) before now)
