-- The lock of a command between two turns.
use Rattle.std.proofs.Common.{ap, inl, inr, subst, sym, ◌∙◌}
use Rattle.std.specs.Option.{option_and_then, option_map}
use Rattle.std.specs.Prelude.{Bool, IfSome, List, None, Option, Some, false, refl, true, ℕ, ◌≡◌}
use Rattle.lq_base.specs.declared.dialect.Dialect.{Dialect}
use Rattle.lq_base.specs.declared.tracking.Lock.{Lock}
use Rattle.lq_base.specs.declared.tracking.Tracked.{Tracked}
use Rattle.lq_model.specs.Catalogue.{Catalogue}
use Rattle.lq_store.specs.Journal.{Crashes, State}
use Rattle.lq_track.specs.Database.{Database, lock_of, rows_of}
use Rattle.lq_model.specs.declared.fault.StoreFault.{StoreFault}
use Rattle.lq_turns.specs.Schedule.{StandsFor}
use Rattle.lq_turns.specs.Rest.{Place}
use Rattle.lq_turns.specs.Script.{closing}
use Rattle.lq_turns.specs.Session.{Session}
use Rattle.lq_turns.specs.Set.{Meaning}
use Rattle.lq_turns.specs.declared.stamp.Stamp.{Stamp}
use Rattle.lq_turns.specs.declared.stop.Refusal.{Refusal}
use Rattle.lq_run.proofs.Since.{leave_wider}
use Rattle.lq_run.specs.Crashing.{CrashesClosing, CrashesFor, LeftInCall, LeftInClosing}
use Rattle.lq_run.specs.Stands.{Holds, HoldsAs, IsBare}
use Rattle.lq_run.specs.Moves.{IsAt}
use Rattle.lq_run.specs.Steps.{Closes, ClosesFor, EndsFor, IsBetween, Standing, Steps, end_of, last_end, place}
use Rattle.lq_run.specs.declared.holding.Holding.TheVariants as holding
use Rattle.lq_run.specs.declared.runner.End.{End}
use Rattle.lq_run.specs.declared.runner.Step.{Step}
use Rattle.lq_run.specs.declared.runner.Step.TheVariants as step

lock_by : (d : Dialect) (database : Database) (make : List Tracked → Lock → Database) → ((rows : List Tracked) (lock : Lock) → (make rows lock).lock ≡ lock) → (rows : Option (List Tracked)) (lock : Option Lock)
    → option_and_then (λ r. option_map (λ l. make r l) lock) rows ≡ Some database → lock ≡ Some database.lock
lock_by d database make is None lock h = absurd (none_some h) where
  none_some : (let o : Option Database = None in o) ≡ Some database → ⊥
  none_some h = Prim.cc
lock_by d database make is (Some rows) None h = absurd (none_some h) where
  none_some : (let o : Option Database = None in o) ≡ Some database → ⊥
  none_some h = Prim.cc
lock_by d database make is (Some rows) (Some lock) h = ap Some (sym (is rows lock)) ∙ ap (option_map (λ (x : Database). x.lock)) h

-- the lock of what is committed is its database's
pub lock_at : (d : Dialect) (c : Catalogue) (database : Database) → StandsFor d c database → lock_of d c ≡ Some database.lock
lock_at d c database is = lock_by d database _ (λ rows lock. refl) (rows_of c) (lock_of d c) is.is

module _ (P : Lock → Type 0) (e d : Dialect) (c : Catalogue) where
  pub told_at : (database : Database) → IfSome (lock_of e c) P → e ≡ d → StandsFor d c database → P database.lock
  told_at database told is stands = subst (λ o. IfSome o P) (lock_at d c database stands) (subst (λ z. IfSome (lock_of z c) P) is told)

pub told_map : (o : Option Lock) (it : Lock) (P : Lock → Type 0) → IfSome o (λ lock. it ≡ lock) → P it → IfSome o P
told_map None it P told p = told
told_map (Some lock) it P told p = subst P told p

module _ {Key : Type 0} (d : Dialect) (m : Meaning Key) (stamp : Stamp) (number : ℕ) (x : State) where
  -- the lock at which the command stands
  pub at_place : (P : Lock → Type 0) (start : State) (s : Session) (p : Place Key) → IfSome (lock_of x.dialect x.committed) P → IsAt d m stamp number p x start s → P s.committed.lock
  at_place P start s p told is = told_at P x.dialect d x.committed s.committed told (is.stands.dialect ∙ is.dialect) (subst (λ e. StandsFor e x.committed s.committed) is.dialect is.stands.committed)

  pub lost_steps : {Told : Type 0} (before after : Standing Key Told) (y : State) (result : Step) → IsBetween before.hand → IfSome (lock_of x.dialect x.committed) (λ lock. Holds stamp lock holding.Lost) → Steps d m stamp number before after x result y
  lost_steps before after y result there lost start s told is held = absurd (at_place (λ lock. Holds stamp lock holding.Lost) start s (place before) lost is.at (held there))

  pub ends_none : (f : Option StoreFault) (r : Option Refusal) (y : State) (result : Step) → f ≡ None → ClosesFor d m stamp number (last_end f r) x result y → EndsFor d m stamp number f r x result y
  ends_none f r y result is = subst (λ o. ClosesFor d m stamp number (last_end o r) x result y → EndsFor d m stamp number o r x result y) (sym is) (at_none result) where
    at_none : (result : Step) → ClosesFor d m stamp number (last_end None r) x result y → EndsFor d m stamp number None r x result y
    at_none step.Going closes = closes
    at_none (step.Ended e) closes = closes

  pub ends_marked : (why : StoreFault) (r : Option Refusal) (e : End) (marked : Bool) → marked ≡ true → IfSome (lock_of x.dialect x.committed) (λ lock. HoldsAs stamp lock marked) → e ≡ end_of why → EndsFor d m stamp number (Some why) r x (step.Ended e) x
  ends_marked why r e marked is told end p start s at left = inr (at_place (λ lock. HoldsAs stamp lock true) start s p (subst (λ b. IfSome (lock_of x.dialect x.committed) (λ lock. HoldsAs stamp lock b)) is told) at, refl, end)

  pub ends_bare : (why : StoreFault) (r : Option Refusal) (last : End) (marked : Bool) (y : State) (result : Step) → marked ≡ false → IfSome (lock_of x.dialect x.committed) (λ lock. HoldsAs stamp lock marked) → last ≡ end_of why
      → ClosesFor d m stamp number last x result y → EndsFor d m stamp number (Some why) r x result y
  ends_bare why r last marked y step.Going is told same closes = closes
  ends_bare why r last marked y (step.Ended e) is told same closes = λ p start s at left.
      inl (
        at_place (λ lock. HoldsAs stamp lock false) start s p (subst (λ b. IfSome (lock_of x.dialect x.committed) (λ lock. HoldsAs stamp lock b)) is told) at,
        subst (λ l. Closes d m stamp number p l start s x e y) same (closes p start s at left),
      )

-- what a crash leaves where the lock is freed

module _ (d : Dialect) (stamp : Stamp) (number : ℕ) (x : State) (a b : Crashes) where
  pub healthy_crash : (why : Option StoreFault) → why ≡ None → CrashesFor d number closing x a b → CrashesClosing d stamp number why x a b
  healthy_crash why none crash start s is stands fit = leave_wider x.entries (LeftInCall d closing s) (LeftInClosing d stamp why s) a b (λ there left it. (inl none, it)) (crash start s is stands fit)

  pub bare_crash : (why : Option StoreFault) (marked : Bool) → marked ≡ false → IfSome (lock_of x.dialect x.committed) (λ lock. HoldsAs stamp lock marked) → CrashesFor d number closing x a b → CrashesClosing d stamp number why x a b
  bare_crash why marked none told crash start s is stands fit =
      let bare : IsBare stamp s.committed.lock = told_at (λ lock. HoldsAs stamp lock false) x.dialect d x.committed s.committed (subst (λ b. IfSome (lock_of x.dialect x.committed) (λ lock. HoldsAs stamp lock b)) none told) (stands.dialect ∙ is) (subst (λ e. StandsFor e x.committed s.committed) is stands.committed) in
      leave_wider x.entries (LeftInCall d closing s) (LeftInClosing d stamp why s) a b (λ there left it. (inr bare, it)) (crash start s is stands fit)
