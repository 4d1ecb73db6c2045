-- A call of a turn was the next of the script.
use Rattle.std.proofs.Common.{ap, subst, sym}
use Rattle.std.specs.Prelude.{Err, None, Ok, Option, Result, Some, false, refl, true, ℕ, ◌≡◌}
use Rattle.lq_base.specs.declared.dialect.Dialect.{Dialect}
use Rattle.lq_base.specs.declared.reason.Reason.{Reason}
use Rattle.lq_model.specs.declared.fault.StoreFault.{StoreFault}
use Rattle.lq_model.specs.declared.fault.StoreFault.TheVariants.{Busy, Disk, Full, NotSql, OutOfMemory, Refused}
use Rattle.lq_store.specs.Journal.{State, Transaction, is_open}
use Rattle.lq_turns.specs.Schedule.{fits}
use Rattle.lq_turns.specs.Session.{Session, called}
use Rattle.lq_turns.specs.Set.{Meaning}
use Rattle.lq_turns.specs.declared.call.Call.{Call}
use Rattle.lq_turns.specs.declared.call.Call.TheVariants.{Begin, Commit, Execute}
use Rattle.lq_turns.specs.declared.deed.Deed.{Deed}
use Rattle.lq_turns.specs.declared.stamp.Stamp.{Stamp}
use Rattle.lq_beside.specs.Replays.{call_fits}
use Rattle.lq_run.specs.Does.{BeginFor, CommitFor, DoesFor}
use Rattle.lq_run.specs.Moves.{Makes, MakesAs, WasOpen, moved_of, reason_in}
use Rattle.lq_run.specs.Stands.{IsBegun, Stands}
use Rattle.lq_run.specs.declared.hand.Moved.{Moved}
use Rattle.lq_run.specs.declared.hand.Moved.TheVariants as moved
use Rattle.lq_run.proofs.WentOn.{breaks_off, continues, gives_up, goes_on}

false_true : false ≡ true → ⊥
false_true h = Prim.cc

module _ {Key : Type 0} (d : Dialect) (m : Meaning Key) (stamp : Stamp) (number : ℕ) (x y : State) where
  -- what is said of the start's dialect is said of the runner's
  at : (call : Call) (result : Moved) → ((start : State) (s : Session) → Stands start number x s → call_fits start.dialect call s ≡ true → start.dialect ≡ d → MakesAs start.dialect m stamp number call start s x result y)
      → Makes d m stamp number call x result y
  at call result given start s is stands fit =
      subst (λ e. MakesAs e m stamp number call start s x result y) is (given start s stands (subst (λ e. call_fits e call s ≡ true) (sym is) fit) is)

  fit_at : (deed : Deed) (start : State) (s : Session) → start.dialect ≡ d → fits start.dialect deed s.seen ≡ true → fits d deed s.seen ≡ true
  fit_at deed start s is fit = subst (λ e. fits e deed s.seen ≡ true) is fit

  pub deed_on : (deed : Deed) → DoesFor d number deed x (Ok tt) y → Makes d m stamp number (Execute deed) x moved.On y
  deed_on deed does = at (Execute deed) moved.On (λ start s stands fit is.
      let done = does start s is stands (fit_at deed start s is fit) in
      (done.2, λ calls on turns. goes_on start.dialect m stamp deed s (called start.dialect (Execute deed) s) done.0 done.1 refl calls on turns, λ calls. continues start.dialect deed s done.0 done.1 calls, ap reason_in done.1))

  pub deed_refused : (deed : Deed) (reason : Reason) → DoesFor d number deed x (Err (Refused reason)) y → Makes d m stamp number (Execute deed) x (moved.Refused reason) y
  deed_refused deed reason does = at (Execute deed) (moved.Refused reason) (λ start s stands fit is.
      let done = does start s is stands (fit_at deed start s is fit) in
      (done.1, refl, λ calls on turns. gives_up start.dialect m stamp deed s (called start.dialect (Execute deed) s) reason done.0 refl calls on turns, λ calls. breaks_off start.dialect deed s reason done.0 calls, ap reason_in done.0))

  open_as : (start : State) (s : Session) → Stands start number x s → is_open number x.begun ≡ true → s.is_open ≡ true
  open_as start s stands opened = by x.begun stands.begun opened where
    by : (o : Option Transaction) → IsBegun start.dialect number s o → is_open number o ≡ true → s.is_open ≡ true
    by None begun h = absurd (false_true h)
    by (Some t) begun h = begun.0

  pub deed_makes : (deed : Deed) (result : Result (Unit {0}) StoreFault) → is_open number x.begun ≡ true → DoesFor d number deed x result y → Makes d m stamp number (Execute deed) x (moved_of result) y
  deed_makes deed (Ok u) opened does = deed_on deed does
  deed_makes deed (Err (Refused reason)) opened does = deed_refused deed reason does
  deed_makes deed (Err NotSql) opened does = at (Execute deed) (moved.Failed NotSql) (λ start s stands fit is. (does start s is stands (fit_at deed start s is fit), open_as start s stands opened))
  deed_makes deed (Err (Busy n)) opened does = at (Execute deed) (moved.Failed (Busy n)) (λ start s stands fit is. (does start s is stands (fit_at deed start s is fit), open_as start s stands opened))
  deed_makes deed (Err Disk) opened does = at (Execute deed) (moved.Failed Disk) (λ start s stands fit is. (does start s is stands (fit_at deed start s is fit), open_as start s stands opened))
  deed_makes deed (Err (Full used next)) opened does = at (Execute deed) (moved.Failed (Full used next)) (λ start s stands fit is. (does start s is stands (fit_at deed start s is fit), open_as start s stands opened))
  deed_makes deed (Err OutOfMemory) opened does = at (Execute deed) (moved.Failed OutOfMemory) (λ start s stands fit is. (does start s is stands (fit_at deed start s is fit), open_as start s stands opened))

  pub lack_makes : (deed : Deed) → is_open number x.begun ≡ true → y ≡ x → Makes d m stamp number (Execute deed) x moved.Lack y
  lack_makes deed opened same = at (Execute deed) moved.Lack (λ start s stands fit is. (same, open_as start s stands opened))

  pub commit_makes : (result : Result (Unit {0}) StoreFault) → is_open number x.begun ≡ true → CommitFor d number x result y → Makes d m stamp number Commit x (moved_of result) y
  commit_makes (Ok u) opened does = at Commit moved.On (λ start s stands fit is. (does start s is stands, λ calls on turns. record { call = Commit; next = refl; is = refl }, λ calls. record { contents = refl; accepted = refl; seen = refl; counted = λ p. refl }, refl))
  commit_makes (Err (Refused reason)) opened does = at Commit (moved.Refused reason) (λ start s stands fit is. absurd (does start s is stands))
  commit_makes (Err NotSql) opened does = at Commit (moved.Failed NotSql) (λ start s stands fit is. absurd (does start s is stands))
  commit_makes (Err (Busy n)) opened does = at Commit (moved.Failed (Busy n)) (λ start s stands fit is. absurd (does start s is stands))
  commit_makes (Err Disk) opened does = at Commit (moved.Failed Disk) (λ start s stands fit is. (does start s is stands, open_as start s stands opened))
  commit_makes (Err (Full used next)) opened does = at Commit (moved.Failed (Full used next)) (λ start s stands fit is. (does start s is stands, open_as start s stands opened))
  commit_makes (Err OutOfMemory) opened does = at Commit (moved.Failed OutOfMemory) (λ start s stands fit is. (does start s is stands, open_as start s stands opened))

  begun_ok : (result : Result (Unit {0}) StoreFault) (fault : StoreFault) → result ≡ Err fault → result ≡ Ok tt → ⊥
  begun_ok result fault h k = Prim.cc

  pub begin_makes : (result : Result (Unit {0}) StoreFault) → BeginFor d number x result y → Makes d m stamp number Begin x (moved_of result) y
  begin_makes (Ok u) does = at Begin moved.On (λ start s stands fit is. (subst (λ e. Stands start number y (called e Begin s)) (sym is) (does start s is stands).1, λ calls on turns. record { call = Begin; next = refl; is = refl }, λ calls. record { contents = refl; accepted = refl; seen = refl; counted = λ p. refl }, refl))
  begin_makes (Err fault) does = λ start s is stands fit. absurd (begun_ok (Err fault) fault refl (does start s is stands).0)

pub never_lacks : (number : ℕ) (x y : State) (done : Result (Unit {0}) StoreFault) → WasOpen number x (moved_of done) y
never_lacks number x y (Ok u) = tt
never_lacks number x y (Err (Refused reason)) = tt
never_lacks number x y (Err NotSql) = tt
never_lacks number x y (Err (Busy n)) = tt
never_lacks number x y (Err Disk) = tt
never_lacks number x y (Err (Full used next)) = tt
never_lacks number x y (Err OutOfMemory) = tt
