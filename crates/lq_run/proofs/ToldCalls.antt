-- The calls of a store, told by deeds, for every session for which it stands.
use Rattle.std.proofs.Common.{subst, sym}
use Rattle.std.specs.Prelude.{List, Ok, Result, Some, false, true, ℕ, ◌≡◌}
use Rattle.lq_base.specs.declared.dialect.Dialect.{Dialect}
use Rattle.lq_beside.proofs.AllTold.{statements_tell}
use Rattle.lq_model.specs.SqlText.{statement_in}
use Rattle.lq_model.specs.declared.caller.By.{By}
use Rattle.lq_model.specs.declared.caller.ByText.{ByText}
use Rattle.lq_model.specs.declared.caller.Room.{Room}
use Rattle.lq_model.specs.declared.fault.StoreFault.{StoreFault}
use Rattle.lq_store.specs.Calls.{MayAlone, MayBegin, MayCommit, MayExecute, aborted}
use Rattle.lq_store.specs.Journal.{State, is_open}
use Rattle.lq_turns.specs.Deed.{made_of}
use Rattle.lq_turns.specs.Schedule.{all_fit, fits}
use Rattle.lq_turns.specs.Session.{called}
use Rattle.lq_turns.specs.declared.call.Call.TheVariants.{Abort, Begin}
use Rattle.lq_turns.specs.declared.deed.Deed.{Deed}
use Rattle.lq_run.specs.Does.{AbortFor, AllRead, AloneFor, BeginFor, CommitFor, DoesFor, IsRead, MayFill, Reads}
use Rattle.lq_run.specs.Stands.{Stands, deed_text, texts_of}
use Rattle.lq_run.proofs.AllWorks.{does_alone}
use Rattle.lq_run.proofs.Doing.{does_abort, does_begin, does_commit, does_deed, unit_of}

-- a deed whose text was printed
pub is_read : (d : Dialect) (deed : Deed) (text : List ℕ) → Reads d (made_of d deed).1 text → IsRead d deed
is_read d deed text h = subst (λ t. statement_in d t ≡ Some (made_of d deed).1) h.0 h.1

module _ (d : Dialect) (number : ℕ) (x y : State) where
  pub deed_told : (deed : Deed) (by : By) (text : List ℕ) (result : Result ℕ StoreFault) → IsRead d deed → by ≡ (made_of d deed).0 → text ≡ deed_text d deed → is_open number x.begun ≡ true
      → MayExecute by text x result y → DoesFor d number deed x (unit_of result) y
  deed_told deed by text result read by_is text_is opened may start s is stands fit =
      let e = start.dialect in
      let read : IsRead e deed = subst (λ z. IsRead z deed) (sym is) read in
      let fit : fits e deed s.seen ≡ true = subst (λ z. fits z deed s.seen ≡ true) (sym is) fit in
      let may : MayExecute (made_of e deed).0 (deed_text e deed) x result y =
      subst (λ z. MayExecute (made_of z deed).0 (deed_text z deed) x result y) (sym is) (subst (λ t. MayExecute (made_of d deed).0 t x result y) text_is (subst (λ b. MayExecute b text x result y) by_is may)) in
      does_deed start number x s stands deed read (statements_tell e) fit opened result y may

  pub alone_told : (deeds : List Deed) (texts : List ByText) (room : Room) (result : Result (Unit {0}) StoreFault) → AllRead d deeds → texts ≡ texts_of d deeds → MayFill room deeds → is_open number x.begun ≡ false
      → MayAlone number texts room x result y → AloneFor d number deeds room x result y
  alone_told deeds texts room result read text_is fills shut may start s is stands fit =
      let e = start.dialect in
      let read : AllRead e deeds = subst (λ z. AllRead z deeds) (sym is) read in
      let fit : all_fit e deeds s.seen ≡ true = subst (λ z. all_fit z deeds s.seen ≡ true) (sym is) fit in
      let may : MayAlone number (texts_of e deeds) room x result y = subst (λ z. MayAlone number (texts_of z deeds) room x result y) (sym is) (subst (λ t. MayAlone number t room x result y) text_is may) in
      does_alone start number x s stands deeds room fills read (statements_tell e) fit shut result y may

  pub commit_told : (result : Result (Unit {0}) StoreFault) → is_open number x.begun ≡ true → MayCommit x result y → CommitFor d number x result y
  commit_told result opened may start s is stands = does_commit start number x s stands opened result y may

  pub begin_told : (result : Result (Unit {0}) StoreFault) → is_open number x.begun ≡ false → MayBegin number x result y → BeginFor d number x result y
  begin_told result shut may start s is stands = subst (λ e. (result ≡ Ok tt) × Stands start number y (called e Begin s)) is (does_begin start number x s stands shut result y may)

  pub abort_told : y ≡ aborted x → AbortFor d number x y
  abort_told after start s is stands = subst (λ e. Stands start number y (called e Abort s)) is (does_abort start number x s stands y after)
