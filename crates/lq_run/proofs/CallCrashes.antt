-- What crashes leave in the calls of a store, told by deeds.
use Rattle.std.proofs.Common.{ap, refl, subst, sym, ◌∙◌}
use Rattle.std.specs.Prelude.{List, None, Option, Some, false, true, ℕ, ◌≡◌}
use Rattle.lq_base.specs.declared.dialect.Dialect.{Dialect}
use Rattle.lq_beside.proofs.AllTold.{statements_tell}
use Rattle.lq_model.specs.declared.caller.By.{By}
use Rattle.lq_model.specs.declared.caller.ByText.{ByText}
use Rattle.lq_model.specs.declared.caller.Room.{Room}
use Rattle.lq_store.specs.Calls.{done_alone, executed, finished}
use Rattle.lq_store.specs.Journal.{Crashes, LeavesFront, Entry, State, Transaction, is_open}
use Rattle.lq_store.specs.Work.{outcome, outcome_all, work_in, work_of}
use Rattle.lq_turns.specs.Deed.{made_of}
use Rattle.lq_turns.specs.Schedule.{all_fit, fits}
use Rattle.lq_turns.specs.Session.{Session}
use Rattle.lq_turns.specs.declared.call.Call.{Call}
use Rattle.lq_turns.specs.declared.call.Call.TheVariants.{Alone, Commit, Execute}
use Rattle.lq_turns.specs.declared.deed.Deed.{Deed}
use Rattle.lq_run.proofs.AllWorks.{all_did, works_alone}
use Rattle.lq_run.proofs.Doing.{work_is}
use Rattle.lq_run.proofs.Since.{leave_call, leave_none, leave_wider, none_yet}
use Rattle.lq_run.proofs.Works.{did, settles}
use Rattle.lq_run.specs.Crashes.{CrashesLeave}
use Rattle.lq_run.specs.Crashing.{CrashesFor, LeftAlone, LeftInCall}
use Rattle.lq_run.specs.Does.{AllRead, Appends, IsRead}
use Rattle.lq_run.specs.Stands.{Stands, deed_text, texts_of}

false_true : false ≡ true → ⊥
false_true h = Prim.cc

opened_as : (number : ℕ) (o : Option Transaction) → is_open number o ≡ true → (t : Transaction) × (o ≡ Some t)
opened_as number None h = absurd (false_true h)
opened_as number (Some t) h = (t, refl)

-- what each call appends

module _ (start : State) (number : ℕ) (x : State) (s : Session) (stands : Stands start number x s) where
  deed_appends : (deed : Deed) → IsRead start.dialect deed → fits start.dialect deed s.seen ≡ true → is_open number x.begun ≡ true
      → Appends start.dialect (Execute deed) s (outcome start.dialect (made_of start.dialect deed).0 (deed_text start.dialect deed) (work_of x)).work.written
  deed_appends deed read fit opened =
      let t = opened_as number x.begun opened in
      let works = (did start.dialect s.entries deed (work_of x) s (work_is start number x s stands t.0 t.1) read (statements_tell start.dialect) fit).works in
      record { more = works.more; entries = works.entries; texts = works.written }

  commit_appends : is_open number x.begun ≡ true → Appends start.dialect Commit s (finished x).written
  commit_appends opened =
      let t = opened_as number x.begun opened in
      let works = settles start.dialect s.entries (work_of x) s (work_is start number x s stands t.0 t.1) in
      record { more = works.more; entries = works.entries; texts = works.written }

  alone_appends : (deeds : List Deed) (room : Room) → AllRead start.dialect deeds → all_fit start.dialect deeds s.seen ≡ true → is_open number x.begun ≡ false
      → Appends start.dialect (Alone deeds room) s (outcome_all start.dialect (texts_of start.dialect deeds) (work_in None x.committed)).work.written
  alone_appends deeds room read fit shut =
      let all = all_did start.dialect s.entries (statements_tell start.dialect) deeds (work_in None x.committed) s read (works_alone start number x s stands deeds room shut) fit in
      record { more = all.more; entries = all.entries; texts = all.written }

module _ (d : Dialect) (number : ℕ) (x : State) (a b : Crashes) where
  -- what is said of the start's dialect is said of the runner's
  at : (call : Call) (start : State) (s : Session) (written : List Entry) → start.dialect ≡ d → Appends start.dialect call s written → LeavesFront x.entries written a b → CrashesLeave x.entries (LeftInCall d call s) a b
  at call start s written is appends leaves = leave_call d call s x.entries written a b (subst (λ e. Appends e call s written) is appends) leaves

  pub deed_crash : (deed : Deed) (by : By) (text : List ℕ) → IsRead d deed → by ≡ (made_of d deed).0 → text ≡ deed_text d deed → is_open number x.begun ≡ true
      → LeavesFront x.entries (executed by text x).work.written a b → CrashesFor d number (Execute deed) x a b
  deed_crash deed by text read by_is text_is opened leaves start s is stands fit =
      let e = start.dialect in
      let same : (executed by text x).work.written ≡ (outcome e (made_of e deed).0 (deed_text e deed) (work_of x)).work.written
      = ap (λ k. (outcome x.dialect k text (work_of x)).work.written) by_is ∙ ap (λ t. (outcome x.dialect (made_of d deed).0 t (work_of x)).work.written) text_is
      ∙ ap (λ z. (outcome x.dialect (made_of z deed).0 (deed_text z deed) (work_of x)).work.written) (sym is) ∙ ap (λ z. (outcome z (made_of e deed).0 (deed_text e deed) (work_of x)).work.written) stands.dialect in
      at (Execute deed) start s _ is (deed_appends start number x s stands deed (subst (λ z. IsRead z deed) (sym is) read) (subst (λ z. fits z deed s.seen ≡ true) (sym is) fit) opened)
      (subst (λ w. LeavesFront x.entries w a b) same leaves)

  pub commit_crash : is_open number x.begun ≡ true → LeavesFront x.entries (finished x).written a b → CrashesFor d number Commit x a b
  commit_crash opened leaves start s is stands fit = at Commit start s (finished x).written is (commit_appends start number x s stands opened) leaves

  pub alone_crash : (deeds : List Deed) (texts : List ByText) (room : Room) → AllRead d deeds → texts ≡ texts_of d deeds → is_open number x.begun ≡ false
      → LeavesFront x.entries (done_alone texts x).work.written a b → CrashesFor d number (Alone deeds room) x a b
  alone_crash deeds texts room read texts_are shut leaves start s is stands fit =
      let e = start.dialect in
      let same : (done_alone texts x).work.written ≡ (outcome_all e (texts_of e deeds) (work_in None x.committed)).work.written
      = ap (λ t. (outcome_all x.dialect t (work_in None x.committed)).work.written) texts_are ∙ ap (λ z. (outcome_all x.dialect (texts_of z deeds) (work_in None x.committed)).work.written) (sym is)
      ∙ ap (λ z. (outcome_all z (texts_of e deeds) (work_in None x.committed)).work.written) stands.dialect in
      at (Alone deeds room) start s _ is (alone_appends start number x s stands deeds room (subst (λ z. AllRead z deeds) (sym is) read) (subst (λ z. all_fit z deeds s.seen ≡ true) (sym is) fit) shut)
      (subst (λ w. LeavesFront x.entries w a b) same leaves)

  -- a call that has written nothing
  pub alone_for : (call : Call) → CrashesLeave x.entries LeftAlone a b → CrashesFor d number call x a b
  alone_for call leave start s is stands fit = leave_wider x.entries LeftAlone (LeftInCall d call s) a b (none_yet d call s) leave

-- nor one that was not made
pub none_for : (d : Dialect) (number : ℕ) (x : State) (a : Crashes) (call : Call) → CrashesFor d number call x a a
none_for d number x a call start s is stands fit = leave_none x.entries (LeftInCall d call s) a
