-- Several deeds in one call.
use Rattle.std.proofs.Common.{ap, inl, inr, subst, sym, ◌∙◌}
use Rattle.std.proofs.lemmas.List.{append-nil, append_cancel_left}
use Rattle.std.specs.Prelude.{Bool, Err, List, None, Ok, Option, Result, Some, [], false, refl, true, ℕ, ◌++◌, ◌∷◌, ◌≡◌, ◌⊎◌}
use Rattle.lq_base.specs.declared.dialect.Dialect.{Dialect}
use Rattle.lq_base.specs.declared.reason.Reason.{Reason}
use Rattle.lq_model.proofs.Lists.{and_left, and_right}
use Rattle.lq_model.specs.declared.caller.Room.{Room}
use Rattle.lq_model.specs.declared.caller.Room.TheVariants.{Ordinary, Release}
use Rattle.lq_model.specs.declared.fault.StoreFault.{StoreFault}
use Rattle.lq_model.specs.declared.fault.StoreFault.TheVariants.{Busy, Disk, Full, NotSql, OutOfMemory, Refused}
use Rattle.lq_store.specs.Calls.{HasRoom, MayAlone, MayEnd, done_alone, ran_alone}
use Rattle.lq_store.specs.Journal.{State, Transaction, is_open, other}
use Rattle.lq_store.specs.Work.{End, NoStatement, Outcome, Ran, Stopped, Work, goes_on, outcome, outcome_all, work_in, closed as closed_state}
use Rattle.lq_track.specs.Database.{Database}
use Rattle.lq_turns.specs.Deed.{Contents, contents_of, with_contents, all_done, contents_after, if_accepted, locked_after, made_of}
use Rattle.lq_turns.specs.Schedule.{StandsFor, StatementsTell, all_fit, fits}
use Rattle.lq_turns.specs.Session.{Session, accepted, all_executed, all_executed_as, executed_as, is_own, settled_if}
use Rattle.lq_turns.specs.declared.call.Call.TheVariants.{Alone}
use Rattle.lq_turns.specs.declared.deed.Deed.{Deed}
use Rattle.lq_turns.specs.declared.deed.Deed.TheVariants.{Locks}
use Rattle.lq_turns.specs.declared.deed.OnLock.TheVariants.{Freed}
use Rattle.lq_run.specs.Does.{AllRead, Appends, DoesAlone, MayFill}
use Rattle.lq_run.specs.Stands.{IsBegun, Stands, deed_text, entries_of, entry_texts, texts_of}
use Rattle.lq_run.proofs.Doing.{differ, ends, no_other}
use Rattle.lq_run.proofs.Grows.{closing_entry}
use Rattle.lq_run.proofs.Works.{Did, EndsAs, Works, did, settles}

abbrev pub AllEndAs : Result Database Reason → End → Type 0
AllEndAs (Ok now) (Ran n) = Unit {0}
AllEndAs (Err reason) (Stopped other) = reason ≡ other
AllEndAs _ _ = ⊥

pub record AllDid (d : Dialect) (first : List (List Deed)) (r : Result Database Reason) (o : Outcome) (s : Session) : Type 0 where
  pub ends : AllEndAs r o.end
  pub committed : StandsFor d o.work.committed s.committed
  pub more : List (List Deed)
  pub entries : s.entries ≡ first ++ more
  pub written : o.work.written ≡ entries_of d more
  pub shut : (s.is_open ≡ false) × (s.seen ≡ s.committed) × (s.begun ≡ [])

abbrev pub all_done_as : (Database → Result Database Reason) → Result Database Reason → Result Database Reason
all_done_as more (Ok now) = more now
all_done_as more (Err reason) = Err reason

abbrev pub all_fit_as : (Database → Bool) → Result Database Reason → Bool
all_fit_as more (Ok now) = more now
all_fit_as more (Err reason) = true

seen_now : (own : Bool) (now : Database) (deed : Deed) (s : Session) → (settled_if own (record (settled_if own s) { seen = now; begun = (settled_if own s).begun ++ deed ∷ [] })).seen ≡ now
seen_now true now deed s = refl
seen_now false now deed s = refl

module _ (d : Dialect) (first : List (List Deed)) where
  next : (deed : Deed) (s : Session) (q : Result Contents Reason) (o : Outcome) (run : Work → Outcome) (go : Session → Session) (more : Database → Result Database Reason) (fit : Database → Bool) → Did d first deed q o s
      → ((now : Contents) → q ≡ Ok now → Works d first o.work (accepted d deed (with_contents (locked_after deed s.seen) now) s) → fit (with_contents (locked_after deed s.seen) now) ≡ true
      → AllDid d first (more (with_contents (locked_after deed s.seen) now)) (run o.work) (go (accepted d deed (with_contents (locked_after deed s.seen) now) s)))
      → all_fit_as fit (if_accepted (with_contents (locked_after deed s.seen)) q) ≡ true
      → AllDid d first (all_done_as more (if_accepted (with_contents (locked_after deed s.seen)) q)) (goes_on o.end o.work run) (all_executed_as d deed s go (if_accepted (with_contents (locked_after deed s.seen)) q))
  next deed s q o run go more fit was then fits = by q o.end was.ends was.works then fits where
    by : (q : Result Contents Reason) (end : End) → EndsAs q end → Works d first o.work (executed_as d deed s (if_accepted (with_contents (locked_after deed s.seen)) q))
        → ((now : Contents) → q ≡ Ok now → Works d first o.work (accepted d deed (with_contents (locked_after deed s.seen) now) s) → fit (with_contents (locked_after deed s.seen) now) ≡ true
        → AllDid d first (more (with_contents (locked_after deed s.seen) now)) (run o.work) (go (accepted d deed (with_contents (locked_after deed s.seen) now) s)))
        → all_fit_as fit (if_accepted (with_contents (locked_after deed s.seen)) q) ≡ true
        → AllDid d first (all_done_as more (if_accepted (with_contents (locked_after deed s.seen)) q)) (goes_on end o.work run) (all_executed_as d deed s go (if_accepted (with_contents (locked_after deed s.seen)) q))
    by (Ok now) (Ran n) ends works then fits = then now refl works fits
    by (Err reason) (Stopped other) ends works then fits = record { ends = ends; committed = works.committed; more = works.more; entries = works.entries; written = works.written; shut = (refl, refl, refl) }
    by (Ok now) (Stopped other) ends works then fits = absurd ends
    by (Ok now) NoStatement ends works then fits = absurd ends
    by (Err reason) (Ran n) ends works then fits = absurd ends
    by (Err reason) NoStatement ends works then fits = absurd ends

  pub all_did : StatementsTell d → (deeds : List Deed) (w : Work) (s : Session) → AllRead d deeds → Works d first w s → all_fit d deeds s.seen ≡ true
      → AllDid d first (all_done d deeds s.seen) (outcome_all d (texts_of d deeds) w) (all_executed d deeds s)
  all_did tells [] w s can is fit =
      let last = settles d first w s is in
      record { ends = tt; committed = last.committed; more = last.more; entries = last.entries; written = last.written; shut = (refl, refl, refl) }
  all_did tells (deed ∷ deeds) w s can is fit =
      next deed s (contents_after d deed (contents_of s.seen)) (outcome d (made_of d deed).0 (deed_text d deed) w) (outcome_all d (texts_of d deeds)) (all_executed d deeds) (all_done d deeds) (all_fit d deeds)
      (did d first deed w s is can.0 tells (and_left (fits d deed s.seen) _ fit))
      (λ now was works.
      let o = outcome d (made_of d deed).0 (deed_text d deed) w in
      let t = accepted d deed (with_contents (locked_after deed s.seen) now) s in
      subst (λ z. all_fit d deeds z ≡ true → AllDid d first (all_done d deeds z) (outcome_all d (texts_of d deeds) o.work) (all_executed d deeds t)) (seen_now (is_own d deed) (with_contents (locked_after deed s.seen) now) deed s)
      (λ fit. all_did tells deeds o.work t can.1 works fit))
      (and_right (fits d deed s.seen) _ fit)

abbrev MayAloneAs : ℕ → Room → State → Outcome → Result (Unit {0}) StoreFault → State → Type 0
MayAloneAs number room x o result y = MayEnd room o.end o.work.written (closed_state o.work x) x (ran_alone result o.end) y

none_some : (o : Option ℕ) (n : ℕ) → o ≡ None → o ≡ Some n → ⊥
none_some o n h k = Prim.cc

ran_stopped : (k : ℕ) (a : Reason) → Ran k ≡ Stopped a → ⊥
ran_stopped k a h = Prim.cc

ran_none : (k : ℕ) → Ran k ≡ NoStatement → ⊥
ran_none k h = Prim.cc

stopped_none : (a : Reason) → Stopped a ≡ NoStatement → ⊥
stopped_none a h = Prim.cc

told : (a b : Reason) → Stopped a ≡ Stopped b → a ≡ b
told a b same = Prim.cc

-- only what frees the lock may use all of the journal
uses : (d : Dialect) (s : Session) (deeds : List Deed) (room : Room) (more : List (List Deed)) → MayFill room deeds → s.begun ≡ [] → (all_executed d deeds s).entries ≡ s.entries ++ more → (room ≡ Ordinary) ⊎ (more ≡ (Locks Freed ∷ []) ∷ [])
uses d s deeds Ordinary more fills none entries = inl refl
uses d s deeds Release more fills none entries = inr (append_cancel_left s.entries more ((Locks Freed ∷ []) ∷ []) (sym entries ∙ ap (λ ds. (all_executed d ds s).entries) fills ∙ closing_entry d s none))

module _ (start : State) (number : ℕ) (x : State) (s : Session) (is : Stands start number x s) (deeds : List Deed) (room : Room) where
  pub works_alone : is_open number x.begun ≡ false → Works start.dialect s.entries (work_in None x.committed) s
  works_alone shut = by x.begun is.begun shut where
    by : (o : Option Transaction) → IsBegun start.dialect number s o → is_open number o ≡ false → Works start.dialect s.entries (work_in None x.committed) s
    by None begun h = record {
      committed = is.committed;
      now = subst (StandsFor start.dialect x.committed) (sym begun.1) is.committed;
      texts = sym (ap (entry_texts start.dialect) begun.2);
      more = [];
      entries = sym (append-nil s.entries);
      written = refl;
    }
    by (Some t) begun h = absurd (differ t.session number begun.1 h)

  none_begun : is_open number x.begun ≡ false → s.begun ≡ []
  none_begun shut = by x.begun is.begun shut where
    by : (o : Option Transaction) → IsBegun start.dialect number s o → is_open number o ≡ false → s.begun ≡ []
    by None begun h = begun.2
    by (Some t) begun h = absurd (differ t.session number begun.1 h)

  by_end : (r : Result Database Reason) (o : Outcome) (result : Result (Unit {0}) StoreFault) (y : State) → all_done start.dialect deeds s.seen ≡ r → MayFill room deeds → s.begun ≡ []
      → AllDid start.dialect s.entries r o (all_executed start.dialect deeds s) → MayAloneAs number room x o result y → DoesAlone start number x s deeds room result y
  by_end r o result y was fills none all may = by r o.end result was all.ends may where
    appends : Appends start.dialect (Alone deeds room) s o.work.written
    appends = record { more = all.more; entries = all.entries; texts = all.written }

    at : HasRoom room o.work.written x → y ≡ closed_state o.work x → Stands start number y (all_executed start.dialect deeds s)
    at has after =
        let which : (room ≡ Ordinary) ⊎ (all.more ≡ (Locks Freed ∷ []) ∷ []) = uses start.dialect s deeds room all.more fills none all.entries in
        subst (λ z. Stands start number z (all_executed start.dialect deeds s)) (sym after)
        (ends start number x s is o.work (all_executed start.dialect deeds s) all.committed all.more room all.entries all.written which has all.shut)

    by : (r : Result Database Reason) (end : End) (result : Result (Unit {0}) StoreFault) → all_done start.dialect deeds s.seen ≡ r → AllEndAs r end
        → MayEnd room end o.work.written (closed_state o.work x) x (ran_alone result end) y → DoesAlone start number x s deeds room result y
    by (Ok now) (Ran k) (Ok u) was same may = (now, was, at may.1.0 may.1.1)
    by (Ok now) (Ran k) (Err (Refused reason)) was same may = absurd (ran_stopped k reason may.0)
    by (Ok now) (Ran k) (Err NotSql) was same may = absurd (ran_none k may.0)
    by (Ok now) (Ran k) (Err (Busy n)) was same may = absurd may
    by (Ok now) (Ran k) (Err Disk) was same may = record { written = o.work.written; appends = appends; fails = may }
    by (Ok now) (Ran k) (Err (Full used next)) was same may = (record { written = o.work.written; appends = appends; full = may.0 }, may.1)
    by (Ok now) (Ran k) (Err OutOfMemory) was same may = may
    by (Err reason) (Stopped other) (Ok u) was same may = absurd (ran_stopped 0 other (sym may.0))
    by (Err reason) (Stopped other) (Err (Refused why)) was same may = (was ∙ ap Err (same ∙ told other why may.0), at may.1.0 may.1.1)
    by (Err reason) (Stopped other) (Err NotSql) was same may = absurd (stopped_none other may.0)
    by (Err reason) (Stopped other) (Err (Busy n)) was same may = absurd may
    by (Err reason) (Stopped other) (Err Disk) was same may = record { written = o.work.written; appends = appends; fails = may }
    by (Err reason) (Stopped other) (Err (Full used next)) was same may = (record { written = o.work.written; appends = appends; full = may.0 }, may.1)
    by (Err reason) (Stopped other) (Err OutOfMemory) was same may = may
    by (Ok now) (Stopped other) result was same may = absurd same
    by (Ok now) NoStatement result was same may = absurd same
    by (Err reason) (Ran k) result was same may = absurd same
    by (Err reason) NoStatement result was same may = absurd same

  pub does_alone : MayFill room deeds → AllRead start.dialect deeds → StatementsTell start.dialect → all_fit start.dialect deeds s.seen ≡ true → is_open number x.begun ≡ false
      → (result : Result (Unit {0}) StoreFault) (y : State) → MayAlone number (texts_of start.dialect deeds) room x result y → DoesAlone start number x s deeds room result y
  does_alone fills read tells fit shut result y may =
      by result may where
        all : AllDid start.dialect s.entries (all_done start.dialect deeds s.seen) (outcome_all start.dialect (texts_of start.dialect deeds) (work_in None x.committed)) (all_executed start.dialect deeds s)
        all = all_did start.dialect s.entries tells deeds (work_in None x.committed) s read (works_alone shut) fit

        ended : (result : Result (Unit {0}) StoreFault) → MayAloneAs number room x (done_alone (texts_of start.dialect deeds) x) result y → DoesAlone start number x s deeds room result y
        ended result may = by_end (all_done start.dialect deeds s.seen) (outcome_all start.dialect (texts_of start.dialect deeds) (work_in None x.committed)) result y refl fills (none_begun shut) all
            (subst (λ d. MayAloneAs number room x (outcome_all d (texts_of start.dialect deeds) (work_in None x.committed)) result y) is.dialect may)

        by : (result : Result (Unit {0}) StoreFault) → MayAlone number (texts_of start.dialect deeds) room x result y → DoesAlone start number x s deeds room result y
        by (Err (Busy n)) may = absurd (none_some (other number x) n (no_other start number x s is) may.0)
        by (Ok u) may = ended (Ok u) may.1
        by (Err Disk) may = ended (Err Disk) may.1
        by (Err (Full used next)) may = ended (Err (Full used next)) may.1
        by (Err OutOfMemory) may = ended (Err OutOfMemory) may.1
        by (Err (Refused reason)) may = ended (Err (Refused reason)) may.1
        by (Err NotSql) may = ended (Err NotSql) may.1
