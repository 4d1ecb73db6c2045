-- The calls of a store, as those of a session of deeds.
use Rattle.std.proofs.Common.{ap, inl, rules, subst, sym, ◌∙◌}
use Rattle.std.proofs.lemmas.List.{append-nil, append_assoc, map-append}
use Rattle.std.specs.Option.{option_map}
use Rattle.std.specs.Prelude.{Bool, Err, List, cond, None, Ok, Option, Result, Some, [], false, refl, true, ℕ, ◌+◌, ◌++◌, ◌==◌, ◌∷◌, ◌≡◌, ◌⊎◌}
use Rattle.lq_base.specs.declared.reason.Reason.{Reason}
use Rattle.lq_model.specs.Catalogue.{Catalogue}
use Rattle.lq_model.specs.declared.caller.Room.{Room}
use Rattle.lq_model.specs.declared.caller.Room.TheVariants.{Ordinary}
use Rattle.lq_model.specs.declared.fault.StoreFault.{StoreFault}
use Rattle.lq_model.specs.declared.fault.StoreFault.TheVariants.{Busy, Disk, Full, NotSql, OutOfMemory, Refused}
use Rattle.lq_store.specs.Calls.{HasRoom, MayBegin, MayCommit, MayEnd, MayExecute, aborted, finished}
use Rattle.lq_store.specs.Journal.{Entry, end_of, is_full, size_of_all, State, Transaction, is_open, other, other_in, with_entries}
use Rattle.lq_store.specs.Work.{End, NoStatement, Outcome, Ran, Stopped, Work, kept_open, outcome, still_open, work_in, work_of, closed as closed_state}
use Rattle.lq_turns.specs.Deed.{Contents, contents_of, with_contents, contents_after, if_accepted, locked_after, made_of}
use Rattle.lq_turns.specs.Schedule.{StandsFor, StatementsTell, fits}
use Rattle.lq_turns.specs.Session.{Session, called, closed, executed_as, is_own, settled_if, settled_up}
use Rattle.lq_turns.specs.declared.call.Call.TheVariants.{Abort, Begin, Commit, Execute}
use Rattle.lq_turns.specs.declared.deed.Deed.{Deed}
use Rattle.lq_turns.specs.declared.deed.Deed.TheVariants.{Locks}
use Rattle.lq_turns.specs.declared.deed.OnLock.TheVariants.{Freed}
use Rattle.lq_run.specs.Does.{Appends, DoesCall, DoesDeed, IsRead}
use Rattle.lq_run.specs.Stands.{HadRoom, IsBegun, Stands, deed_text, entries_of, entry_of, entry_texts}
use Rattle.lq_run.proofs.Rooms.{more_room, sizes}
use Rattle.lq_run.proofs.Works.{Did, EndsAs, Works, did, settles}

joined : (o : Option (List Entry)) (a b c : List Entry) → c ≡ a ++ b → option_map (λ e. e ++ b) (option_map (λ e. e ++ a) o) ≡ option_map (λ e. e ++ c) o
joined None a b c is = refl
joined (Some e) a b c is = ap Some (append_assoc e a b ∙ ap (λ z. e ++ z) (sym is))

abbrev pub unit_of : Result ℕ StoreFault → Result (Unit {0}) StoreFault
unit_of (Ok n) = Ok tt
unit_of (Err fault) = Err fault

self_eq : (n : ℕ) → (n == n) ≡ true
self_eq n = Prim.search rules

differ_at : (b : Bool) → b ≡ true → b ≡ false → ⊥
differ_at b h k = Prim.cc

pub differ : (a b : ℕ) → a ≡ b → (a == b) ≡ false → ⊥
differ a b same h = differ_at (a == b) (subst (λ z. (a == z) ≡ true) same (self_eq a)) h

other_same : (t : Transaction) → other_in t.session (Some t) ≡ None
other_same t = ap (λ b. cond b None (Some t.session)) (self_eq t.session)

module _ (start : State) (number : ℕ) (x : State) (s : Session) (is : Stands start number x s) where
  -- a call's entries had room behind those of the session
  had_room : (t : Session) (written : List Entry) (more : List (List Deed)) (room : Room) → t.entries ≡ s.entries ++ more → written ≡ entries_of start.dialect more
      → (room ≡ Ordinary) ⊎ (more ≡ (Locks Freed ∷ []) ∷ []) → HasRoom room written x → HadRoom start.dialect start.limit start.used t.entries
  had_room t written more room entries texts which has =
      let there = start.used + size_of_all (entries_of start.dialect s.entries) in
      let full : is_full (end_of room start.limit) there (entries_of start.dialect more) ≡ false
      = ap (λ l. is_full (end_of room l) there (entries_of start.dialect more)) (sym is.limit) ∙ ap (λ u. is_full (end_of room x.limit) u (entries_of start.dialect more)) (sym is.used)
      ∙ ap (is_full (end_of room x.limit) x.used) (sym texts) ∙ has in
      subst (λ es. HadRoom start.dialect start.limit start.used es) (sym entries) (more_room start.dialect start.limit start.used room s.entries more is.room which full)

  -- the store with what a call wrote and left stands for the session after it
  pub gained : (t : Session) (written : List Entry) (c : Catalogue) (b : Option Transaction) (more : List (List Deed)) (room : Room) → t.entries ≡ s.entries ++ more → written ≡ entries_of start.dialect more
      → (room ≡ Ordinary) ⊎ (more ≡ (Locks Freed ∷ []) ∷ []) → HasRoom room written x
      → StandsFor start.dialect c t.committed → IsBegun start.dialect number t b → Stands start number (record (with_entries written x) { committed = c; begun = b }) t
  gained t written c b more room entries texts which has stands begun =
      let all : entries_of start.dialect t.entries ≡ entries_of start.dialect s.entries ++ written = ap (entries_of start.dialect) entries ∙ map-append (entry_of start.dialect) s.entries more ∙ ap (λ z. entries_of start.dialect s.entries ++ z) (sym texts) in
      record {
        dialect = is.dialect;
        limit = is.limit;
        live = is.live;
        committed = stands;
        begun = begun;
        entries = ap (λ e. option_map (λ entries. entries ++ written) e) is.entries ∙ joined start.entries (entries_of start.dialect s.entries) written (entries_of start.dialect t.entries) all;
        used = ap (λ u. u + size_of_all written) is.used ∙ sizes start.used (entries_of start.dialect s.entries) written ∙ ap (λ z. start.used + size_of_all z) (sym all);
        room = had_room t written more room entries texts which has;
      }

  opened_as : (o : Option Transaction) → is_open number o ≡ true → (t : Transaction) × (o ≡ Some t)
  opened_as None h = Prim.cc
  opened_as (Some t) h = (t, refl)

  pub work_is : (t : Transaction) → x.begun ≡ Some t → Works start.dialect s.entries (work_of x) s
  work_is t there =
      let begun = subst (IsBegun start.dialect number s) there is.begun in
      subst (λ b. Works start.dialect s.entries (work_in b x.committed) s) (sym there) (record {
        committed = is.committed;
        now = begun.2;
        texts = begun.3;
        more = [];
        entries = sym (append-nil s.entries);
        written = refl;
      })

  -- its transaction stays open
  pub stays : (t : Transaction) (w : Work) (after : Session) → x.begun ≡ Some t → Works start.dialect s.entries w after → after.is_open ≡ s.is_open → HasRoom Ordinary w.written x → Stands start number (kept_open w x) after
  stays t w after there works same has =
      let begun = subst (IsBegun start.dialect number s) there is.begun in
      gained after w.written w.committed (still_open w x.begun) works.more Ordinary works.entries works.written (inl refl) has works.committed
      (subst (λ b. IsBegun start.dialect number after (still_open w b)) (sym there) (same ∙ begun.0, begun.1, works.now, works.texts))

  -- or is closed
  pub ends : (w : Work) (after : Session) → StandsFor start.dialect w.committed after.committed → (more : List (List Deed)) (room : Room) → after.entries ≡ s.entries ++ more → w.written ≡ entries_of start.dialect more
      → (room ≡ Ordinary) ⊎ (more ≡ (Locks Freed ∷ []) ∷ []) → HasRoom room w.written x → (after.is_open ≡ false) × (after.seen ≡ after.committed) × (after.begun ≡ []) → Stands start number (closed_state w x) after
  ends w after stands more room entries written which has shut = gained after w.written w.committed None more room entries written which has stands shut

  still : (deed : Deed) (q : Result Contents Reason) (own : Bool) → is_own start.dialect deed ≡ own → (executed_as start.dialect deed s (if_accepted (with_contents (locked_after deed s.seen)) q)).is_open ≡ s.is_open
  still deed (Ok now) own is = elim (is_own start.dialect deed) as (λ o. (settled_if o (record (settled_if o s) { seen = with_contents (locked_after deed s.seen) now; begun = (settled_if o s).begun ++ deed ∷ [] })).is_open ≡ s.is_open) [ true ↦ refl | false ↦ refl ]
  still deed (Err reason) own is = elim (is_own start.dialect deed) as (λ o. (settled_if o s).is_open ≡ s.is_open) [ true ↦ refl | false ↦ refl ]

  stopped : (a b : Reason) → Stopped a ≡ Stopped b → a ≡ b
  stopped a b same = Prim.cc

  -- a deed in its transaction
  module _ (deed : Deed) where
    does_by : (q : Result Contents Reason) (o : Outcome) (t : Transaction) (result : Result ℕ StoreFault) (y : State) → x.begun ≡ Some t → contents_after start.dialect deed (contents_of s.seen) ≡ q
        → Did start.dialect s.entries deed q o s → MayEnd Ordinary o.end o.work.written (kept_open o.work x) x result y → DoesDeed start number x s deed (unit_of result) y
    does_by q o t result y there was works may =
        let now = subst (λ r. Works start.dialect s.entries o.work (executed_as start.dialect deed s (if_accepted (with_contents (locked_after deed s.seen)) r))) (sym was) works.works in
        let stands : HasRoom Ordinary o.work.written x → Stands start number (kept_open o.work x) (called start.dialect (Execute deed) s) = λ has.
        stays t o.work (called start.dialect (Execute deed) s) there now (still deed (contents_after start.dialect deed (contents_of s.seen)) (is_own start.dialect deed) refl) has in
        let appends : Appends start.dialect (Execute deed) s o.work.written = record { more = now.more; entries = now.entries; texts = now.written } in
        by q o.end result was works.ends stands appends may where
          by : (q : Result Contents Reason) (end : End) (result : Result ℕ StoreFault) → contents_after start.dialect deed (contents_of s.seen) ≡ q → EndsAs q end → (HasRoom Ordinary o.work.written x → Stands start number (kept_open o.work x) (called start.dialect (Execute deed) s))
              → Appends start.dialect (Execute deed) s o.work.written → MayEnd Ordinary end o.work.written (kept_open o.work x) x result y → DoesDeed start number x s deed (unit_of result) y
          by (Ok now) (Ran k) (Ok n) was ends stands appends may = (now, was, subst (λ z. Stands start number z (called start.dialect (Execute deed) s)) (sym may.1.1) (stands may.1.0))
          by (Ok now) (Ran k) (Err (Refused reason)) was ends stands appends may = Prim.cc
          by (Ok now) (Ran k) (Err NotSql) was ends stands appends may = Prim.cc
          by (Ok now) (Ran k) (Err (Busy n)) was ends stands appends may = absurd may
          by (Ok now) (Ran k) (Err Disk) was ends stands appends may = record { written = o.work.written; appends = appends; fails = may }
          by (Ok now) (Ran k) (Err (Full used next)) was ends stands appends may = (record { written = o.work.written; appends = appends; full = may.0 }, may.1)
          by (Ok now) (Ran k) (Err OutOfMemory) was ends stands appends may = may
          by (Err reason) (Stopped other) (Ok n) was ends stands appends may = Prim.cc
          by (Err reason) (Stopped other) (Err (Refused told)) was ends stands appends may =
              (was ∙ ap Err (ends ∙ stopped other told may.0), subst (λ z. Stands start number z (called start.dialect (Execute deed) s)) (sym may.1.1) (stands may.1.0))
          by (Err reason) (Stopped other) (Err NotSql) was ends stands appends may = Prim.cc
          by (Err reason) (Stopped other) (Err (Busy n)) was ends stands appends may = absurd may
          by (Err reason) (Stopped other) (Err Disk) was ends stands appends may = record { written = o.work.written; appends = appends; fails = may }
          by (Err reason) (Stopped other) (Err (Full used next)) was ends stands appends may = (record { written = o.work.written; appends = appends; full = may.0 }, may.1)
          by (Err reason) (Stopped other) (Err OutOfMemory) was ends stands appends may = may
          by (Ok now) (Stopped other) result was ends stands appends may = absurd ends
          by (Ok now) NoStatement result was ends stands appends may = absurd ends
          by (Err reason) (Ran k) result was ends stands appends may = absurd ends
          by (Err reason) NoStatement result was ends stands appends may = absurd ends

    pub does_deed : IsRead start.dialect deed → StatementsTell start.dialect → fits start.dialect deed s.seen ≡ true → is_open number x.begun ≡ true
        → (result : Result ℕ StoreFault) (y : State) → MayExecute (made_of start.dialect deed).0 (deed_text start.dialect deed) x result y → DoesDeed start number x s deed (unit_of result) y
    does_deed read tells fit opened result y may =
        let t = opened_as x.begun opened in
        does_by (contents_after start.dialect deed (contents_of s.seen)) (outcome start.dialect (made_of start.dialect deed).0 (deed_text start.dialect deed) (work_of x)) t.0 result y t.1 refl
        (did start.dialect s.entries deed (work_of x) s (work_is t.0 t.1) read tells fit)
        (subst (λ d. MayEnd Ordinary (outcome d (made_of start.dialect deed).0 (deed_text start.dialect deed) (work_of x)).end (outcome d (made_of start.dialect deed).0 (deed_text start.dialect deed) (work_of x)).work.written
        (kept_open (outcome d (made_of start.dialect deed).0 (deed_text start.dialect deed) (work_of x)).work x) x result y) is.dialect may)

  -- Begin, Commit, Abort
  pub does_begin : is_open number x.begun ≡ false → (result : Result (Unit {0}) StoreFault) (y : State) → MayBegin number x result y → (result ≡ Ok tt) × Stands start number y (called start.dialect Begin s)
  does_begin shut result y may = begin_by x.begun refl is.begun shut result may where
    begin_by : (o : Option Transaction) → x.begun ≡ o → IsBegun start.dialect number s o → is_open number o ≡ false → (result : Result (Unit {0}) StoreFault) → MayBegin number x result y → (result ≡ Ok tt) × Stands start number y (called start.dialect Begin s)
    begin_by None there begun h (Ok u) may = (
      refl,
      subst (λ z. Stands start number z (called start.dialect Begin s)) (sym may.1) (record {
        dialect = is.dialect;
        limit = is.limit;
        live = is.live;
        committed = is.committed;
        begun = (refl, refl, subst (StandsFor start.dialect x.committed) (sym begun.1) is.committed, sym (ap (entry_texts start.dialect) begun.2));
        entries = is.entries;
        used = is.used;
        room = is.room;
      }),
    )
    begin_by None there begun h (Err (Busy n)) may = Prim.cc
    begin_by None there begun h (Err (Refused reason)) may = absurd may.0
    begin_by None there begun h (Err NotSql) may = absurd may.0
    begin_by None there begun h (Err Disk) may = absurd may.0
    begin_by None there begun h (Err (Full used next)) may = absurd may.0
    begin_by None there begun h (Err OutOfMemory) may = absurd may.0
    begin_by (Some t) there begun h result may = absurd (differ t.session number begun.1 h)

  pub does_commit : is_open number x.begun ≡ true → (result : Result (Unit {0}) StoreFault) (y : State) → MayCommit x result y → DoesCall start number x s Ordinary Commit result y
  does_commit opened result y may = by result may where
    t : (t : Transaction) × (x.begun ≡ Some t)
    t = opened_as x.begun opened

    works : Works start.dialect s.entries (finished x) (settled_up s)
    works = settles start.dialect s.entries (work_of x) s (work_is t.0 t.1)

    appends : Appends start.dialect Commit s (finished x).written
    appends = record { more = works.more; entries = works.entries; texts = works.written }

    by : (result : Result (Unit {0}) StoreFault) → MayCommit x result y → DoesCall start number x s Ordinary Commit result y
    by (Ok u) may = subst (λ z. Stands start number z (called start.dialect Commit s)) (sym may.1) (ends (finished x) (closed s) works.committed works.more Ordinary works.entries works.written (inl refl) may.0 (refl, refl, refl))
    by (Err Disk) may = record { written = (finished x).written; appends = appends; fails = may }
    by (Err (Full used next)) may = (record { written = (finished x).written; appends = appends; full = may.0 }, may.1)
    by (Err OutOfMemory) may = absurd may
    by (Err (Refused reason)) may = absurd may
    by (Err NotSql) may = absurd may
    by (Err (Busy n)) may = absurd may

  pub does_abort : (y : State) → y ≡ aborted x → Stands start number y (called start.dialect Abort s)
  does_abort y after = subst (λ z. Stands start number z (called start.dialect Abort s)) (sym after) (record {
    dialect = is.dialect;
    limit = is.limit;
    live = is.live;
    committed = is.committed;
    begun = (refl, refl, refl);
    entries = is.entries;
    used = is.used;
    room = is.room;
  })

  -- no other session has a transaction
  pub no_other : other number x ≡ None
  no_other = by x.begun is.begun where
    by : (o : Option Transaction) → IsBegun start.dialect number s o → other_in number o ≡ None
    by None begun = refl
    by (Some t) begun = subst (λ k. other_in k (Some t) ≡ None) begun.1 (other_same t)
