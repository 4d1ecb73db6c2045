-- The journal of a schedule.
use Rattle.std.proofs.Common.{ap, subst, sym, ◌∙◌}
use Rattle.std.specs.Prelude.{Bool, Err, List, None, Ok, Option, Result, Some, [], false, if◌then◌else◌, nat_eq, refl, true, ℕ, ◌&&◌, ◌++◌, ◌∷◌, ◌≡◌}
use Rattle.lq_base.specs.declared.dialect.Dialect.{Dialect}
use Rattle.lq_base.specs.declared.reason.Reason.{Reason}
use Rattle.lq_base.specs.declared.tracking.Lock.{Lock}
use Rattle.lq_track.specs.Database.{Database}
use Rattle.lq_turns.specs.Deed.{all_done, done}
use Rattle.lq_turns.specs.Schedule.{Holder, Job, Machine, all_moved, answers_with, appended, begins, first_step, has_answered, has_begun, later_step, makes, moved, start}
use Rattle.lq_turns.specs.Serial.{SchedulesLead}
use Rattle.lq_turns.specs.declared.call.Call.{Call}
use Rattle.lq_turns.specs.declared.call.Call.TheVariants.{Abort, Alone, Begin, Commit, Execute}
use Rattle.lq_turns.specs.declared.deed.Deed.{Deed}
use Rattle.lq_turns.specs.Session.{Session, aborted, accepted, all_executed, all_executed_as, before, called, closed, executed_as, is_own, session_on, settled_if}
use Rattle.lq_turns.specs.Stops.{Journal, joined}
use Rattle.lq_turns.proofs.Journal.{calls_lead, done_both, joined_both, next}

-- what was appended before a call is no matter to it

abbrev with_entries : Session → Journal → Session
with_entries s entries = record s { entries = entries }

abbrev IsWith : Session → Session → Type 0
IsWith t s = (entries : Journal) × (t ≡ with_entries s entries)

module _ (d : Dialect) where
  accepts_with : (own : Bool) (deed : Deed) (now : Database) (s : Session) (entries : Journal)
      → IsWith (settled_if own (record (settled_if own (with_entries s entries)) { seen = now; begun = (settled_if own (with_entries s entries)).begun ++ deed ∷ [] })) (settled_if own (record (settled_if own s) { seen = now; begun = (settled_if own s).begun ++ deed ∷ [] }))
  accepts_with true deed now s entries = ((settled_if true (record (settled_if true (with_entries s entries)) { seen = now; begun = deed ∷ [] })).entries, refl)
  accepts_with false deed now s entries = (entries, refl)

  before_with : (own : Bool) (s : Session) (entries : Journal) → IsWith (settled_if own (with_entries s entries)) (settled_if own s)
  before_with true s entries = ((settled_if true (with_entries s entries)).entries, refl)
  before_with false s entries = (entries, refl)

  aborted_with : (t s : Session) → IsWith t s → IsWith (aborted t) (aborted s)
  aborted_with t s is = (is.0, ap aborted is.1)

  executes_with : (deed : Deed) (s : Session) (entries : Journal) (r : Result Database Reason) → IsWith (executed_as d deed (with_entries s entries) r) (executed_as d deed s r)
  executes_with deed s entries (Ok now) = accepts_with (is_own d deed) deed now s entries
  executes_with deed s entries (Err reason) = before_with (is_own d deed) s entries

  all_with : (deeds : List Deed) (s : Session) (entries : Journal) → IsWith (all_executed d deeds (with_entries s entries)) (all_executed d deeds s)
  all_with [] s entries = ((closed (with_entries s entries)).entries, refl)
  all_with (deed ∷ deeds) s entries = elim (done d deed s.seen) as (λ r. IsWith (all_executed_as d deed (with_entries s entries) (all_executed d deeds) r) (all_executed_as d deed s (all_executed d deeds) r)) [
    | Ok now ↦
        let one = accepts_with (is_own d deed) deed now s entries in
        subst (λ t. IsWith (all_executed d deeds t) (all_executed d deeds (accepted d deed now s))) (sym one.1) (all_with deeds (accepted d deed now s) one.0)
    | Err reason ↦ aborted_with (before d deed (with_entries s entries)) (before d deed s) (before_with (is_own d deed) s entries)
  ]

  call_with : (call : Call) (s : Session) (entries : Journal) → IsWith (called d call (with_entries s entries)) (called d call s)
  call_with (Alone deeds room) s entries = all_with deeds s entries
  call_with Begin s entries = (entries, refl)
  call_with (Execute deed) s entries = executes_with deed s entries (done d deed s.seen)
  call_with Commit s entries = ((closed (with_entries s entries)).entries, refl)
  call_with Abort s entries = (entries, refl)

  -- what a call appends leads from what was committed to what is
  record CallLeads (call : Call) (s : Session) : Type 0 where
    committed : all_done d (joined (appended d call s)) s.committed ≡ Ok (called d call s).committed
    seen : all_done d (called d call s).begun (called d call s).committed ≡ Ok (called d call s).seen

  call_leads : (call : Call) (s : Session) → all_done d s.begun s.committed ≡ Ok s.seen → CallLeads call s
  call_leads call s leads =
      let bare = with_entries s [] in
      let it = calls_lead d s.committed (call ∷ []) bare (record { committed = refl; seen = leads }) in
      let same = call_with call s [] in record {
        committed = it.committed ∙ ap (λ (t : Session). Ok t.committed) same.1;
        seen = sym (ap (λ (t : Session). all_done d t.begun t.committed) same.1) ∙ it.seen ∙ ap (λ (t : Session). Ok t.seen) same.1;
      }

module _ (Answer : Type 0) (locked : Lock → Answer) (busy : ℕ → Answer) (d : Dialect) (jobs : ℕ → Job Answer locked busy) (database : Database) where
  abbrev Runs : Type 0
  Runs = Machine Answer locked busy

  -- the session of the runner that is under way is on the committed database
  abbrev IsOn : Option (Holder Answer locked busy) → Database → Type 0
  IsOn None committed = Unit {0}
  IsOn (Some h) committed = (h.session.committed ≡ committed) × (all_done d h.session.begun h.session.committed ≡ Ok h.session.seen)

  record Told (x : Runs) : Type 0 where
    journal : all_done d (joined x.entries) database ≡ Ok x.committed
    holder : IsOn x.holder x.committed

  answer_told : (n : ℕ) (a : Answer) (x : Runs) → Told x → Told (answers_with Answer locked busy n a x)
  answer_told n a x told = record { journal = told.journal; holder = told.holder }

  makes_told : (n : ℕ) (s : Session) (calls : List Call) (a : Answer) (x : Runs) → Told x → s.committed ≡ x.committed → all_done d s.begun s.committed ≡ Ok s.seen → Told (makes Answer locked busy d jobs n s calls a x)
  makes_told n s [] a x told same leads = answer_told n a x told
  makes_told n s (call ∷ calls) a x told same leads =
      let one = call_leads d call s leads in
      let journal = ap (λ deeds. all_done d deeds database) (joined_both x.entries (appended d call s)) ∙ done_both d (joined x.entries) (joined (appended d call s)) database
      ∙ ap (next d (joined (appended d call s))) (told.journal ∙ ap (λ (e : Database). Ok e) (sym same)) ∙ one.committed in
      by calls journal one.seen where
        by : (calls : List Call) → all_done d (joined (x.entries ++ appended d call s)) database ≡ Ok (called d call s).committed → all_done d (called d call s).begun (called d call s).committed ≡ Ok (called d call s).seen
            → Told (makes Answer locked busy d jobs n s (call ∷ calls) a x)
        by [] journal seen = record { journal = journal; holder = tt }
        by (more ∷ calls) journal seen = record { journal = journal; holder = (refl, seen) }

  begins_told : (n : ℕ) (o : Option Answer) (x : Runs) → Told x → Told (begins Answer locked busy d jobs n o x)
  begins_told n (Some a) x told = answer_told n a x told
  begins_told n None x told = makes_told n (session_on x.committed) ((jobs n).script x.committed) ((jobs n).answer x.committed) x told refl refl

  first_told : (n : ℕ) (x : Runs) → Told x → (waits : Bool) (o : Option (Holder Answer locked busy))
      → Told (if waits then answers_with Answer locked busy n (locked x.committed.lock) x else elim o as (λ _. Runs) [ None ↦ begins Answer locked busy d jobs n ((jobs n).refuses x.committed) x | Some h ↦ if h.session.is_open then answers_with Answer locked busy n (busy h.runner) x else begins Answer locked busy d jobs n ((jobs n).refuses x.committed) x ])
  first_told n x told true o = answer_told n (locked x.committed.lock) x told
  first_told n x told false None = begins_told n ((jobs n).refuses x.committed) x told
  first_told n x told false (Some h) = elim h.session.is_open as (λ b. Told (if b then answers_with Answer locked busy n (busy h.runner) x else begins Answer locked busy d jobs n ((jobs n).refuses x.committed) x)) [
    | true ↦ answer_told n (busy h.runner) x told
    | false ↦ begins_told n ((jobs n).refuses x.committed) x told
  ]

  later_told : (n : ℕ) (x : Runs) → Told x → (o : Option (Holder Answer locked busy)) → IsOn o x.committed
      → Told (elim o as (λ _. Runs) [ None ↦ answers_with Answer locked busy n (locked x.committed.lock) x | Some h ↦ if nat_eq h.runner n then makes Answer locked busy d jobs n h.session h.rest h.answer x else answers_with Answer locked busy n (locked x.committed.lock) x ])
  later_told n x told None on = answer_told n (locked x.committed.lock) x told
  later_told n x told (Some h) on = elim (nat_eq h.runner n) as (λ b. Told (if b then makes Answer locked busy d jobs n h.session h.rest h.answer x else answers_with Answer locked busy n (locked x.committed.lock) x)) [
    | true ↦ makes_told n h.session h.rest h.answer x told on.0 on.1
    | false ↦ answer_told n (locked x.committed.lock) x told
  ]

  moved_told : (n : ℕ) (x : Runs) → Told x → (gone there : Bool) → Told (if gone then x else if there then later_step Answer locked busy d jobs n x else first_step Answer locked busy d jobs n x)
  moved_told n x told true there = told
  moved_told n x told false true = later_told n x told x.holder told.holder
  moved_told n x told false false = first_told n x told ((jobs n).needs_lock && x.committed.lock.locked) x.holder

  all_told : (schedule : List ℕ) (x : Runs) → Told x → Told (all_moved Answer locked busy d jobs schedule x)
  all_told [] x told = told
  all_told (n ∷ schedule) x told = all_told schedule (moved Answer locked busy d jobs n x) (moved_told n x told (has_answered Answer locked busy n x) (has_begun Answer locked busy n x))

pub schedules_lead : (Answer : Type 0) → SchedulesLead Answer
schedules_lead Answer locked busy d jobs database schedule = (all_told Answer locked busy d jobs database schedule (start Answer locked busy database) (record { journal = refl; holder = tt })).journal
