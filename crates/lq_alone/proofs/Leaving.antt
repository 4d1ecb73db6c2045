-- What one runner leaves, and why its journal is full.
use Rattle.std.proofs.Common.{ap, append-nil, append_assoc, inl, inr, subst, sym, ◌∙◌}
use Rattle.std.specs.List.{list_any}
use Rattle.std.specs.Prelude.{Bool, List, None, Option, Some, [], false, if◌then◌else◌, refl, true, ℕ, ◌+◌, ◌==◌, ◌++◌, ◌∷◌, ◌≡◌, ◌⊎◌}
use Rattle.lq_base.specs.declared.dialect.Dialect.{Dialect}
use Rattle.lq_base.specs.declared.tracking.Lock.{Lock}
use Rattle.lq_drill.proofs.FreedOnce.{closing_frees, frees_lock}
use Rattle.lq_drill.specs.Faults.{freed, held_by, HasNoRoom, Meets, frees, gives_up, has_bar, last_calls, left_with, entries_of}
use Rattle.lq_drill.specs.declared.fault.DrillFault.{DrillFault}
use Rattle.lq_drill.specs.declared.fault.DrillFault.TheVariants as fault
use Rattle.lq_model.specs.declared.caller.Room.TheVariants.{Ordinary, Release}
use Rattle.lq_alone.proofs.Adding.{adds_up}
use Rattle.lq_alone.specs.Plain.{IsFullBy, OneFrees, OneIsFull, OneLeaves}
use Rattle.lq_alone.specs.One.{MetFault, StandsAt, after, over, way}
use Rattle.lq_store.specs.Journal.{end_of, is_full, size_of_all}
use Rattle.lq_track.specs.Database.{Database}
use Rattle.lq_alone.proofs.Growing.{calls_grow}
use Rattle.lq_turns.proofs.Growing.{fronts_are_left}
use Rattle.lq_turns.proofs.Journal.{calls_lead}
use Rattle.lq_turns.proofs.Locked.{cut}
use Rattle.lq_turns.proofs.Made.{calls_both}
use Rattle.lq_turns.proofs.MarkRead.{bare_names_have_no_mark}
use Rattle.lq_turns.specs.Schedule.{Holder, Job, Machine, appended, start}
use Rattle.lq_turns.specs.Script.{closing}
use Rattle.lq_turns.specs.Serial.{makes_first}
use Rattle.lq_turns.specs.Session.{Session, all_called, called, room_of, session_on}
use Rattle.lq_turns.specs.Stops.{IsLeft, Journal, has_mark, is_mark}
use Rattle.lq_turns.specs.declared.call.Call.{Call}
use Rattle.lq_turns.specs.declared.call.Call.TheVariants.{Abort}

-- the call that frees the lock appends its entry
pub frees_entries : (d : Dialect) (s : Session) → s.begun ≡ [] → (called d closing s).entries ≡ s.entries ++ freed
frees_entries d s idle = adds_up d closing s ∙ ap (λ es. s.entries ++ es) (closing_frees d s idle)

pub one_frees : (Answer : Type 0) → OneFrees Answer
one_frees Answer as_locked busy failed d job database x p = elim p.by [
  | inl is ↦ inr (ap (λ (w : Machine Answer as_locked busy). has_bar w.committed.lock) is.1.1 ∙ is.0)
  | inr is ↦ inl (ap (λ (w : Machine Answer as_locked busy). w.committed.lock) is.1.1 ∙ frees_lock d p.session)
]

-- a name without a bar has no mark
pub no_mark : (lock : Lock) → has_bar lock ≡ false → has_mark lock ≡ false
no_mark lock none = by lock.by none where
  by : (o : Option (List ℕ)) → elim o as (λ _. Bool) [ Some by ↦ list_any (λ b. b == 124) by | None ↦ false ] ≡ false → elim o as (λ _. Bool) [ Some by ↦ is_mark by | None ↦ false ] ≡ false
  by None is = refl
  by (Some who) is = bare_names_have_no_mark who is

-- a front of the entries of the first calls
pub front_left : (d : Dialect) (calls made rest : List Call) (database : Database) (front more : Journal) → calls ≡ made ++ rest → (all_called d made (session_on database)).entries ≡ front ++ more → IsLeft d calls database [] front
front_left d calls made rest database front more is entries =
    let s : Session = all_called d made (session_on database) in
    let grows = calls_grow d rest s in
    subst (λ cs. IsLeft d cs database [] front) (sym is)
    (fronts_are_left d (made ++ rest) database [] front (more ++ grows.more)
    (ap (λ (t : Session). t.entries) (calls_both d made rest (session_on database)) ∙ grows.is ∙ ap (λ es. es ++ grows.more) entries ∙ append_assoc front more grows.more))

-- those, and then the entry that frees a lock without a mark
pub freed_left : (d : Dialect) (calls made rest : List Call) (database : Database) → calls ≡ made ++ rest → has_mark (all_called d made (session_on database)).committed.lock ≡ false
    → IsLeft d calls database [] ((all_called d made (session_on database)).entries ++ freed)
freed_left d calls made rest database is unmarked =
    let s : Session = all_called d made (session_on database) in
    let grows = calls_grow d rest s in
    subst (λ cs. IsLeft d cs database [] (s.entries ++ freed)) (sym is) (record {
      front = s.entries;
      rest = grows.more;
      entries = ap (λ (t : Session). t.entries) (calls_both d made rest (session_on database)) ∙ grows.is;
      now = s.committed;
      led = (calls_lead d database made (session_on database) (record { committed = refl; seen = refl })).committed;
      is = inr (refl, unmarked);
    })

-- a front of both
either_left : (d : Dialect) (calls made rest : List Call) (database : Database) (front more : Journal) → calls ≡ made ++ rest → has_mark (all_called d made (session_on database)).committed.lock ≡ false
    → (all_called d made (session_on database)).entries ++ freed ≡ front ++ more → IsLeft d calls database [] front
either_left d calls made rest database front more is unmarked both =
    let s : Session = all_called d made (session_on database) in
    elim (cut s.entries freed front more both) [
      | inl q ↦ front_left d calls made rest database front q.0 is q.1
      | inr q ↦ subst (IsLeft d calls database []) (sym q.1) (tail q.0 more q.2)
    ] where
      tail : (part last : Journal) → freed ≡ part ++ last → IsLeft d calls database [] ((all_called d made (session_on database)).entries ++ part)
      tail [] last split = front_left d calls made rest database ((all_called d made (session_on database)).entries ++ []) [] is (sym (append-nil ((all_called d made (session_on database)).entries ++ []) ∙ append-nil (all_called d made (session_on database)).entries))
      tail (e ∷ []) last split =
          let one : freed ≡ e ∷ [] = only split in
          subst (λ p. IsLeft d calls database [] ((all_called d made (session_on database)).entries ++ p)) one (freed_left d calls made rest database is unmarked) where
            only : freed ≡ e ∷ last → freed ≡ e ∷ []
            only split = cc
      tail (e ∷ f ∷ part) last split = cc

module _ (Answer : Type 0) (as_locked : Lock → Answer) (busy : ℕ → Answer) (failed : DrillFault → Answer) (d : Dialect) (job : Job Answer as_locked busy) (database : Database) where
  abbrev Runs : Type 0
  Runs = Machine Answer as_locked busy

  abbrev ran : List Call → Session
  ran made = after failed d job database made

  -- the entries of a session that met a fault are those of its calls
  pub same_entries : (s : Session) (m : MetFault failed d job database s) → s.entries ≡ (ran (m.cut.first ∷ m.cut.more)).entries
  same_entries s m = elim m.from [ inl is ↦ ap (λ (t : Session). t.entries) is | inr is ↦ ap (λ (t : Session). t.entries) is ]

  -- and so is what is committed
  same_committed : (s : Session) (m : MetFault failed d job database s) → s.committed ≡ (ran (m.cut.first ∷ m.cut.more)).committed
  same_committed s m = elim m.from [ inl is ↦ ap (λ (t : Session). t.committed) is | inr is ↦ ap (λ (t : Session). t.committed) is ]

  pub unmarked_there : (s : Session) (m : MetFault failed d job database s) → has_bar s.committed.lock ≡ false → has_mark (ran (m.cut.first ∷ m.cut.more)).committed.lock ≡ false
  unmarked_there s m is = ap (λ (e : Database). has_mark e.lock) (sym (same_committed s m)) ∙ no_mark s.committed.lock is

  leaves : (met : Type 0) (x : Runs) → StandsAt failed d job database met x → (front more : Journal) → x.entries ≡ front ++ more → IsLeft d (job.script database) database [] front
  leaves met x (inl is) front more entries = front_left d (job.script database) [] (job.script database) database front more refl (ap (λ (w : Runs). w.entries) (sym is) ∙ entries)
  leaves met x (inr (inl p)) front more entries = front_left d (job.script database) [] (job.script database) database front more refl (ap (λ (w : Runs). w.entries) (sym p.ended.1) ∙ entries)
  leaves met x (inr (inr (inl p))) front more entries = front_left d (job.script database) (p.cut.first ∷ p.cut.more) (p.cut.next ∷ p.cut.rest) database front more p.cut.is (ap (λ (w : Runs). w.entries) (sym p.is) ∙ entries)
  leaves met x (inr (inr (inr (inl p)))) front more entries = front_left d (job.script database) (job.script database) [] database front more (sym (append-nil (job.script database))) (ap (λ (w : Runs). w.entries) (sym p.ended.1) ∙ entries)
  leaves met x (inr (inr (inr (inr (inl q))))) front more entries =
      let p = q.1 in
      front_left d (job.script database) (p.met.cut.first ∷ p.met.cut.more) (p.met.cut.next ∷ p.met.cut.rest) database front more p.met.cut.is (sym (same_entries p.session p.met) ∙ ap (λ (w : Runs). w.entries) (sym p.is) ∙ entries)
  leaves met x (inr (inr (inr (inr (inr q))))) front more entries =
      let p = q.1 in
      elim p.by [
        | inl is ↦ front_left d (job.script database) (p.met.cut.first ∷ p.met.cut.more) (p.met.cut.next ∷ p.met.cut.rest) database front more p.met.cut.is (sym (same_entries p.session p.met) ∙ ap (λ (w : Runs). w.entries) (sym is.1.1) ∙ entries)
        | inr is ↦ either_left d (job.script database) (p.met.cut.first ∷ p.met.cut.more) (p.met.cut.next ∷ p.met.cut.rest) database front more p.met.cut.is (unmarked_there p.session p.met is.0)
            (ap (λ es. es ++ freed) (sym (same_entries p.session p.met)) ∙ sym (frees_entries d p.session (p.met.idle p.shut)) ∙ ap (λ (w : Runs). w.entries) (sym is.1.1) ∙ entries)
      ]

  -- why the journal is full

  module _ (filled limit used next : ℕ) where
    -- the entries of the call have no room behind those of the session
    pub record LacksRoom (call : Call) (s : Session) : Type 0 where
      pub used_is : used ≡ filled + size_of_all (entries_of d s.entries)
      pub next_is : next ≡ size_of_all (entries_of d (appended d call s))
      pub full : is_full (end_of (room_of call) limit) used (entries_of d (appended d call s)) ≡ true
      pub which : (room_of call ≡ Ordinary) ⊎ ((call ≡ closing) × (s.begun ≡ []))

    -- the next call of the script, behind these entries
    pub record StopsScript (es : Journal) (call : Call) : Type 0 where
      pub made : List Call
      pub rest : List Call
      pub is : job.script database ≡ made ++ call ∷ rest
      pub wrote : es ≡ (ran made).entries
      pub lacks : LacksRoom call (ran made)

    -- or the one that frees a lock without a mark, of a session that met another fault
    pub record StopsFreeing (es : Journal) (call : Call) : Type 0 where
      pub session : Session
      pub met : MetFault failed d job database session
      pub unmarked : has_bar session.committed.lock ≡ false
      pub shut : session.is_open ≡ false
      pub frees : call ≡ closing
      pub wrote : es ≡ session.entries
      pub lacks : LacksRoom closing session

    abbrev pub FullAt : Journal → Call → Type 0
    FullAt es call = StopsScript es call ⊎ StopsFreeing es call

    -- of the entries of a call that writes none
    none_full : (A : Type 0) (end n : ℕ) → is_full end n [] ≡ true → A
    none_full A end n is = cc

    -- the call that is left to one that gave up
    giving_full : (s : Session) (m : MetFault failed d job database s) (call : Call) (rest : List Call) (calls : List Call) → last_calls s ≡ calls → calls ≡ call ∷ rest → LacksRoom call s → FullAt s.entries call
    giving_full s m call rest calls left is lacks = by s.is_open (has_bar s.committed.lock) refl refl (left ∙ is) where
      by : (opened marked : Bool) → s.is_open ≡ opened → has_bar s.committed.lock ≡ marked → (if opened then Abort ∷ frees marked else frees marked) ≡ call ∷ rest → FullAt s.entries call
      by true marked open_is mark_is same = none_full (FullAt s.entries call) (end_of Ordinary limit) used (subst (λ c. is_full (end_of (room_of c) limit) used (entries_of d (appended d c s)) ≡ true) (aborts same) lacks.full) where
        aborts : Abort ∷ frees marked ≡ call ∷ rest → call ≡ Abort
        aborts same = cc
      by false true open_is mark_is same = cc
      by false false open_is mark_is same =
          let one : call ≡ closing = cc in
          inr (record { session = s; met = m; unmarked = mark_is; shut = open_is; frees = one; wrote = refl; lacks = subst (λ c. LacksRoom c s) one lacks })

    abbrev jobs : ℕ → Job Answer as_locked busy
    jobs n = job

    abbrev NoRoom : Runs → Type 0
    NoRoom x = HasNoRoom failed d jobs filled limit 1 x used next

    abbrev hold : Session → List Call → Answer → Holder Answer as_locked busy
    hold s rest a = record { runner = 1; session = s; rest = rest; answer = a }

    -- its call, in its session
    lacks_of : (x : Runs) (f : NoRoom x) (s : Session) → f.session ≡ s → x.entries ≡ s.entries → LacksRoom f.call s
    lacks_of x f s is es = record {
      used_is = f.used_is ∙ ap (λ (l : Journal). filled + size_of_all (entries_of d l)) es;
      next_is = f.next_is ∙ ap (λ (t : Session). size_of_all (entries_of d (appended d f.call t))) is;
      full = subst (λ (t : Session). is_full (end_of (room_of f.call) limit) used (entries_of d (appended d f.call t)) ≡ true) is f.full;
      which = subst (λ (t : Session). (room_of f.call ≡ Ordinary) ⊎ ((f.call ≡ closing) × (t.begun ≡ []))) is f.which;
    }

    -- where it stands under way, the next call is the first of those to come
    way_full : (s : Session) (call : Call) (rest : List Call) (a : Answer) (older : List ℕ) (f : NoRoom (way s (call ∷ rest) a older)) → (f.call ≡ call) × LacksRoom f.call s
    way_full s call rest a older f = elim f.is_next [
      | inl n ↦ own n.0 n.1 n.2 n.3 n.4
      | inr n ↦ not_first n.1
    ] where
      own : (h : Holder Answer as_locked busy) (others : List Call) → Some (hold s (call ∷ rest) a) ≡ Some h → h.rest ≡ f.call ∷ others → f.session ≡ h.session → (f.call ≡ call) × LacksRoom f.call s
      own h others held left at =
          let same : h ≡ hold s (call ∷ rest) a = cc in
          let is : f.session ≡ s = at ∙ ap (λ (k : Holder Answer as_locked busy). k.session) same in
          let one : call ∷ rest ≡ f.call ∷ others = sym (ap (λ (k : Holder Answer as_locked busy). k.rest) same) ∙ left in
          (cc, lacks_of (way s (call ∷ rest) a older) f s is refl)

      not_first : makes_first Answer as_locked busy d jobs 1 (way s (call ∷ rest) a older) ≡ true → (f.call ≡ call) × LacksRoom f.call s
      not_first is = cc

    over_full : (s : Session) (a : Answer) (older : List ℕ) (A : Type 0) → NoRoom (over s a older) → A
    over_full s a older A f = elim f.is_next [
      | inl n ↦ none n.0 n.2
      | inr n ↦ not_first n.1
    ] where
      none : (h : Holder Answer as_locked busy) → (let o : Option (Holder Answer as_locked busy) = None in o) ≡ Some h → A
      none h is = cc

      not_first : makes_first Answer as_locked busy d jobs 1 (over s a older) ≡ true → A
      not_first is = cc

    start_full : (f : NoRoom (start Answer as_locked busy database)) → FullAt [] f.call
    start_full f = elim f.is_next [
      | inl n ↦ none n.0 n.2
      | inr n ↦ first n.0 n.2 n.3
    ] where
      none : (h : Holder Answer as_locked busy) → (let o : Option (Holder Answer as_locked busy) = None in o) ≡ Some h → FullAt [] f.call
      none h is = cc

      first : (rest : List Call) → job.script database ≡ f.call ∷ rest → f.session ≡ session_on database → FullAt [] f.call
      first rest is at = inl (record { made = []; rest = rest; is = is; wrote = refl; lacks = lacks_of (start Answer as_locked busy database) f (session_on database) at refl })

    -- a session that met a fault, and what is left to it
    left_full : (s : Session) (m : MetFault failed d job database s) (why : DrillFault) (calls : List Call) → last_calls s ≡ calls → (rest : List Call) (a : Answer) (older : List ℕ)
        → (f : NoRoom (left_with failed calls why (hold s rest a) (way s rest a older))) → FullAt s.entries f.call
    left_full s m why [] left rest a older f = over_full s (failed why) (1 ∷ older) (FullAt s.entries f.call) f
    left_full s m why (call ∷ calls) left rest a older f =
        let it = way_full s call calls (failed why) older f in
        subst (FullAt s.entries) (sym it.0) (giving_full s m call calls (call ∷ calls) left refl (subst (λ c. LacksRoom c s) it.0 it.1))

    -- what a machine tells of its next call
    abbrev Tells : Runs → Type 0
    Tells x = (f : NoRoom x) → FullAt x.entries f.call

    gave_up_full : (s : Session) → ((s.is_open ≡ false → s.begun ≡ []) → MetFault failed d job database s) → (rest : List Call) (a : Answer) (older : List ℕ) (other : DrillFault) (h : Holder Answer as_locked busy)
        → Some (hold s rest a) ≡ Some h → (h.session.is_open ≡ false → h.session.begun ≡ []) → (f : NoRoom (gives_up failed other h (way s rest a older))) → FullAt s.entries f.call
    gave_up_full s m rest a older other h held idle =
        let same : h ≡ hold s rest a = cc in
        subst (λ (k : Holder Answer as_locked busy). (f : NoRoom (gives_up failed other k (way s rest a older))) → FullAt s.entries f.call) (sym same)
        (left_full s (m (subst (λ (k : Holder Answer as_locked busy). k.session.is_open ≡ false → k.session.begun ≡ []) same idle)) other (last_calls s) refl rest a older)

    abbrev MeetsFull : Runs → Type 0
    MeetsFull x = Meets failed d jobs filled limit 1 x (fault.Full used next)

    -- by the machine at which the fault was met
    at_full : (es : Journal) (x : Runs) (m : MeetsFull x) (at : Runs) → m.at ≡ at → ((f : NoRoom at) → FullAt es f.call) → FullAt es m.cause.call
    at_full es x m at is tells = subst (λ (w : Runs). (f : NoRoom w) → FullAt es f.call) (sym is) tells m.cause

    meets_way : (s : Session) (call : Call) (rest : List Call) (a : Answer) (older : List ℕ) → (LacksRoom call s → FullAt s.entries call) → ((s.is_open ≡ false → s.begun ≡ []) → MetFault failed d job database s) → (m : MeetsFull (way s (call ∷ rest) a older)) → FullAt s.entries m.cause.call
    meets_way s call rest a older told has m = elim m.is [
      | inl at ↦ at_full s.entries (way s (call ∷ rest) a older) m (way s (call ∷ rest) a older) at (λ f. let it = way_full s call rest a older f in subst (FullAt s.entries) (sym it.0) (told (subst (λ c. LacksRoom c s) it.0 it.1)))
      | inr p ↦ at_full s.entries (way s (call ∷ rest) a older) m (gives_up failed p.0 p.1 (way s (call ∷ rest) a older)) p.4 (gave_up_full s has (call ∷ rest) a older p.0 p.1 p.2 p.3)
    ]

    meets_none : (x : Runs) → x.holder ≡ None → Tells x → (m : MeetsFull x) → FullAt x.entries m.cause.call
    meets_none x none told m = elim m.is [
      | inl at ↦ at_full x.entries x m x at told
      | inr p ↦ no p.1 (subst (λ (o : Option (Holder Answer as_locked busy)). held_by 1 o ≡ Some p.1) none p.2)
    ] where
      no : (h : Holder Answer as_locked busy) → (let o : Option (Holder Answer as_locked busy) = None in o) ≡ Some h → FullAt x.entries m.cause.call
      no h is = cc

    abbrev Meet : Runs → Type 0
    Meet x = (m : MeetsFull x) → FullAt x.entries m.cause.call

    meets_over : (s : Session) (a : Answer) (older : List ℕ) → Meet (over s a older)
    meets_over s a older = meets_none (over s a older) refl (λ f. over_full s a older (FullAt s.entries f.call) f)

    pub full_at : (met : Type 0) (x : Runs) → StandsAt failed d job database met x → Meet x
    full_at met x (inl is) = subst Meet (sym is) (meets_none (start Answer as_locked busy database) refl start_full)
    full_at met x (inr (inl p)) = subst Meet (sym p.ended.1) (meets_over (session_on database) p.answer p.ended.0)
    full_at met x (inr (inr (inl p))) = subst Meet (sym p.is)
        (meets_way (ran (p.cut.first ∷ p.cut.more)) p.cut.next p.cut.rest (job.answer database) p.older (λ lacks. inl (record { made = p.cut.first ∷ p.cut.more; rest = p.cut.rest; is = p.cut.is; wrote = refl; lacks = lacks }))
        (λ idle. record { passes = p.passes; cut = p.cut; why = fault.OutOfMemory; from = inl refl; idle = idle }))
    full_at met x (inr (inr (inr (inl p)))) = subst Meet (sym p.ended.1) (meets_over (ran (job.script database)) (job.answer database) p.ended.0)
    full_at met x (inr (inr (inr (inr (inl q))))) =
        let p = q.1 in
        subst Meet (sym p.is) (meets_way p.session p.last p.lasts (failed p.met.why) p.older (giving_full p.session p.met p.last p.lasts (p.last ∷ p.lasts) p.to_come refl) (λ idle. p.met))
    full_at met x (inr (inr (inr (inr (inr q))))) =
        let p = q.1 in
        elim p.by [
          | inl is ↦ subst Meet (sym is.1.1) (meets_over p.session (failed p.met.why) is.1.0)
          | inr is ↦ subst Meet (sym is.1.1) (meets_over (called d closing p.session) (failed p.met.why) is.1.0)
        ]

    -- in words of the script
    by_script : (es : Journal) (call : Call) → FullAt es call → IsFullBy d (job.script database) database filled limit used next
    by_script es call (inl f) = inl (record { made = f.made; call = call; rest = f.rest; is = f.is; used_is = f.lacks.used_is; next_is = f.lacks.next_is; full = f.lacks.full })
    by_script es call (inr f) =
        let wrote : appended d closing f.session ≡ freed = closing_frees d f.session (f.met.idle f.shut) in
        inr (record {
          cut = f.met.cut;
          unmarked = unmarked_there f.session f.met f.unmarked;
          used_is = f.lacks.used_is ∙ ap (λ (l : Journal). filled + size_of_all (entries_of d l)) (same_entries f.session f.met);
          next_is = f.lacks.next_is ∙ ap (λ (l : Journal). size_of_all (entries_of d l)) wrote;
          full = subst (λ (l : Journal). is_full (end_of Release limit) used (entries_of d l) ≡ true) wrote f.lacks.full;
        })

    is_full_by : (met : Type 0) (x : Runs) → StandsAt failed d job database met x → MeetsFull x → IsFullBy d (job.script database) database filled limit used next
    is_full_by met x stands m = by_script x.entries m.cause.call (full_at met x stands m)

pub one_leaves : (Answer : Type 0) → OneLeaves Answer
one_leaves Answer as_locked busy failed d job database met x stands front more entries = leaves Answer as_locked busy failed d job database (met ≡ true) x stands front more entries

pub one_is_full : (Answer : Type 0) → OneIsFull Answer
one_is_full Answer as_locked busy failed d job database met x filled limit used next stands f = is_full_by Answer as_locked busy failed d job database filled limit used next (met ≡ true) x stands f
