-- A runner that met a fault writes nothing from then on, but perhaps the entry that frees the lock.
use Rattle.std.proofs.Common.{ap, inl, inr, subst, sym, ◌∙◌}
use Rattle.std.specs.Prelude.{Bool, List, None, Option, Some, [], false, if◌then◌else◌, refl, true, ℕ, ◌++◌, ◌∷◌, ◌≡◌, ◌⊎◌}
use Rattle.lq_alone.proofs.Course.{first_step_is, last_made, next_made}
use Rattle.lq_alone.proofs.Leaving.{frees_entries}
use Rattle.lq_alone.specs.One.{AnswersOwn, StandsAt, StandsLater, after, way}
use Rattle.lq_base.specs.declared.dialect.Dialect.{Dialect}
use Rattle.lq_base.specs.declared.tracking.Lock.{Lock}
use Rattle.lq_drill.specs.Faults.{Falls, Steps, answer_of, freed, frees, gives_up, has_bar, held_by, last_calls, left_with}
use Rattle.lq_drill.specs.Player.{refusal}
use Rattle.lq_drill.specs.declared.fault.DrillFault.{DrillFault}
use Rattle.lq_track.specs.Database.{Database}
use Rattle.lq_turns.specs.Schedule.{Holder, Job, Machine, appended, begins, has_begun, makes, moved, start}
use Rattle.lq_turns.specs.Script.{closing}
use Rattle.lq_turns.specs.Session.{Session, called, session_on}
use Rattle.lq_turns.specs.Stops.{Journal}
use Rattle.lq_turns.specs.declared.call.Call.{Call}
use Rattle.lq_turns.specs.declared.call.Call.TheVariants.{Abort}

module _ (Answer : Type 0) (as_locked : Lock → Answer) (busy : ℕ → Answer) (failed : DrillFault → Answer) (d : Dialect) (job : Job Answer as_locked busy) (database : Database) (met : Type 0) where
  abbrev Runs : Type 0
  Runs = Machine Answer as_locked busy

  abbrev jobs : ℕ → Job Answer as_locked busy
  jobs n = job

  abbrev Holds : Type 0
  Holds = Holder Answer as_locked busy

  abbrev step : Runs → Runs
  step x = moved Answer as_locked busy d jobs 1 x

  abbrev hold : Session → List Call → Answer → Holds
  hold s rest a = record { runner = 1; session = s; rest = rest; answer = a }

  abbrev ran : List Call → Session
  ran made = after failed d job database made

  no_holder : (A : Type 0) (h : Holds) → (let o : Option Holds = None in o) ≡ Some h → A
  no_holder A h is = cc

  -- a runner that has begun, and has not answered, is the holder
  pub record Holding (x : Runs) : Type 0 where
    pub holder : Holds
    pub held : held_by 1 x.holder ≡ Some holder
    pub begun : has_begun Answer as_locked busy 1 x ≡ true

  answered : (A : Type 0) (o : Option Answer) (a : Answer) → o ≡ None → o ≡ Some a → A
  answered A None a none some = cc
  answered A (Some b) a none some = cc

  pub holding : (x : Runs) → StandsLater failed d job database met x → answer_of 1 x.answers ≡ None → Holding x
  holding x (inl p) none = answered _ (answer_of 1 x.answers) p.answer none (ap (λ (w : Runs). answer_of 1 w.answers) p.ended.1)
  holding x (inr (inl p)) none = record { holder = hold (ran (p.cut.first ∷ p.cut.more)) (p.cut.next ∷ p.cut.rest) (job.answer database); held = ap (λ (w : Runs). held_by 1 w.holder) p.is; begun = ap (has_begun Answer as_locked busy 1) p.is }
  holding x (inr (inr (inl p))) none = answered _ (answer_of 1 x.answers) (job.answer database) none (ap (λ (w : Runs). answer_of 1 w.answers) p.ended.1)
  holding x (inr (inr (inr (inl q)))) none = record { holder = hold q.1.session (q.1.last ∷ q.1.lasts) (failed q.1.met.why); held = ap (λ (w : Runs). held_by 1 w.holder) q.1.is; begun = ap (has_begun Answer as_locked busy 1) q.1.is }
  holding x (inr (inr (inr (inr q)))) none = elim q.1.by [
    | inl is ↦ answered _ (answer_of 1 x.answers) (failed q.1.met.why) none (ap (λ (w : Runs). answer_of 1 w.answers) is.1.1)
    | inr is ↦ answered _ (answer_of 1 x.answers) (failed q.1.met.why) none (ap (λ (w : Runs). answer_of 1 w.answers) is.1.1)
  ]

  -- it answered this fault, or is to answer it
  abbrev pub Tells : Runs → DrillFault → Type 0
  Tells y why = (answer_of 1 y.answers ≡ Some (failed why)) ⊎ ((h : Holds) × (held_by 1 y.holder ≡ Some h) × (h.answer ≡ failed why))

  told_over : (c : Database) (older : List ℕ) (es : Journal) (a : Answer) (why : DrillFault) → Tells (record { committed = c; holder = None; begun = older; answers = (1, a) ∷ []; entries = es }) why → a ≡ failed why
  told_over c older es a why (inl is) = same is where
    same : Some a ≡ Some (failed why) → a ≡ failed why
    same is = cc
  told_over c older es a why (inr it) = no_holder _ it.0 it.1

  told_way : (c : Database) (older : List ℕ) (es : Journal) (s : Session) (rest : List Call) (a : Answer) (why : DrillFault) → Tells (record { committed = c; holder = Some (hold s rest a); begun = older; answers = []; entries = es }) why → a ≡ failed why
  told_way c older es s rest a why (inl is) = none is where
    none : (let o : Option Answer = None in o) ≡ Some (failed why) → a ≡ failed why
    none is = cc
  told_way c older es s rest a why (inr it) = ap (λ (k : Holds). k.answer) (own it.0 it.1) ∙ it.2 where
    own : (h : Holds) → Some (hold s rest a) ≡ Some h → hold s rest a ≡ h
    own h is = cc

  -- it wrote nothing, or the entry that frees the lock, which it then has no more
  abbrev pub Unwritten : Runs → Runs → Type 0
  Unwritten x y = (y.entries ≡ x.entries) ⊎ ((y.holder ≡ None) × (y.entries ≡ x.entries ++ freed))

  -- the calls that are left to one that gave up

  -- after the first of these calls
  abbrev Wrote : Session → Answer → List ℕ → Journal → List Call → Type 0
  Wrote s a older es cs = ((step (way s cs a older)).entries ≡ es) ⊎ (((step (way s cs a older)).holder ≡ None) × ((step (way s cs a older)).entries ≡ es ++ freed))

  gives : (s : Session) → (s.is_open ≡ false → s.begun ≡ []) → (call : Call) (calls : List Call) → last_calls s ≡ call ∷ calls → (a : Answer) (older : List ℕ) (es : Journal) → es ≡ s.entries → Wrote s a older es (call ∷ calls)
  gives s idle call calls left a older es es_are = by s.is_open (has_bar s.committed.lock) refl left where
    aborts : (m : Bool) → Wrote s a older es (Abort ∷ frees m)
    aborts true = inl (ap (λ (w : Runs). w.entries) (last_made Answer as_locked busy failed d job database met s Abort a older) ∙ sym es_are)
    aborts false = inl (ap (λ (w : Runs). w.entries) (next_made Answer as_locked busy failed d job database met s Abort closing [] a older) ∙ sym es_are)

    by : (opened marked : Bool) → s.is_open ≡ opened → (if opened then Abort ∷ frees marked else frees marked) ≡ call ∷ calls → Wrote s a older es (call ∷ calls)
    by true marked open_is is = subst (Wrote s a older es) is (aborts marked)
    by false true open_is is = cc
    by false false open_is is = subst (Wrote s a older es) is (inr (
      ap (λ (w : Runs). w.holder) (last_made Answer as_locked busy failed d job database met s closing a older),
      ap (λ (w : Runs). w.entries) (last_made Answer as_locked busy failed d job database met s closing a older) ∙ frees_entries d s (idle open_is) ∙ ap (λ (l : Journal). l ++ freed) (sym es_are),
    ))

  -- in the step in which it met the fault

  falls_unwritten : (s : Session) (rest : List Call) (a : Answer) (older : List ℕ) (y : Runs) → Falls failed d jobs 1 (way s rest a older) y → Unwritten (way s rest a older) y
  falls_unwritten s rest a older y f = at f.why f.holder (own f.holder f.held) f.rests f.is where
    own : (h : Holds) → Some (hold s rest a) ≡ Some h → h ≡ hold s rest a
    own h is = cc

    gave : (why : DrillFault) (calls : List Call) → Unwritten (way s rest a older) (left_with failed calls why (hold s rest a) (way s rest a older))
    gave why [] = inl refl
    gave why (call ∷ calls) = inl refl

    after_it : (why : DrillFault) → (s.is_open ≡ false → s.begun ≡ []) → (calls : List Call) → last_calls s ≡ calls → Unwritten (way s rest a older) (step (left_with failed calls why (hold s rest a) (way s rest a older)))
    after_it why idle [] left = inl refl
    after_it why idle (call ∷ calls) left = gives s idle call calls left (failed why) older s.entries refl

    at : (why : DrillFault) (h : Holds) → h ≡ hold s rest a → (h.session.is_open ≡ false → h.session.begun ≡ []) → ((y ≡ gives_up failed why h (way s rest a older)) ⊎ (y ≡ step (gives_up failed why h (way s rest a older)))) → Unwritten (way s rest a older) y
    at why h same idle is = by (subst (λ (k : Holds). (y ≡ gives_up failed why k (way s rest a older)) ⊎ (y ≡ step (gives_up failed why k (way s rest a older)))) same is) where
      by : ((y ≡ gives_up failed why (hold s rest a) (way s rest a older)) ⊎ (y ≡ step (gives_up failed why (hold s rest a) (way s rest a older)))) → Unwritten (way s rest a older) y
      by (inl now) = subst (Unwritten (way s rest a older)) (sym now) (gave why (last_calls s))
      by (inr later) = subst (Unwritten (way s rest a older)) (sym later) (after_it why (subst (λ (k : Holds). k.session.is_open ≡ false → k.session.begun ≡ []) same idle) (last_calls s) refl)

  -- no such step is that of one that met none

  module _ (own : AnswersOwn failed job database) (why : DrillFault) where
    abbrev first : Call → Session
    first call = called d call (session_on database)

    abbrev wrote : Call → Journal
    wrote call = [] ++ appended d call (session_on database)

    first_not : (o : Option Answer) → refusal job database ≡ o → Tells (begins Answer as_locked busy d jobs 1 o (start Answer as_locked busy database)) why → ⊥
    first_not (Some a) is tells = (own why).1 (is ∙ ap (λ b. Some b) (told_over database [] [] a why tells))
    first_not None is tells = by (job.script database) tells where
      by : (calls : List Call) → Tells (makes Answer as_locked busy d jobs 1 (session_on database) calls (job.answer database) (start Answer as_locked busy database)) why → ⊥
      by [] tells = (own why).0 (told_over database [] [] (job.answer database) why tells)
      by (call ∷ []) tells = (own why).0 (told_over (first call).committed (1 ∷ []) (wrote call) (job.answer database) why tells)
      by (call ∷ next ∷ rest) tells = (own why).0 (told_way (first call).committed (1 ∷ []) (wrote call) (first call) (next ∷ rest) (job.answer database) why tells)

    way_not : (s : Session) (call : Call) (rest : List Call) (older : List ℕ) → Tells (step (way s (call ∷ rest) (job.answer database) older)) why → ⊥
    way_not s call [] older tells = (own why).0 (told_over (called d call s).committed (1 ∷ 1 ∷ older) (called d call s).entries (job.answer database) why (subst (λ w. Tells w why) (last_made Answer as_locked busy failed d job database met s call (job.answer database) older) tells))
    way_not s call (next ∷ rest) older tells = (own why).0 (told_way (called d call s).committed (1 ∷ 1 ∷ older) (called d call s).entries (called d call s) (next ∷ rest) (job.answer database) why (subst (λ w. Tells w why) (next_made Answer as_locked busy failed d job database met s call next rest (job.answer database) older) tells))

    unwritten : (x y : Runs) → StandsAt failed d job database met x → answer_of 1 x.answers ≡ None → Steps failed d jobs met 1 x y → Tells y why → Unwritten x y
    unwritten x y (inl is) none (inl to) tells = absurd (first_not (refusal job database) refl (subst (λ w. Tells w why) (to ∙ ap step is ∙ first_step_is Answer as_locked busy failed d job database met) tells))
    unwritten x y (inl is) none (inr f) tells = no (subst (λ (w : Runs). Falls failed d jobs 1 w y) is f.1) where
      no : Falls failed d jobs 1 (start Answer as_locked busy database) y → Unwritten x y
      no f = no_holder _ f.holder f.held
    unwritten x y (inr (inl p)) none goes tells = answered _ (answer_of 1 x.answers) p.answer none (ap (λ (w : Runs). answer_of 1 w.answers) p.ended.1)
    unwritten x y (inr (inr (inl p))) none (inl to) tells = absurd (way_not (ran (p.cut.first ∷ p.cut.more)) p.cut.next p.cut.rest p.older (subst (λ w. Tells w why) (to ∙ ap step p.is) tells))
    unwritten x y (inr (inr (inl p))) none (inr f) tells = subst (λ (w : Runs). Unwritten w y) (sym p.is) (falls_unwritten (ran (p.cut.first ∷ p.cut.more)) (p.cut.next ∷ p.cut.rest) (job.answer database) p.older y (subst (λ (w : Runs). Falls failed d jobs 1 w y) p.is f.1))
    unwritten x y (inr (inr (inr (inl p)))) none goes tells = answered _ (answer_of 1 x.answers) (job.answer database) none (ap (λ (w : Runs). answer_of 1 w.answers) p.ended.1)
    unwritten x y (inr (inr (inr (inr (inl q))))) none (inl to) tells =
        let p = q.1 in
        subst (λ (w : Runs). Unwritten w y) (sym p.is) (subst (Unwritten (way p.session (p.last ∷ p.lasts) (failed p.met.why) p.older)) (sym (to ∙ ap step p.is)) (gives p.session p.met.idle p.last p.lasts p.to_come (failed p.met.why) p.older p.session.entries refl))
    unwritten x y (inr (inr (inr (inr (inl q))))) none (inr f) tells =
        let p = q.1 in
        subst (λ (w : Runs). Unwritten w y) (sym p.is) (falls_unwritten p.session (p.last ∷ p.lasts) (failed p.met.why) p.older y (subst (λ (w : Runs). Falls failed d jobs 1 w y) p.is f.1))
    unwritten x y (inr (inr (inr (inr (inr q))))) none goes tells = elim q.1.by [
      | inl is ↦ answered _ (answer_of 1 x.answers) (failed q.1.met.why) none (ap (λ (w : Runs). answer_of 1 w.answers) is.1.1)
      | inr is ↦ answered _ (answer_of 1 x.answers) (failed q.1.met.why) none (ap (λ (w : Runs). answer_of 1 w.answers) is.1.1)
    ]

    some_held : (A : Type 0) (o : Option Holds) (h : Holds) → o ≡ None → held_by 1 o ≡ Some h → A
    some_held A None h none held = cc
    some_held A (Some k) h none held = cc

    -- while it is to answer the fault it has written nothing
    pub unwritten_yet : (x y : Runs) → StandsAt failed d job database met x → answer_of 1 x.answers ≡ None → Steps failed d jobs met 1 x y → (h : Holds) → held_by 1 y.holder ≡ Some h → h.answer ≡ failed why → y.entries ≡ x.entries
    unwritten_yet x y stands none goes h held is = elim (unwritten x y stands none goes (inr (h, held, is))) [
      | inl same ↦ same
      | inr gone ↦ some_held _ y.holder h gone.0 held
    ]

    -- with its answer it may have freed the lock
    pub unwritten_since : (x y : Runs) → StandsAt failed d job database met x → answer_of 1 x.answers ≡ None → Steps failed d jobs met 1 x y → answer_of 1 y.answers ≡ Some (failed why) → (y.entries ≡ x.entries) ⊎ (y.entries ≡ x.entries ++ freed)
    unwritten_since x y stands none goes is = elim (unwritten x y stands none goes (inl is)) [ inl same ↦ inl same | inr freed_so ↦ inr freed_so.1 ]
