-- One runner goes from one of its places to another.
use Rattle.std.proofs.Common.{ap, append_assoc, inl, inr, subst, sym, ◌∙◌}
use Rattle.std.specs.Prelude.{Bool, List, None, Option, Some, [], false, if◌then◌else◌, refl, replicate, suc, true, zero, ℕ, ◌&&◌, ◌++◌, ◌∷◌, ◌≡◌, ◌⊎◌}
use Rattle.lq_base.specs.declared.dialect.Dialect.{Dialect}
use Rattle.lq_base.specs.declared.tracking.Lock.{Lock}
use Rattle.lq_drill.specs.Faults.{Comes, Falls, Steps, frees, gives_up, has_bar, last_calls, left_with}
use Rattle.lq_drill.specs.Player.{refusal}
use Rattle.lq_drill.specs.declared.fault.DrillFault.{DrillFault}
use Rattle.lq_alone.proofs.Adding.{adds_up}
use Rattle.lq_alone.specs.Plain.{OneStands}
use Rattle.lq_alone.specs.One.{IsGivingUp, IsOnWay, MetFault, StandsAt, StandsLater, after, over, way}
use Rattle.lq_track.specs.Database.{Database}
use Rattle.lq_turns.proofs.Made.{calls_both}
use Rattle.lq_turns.specs.Schedule.{Holder, Job, Machine, answers_with, begins, makes, moved, start}
use Rattle.lq_turns.specs.Script.{closing}
use Rattle.lq_turns.specs.Session.{Session, aborted, called, session_on}
use Rattle.lq_turns.specs.Stops.{Journal}
use Rattle.lq_turns.specs.declared.call.Call.{Call}
use Rattle.lq_turns.specs.declared.call.Call.TheVariants.{Abort}

module _ (Answer : Type 0) (as_locked : Lock → Answer) (busy : ℕ → Answer) (failed : DrillFault → Answer) (d : Dialect) (job : Job Answer as_locked busy) (database : Database) (met : Type 0) where
  abbrev Runs : Type 0
  Runs = Machine Answer as_locked busy

  abbrev jobs : ℕ → Job Answer as_locked busy
  jobs n = job

  abbrev Stands : Runs → Type 0
  Stands x = StandsAt failed d job database met x

  abbrev Later : Runs → Type 0
  Later x = StandsLater failed d job database met x

  abbrev begin : Runs
  begin = start Answer as_locked busy database

  abbrev ran : List Call → Session
  ran made = after failed d job database made

  abbrev step : Runs → Runs
  step x = moved Answer as_locked busy d jobs 1 x

  abbrev way_with : Session → List Call → Answer → List ℕ → Journal → Runs
  way_with s rest a older es = record { committed = s.committed; holder = Some (record { runner = 1; session = s; rest = rest; answer = a }); begun = 1 ∷ older; answers = []; entries = es }

  abbrev over_with : Session → Answer → List ℕ → Journal → Runs
  over_with s a older es = record { committed = s.committed; holder = None; begun = older; answers = (1, a) ∷ []; entries = es }

  -- the machine of a runner after a call that was its last, and after another
  pub last_made : (s : Session) (call : Call) (a : Answer) (older : List ℕ) → step (way s (call ∷ []) a older) ≡ over (called d call s) a (1 ∷ 1 ∷ older)
  last_made s call a older = ap (λ (es : Journal). over_with (called d call s) a (1 ∷ 1 ∷ older) es) (sym (adds_up d call s))

  pub next_made : (s : Session) (call next : Call) (rest : List Call) (a : Answer) (older : List ℕ) → step (way s (call ∷ next ∷ rest) a older) ≡ way (called d call s) (next ∷ rest) a (1 ∷ older)
  next_made s call next rest a older = ap (λ (es : Journal). way_with (called d call s) (next ∷ rest) a (1 ∷ older) es) (sym (adds_up d call s))

  -- one that has answered stays
  over_stays : (s : Session) (a : Answer) (older : List ℕ) → step (over s a older) ≡ over s a older
  over_stays s a older = refl

  -- the first step

  after_checks : (o : Option Answer) → refusal job database ≡ o → Later (begins Answer as_locked busy d jobs 1 o begin)
  after_checks (Some a) is = inl (record { answer = a; is = is; ended = ([], refl) })
  after_checks None is = by (job.script database) refl where
    by : (calls : List Call) → job.script database ≡ calls → Later (makes Answer as_locked busy d jobs 1 (session_on database) calls (job.answer database) begin)
    by [] none = inr (inr (inl (record { passes = is; ended = ([], ap (λ (cs : List Call). over (ran cs) (job.answer database) []) (sym none)) })))
    by (call ∷ []) one = inr (inr (inl (record {
      passes = is;
      ended = (1 ∷ [], ap (λ (es : Journal). over_with (called d call (session_on database)) (job.answer database) (1 ∷ []) es) (sym (adds_up d call (session_on database))) ∙ ap (λ (cs : List Call). over (ran cs) (job.answer database) (1 ∷ [])) (sym one));
    })))
    by (call ∷ next ∷ rest) more = inr (inl (record {
      passes = is;
      cut = record { first = call; more = []; next = next; rest = rest; is = more };
      older = [];
      is = ap (λ (es : Journal). way_with (called d call (session_on database)) (next ∷ rest) (job.answer database) [] es) (sym (adds_up d call (session_on database)));
    }))

  pub first_step_is : step begin ≡ begins Answer as_locked busy d jobs 1 (refusal job database) begin
  first_step_is = elim (job.needs_lock && database.lock.locked) as (λ b.
      (if b then answers_with Answer as_locked busy 1 (as_locked database.lock) begin else begins Answer as_locked busy d jobs 1 (job.refuses database) begin)
      ≡ begins Answer as_locked busy d jobs 1 (if b then Some (as_locked database.lock) else job.refuses database) begin) [
        | true ↦ refl
        | false ↦ refl
      ]

  first_stands : Later (step begin)
  first_stands = subst Later (sym first_step_is) (after_checks (refusal job database) refl)

  -- a call on the way

  moves_on : (x : Runs) → IsOnWay failed d job database x → Later (step x)
  moves_on x p = subst (λ (w : Runs). Later (step w)) (sym p.is) (by p.cut.rest refl) where
    made : List Call
    made = p.cut.first ∷ p.cut.more

    goes : Session
    goes = called d p.cut.next (ran made)

    ran_is : goes ≡ ran (made ++ p.cut.next ∷ [])
    ran_is = sym (calls_both d made (p.cut.next ∷ []) (session_on database))

    by : (rest : List Call) → p.cut.rest ≡ rest → Later (step (way (ran made) (p.cut.next ∷ rest) (job.answer database) p.older))
    by [] none = subst Later (sym (last_made (ran made) p.cut.next (job.answer database) p.older)) (inr (inr (inl (record {
      passes = p.passes;
      ended = (1 ∷ 1 ∷ p.older, ap (λ (s : Session). over s (job.answer database) (1 ∷ 1 ∷ p.older)) (ran_is ∙ sym (ap ran (p.cut.is ∙ ap (λ cs. made ++ p.cut.next ∷ cs) none))));
    }))))
    by (call ∷ rest) some = subst Later (sym (next_made (ran made) p.cut.next call rest (job.answer database) p.older)) (inr (inl (record {
      passes = p.passes;
      cut = record { first = p.cut.first; more = p.cut.more ++ p.cut.next ∷ []; next = call; rest = rest; is = p.cut.is ∙ ap (λ cs. made ++ p.cut.next ∷ cs) some ∙ sym (append_assoc made (p.cut.next ∷ []) (call ∷ rest)) };
      older = 1 ∷ p.older;
      is = ap (λ (s : Session). way s (call ∷ rest) (job.answer database) (1 ∷ p.older)) ran_is;
    })))

  -- one that gave up

  module _ (s : Session) (m : MetFault failed d job database s) where
    -- its transaction taken back
    shut_met : MetFault failed d job database (aborted s)
    shut_met = record { passes = m.passes; cut = m.cut; why = m.why; from = from; idle = λ shut. refl } where
      from : (aborted s ≡ ran (m.cut.first ∷ m.cut.more)) ⊎ (aborted s ≡ aborted (ran (m.cut.first ∷ m.cut.more)))
      from = elim m.from [ inl is ↦ inr (ap aborted is) | inr is ↦ inr (ap aborted is) ]

  -- a fault that was met in this session, of a kind
  with_why : (s : Session) (why : DrillFault) → MetFault failed d job database s → MetFault failed d job database s
  with_why s why m = record m { why = why }

  -- with the calls that are left to it
  left_stands : (s : Session) (m : MetFault failed d job database s) → met → s.committed.lock.locked ≡ true → (calls : List Call) → last_calls s ≡ calls → (a : Answer) (rest : List Call) (older : List ℕ) → Later (left_with failed calls m.why (record { runner = 1; session = s; rest = rest; answer = a }) (way s rest a older))
  left_stands s m has held [] none a rest older = inr (inr (inr (inr (has, record { session = s; met = m; shut = (ends s.is_open (has_bar s.committed.lock) none).0; held = held; by = inl ((ends s.is_open (has_bar s.committed.lock) none).1, (1 ∷ older, refl)) })))) where
    ends : (opened marked : Bool) → (if opened then Abort ∷ frees marked else frees marked) ≡ [] → (opened ≡ false) × (marked ≡ true)
    ends true marked is = cc
    ends false true is = (refl, refl)
    ends false false is = cc
  left_stands s m has held (call ∷ calls) some a rest older = inr (inr (inr (inl (has, record { session = s; met = m; last = call; lasts = calls; to_come = some; held = held; older = older; is = refl }))))

  gives_up_on : (x : Runs) → IsGivingUp failed d job database x → met → Later (step x)
  unfolding shut_met
  gives_up_on x p has = subst (λ (w : Runs). Later (step w)) (sym p.is) (by (s.is_open) (has_bar s.committed.lock) refl refl p.to_come) where
    s : Session
    s = p.session

    a : Answer
    a = failed p.met.why

    by : (opened marked : Bool) → s.is_open ≡ opened → has_bar s.committed.lock ≡ marked → (if opened then Abort ∷ frees marked else frees marked) ≡ p.last ∷ p.lasts → Later (step (way s (p.last ∷ p.lasts) a p.older))
    by true marked open_is mark_is left = subst (λ (cs : List Call). Later (step (way s cs a p.older))) left (aborts marked mark_is) where
      aborts : (m : Bool) → has_bar s.committed.lock ≡ m → Later (step (way s (Abort ∷ frees m) a p.older))
      aborts true is = inr (inr (inr (inr (has, record { session = aborted s; met = shut_met s p.met; shut = refl; held = p.held; by = inl (is, (1 ∷ 1 ∷ p.older, last_made s Abort a p.older)) }))))
      aborts false is = subst Later (sym (next_made s Abort closing [] a p.older)) (inr (inr (inr (inl (has, record { session = aborted s; met = shut_met s p.met; last = closing; lasts = []; to_come = ap frees is; held = p.held; older = 1 ∷ p.older; is = refl })))))
    by false true open_is mark_is left = cc
    by false false open_is mark_is left = subst (λ (cs : List Call). Later (step (way s cs a p.older))) left (inr (inr (inr (inr (has, record { session = s; met = p.met; shut = open_is; held = p.held; by = inr (mark_is, (1 ∷ 1 ∷ p.older, last_made s closing a p.older)) })))))

  -- a step in which the runner met a fault

  abbrev hold : Session → List Call → Answer → Holder Answer as_locked busy
  hold s rest a = record { runner = 1; session = s; rest = rest; answer = a }

  falls_under : (s : Session) (m : MetFault failed d job database s) → met → s.committed.lock.locked ≡ true → (a : Answer) (rest : List Call) (older : List ℕ) (z : Runs)
      → (z ≡ gives_up failed m.why (record { runner = 1; session = s; rest = rest; answer = a }) (way s rest a older)) ⊎ (z ≡ step (gives_up failed m.why (record { runner = 1; session = s; rest = rest; answer = a }) (way s rest a older))) → Later z
  falls_under s m has held a rest older z (inl is) = subst Later (sym is) (left_stands s m has held (last_calls s) refl a rest older)
  falls_under s m has held a rest older z (inr is) = subst Later (sym is) (by (last_calls s) refl) where
    by : (calls : List Call) → last_calls s ≡ calls → Later (step (left_with failed calls m.why (record { runner = 1; session = s; rest = rest; answer = a }) (way s rest a older)))
    by [] none = left_stands s m has held [] none a rest older
    by (call ∷ calls) some = gives_up_on (way s (call ∷ calls) (failed m.why) older) (record { session = s; met = m; last = call; lasts = calls; to_come = some; held = held; older = older; is = refl }) has

  -- the holder that met it
  falls_way : (s : Session) → ((why : DrillFault) → (s.is_open ≡ false → s.begun ≡ []) → MetFault failed d job database s) → met → (a : Answer) (rest : List Call) (older : List ℕ) (x z : Runs) → x ≡ way s rest a older → Falls failed d jobs 1 x z → Later z
  falls_way s m has a rest older x z is f = by (subst (λ (w : Runs). Falls failed d jobs 1 w z) is f) where
    by : Falls failed d jobs 1 (way s rest a older) z → Later z
    by f =
        at f.why f.holder (own_is f.holder f.held) f.rests f.locked f.is where
          own_is : (h : Holder Answer as_locked busy) → Some (hold s rest a) ≡ Some h → h ≡ hold s rest a
          own_is h is = cc

          at : (why : DrillFault) (h : Holder Answer as_locked busy) → h ≡ hold s rest a → (h.session.is_open ≡ false → h.session.begun ≡ []) → s.committed.lock.locked ≡ true
              → (z ≡ gives_up failed why h (way s rest a older)) ⊎ (z ≡ step (gives_up failed why h (way s rest a older))) → Later z
          at why h same rests held is = falls_under s (record (m why (subst (λ (k : Holder Answer as_locked busy). k.session.is_open ≡ false → k.session.begun ≡ []) same rests)) { why = why }) has held a rest older z
              (subst (λ (k : Holder Answer as_locked busy). (z ≡ gives_up failed why k (way s rest a older)) ⊎ (z ≡ step (gives_up failed why k (way s rest a older)))) same is)

  none_falls : (s : Session) (a : Answer) (older : List ℕ) (x z : Runs) → x ≡ over s a older → Falls failed d jobs 1 x z → Later z
  none_falls s a older x z is f = no (subst (λ (w : Runs). Falls failed d jobs 1 w z) is f) where
    no : Falls failed d jobs 1 (over s a older) z → Later z
    no f = none f.holder f.held where
      none : (h : Holder Answer as_locked busy) → (let o : Option (Holder Answer as_locked busy) = None in o) ≡ Some h → Later z
      none h is = cc

  start_falls : (z : Runs) → Falls failed d jobs 1 begin z → Later z
  start_falls z f = none f.holder f.held where
    none : (h : Holder Answer as_locked busy) → (let o : Option (Holder Answer as_locked busy) = None in o) ≡ Some h → Later z
    none h is = cc

  -- a step

  stays_over : (s : Session) (a : Answer) (older : List ℕ) (x : Runs) → x ≡ over s a older → step x ≡ x
  stays_over s a older x is = ap step is ∙ sym is

  goes : (x y : Runs) → Stands x → y ≡ step x → Later y
  goes x y (inl is) to = subst Later (sym (to ∙ ap step is)) first_stands
  goes x y (inr (inl p)) to = subst Later (sym (to ∙ stays_over (session_on database) p.answer p.ended.0 x p.ended.1)) (inl p)
  goes x y (inr (inr (inl p))) to = subst Later (sym to) (moves_on x p)
  goes x y (inr (inr (inr (inl p)))) to = subst Later (sym (to ∙ stays_over (ran (job.script database)) (job.answer database) p.ended.0 x p.ended.1)) (inr (inr (inl p)))
  goes x y (inr (inr (inr (inr (inl p))))) to = subst Later (sym to) (gives_up_on x p.1 p.0)
  goes x y (inr (inr (inr (inr (inr p))))) to = elim p.1.by [
    | inl is ↦ subst Later (sym (to ∙ stays_over p.1.session (failed p.1.met.why) is.1.0 x is.1.1)) (inr (inr (inr (inr p))))
    | inr is ↦ subst Later (sym (to ∙ stays_over (called d closing p.1.session) (failed p.1.met.why) is.1.0 x is.1.1)) (inr (inr (inr (inr p))))
  ]

  fell : (x y : Runs) → Stands x → met → Falls failed d jobs 1 x y → Later y
  fell x y (inl is) has f = start_falls y (subst (λ (w : Runs). Falls failed d jobs 1 w y) is f)
  fell x y (inr (inl p)) has f = none_falls (session_on database) p.answer p.ended.0 x y p.ended.1 f
  fell x y (inr (inr (inl p))) has f =
      falls_way (ran (p.cut.first ∷ p.cut.more)) (λ why idle. record { passes = p.passes; cut = p.cut; why = why; from = inl refl; idle = idle }) has (job.answer database) (p.cut.next ∷ p.cut.rest) p.older x y p.is f
  fell x y (inr (inr (inr (inl p)))) has f = none_falls (ran (job.script database)) (job.answer database) p.ended.0 x y p.ended.1 f
  fell x y (inr (inr (inr (inr (inl p))))) has f = falls_way p.1.session (λ why idle. record (p.1.met) { why = why }) has (failed p.1.met.why) (p.1.last ∷ p.1.lasts) p.1.older x y p.1.is f
  fell x y (inr (inr (inr (inr (inr p))))) has f = elim p.1.by [
    | inl is ↦ none_falls p.1.session (failed p.1.met.why) is.1.0 x y is.1.1 f
    | inr is ↦ none_falls (called d closing p.1.session) (failed p.1.met.why) is.1.0 x y is.1.1 f
  ]

  pub steps : (x y : Runs) → Stands x → Steps failed d jobs met 1 x y → Later y
  steps x y stands (inl is) = goes x y stands is
  steps x y stands (inr f) = fell x y stands f.0 f.1

  all_steps : (k : ℕ) (x y : Runs) → Stands x → Comes failed d jobs (λ n. met) (replicate k 1) x y → Stands y
  all_steps zero x y stands is = subst Stands is stands
  all_steps (suc k) x y stands goes = all_steps k goes.1.0 y (inr (steps x goes.1.0 stands goes.1.1)) goes.1.2

pub one_stands : (Answer : Type 0) → OneStands Answer
one_stands Answer as_locked busy failed d job database met k x goes = all_steps Answer as_locked busy failed d job database (met ≡ true) k (start Answer as_locked busy database) x (inl refl) goes
