-- What one runner leaves behind, run again, and how a full journal leaves it.
use Rattle.std.proofs.Common.{ap, append-nil, append_assoc, inl, inr, subst, sym, ◌∙◌}
use Rattle.std.specs.Option.{option_map}
use Rattle.std.specs.Prelude.{IfSome, List, None, Option, Some, [], refl, true, ℕ, ◌+◌, ◌++◌, ◌∷◌, ◌≡◌, ◌⊎◌}
use Rattle.lq_alone.proofs.Adding.{adds_up}
use Rattle.lq_alone.proofs.Growing.{calls_grow}
use Rattle.lq_alone.proofs.Leaving.{FullAt, StopsFreeing, StopsScript, frees_entries, freed_left, front_left, no_mark, same_entries, unmarked_there}
use Rattle.lq_alone.specs.One.{MetFault, StandsAt, after}
use Rattle.lq_alone.specs.Stopped.{MayStop}
use Rattle.lq_base.specs.declared.dialect.Dialect.{Dialect}
use Rattle.lq_base.specs.declared.tracking.Lock.{Lock}
use Rattle.lq_drill.proofs.FreedOnce.{closing_frees}
use Rattle.lq_drill.specs.Faults.{entries_of, freed}
use Rattle.lq_drill.specs.declared.fault.DrillFault.{DrillFault}
use Rattle.lq_model.specs.declared.caller.Room.TheVariants.{Ordinary, Release}
use Rattle.lq_run.proofs.Replayed.{in_closing, in_front}
use Rattle.lq_run.specs.Crashes.{LeftBehind, LeftInCommand}
use Rattle.lq_run.specs.Ends.{CameFrom, IsBefore}
use Rattle.lq_run.specs.Left.{IsFullIn}
use Rattle.lq_statement.specs.Laws.{StatementsReadBack}
use Rattle.lq_store.specs.Journal.{Entry, State, end_of, is_full, size_of_all}
use Rattle.lq_track.specs.Database.{Database}
use Rattle.lq_turns.proofs.Made.{calls_both}
use Rattle.lq_turns.specs.Schedule.{Job, Machine, appended}
use Rattle.lq_turns.specs.Script.{closing}
use Rattle.lq_turns.specs.Session.{Session, aborted, all_called, room_of, session_on}
use Rattle.lq_turns.specs.Stops.{IsLeft, Journal}
use Rattle.lq_turns.specs.declared.call.Call.{Call}
use Rattle.lq_turns.specs.declared.call.Call.TheVariants.{Abort}

not_ordinary : (A : Type 0) → room_of closing ≡ Ordinary → A
not_ordinary A is = cc

module _ (Answer : Type 0) (locked : Lock → Answer) (busy : ℕ → Answer) (failed : DrillFault → Answer) (d : Dialect) (job : Job Answer locked busy) (database : Database) where
  abbrev Runs : Type 0
  Runs = Machine Answer locked busy

  abbrev calls : List Call
  calls = job.script database

  abbrev last : Session
  last = all_called d calls (session_on database)

  abbrev ran : List Call → Session
  ran made = after failed d job database made

  -- what a front of the calls wrote is a front of what all write
  pub before_last : (made rest : List Call) → calls ≡ made ++ rest → (s : Session) → s.entries ≡ (ran made).entries → IsBefore s last
  before_last made rest is s same =
      let grows = calls_grow d rest (ran made) in
      record {
        more = grows.more;
        entries = ap (λ (cs : List Call). (all_called d cs (session_on database)).entries) is ∙ ap (λ (t : Session). t.entries) (calls_both d made rest (session_on database)) ∙ grows.is ∙ ap (λ (es : Journal). es ++ grows.more) (sym same);
      }

  -- a session that met a fault

  abbrev Met : Session → Type 0
  Met s = MetFault failed d job database s

  abbrev made_by : (s : Session) → Met s → List Call
  made_by s m = m.cut.first ∷ m.cut.more

  pub came_met : (s : Session) (m : Met s) → CameFrom d (session_on database) s
  came_met s m = elim m.from [
    | inl is ↦ record { calls = made_by s m; is = is }
    | inr is ↦ record { calls = made_by s m ++ Abort ∷ []; is = is ∙ sym (calls_both d (made_by s m) (Abort ∷ []) (session_on database)) }
  ]

  pub before_met : (s : Session) (m : Met s) → IsBefore s last
  before_met s m = before_last (made_by s m) (m.cut.next ∷ m.cut.rest) m.cut.is s (same_entries Answer locked busy failed d job database s m)

  -- a full journal, in words of the script
  module _ (x : State) (used next : ℕ) (may : MayStop d calls database) where
    -- so much was written then
    pub record FullIn (es : Journal) (call : Call) : Type 0 where
      pub full : IsFullIn d calls database x used next
      pub wrote : full.written ≡ es
      pub frees : call ≡ closing → full.more ≡ freed

    abbrev Stopped : Journal → Call → Type 0
    Stopped es call = StopsScript Answer locked busy failed d job database x.used x.limit used next es call

    abbrev Freeing : Journal → Call → Type 0
    Freeing es call = StopsFreeing Answer locked busy failed d job database x.used x.limit used next es call

    -- at the next call of the script
    of_script : (es : Journal) (call : Call) → Stopped es call → FullIn es call
    of_script es call f = record {
      full = record {
        written = (ran f.made).entries;
        more = appended d call (ran f.made);
        stops = front_left d calls f.made (call ∷ f.rest) database (ran f.made).entries [] f.is (sym (append-nil (ran f.made).entries));
        comes = front_left d calls (f.made ++ call ∷ []) f.rest database ((ran f.made).entries ++ appended d call (ran f.made)) [] (f.is ∙ sym (append_assoc f.made (call ∷ []) f.rest))
            (ap (λ (t : Session). t.entries) (calls_both d f.made (call ∷ []) (session_on database)) ∙ adds_up d call (ran f.made) ∙ sym (append-nil ((ran f.made).entries ++ appended d call (ran f.made))));
        made = f.made;
        call = call;
        wrote = refl;
        appends = adds_up d call (ran f.made);
        next_call = inl (f.rest, ap (λ (cs : List Call). all_called d cs (session_on database)) (sym f.is));
        used_is = f.lacks.used_is;
        next_is = f.lacks.next_is;
        room = room_of call;
        in_room = refl;
        which = which;
        full = f.lacks.full;
      };
      wrote = sym f.wrote;
      frees = frees;
    } where
      frees_by : (call ≡ closing) × ((ran f.made).begun ≡ []) → appended d call (ran f.made) ≡ freed
      frees_by is = ap (λ (c : Call). appended d c (ran f.made)) is.0 ∙ closing_frees d (ran f.made) is.1

      which : (room_of call ≡ Ordinary) ⊎ (appended d call (ran f.made) ≡ freed)
      which = elim f.lacks.which [ inl ordinary ↦ inl ordinary | inr is ↦ inr (frees_by is) ]

      frees : call ≡ closing → appended d call (ran f.made) ≡ freed
      frees is = elim f.lacks.which [
        | inl ordinary ↦ not_ordinary _ (ap room_of (sym is) ∙ ordinary)
        | inr both ↦ frees_by both
      ]

    -- or at the one that frees the lock after another fault
    of_freeing : (es : Journal) (call : Call) → Freeing es call → FullIn es call
    of_freeing es call f = record {
      full = record {
        written = s.entries;
        more = freed;
        stops = front_left d calls made (m.cut.next ∷ m.cut.rest) database s.entries [] m.cut.is (sym same ∙ sym (append-nil s.entries));
        comes = subst (λ (l : Journal). IsLeft d calls database [] (l ++ freed)) (sym same) (freed_left d calls made (m.cut.next ∷ m.cut.rest) database m.cut.is (unmarked_there Answer locked busy failed d job database s m f.unmarked));
        made = made ++ Abort ∷ [];
        call = closing;
        wrote = wrote;
        appends = frees_entries d (all_called d (made ++ Abort ∷ []) (session_on database)) (ap (λ (t : Session). t.begun) aborts) ∙ ap (λ (l : Journal). l ++ freed) wrote;
        next_call = inr (inr refl, may.closes m.cut);
        used_is = f.lacks.used_is;
        next_is = f.lacks.next_is ∙ ap (λ (l : Journal). size_of_all (entries_of d l)) only;
        room = Release;
        in_room = refl;
        which = inr refl;
        full = subst (λ (l : Journal). is_full (end_of Release x.limit) used (entries_of d l) ≡ true) only f.lacks.full;
      };
      wrote = sym f.wrote;
      frees = λ is. refl;
    } where
      s : Session
      s = f.session

      m : Met s
      m = f.met

      made : List Call
      made = made_by s m

      same : s.entries ≡ (ran made).entries
      same = same_entries Answer locked busy failed d job database s m

      aborts : all_called d (made ++ Abort ∷ []) (session_on database) ≡ aborted (ran made)
      aborts = calls_both d made (Abort ∷ []) (session_on database)

      wrote : (all_called d (made ++ Abort ∷ []) (session_on database)).entries ≡ s.entries
      wrote = ap (λ (t : Session). t.entries) aborts ∙ sym same

      only : appended d closing s ≡ freed
      only = closing_frees d s (m.idle f.shut)

    pub full_in : (es : Journal) (call : Call) → FullAt Answer locked busy failed d job database x.used x.limit used next es call → FullIn es call
    full_in es call (inl f) = of_script es call f
    full_in es call (inr f) = of_freeing es call f

  -- run again
  module _ (read : StatementsReadBack) (may : MayStop d calls database) where
    -- a front of what the first calls wrote
    front_in : (made rest : List Call) → calls ≡ made ++ rest → (there : List Entry) (front more : Journal) → (ran made).entries ≡ front ++ more → LeftInCommand d calls database there (there ++ entries_of d front)
    front_in made rest is there front more split =
        let before = before_last made rest is (ran made) refl in
        in_front read d calls database may.fits there (there ++ entries_of d front) front (more ++ before.more) (before.entries ∙ ap (λ (es : Journal). es ++ before.more) split ∙ append_assoc front more before.more) refl

    pub left_in : (met : Type 0) (x : Runs) → StandsAt failed d job database met x → (there : List Entry) (front more : Journal) → x.entries ≡ front ++ more → LeftInCommand d calls database there (there ++ entries_of d front)
    left_in met x (inl is) there front more split = front_in [] calls refl there front more (ap (λ (w : Runs). w.entries) (sym is) ∙ split)
    left_in met x (inr (inl p)) there front more split = front_in [] calls refl there front more (ap (λ (w : Runs). w.entries) (sym p.ended.1) ∙ split)
    left_in met x (inr (inr (inl p))) there front more split = front_in (p.cut.first ∷ p.cut.more) (p.cut.next ∷ p.cut.rest) p.cut.is there front more (ap (λ (w : Runs). w.entries) (sym p.is) ∙ split)
    left_in met x (inr (inr (inr (inl p)))) there front more split = front_in calls [] (sym (append-nil calls)) there front more (ap (λ (w : Runs). w.entries) (sym p.ended.1) ∙ split)
    left_in met x (inr (inr (inr (inr (inl q))))) there front more split =
        let m = q.1.met in
        front_in (made_by q.1.session m) (m.cut.next ∷ m.cut.rest) m.cut.is there front more (sym (same_entries Answer locked busy failed d job database q.1.session m) ∙ ap (λ (w : Runs). w.entries) (sym q.1.is) ∙ split)
    left_in met x (inr (inr (inr (inr (inr q))))) there front more split =
        let p = q.1 in
        elim p.by [
          | inl is ↦ front_in (made_by p.session p.met) (p.met.cut.next ∷ p.met.cut.rest) p.met.cut.is there front more (sym (same_entries Answer locked busy failed d job database p.session p.met) ∙ ap (λ (w : Runs). w.entries) (sym is.1.1) ∙ split)
          | inr is ↦ in_closing read d calls database may.fits p.session (came_met p.session p.met) (before_met p.session p.met) p.held (no_mark p.session.committed.lock is.0) (p.met.idle p.shut) (may.closes p.met.cut) there (there ++ entries_of d front) front more
              (ap (λ (w : Runs). w.entries) (sym is.1.1) ∙ split) refl
        ]

-- where the entries that were there are told
pub behind_by : (d : Dialect) (calls : List Call) (database : Database) (x y : State) (more : List Entry) → y.dialect ≡ x.dialect → y.limit ≡ x.limit → y.entries ≡ option_map (λ (entries : List Entry). entries ++ more) x.entries → ((there : List Entry) → LeftInCommand d calls database there (there ++ more))
    → LeftBehind d calls database x y
behind_by d calls database x y more dialect limit entries each = record { dialect = dialect; limit = limit; entries = by x.entries y.entries entries } where
  by : (o p : Option (List Entry)) → p ≡ option_map (λ (entries : List Entry). entries ++ more) o → IfSome o (λ there. (left : List Entry) × (p ≡ Some left) × LeftInCommand d calls database there left)
  by None p is = tt
  by (Some there) p is = (there ++ more, is, each there)
