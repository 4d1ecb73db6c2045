-- What crashes leave in a run, step after step.
use Rattle.std.proofs.Common.{ap, inl, inr, subst, sym, ◌∙◌}
use Rattle.std.proofs.lemmas.List.{append-nil, append_assoc, append_cancel_left, map-append}
use Rattle.std.specs.Option.{option_map}
use Rattle.std.specs.Prelude.{List, None, Option, Some, [], false, true, ℕ, ◌++◌, ◌∷◌, ◌≡◌}
use Rattle.lq_base.specs.declared.dialect.Dialect.{Dialect}
use Rattle.lq_model.specs.declared.fault.StoreFault.{StoreFault}
use Rattle.lq_store.specs.Journal.{Crashes, CrashesLeave, Entry, State, Transaction}
use Rattle.lq_turns.specs.Script.{closing}
use Rattle.lq_turns.specs.Session.{Session, all_called, called}
use Rattle.lq_turns.specs.Set.{Meaning}
use Rattle.lq_turns.specs.Stops.{Journal}
use Rattle.lq_turns.specs.declared.call.Call.{Call}
use Rattle.lq_turns.specs.declared.deed.Deed.TheVariants.{Locks}
use Rattle.lq_turns.specs.declared.deed.OnLock.TheVariants.{Freed}
use Rattle.lq_turns.specs.declared.stamp.Stamp.{Stamp}
use Rattle.lq_run.proofs.Ending.{at_last, before_last, on_way}
use Rattle.lq_run.proofs.Grows.{calls_grow, closing_entry}
use Rattle.lq_run.proofs.Since.{leave_from}
use Rattle.lq_run.specs.Crashing.{CrashesStep, LeftInCall, LeftInRun, LeftInStep, MayFree}
use Rattle.lq_run.specs.Ends.{IsBefore, Reaches}
use Rattle.lq_run.specs.Stands.{IsBare, IsBegun, entries_of, entry_of}
use Rattle.lq_run.specs.Steps.{Standing}

not_true : false ≡ true → ⊥
not_true h = Prim.cc

tail_is : {A : Type 0} {x y : A} {xs ys : List A} → x ∷ xs ≡ y ∷ ys → xs ≡ ys
tail_is h = Prim.cc

nil_cons : {A : Type 0} {x : A} {xs : List A} → x ∷ xs ≡ [] → ⊥
nil_cons h = Prim.cc

second_none : (xs ys : Journal) → xs ++ ys ≡ [] → ys ≡ []
second_none [] ys is = is
second_none (x ∷ xs) ys is = absurd (nil_cons is)

regrouped : (a b c e : Journal) → (a ++ (b ++ c)) ++ e ≡ (a ++ b) ++ (c ++ e)
regrouped a b c e = ap (λ z. z ++ e) (sym (append_assoc a b c)) ∙ append_assoc (a ++ b) c e

-- where no transaction is open nothing is begun
none_begun : (d : Dialect) (number : ℕ) (s : Session) (o : Option Transaction) → IsBegun d number s o → s.is_open ≡ false → s.begun ≡ []
none_begun d number s None begun shut = begun.2
none_begun d number s (Some t) begun shut = absurd (not_true (sym shut ∙ begun.0))

module _ {Key Told : Type 0} (d : Dialect) (m : Meaning Key) (stamp : Stamp) (number : ℕ) (before : Standing Key Told) (told : Told) (start : State) (first last : Session) (x : State) (is : Reaches d m stamp number before x start first last told) where
  abbrev s : Session
  s = is.session

  abbrev here : List Entry
  here = entries_of d s.entries

  gone : IsBefore first s
  gone = subst (IsBefore first) (sym is.came.is) (calls_grow d is.came.calls first)

  way : IsBefore s last
  way = before_last d m stamp number before s last is.way

  since : (front : Journal) → (more : Journal) × (s.entries ++ front ≡ first.entries ++ more)
  since front = (gone.more ++ front, ap (λ es. es ++ front) gone.entries ∙ append_assoc first.entries gone.more front)

  behind : (there left : List Entry) (front : Journal) → left ≡ (there ++ here) ++ entries_of d front → left ≡ there ++ entries_of d (s.entries ++ front)
  behind there left front left_is = left_is ∙ append_assoc there here (entries_of d front) ∙ ap (λ z. there ++ z) (sym (map-append (entry_of d) s.entries front))

  -- in a call on the way to the last session
  on : (call : Call) (there left : List Entry) → IsBefore (called d call s) last → LeftInCall d call s (there ++ here) left → LeftInRun d stamp first last there left
  on call there left next it = record {
    written = s.entries ++ it.front;
    since = since it.front;
    by = inl (it.more ++ next.more, next.entries ∙ ap (λ es. es ++ next.more) it.appends ∙ regrouped s.entries it.front it.more next.more);
    is = behind there left it.front it.is;
  }

  -- in the one that frees a lock without a mark
  early : (there left : List Entry) (front more : Journal) → IsBare stamp s.committed.lock → s.begun ≡ [] → (called d closing s).entries ≡ s.entries ++ (front ++ more) → left ≡ (there ++ here) ++ entries_of d front
      → LeftInRun d stamp first last there left
  early there left [] more bare none appends left_is = record {
    written = s.entries;
    since = (gone.more, gone.entries);
    by = inl (way.more, way.entries);
    is = left_is ∙ append-nil (there ++ here);
  }
  early there left (e ∷ front) more bare none appends left_is =
      let last_one : e ∷ (front ++ more) ≡ (Locks Freed ∷ []) ∷ [] = append_cancel_left s.entries (e ∷ (front ++ more)) ((Locks Freed ∷ []) ∷ []) (sym appends ∙ closing_entry d s none) in
      let no_more : more ≡ [] = second_none front more (tail_is last_one) in
      record {
        written = s.entries ++ e ∷ front;
        since = since (e ∷ front);
        by = inr (s, is.came, way, bare, none, sym (appends ∙ ap (λ z. s.entries ++ (e ∷ (front ++ z))) no_more ∙ ap (λ z. s.entries ++ z) (append-nil (e ∷ front))));
        is = behind there left (e ∷ front) left_is;
      }

  freed : (met : Option StoreFault) (there left : List Entry) → MayFree d m stamp number before met s → LeftInCall d closing s (there ++ here) left → LeftInRun d stamp first last there left
  freed met there left (inl only) it =
      let ends : called d closing s ≡ last = sym (ap (λ cs. all_called d cs s) only.1) ∙ at_last d m stamp number before told start first last x x is only.0 in
      on closing there left (subst (IsBefore (called d closing s)) ends (calls_grow d [] (called d closing s))) it
  freed met there left (inr bare) it = early there left it.front it.more bare.1.0 (none_begun start.dialect number s x.begun is.is.there.at.stands.begun bare.1.1) it.appends it.is

  in_step : (met : Option StoreFault) (there left : List Entry) → LeftInStep d m stamp number before met s (there ++ here) left → LeftInRun d stamp first last there left
  in_step met there left (inl next) = on next.call there left (on_way d m stamp number before told start first last x x is next.call next.others next.next next.by) next.is
  in_step met there left (inr frees) = freed met there left frees.0 frees.1

  pub step_crash : (met : Option StoreFault) (a b : Crashes) → CrashesStep d m stamp number before met x a b → CrashesLeave start.entries (LeftInRun d stamp first last) a b
  step_crash met a b crash =
      leave_from x.entries start.entries here (LeftInStep d m stamp number before met s) (LeftInRun d stamp first last) a b
      (subst (λ e. x.entries ≡ option_map (λ entries. entries ++ entries_of e s.entries) start.entries) is.is.there.at.dialect is.is.there.at.stands.entries) (in_step met)
      (crash start s told is.is.there (λ there. is.is.committed))
