-- What a snapshot leaves.
use Rattle.std.proofs.Common.{◌≡◌, ◌∙◌, ℕ, Bool, true, false, cond, List, ◌++◌, [], Ok, Err, Result, Option, None, Some, IfOk, IfSome, OnOk, refl, sym, ap, subst, arith, zero, suc, unwrap_or}
use Rattle.std.specs.Option.{option_map}
use Rattle.lq_base.specs.declared.dialect.Dialect.{Dialect}
use Rattle.lq_base.specs.declared.tracking.Lock.{Lock}
use Rattle.lq_codec.specs.Tables.{bytes_of}
use Rattle.lq_codec.specs.State.{state_of}
use Rattle.lq_model.specs.Catalogue.{Catalogue, no_objects}
use Rattle.lq_model.specs.declared.caller.Room.TheVariants.{Ordinary}
use Rattle.lq_model.specs.declared.fault.StoreFault.{StoreFault}
use Rattle.lq_model.specs.declared.fault.StoreFault.TheVariants.{Disk, Full, OutOfMemory}
use Rattle.lq_store.specs.Calls.{MaySnapshot, ends_in_texts, stated}
use Rattle.lq_store.specs.Journal.{Crashes, LeavesFront, Entry, database, size_of_all, Transaction}
use Rattle.lq_store.specs.Executor.{Held, kept}
use Rattle.lq_entries.specs.Log.{Log, MayWrite, gained}
use Rattle.lq_session.specs.Session.{begun_in}
use Rattle.lq_session.specs.declared.open.Open.{Open}
use Rattle.lq_db.specs.Db.{IsHeld, is_unwritten, lives, TellLast, after_state}
use Rattle.lq_db.specs.declared.last_texts.LastTexts.{LastTexts}
use Rattle.lq_db.proofs.AloneLeft.{closed_same}
use Rattle.lq_db.proofs.Commits.{failed, run_more, state}
use Rattle.lq_db.proofs.Lasts.{stated_last}

pub none_begun : (h : Held) (b : Option Open) → begun_in h b ≡ None → b ≡ None
none_begun h None is = refl
none_begun h (Some t) is = absurd (cc is)

-- what it answers, where texts stand behind the last state
pub snapshot_does : (d : Dialect) (now c : Catalogue) (begun : Option Transaction) (x y : Log) (live : Bool) (result : Result ℕ StoreFault) → now ≡ c → IfSome x.entries (λ there. ends_in_texts there ≡ true)
    → IfOk result (λ size. size ≡ size_of_all (stated now)) → MayWrite Ordinary (stated now) x result y → MaySnapshot (state d c begun x live) result (state d c begun y (lives result live))
snapshot_does d now c begun x y live result same ends size writes =
    go result (subst (λ c. IfOk result (λ size. size ≡ size_of_all (stated c))) same size) (subst (λ c. MayWrite Ordinary (stated c) x result y) same writes)
  where
    go : (result : Result ℕ StoreFault) → IfOk result (λ size. size ≡ size_of_all (stated c)) → MayWrite Ordinary (stated c) x result y → MaySnapshot (state d c begun x live) result (state d c begun y (lives result live))
    go (Ok zero) size writes = absurd (omega (arith, size))
    go (Ok (suc n)) size (fits, y_is) = (ends, (size, (fits, ap (λ (l : Log). state d c begun l live) y_is)))
    go (Err Disk) size cut = failed (stated c) (stated c) d c c begun begun x y live refl cut
    go (Err (Full used next)) size (full, (used_is, (next_is, y_is))) = ((full, (used_is, next_is)), ap (λ (l : Log). state d c begun l live) y_is)
    go (Err OutOfMemory) size y_is = ap (λ (l : Log). state d c begun l live) y_is
    go (Err _) size never = absurd never

-- the state of what is committed is read as it
pub snapshot_reads : (d : Dialect) (h : Held) → h.dialect ≡ d → h.now ≡ kept h → state_of h.dialect (bytes_of h.now) ≡ Some h.now → state_of d (bytes_of (kept h)) ≡ Some (kept h)
snapshot_reads d h dialect same reads = ap (λ d. state_of d (bytes_of (kept h))) (sym dialect) ∙ subst (λ c. state_of h.dialect (bytes_of c) ≡ Some c) same reads

pub not_wanting : (result : Result ℕ StoreFault) → is_unwritten result ≡ false → result ≡ Err OutOfMemory → ⊥
not_wanting result written is =
    let wrong : true ≡ false = sym (ap is_unwritten is) ∙ written in
    absurd (cc wrong)

pub snapshot_crash : (es : Option (List Entry)) (now c : Catalogue) (a b : Crashes) → now ≡ c → IfSome es (λ there. ends_in_texts there ≡ true) → LeavesFront es (stated now) a b
    → LeavesFront es (cond (unwrap_or (option_map ends_in_texts es) false) (stated c) []) a b
snapshot_crash None now c a b same ends leaves = tt
snapshot_crash (Some there) now c a b same ends leaves = rw ends (subst (λ c. LeavesFront (Some there) (stated c) a b) same leaves)

-- the journal stands for what the engine holds
stated_held : (d : Dialect) (h : Held) (es now_es : Option (List Entry)) (lock : Lock) (b : Option Open) → b ≡ None → state_of h.dialect (bytes_of h.now) ≡ Some h.now → now_es ≡ option_map (λ entries. entries ++ stated h.now) es
    → IsHeld d h es lock b → IsHeld d h now_es lock b
stated_held d h es now_es lock b none reads es_is held = rw es_is (record {
  dialect_is = held.dialect_is;
  is_journal = there es;
  sound = held.sound;
  sound_now = held.sound_now;
  lock_is = held.lock_is;
  begun_is = held.begun_is;
})
  where
    there : (es : Option (List Entry)) → IfSome (option_map (λ entries. entries ++ stated h.now) es) (λ there. database d there ≡ Some (kept h))
    there None = tt
    there (Some entries) =
        run_more d entries (stated h.now) (Some no_objects)
        ∙ (ap (λ d. state_of d (bytes_of h.now)) (sym held.dialect_is) ∙ (reads ∙ ap Some (closed_same d h lock b none held.begun_is)))

module _ (h : Held) (x y : Log) (b : Option Open) (none : b ≡ None) where
  pub snapshot_held : (d : Dialect) (lock : Lock) (result : Result ℕ StoreFault) → lives result true ≡ true → OnOk result (state_of h.dialect (bytes_of h.now) ≡ Some h.now) → MayWrite Ordinary (stated h.now) x result y
      → IsHeld d h x.entries lock b → IsHeld d h y.entries lock b
  snapshot_held d lock (Ok n) alive reads (fits, y_is) held = stated_held d h x.entries y.entries lock b none reads (ap (λ (l : Log). l.entries) y_is) held
  snapshot_held d lock (Err Disk) alive reads cut held = absurd (cc alive)
  snapshot_held d lock (Err (Full used next)) alive reads (full, (used_is, (next_is, y_is))) held = subst (λ (l : Log). IsHeld d h l.entries lock b) (sym y_is) held
  snapshot_held d lock (Err OutOfMemory) alive reads y_is held = subst (λ (l : Log). IsHeld d h l.entries lock b) (sym y_is) held
  snapshot_held d lock (Err _) alive reads never held = absurd never

  pub snapshot_last : (t u : LastTexts) (result : Result ℕ StoreFault) → lives result true ≡ true → MayWrite Ordinary (stated h.now) x result y → u ≡ after_state result t → TellLast x.entries b t → TellLast y.entries b u
  snapshot_last t u (Ok n) alive (fits, y_is) u_is tells = rw u_is (stated_last x.entries y.entries (bytes_of h.now) b t none (ap (λ (l : Log). l.entries) y_is) tells)
  snapshot_last t u (Err Disk) alive cut u_is tells = absurd (cc alive)
  snapshot_last t u (Err (Full used next)) alive (full, (used_is, (next_is, y_is))) u_is tells = rw u_is (subst (λ (l : Log). TellLast l.entries b t) (sym y_is) tells)
  snapshot_last t u (Err OutOfMemory) alive y_is u_is tells = rw u_is (subst (λ (l : Log). TellLast l.entries b t) (sym y_is) tells)
  snapshot_last t u (Err _) alive never u_is tells = absurd never

  pub snapshot_opening : (result : Result ℕ StoreFault) → MayWrite Ordinary (stated h.now) x result y → y.dialect ≡ x.dialect
  snapshot_opening (Ok n) (fits, y_is) = ap (λ (l : Log). l.dialect) y_is
  snapshot_opening (Err Disk) cut = cut.dialect_is
  snapshot_opening (Err (Full used next)) (full, (used_is, (next_is, y_is))) = ap (λ (l : Log). l.dialect) y_is
  snapshot_opening (Err OutOfMemory) y_is = ap (λ (l : Log). l.dialect) y_is
  snapshot_opening (Err _) never = absurd never
