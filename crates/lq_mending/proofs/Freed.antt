-- The lock is freed.
use Rattle.std.proofs.Common.{ap, inr, refl, subst, sym, ◌∙◌}
use Rattle.std.proofs.lemmas.List.{append-nil, append_cancel_left}
use Rattle.std.specs.Prelude.{Err, None, Ok, Option, Some, [], false, true, ℕ, ◌+◌, ◌∷◌, ◌≡◌}
use Rattle.lq_base.specs.declared.dialect.Dialect.{Dialect}
use Rattle.lq_model.proofs.Lists.{and_true}
use Rattle.lq_model.specs.declared.caller.Room.TheVariants.{Release}
use Rattle.lq_model.specs.declared.fault.StoreFault.{StoreFault}
use Rattle.lq_model.specs.declared.fault.StoreFault.TheVariants as fault
use Rattle.lq_run.proofs.Ending.{opened_is}
use Rattle.lq_run.proofs.Grows.{calls_grow, closing_entry}
use Rattle.lq_run.proofs.Left.{ok_err}
use Rattle.lq_run.specs.Crashing.{CrashesFor}
use Rattle.lq_run.specs.Does.{AloneFor, Breaks, DoesAlone, HasNoRoom}
use Rattle.lq_run.specs.Ends.{IsBefore}
use Rattle.lq_run.specs.Stands.{no_changes, IsBegun, Stands, entries_of}
use Rattle.lq_run.specs.Steps.{end_of}
use Rattle.lq_run.specs.declared.runner.End.TheVariants as end
use Rattle.lq_store.specs.Journal.{Crashes, CrashesLeave, end_of as room_end, is_full, size_of_all, State, Transaction, is_open}
use Rattle.lq_turns.specs.Schedule.{all_fit}
use Rattle.lq_turns.specs.Script.{closing}
use Rattle.lq_turns.specs.Session.{Session, called}
use Rattle.lq_turns.specs.declared.deed.Deed.TheVariants.{Locks}
use Rattle.lq_turns.specs.declared.deed.OnLock.TheVariants.{Freed}
use Rattle.lq_mending.proofs.Crashed.{call_crash}
use Rattle.lq_mending.proofs.Taken.{full_by, nobody}
use Rattle.lq_mending.specs.Comes.{LeftOf}
use Rattle.lq_mending.specs.Mends.{EndsAt, IsFreed, Rests, Waits, WasFull}

not_true : false ≡ true → ⊥
not_true h = Prim.cc

same : (s : Session) → IsBefore s s
same s = record { more = []; entries = sym (append-nil s.entries) }

module _ (d : Dialect) (number : ℕ) (start x y : State) (s : Session) (rests : Rests d number start x s) where
  pub shut_there : is_open number x.begun ≡ false
  shut_there = opened_is d no_changes nobody number start x s rests.stands ∙ rests.shut

  pub freed_fits : all_fit d (Locks Freed ∷ []) s.seen ≡ true
  freed_fits = and_true s.seen.has_lock_row true rests.row.1 refl

  none_begun : s.begun ≡ []
  none_begun = by x.begun rests.stands.begun where
    by : (o : Option Transaction) → IsBegun start.dialect number s o → s.begun ≡ []
    by None begun = begun.2
    by (Some t) begun = absurd (not_true (sym rests.shut ∙ begun.0))

  abbrev last : Session
  last = called d closing s

  on_way : IsBefore s last
  on_way = calls_grow d (closing ∷ []) s

  was_full : (used next : ℕ) → HasNoRoom d Release closing s x used next → (full : WasFull d number start s last used next) × (full.session ≡ s)
  was_full used next it = (
    record {
      session = s;
      came = record { calls = []; is = refl };
      call = closing;
      more = it.appends.more;
      appends = it.appends.entries;
      before = same last;
      others = [];
      goes_on = refl;
      used_is = it.full.1.0 ∙ subst (λ e. x.used ≡ start.used + size_of_all (entries_of e s.entries)) rests.dialect rests.stands.used;
      next_is = it.full.1.1 ∙ ap size_of_all it.appends.texts;
      which = inr (append_cancel_left s.entries it.appends.more ((Locks Freed ∷ []) ∷ []) (sym it.appends.entries ∙ closing_entry d s none_begun));
      full = ap (λ l. is_full (room_end Release l) used (entries_of d it.appends.more)) (sym rests.stands.limit)
          ∙ full_by (room_end Release x.limit) used x.used it.written (entries_of d it.appends.more) it.full.1.0 it.appends.texts it.full.0;
    },
    refl,
  )

  -- the store is as it was
  waits_still : y ≡ x → (waits : Waits d number start s last y) × (waits.session ≡ s)
  waits_still still = (record { session = s; came = record { calls = []; is = refl }; before = on_way; stands = subst (λ z. Stands start number z s) (sym still) rests.stands; shut = rests.shut }, refl)

  met : (why : StoreFault) → DoesAlone start number x s (Locks Freed ∷ []) Release (Err why) y → EndsAt d number start s last (end_of why) y × IsFreed (end_of why)
  met fault.Disk does = (record { session = s; x = x; stands = rests.stands; call = closing; breaks = subst (λ e. Breaks e closing s x y) rests.dialect does; before = same last }, tt)
  met (fault.Full used next) does =
      let waits = waits_still does.1 in
      let full = was_full used next (subst (λ e. HasNoRoom e Release closing s x used next) rests.dialect does.0) in
      ((waits.0, full.0, ap (λ (t : Session). t.entries) (waits.1 ∙ sym full.1)), tt)
  met fault.OutOfMemory does = ((waits_still does).0, tt)
  met (fault.Busy n) does = absurd does
  met fault.NotSql does = absurd does
  met (fault.Refused reason) does = absurd (ok_err does.0)

  pub frees : AloneFor d number (Locks Freed ∷ []) Release x (Ok tt) y → EndsAt d number start s last end.Done y × IsFreed end.Done
  frees alone =
      let does = alone start s rests.dialect rests.stands freed_fits in
      ((subst (λ e. Stands start number y (called e closing s)) rests.dialect does.2, refl), tt)

  pub frees_not : (why : StoreFault) → AloneFor d number (Locks Freed ∷ []) Release x (Err why) y → EndsAt d number start s last (end_of why) y × IsFreed (end_of why)
  frees_not why alone = met why (alone start s rests.dialect rests.stands freed_fits)

  pub freeing_crash : (a b : Crashes) → CrashesFor d number closing x a b → CrashesLeave start.entries (LeftOf d last) a b
  freeing_crash a b crash = call_crash d number start x s last rests.dialect rests.stands closing (same last) a b (crash start s rests.dialect rests.stands freed_fits)
