-- What a text does in an open transaction.
use Rattle.std.proofs.Common.{◌≡◌, ◌∙◌, ◌<◌, ℕ, Bool, true, false, List, [], ◌∷◌, ◌++◌, length, take, Ok, Err, Result, Option, None, Some, IfSome, refl, sym, ap, subst, arith, ◌+◌}
use Rattle.std.specs.Option.{option_and_then, option_map}
use Rattle.std.proofs.lemmas.List.{append-nil}
use Rattle.lq_base.specs.declared.dialect.Dialect.{Dialect}
use Rattle.lq_base.specs.declared.reason.Reason.{Reason}
use Rattle.lq_base.specs.declared.tracking.Lock.{Lock}
use Rattle.lq_model.specs.Catalogue.{Catalogue}
use Rattle.lq_model.proofs.KeepsSound.{statement_keeps}
use Rattle.lq_model.specs.Sound.{IsSound}
use Rattle.lq_model.specs.Step.{is_statement, step, commits_itself}
use Rattle.lq_db.specs.Db.{IsLockOf, IsAdded, IsBegun, IsHeld, IsOpen, MayTake, Stays}
use Rattle.lq_model.specs.SqlText.{statement_in}
use Rattle.lq_model.specs.declared.caller.By.{By}
use Rattle.lq_model.specs.declared.caller.By.TheVariants.{Program}
use Rattle.lq_model.specs.declared.fault.StoreFault.{StoreFault}
use Rattle.lq_model.specs.declared.fault.StoreFault.TheVariants.{Refused, NotSql, OutOfMemory}
use Rattle.lq_model.specs.declared.statement.Statement.{Statement}
use Rattle.lq_store.specs.Calls.{MayExecute}
use Rattle.lq_store.specs.Journal.{Entry, accepted, database, run_text, run_texts, State, Transaction}
use Rattle.lq_store.specs.Executor.{Held, kept}
use Rattle.lq_session.specs.Session.{begun_in, lock_in, texts_in}
use Rattle.lq_entries.specs.Log.{Log}
use Rattle.lq_session.specs.declared.open.Open.{Open}
use Rattle.lq_loading.proofs.Raises.{ran_text}
use Rattle.lq_db.proofs.Commits.{open_is, state}

pub no_more : (entries : Option (List Entry)) → option_map (λ entries. entries ++ []) entries ≡ entries
no_more None = refl
no_more (Some entries) = ap Some (append-nil entries)

pub same_used : (used : ℕ) → used + 0 ≡ used
same_used used = omega arith

pub run_last : (d : Dialect) (texts : List (List ℕ)) (text : List ℕ) (c e f : Catalogue) → run_texts d texts c ≡ Some e → run_text d text e ≡ Some f → run_texts d (texts ++ text ∷ []) c ≡ Some f
run_last d [] text c e f ran last = let same : c ≡ e = cc in rw same (ap (option_and_then (run_texts d [])) last)
run_last d (t ∷ texts) text c e f ran last = by (λ g. λ ran. run_last d texts text g e f ran last) (run_text d t c) ran
  where
    by : ((g : Catalogue) → run_texts d texts g ≡ Some e → run_texts d (texts ++ text ∷ []) g ≡ Some f)
        → (r : Option Catalogue) → option_and_then (run_texts d texts) r ≡ Some e → option_and_then (run_texts d (texts ++ text ∷ [])) r ≡ Some f
    by more None ran = cc
    by more (Some g) ran = more g ran

-- a fault changed nothing
stayed : (d : Dialect) (h k : Held) (es : Option (List Entry)) (lock : Lock) (b : Option Open) (old new : Open) → b ≡ Some old → k ≡ h → new ≡ old → IsHeld d h es lock b → IsHeld d k es lock (Some new)
stayed d h k es lock b old new b_is same same_open held = rw (same, same_open) (subst (IsHeld d h es lock) b_is held)

-- a text more in an open transaction, or the same as before
pub taken_held : (d : Dialect) (by : By) (text : List ℕ) (s : Statement) (h k : Held) (es : Option (List Entry)) (lock : Lock) (b : Option Open) (old new : Open) (result : Result ℕ StoreFault) → b ≡ Some old
    → statement_in d text ≡ Some s → is_statement d s ≡ true → MayTake d text (step by d s h.now) h old result k new → IsHeld d h es lock b → IsHeld d k es lock (Some new)
taken_held d by text s h k es lock b old new (Ok n) b_is spelled is (c, meant, now, stays, added) held =
    let begun = open_is d h lock b old b_is held.begun_is in
    record {
      dialect_is = stays.dialect_is ∙ held.dialect_is;
      is_journal = subst (λ c. IfSome es (λ there. database d there ≡ Some c)) (sym stays.kept_is) held.is_journal;
      sound = subst (IsSound d) (sym stays.kept_is) held.sound;
      sound_now = subst (IsSound d) (sym now) (statement_keeps d s by h.now c n is held.sound_now meant);
      lock_is = subst (λ c. IsLockOf d c lock) (sym stays.kept_is) held.lock_is;
      begun_is = record {
        runs = rw (stays.kept_is, now, added.texts_are) (run_last d (texts_in old.entry) text (kept h) h.now c begun.runs (ran_text d by text s h.now c n spelled meant));
        lock_is = subst (λ c. IsLockOf d c (lock_in new.lock lock)) (sym now) (added.lock_is lock);
        some = added.some;
      };
    }
taken_held d by text s h k es lock b old new (Err (Refused reason)) b_is spelled is (meant, same, same_open) held = stayed d h k es lock b old new b_is same same_open held
taken_held d by text s h k es lock b old new (Err OutOfMemory) b_is spelled is (same, same_open) held = stayed d h k es lock b old new b_is same same_open held
taken_held d by text s h k es lock b old new (Err _) b_is spelled is never held = absurd never
