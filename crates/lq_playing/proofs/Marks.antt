-- Whether the lock of a command has a mark, and what is left to the command after a fault.
use Rattle.std.proofs.Common.{ap, inl, inr, subst, sym, ◌∙◌}
use Rattle.std.specs.Prelude.{Bool, List, None, Option, Some, [], false, if◌then◌else◌, refl, true, ◌++◌, ◌||◌, ◌∷◌, ◌≡◌}
use Rattle.lq_base.specs.declared.dialect.Dialect.{Dialect}
use Rattle.lq_base.specs.declared.tracking.Lock.{Lock}
use Rattle.lq_drill.specs.Faults.{frees, has_bar, last_calls}
use Rattle.lq_hand.specs.Hand.{AreTurns, IsReady}
use Rattle.lq_model.specs.declared.fault.StoreFault.{StoreFault}
use Rattle.lq_playing.specs.Under.{IsPlain, ToCome}
use Rattle.lq_run.proofs.Resting.{marked_some}
use Rattle.lq_run.specs.Stands.{IsBare, IsHeld, IsMarked}
use Rattle.lq_turns.specs.Deed.{Contents}
use Rattle.lq_turns.specs.Rest.{GivingUp, Inside, Over, Place, if_goes_on, rest, turns_calls}
use Rattle.lq_turns.specs.Script.{closing}
use Rattle.lq_turns.specs.Session.{Both, Session, are_accepted, went}
use Rattle.lq_turns.specs.Set.{Meaning}
use Rattle.lq_turns.specs.Turn.{made}
use Rattle.lq_turns.specs.declared.call.Call.{Call}
use Rattle.lq_turns.specs.declared.call.Call.TheVariants.{Abort, Alone, Begin, Commit, Execute}
use Rattle.lq_turns.specs.declared.deed.Deed.{Deed}
use Rattle.lq_turns.specs.declared.stamp.Stamp.{Stamp}

not_true : false ≡ true → ⊥
not_true h = Prim.cc

head_is : {a b : Call} {xs ys : List Call} → a ∷ xs ≡ b ∷ ys → a ≡ b
head_is h = Prim.cc

pub bare_none : (stamp : Stamp) (lock : Lock) → IsPlain stamp → IsBare stamp lock → has_bar lock ≡ false
bare_none stamp lock plain is = ap has_bar is ∙ plain

pub not_both : (stamp : Stamp) (lock : Lock) → IsPlain stamp → IsBare stamp lock → IsMarked stamp lock → ⊥
not_both stamp lock plain bare marked = not_true (sym (bare_none stamp lock plain bare) ∙ marked_some stamp lock marked)

-- the calls after a fault
pub last_open : (s : Session) (b : Bool) → s.is_open ≡ true → has_bar s.committed.lock ≡ b → last_calls s ≡ Abort ∷ frees b
last_open s b opened is = ap (λ o. if o then Abort ∷ frees (has_bar s.committed.lock) else frees (has_bar s.committed.lock)) opened ∙ ap (λ k. Abort ∷ frees k) is

pub last_shut : (s : Session) (b : Bool) → s.is_open ≡ false → has_bar s.committed.lock ≡ b → last_calls s ≡ frees b
last_shut s b shut is = ap (λ o. if o then Abort ∷ frees (has_bar s.committed.lock) else frees (has_bar s.committed.lock)) shut ∙ ap frees is

-- the next of the command's calls is the holder's
pub next_left : (stamp : Stamp) (f : Option StoreFault) (s : Session) (script left : List Call) → IsPlain stamp → ToCome stamp f s script left → (call : Call) (calls : List Call) → script ≡ call ∷ calls → (more : List Call) × (left ≡ call ∷ more)
next_left stamp None s script left plain to call calls is = (calls, to ∙ is)
next_left stamp (Some why) s script left plain to call calls is = elim to.1 [
  | inl aborts ↦ (frees (has_bar s.committed.lock), to.0 ∙ last_open s (has_bar s.committed.lock) aborts.0 refl ∙ ap (λ c. c ∷ frees (has_bar s.committed.lock)) (head_is (sym aborts.1 ∙ is)))
  | inr closes ↦ ([], to.0 ∙ last_shut s false closes.0 (bare_none stamp s.committed.lock plain closes.2) ∙ ap (λ c. c ∷ []) (head_is (sym closes.1 ∙ is)))
]

not_executed : {deed : Deed} → Execute deed ≡ closing → ⊥
not_executed h = Prim.cc

not_committed : Commit ≡ closing → ⊥
not_committed h = Prim.cc

not_aborted : Abort ≡ closing → ⊥
not_aborted h = Prim.cc

-- where the next call frees the lock no transaction is open
module _ {Key : Type 0} (d : Dialect) (m : Meaning Key) (stamp : Stamp) where
  shut_inside : (calls : List Call) (opened : Bool) (c : Contents) (others more : List Call) → AreTurns d opened calls → made d calls c ++ others ++ closing ∷ [] ≡ closing ∷ more → opened ≡ false
  shut_inside [] opened c others more turns is = turns
  shut_inside (Begin ∷ calls) opened c others more turns is = turns.0
  shut_inside (Execute deed ∷ calls) opened c others more turns is = absurd (not_executed (head_is is))
  shut_inside (Commit ∷ calls) opened c others more turns is = absurd (not_committed (head_is is))
  shut_inside (Abort ∷ calls) opened c others more turns is = absurd turns.0
  shut_inside (Alone deeds room ∷ calls) opened c others more turns is = absurd turns.0

  pub shut_next : (p : Place Key) (opened : Bool) (x : Both) (more : List Call) → IsReady d opened p → rest d m stamp p x ≡ closing ∷ more → opened ≡ false
  shut_next (Inside calls goes_on turns) opened x more ready is = shut_inside calls opened x.1 (turns_calls d m stamp (if_goes_on (are_accepted d calls x.1 || goes_on) turns) (went d calls x).0) more ready is
  shut_next (GivingUp turns) opened x more ready is = absurd (not_aborted (head_is is))
  shut_next Over opened x more ready is = ready
