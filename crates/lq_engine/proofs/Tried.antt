-- A statement that was tried: what it means where it was carried out, and nothing changed where it was not.
use Rattle.std.proofs.Common.{Err, List, Ok, Result, ap, arith, subst, sym, ℕ, ◌∙◌, ◌≡◌, ◌≤◌}
use Rattle.std.specs.Prelude.{MatchResult}
use Rattle.lq_base.specs.declared.dialect.Dialect.{Dialect}
use Rattle.lq_base.specs.declared.reason.Reason.{Reason}
use Rattle.lq_chain.specs.History.{History, marked, undone_to}
use Rattle.lq_engine.specs.State.{Runs, State, stands_for}
use Rattle.lq_model.specs.Catalogue.{Catalogue}
use Rattle.lq_model.specs.Step.{step}
use Rattle.lq_model.specs.declared.caller.By.{By}
use Rattle.lq_model.specs.declared.statement.Statement.{Statement}
use Rattle.lq_rows.specs.Stored.{Carries, Continues}
use Rattle.lq_rows.specs.declared.fault.RunFault.{RunFault}
use Rattle.lq_rows.specs.declared.fault.RunFault.TheVariants.{OutOfMemory, Refused}

-- how a statement is answered on what is kept, where a fault changes nothing
abbrev pub Tried : Result (Catalogue × ℕ) Reason → History Catalogue → History Catalogue → Result ℕ RunFault → Type 0
Tried meaning old new (Ok n) = (meaning ≡ Ok (new.now, n)) × Continues old new
Tried meaning old new (Err (Refused r)) = (meaning ≡ Err r) × (new ≡ old)
Tried meaning old new (Err OutOfMemory) = new ≡ old

module _ (meaning : Result (Catalogue × ℕ) Reason) (old mid : History Catalogue) where
  goes_on : (outcome : Result ℕ RunFault) → Carries meaning old mid outcome → Continues old mid
  goes_on (Ok n) carried = carried.1
  goes_on (Err (Refused r)) carried = carried.1
  goes_on (Err OutOfMemory) carried = carried

  -- the mark is one of what there is
  pub mark_there : (mark : ℕ) (outcome : Result ℕ RunFault) → mark ≡ marked old → Carries meaning old mid outcome → mark ≤ marked mid
  mark_there mark outcome is carried =
      let kept : marked old ≤ marked mid = (goes_on outcome carried).0 in
      omega (arith, is, kept)

  module _ (new : History Catalogue) (mark : ℕ) (is : mark ≡ marked old) where
    by_outcome : (outcome : Result ℕ RunFault) → Carries meaning old mid outcome → MatchResult outcome (λ _. new ≡ mid) (λ _. new ≡ undone_to mid mark) → Tried meaning old new outcome
    by_outcome (Ok n) carried kept =
        (carried.0 ∙ ap (λ (h : History Catalogue). let r : Result (Catalogue × ℕ) Reason = Ok (h.now, n) in r) (sym kept), subst (Continues old) (sym kept) carried.1)
    by_outcome (Err (Refused r)) carried kept = (carried.0, kept ∙ (ap (undone_to mid) is ∙ carried.1.1))
    by_outcome (Err OutOfMemory) carried kept = kept ∙ (ap (undone_to mid) is ∙ carried.1)

    pub tried : (outcome result : Result ℕ RunFault) → result ≡ outcome → Carries meaning old mid outcome → MatchResult result (λ _. new ≡ mid) (λ _. new ≡ undone_to mid mark) → Tried meaning old new result
    tried outcome result same carried = by_outcome result (subst (Carries meaning old mid) (sym same) carried)

pub unchanged : (meaning : Result (Catalogue × ℕ) Reason) (old new : History Catalogue) (fault : RunFault) → Tried meaning old new (Err fault) → new ≡ old
unchanged meaning old new (Refused r) tried = tried.1
unchanged meaning old new OutOfMemory tried = tried

module _ (d : Dialect) (by : By) (statement : Statement) (old new : History Catalogue) (marks now : List ℕ) (same : now ≡ marks) where
  on_parts : (fault : RunFault) → Tried (step by d statement old.now) old new (Err fault) → Runs (step by d statement old.now) (stands_for d old marks) (stands_for d new now) (Err fault)
  on_parts (Refused r) tried = (tried.0, ap (λ (h : History Catalogue). stands_for d h now) tried.1 ∙ ap (stands_for d old) same)
  on_parts OutOfMemory tried = ap (λ (h : History Catalogue). stands_for d h now) tried ∙ ap (stands_for d old) same

  pub refused : (s : State) → stands_for d old marks ≡ s → (fault : RunFault) → Tried (step by d statement old.now) old new (Err fault)
      → Runs (step by s.dialect statement s.now) s (stands_for d new now) (Err fault)
  refused s is fault tried = subst (λ (t : State). Runs (step by t.dialect statement t.now) t (stands_for d new now) (Err fault)) is (on_parts fault tried)
