-- Lemmas on changes that are added to others.
use Rattle.std.proofs.Common.{Err, Ok, Result, ap, arith, subst, suc, sym, ℕ, ◌∙◌, ◌≡◌, ◌≤◌}
use Rattle.lq_base.specs.declared.reason.Reason.{Reason}
use Rattle.lq_chain.specs.History.{History, changed, marked, undone_to}
use Rattle.lq_chain.proofs.HistoryLemmas.{undone_to-changed, undone_to-marked, undone_to-undone_to}
use Rattle.lq_model.specs.Catalogue.{Catalogue}
use Rattle.lq_rows.specs.Stored.{Answers, Carries, Continues}
use Rattle.lq_rows.specs.declared.fault.RunFault.{RunFault}
use Rattle.lq_rows.specs.declared.fault.RunFault.TheVariants.{OutOfMemory, Refused}

module _ {X : Type 0} where
  -- no change
  pub stays : (h : History X) → Continues h h
  stays h = let same : marked h ≤ marked h = omega arith in (same, undone_to-marked h)

  -- one change
  pub goes_on : (h : History X) (now : X) → Continues h (changed h now)
  goes_on h now =
      let same : marked h ≤ marked h = omega arith in
      let more : marked h ≤ suc (marked h) = omega arith in
      (more, undone_to-changed h now (marked h) same ∙ undone_to-marked h)

  -- changes after changes
  pub goes_further : (a b c : History X) → Continues a b → Continues b c → Continues a c
  goes_further a b c first next =
      let more : marked a ≤ marked c = omega (arith, first.0, next.0) in
      let back : undone_to c (marked a) ≡ undone_to b (marked a) = sym (undone_to-undone_to c (marked b) (marked a) next.0 first.0) ∙ ap (λ h. undone_to h (marked a)) next.1 in
      (more, back ∙ first.1)

  -- one change more
  pub goes_one_further : (a b : History X) (now : X) → Continues a b → Continues a (changed b now)
  goes_one_further a b now first = goes_further a b (changed b now) first (goes_on b now)

-- what leaves all as it was at a refusal carries the statement out
pub carries : (meaning : Result (Catalogue × ℕ) Reason) (old new : History Catalogue) (result : Result ℕ RunFault) → Answers meaning old new result → Carries meaning old new result
carries meaning old new (Ok n) answers = answers
carries meaning old new (Err (Refused r)) answers = (answers.0, subst (Continues old) (sym answers.1) (stays old))
carries meaning old new (Err OutOfMemory) answers = answers
