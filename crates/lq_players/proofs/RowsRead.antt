-- Checks on the rows of tracking.
use Rattle.std.proofs.Common.{ap, subst, sym, ◌∙◌}
use Rattle.std.specs.Option.{option_or}
use Rattle.std.specs.Prelude.{Err, IfErr, List, None, Option, Result, Some, [], refl, ◌∷◌, ◌≡◌}
use Rattle.lq_players.specs.RollingBack.{IsRefusal, Passes, Refuses}
use Rattle.lq_players.specs.Tasks.{if_some}
use Rattle.lq_playing.specs.declared.checks.Verdict.TheVariants as verdict
use Rattle.lq_playing.specs.declared.checks.Verdict.{Verdict}
use Rattle.lq_turns.specs.declared.answer.Answer.TheVariants.{Invalid}
use Rattle.lq_turns.specs.declared.answer.Answer.{Answer}
use Rattle.lq_turns.specs.declared.fault.Fault.{Fault}

-- faults that were found

pub none_found : (found : List Fault) → found ≡ [] → if_some found ≡ None
none_found found is = ap if_some is

pub some_found : (found : List Fault) → (found ≡ [] → ⊥) → if_some found ≡ Some (Invalid found)
some_found [] some = absurd (some refl)
some_found (fault ∷ found) some = refl

-- an answer that is a refusal

pub err_so : {A : Type 0} (r : Result A Verdict) (v : Verdict) (holds : Verdict → Type 0) → r ≡ Err v → holds v → IfErr r holds
err_so {A} r v holds is it = subst (λ (q : Result A Verdict). IfErr q holds) (sym is) it

pub lack_refuses : (refusal : Option Answer) (v : Verdict) → v ≡ verdict.Lack → Refuses refusal v
lack_refuses refusal v is = subst (Refuses refusal) (sym is) tt

pub lack_is_refusal : (v : Verdict) → v ≡ verdict.Lack → IsRefusal v
lack_is_refusal v is = subst IsRefusal (sym is) tt

pub passes_so : {A : Type 0} (refusal : Option Answer) (r : Result A Verdict) (v : Verdict) → r ≡ Err v → Refuses refusal v → Passes refusal r
passes_so {A} refusal r v is refuses = subst (λ (q : Result A Verdict). Passes refusal q) (sym is) refuses

-- one check after another

pub first_refuses : (a b : Option Answer) (v : Verdict) → Refuses a v → Refuses (option_or a b) v
first_refuses a b (verdict.Answer it) is = ap (λ (o : Option Answer). option_or o b) is
first_refuses a b verdict.Lack is = tt
first_refuses a b (verdict.OneCall call) is = absurd is
first_refuses a b (verdict.Turns hand) is = absurd is

pub second_refuses : (a b : Option Answer) (v : Verdict) → a ≡ None → Refuses b v → Refuses (option_or a b) v
second_refuses a b v passed is = subst (λ (o : Option Answer). Refuses (option_or o b) v) (sym passed) is

pub both_pass : (a b : Option Answer) → a ≡ None → b ≡ None → option_or a b ≡ None
both_pass a b passed second = ap (λ (o : Option Answer). option_or o b) passed ∙ second
