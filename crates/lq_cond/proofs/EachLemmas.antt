-- What several conditions tell, one after another.
use Rattle.std.proofs.Common.{ap, arith, refl, sym, ◌∙◌, ◌≡◌, ◌++◌, ◌∷◌, ◌<◌, ◌+◌, [], List, Bool, Ok, Err, Result, drop, get_or, length, map, suc, ℕ}
use Rattle.std.proofs.Math.Seq.{drop-cons}
use Rattle.std.proofs.lemmas.List.{append_assoc}
use Rattle.lq_base.specs.declared.reason.Reason.{Reason}
use Rattle.lq_verdicts.specs.Verdict.{IsTold, each_told, map_told}
use Rattle.lq_verdicts.specs.declared.fault.CondFault.{CondFault}
use Rattle.lq_verdicts.specs.declared.fault.CondFault.TheVariants as fault

joins : (all : List Bool) (a : Bool) (more : Result (List Bool) Reason) → map_told (λ bs. all ++ bs) (map_told (λ found. a ∷ found) more) ≡ map_told (λ bs. (all ++ a ∷ []) ++ bs) more
joins all a (Ok bs) = ap (λ (xs : List Bool). Ok xs) (sym (append_assoc all (a ∷ []) bs))
joins all a (Err reason) = refl

-- what was told with one more goes on with the rest
goes_on : (all new : List Bool) (one : Result Bool Reason) (rest : List (Result Bool Reason)) → map_told (λ holds. all ++ holds ∷ []) one ≡ Ok new
    → map_told (λ bs. all ++ bs) (each_told (one ∷ rest)) ≡ map_told (λ bs. new ++ bs) (each_told rest)
goes_on all new (Ok a) rest is =
    let grown : all ++ a ∷ [] ≡ new = Prim.cc in
    joins all a (each_told rest) ∙ ap (λ (xs : List Bool). map_told (λ bs. xs ++ bs) (each_told rest)) grown
goes_on all new (Err reason) rest is = absurd Prim.cc

-- its error is that of all
stop : (all : List Bool) (one : Result Bool Reason) (rest : List (Result Bool Reason)) (reason : Reason) → map_told (λ holds. all ++ holds ∷ []) one ≡ Err reason
    → map_told (λ bs. all ++ bs) (each_told (one ∷ rest)) ≡ Err reason
stop all (Ok a) rest reason is = absurd Prim.cc
stop all (Err because) rest reason is = is

module _ {X : Type 0} (f : X → Result Bool Reason) (xs : List X) (i : ℕ) (d x : X) (within : i < length xs) (is : x ≡ get_or xs i d) (all : List Bool) (whole : Result (List Bool) Reason)
    (so : whole ≡ map_told (λ bs. all ++ bs) (each_told (map f (drop i xs)))) where
  begun : whole ≡ map_told (λ bs. all ++ bs) (each_told (f x ∷ map f (drop (suc i) xs)))
  begun =
      let here : drop i xs ≡ x ∷ drop (suc i) xs = drop-cons xs i d within ∙ ap (λ y. y ∷ drop (suc i) xs) (sym is) in
      so ∙ ap (λ ys. map_told (λ bs. all ++ bs) (each_told (map f ys))) here

  -- each turn of a loop over them
  pub one_more : (new : List Bool) → map_told (λ holds. all ++ holds ∷ []) (f x) ≡ Ok new → whole ≡ map_told (λ bs. new ++ bs) (each_told (map f (drop (i + 1) xs)))
  one_more new told =
      let next : i + 1 ≡ suc i = omega arith in
      begun ∙ (goes_on all new (f x) (map f (drop (suc i) xs)) told ∙ ap (λ n. map_told (λ bs. new ++ bs) (each_told (map f (drop n xs)))) (sym next))

  pub stops : (why : CondFault) → IsTold (map_told (λ holds. all ++ holds ∷ []) (f x)) (Err why) → IsTold whole (Err why)
  stops (fault.Error reason) told = begun ∙ stop all (f x) (map f (drop (suc i) xs)) reason told
  stops fault.OutOfMemory told = tt
