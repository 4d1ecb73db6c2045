-- A whole comment inside another is passed over.
use Rattle.std.proofs.Common.{◌≡◌, ℕ, zero, suc, ◌+◌, true, false, if◌then◌else◌, List, [], ◌∷◌, ◌++◌, length, drop, Option, Some, None, ◌∙◌, ap, sym, subst, refl, arith}
use Rattle.std.specs.Prelude.{codes}
use Rattle.lq_base.specs.Sql.{closes, opens, comment_end, comment_length, after}
use Rattle.lq_sqllex.specs.Laws.{CommentsNest}
use Rattle.lq_sqllex.proofs.EndSteps.{after_more}
use Rattle.lq_sqllex.proofs.PieceSteps.{begins_with}

after_none : (more : Option ℕ) → more ≡ after 0 more
after_none None = refl
after_none (Some n) = ap (λ m. Some m) (omega arith)

-- the count after some bytes tells the rest
after_same : (count : ℕ) (more : Option ℕ) (n m : ℕ) → m ≡ count + n → after count more ≡ Some m → more ≡ Some n
after_same count None n m sum e = absurd (cc)
after_same count (Some k) n m sum e = let same : count + k ≡ m = cc in ap (λ x. Some x) (omega arith)

empty_list : (text : List ℕ) → length text ≡ 0 → text ≡ []
empty_list [] none = refl
empty_list (b ∷ rest) none = absurd (omega arith)

-- one step on both sides: the comment that ends with `text`, and the same one with more after it
passed_on : (count : ℕ) (inner outer left : Option ℕ) (here : ℕ) → (inner ≡ Some here → outer ≡ after here left) → (whole : ℕ) → whole ≡ count + here
    → after count inner ≡ Some whole → after count outer ≡ after whole left
passed_on count inner outer left here step whole sum e =
    ap (after count) (step (after_same count inner here whole sum e)) ∙ after_more count here left ∙ ap (λ n. after n left) (sym sum)

passed : (levels more : ℕ) (text rest : List ℕ) → comment_end true levels text ≡ Some (length text) → comment_end true (levels + more) (text ++ rest) ≡ after (length text) (comment_end true more rest)
passed zero more text rest e =
    let none : 0 ≡ length text = cc in
    let nothing : text ≡ [] = empty_list text (omega arith) in
    let same : zero + more ≡ more = omega arith in
    ap (λ z. comment_end true (zero + more) (z ++ rest)) nothing ∙ ap (λ n. comment_end true n rest) same ∙ after_none (comment_end true more rest)
    ∙ ap (λ z. after (length z) (comment_end true more rest)) (sym nothing)
passed (suc levels) more [] rest e = absurd (cc)
passed (suc levels) more (b ∷ []) rest e = absurd (cc)
passed (suc levels) more (b ∷ c ∷ text) rest e =
    let sum : suc levels + more ≡ suc (levels + more) = omega arith in
    let left = comment_end true more rest in
    ap (λ n. comment_end true n (b ∷ c ∷ (text ++ rest))) sum
    ∙ elim (closes b c) as (λ closed. (if closed then after 2 (comment_end true levels text)
    else (if opens true b c then after 2 (comment_end true (suc (suc levels)) text) else after 1 (comment_end true (suc levels) (c ∷ text)))) ≡ Some (length (b ∷ c ∷ text))
    → (if closed then after 2 (comment_end true (levels + more) (text ++ rest))
    else (if opens true b c then after 2 (comment_end true (suc (suc (levels + more))) (text ++ rest)) else after 1 (comment_end true (suc (levels + more)) (c ∷ (text ++ rest)))))
    ≡ after (length (b ∷ c ∷ text)) left) [
      | true ↦ λ is. passed_on 2 (comment_end true levels text) _ left (length text) (passed levels more text rest) _ (omega arith) is
      | false ↦ elim (opens true b c) as (λ opened. (if opened then after 2 (comment_end true (suc (suc levels)) text) else after 1 (comment_end true (suc levels) (c ∷ text))) ≡ Some (length (b ∷ c ∷ text))
          → (if opened then after 2 (comment_end true (suc (suc (levels + more))) (text ++ rest)) else after 1 (comment_end true (suc (levels + more)) (c ∷ (text ++ rest)))) ≡ after (length (b ∷ c ∷ text)) left) [
            | true ↦ λ is. (let deeper : suc (suc levels) + more ≡ suc (suc (levels + more)) = omega arith in
                passed_on 2 (comment_end true (suc (suc levels)) text) _ left (length text)
                (λ there. ap (λ n. comment_end true n (text ++ rest)) (sym deeper) ∙ passed (suc (suc levels)) more text rest there) _ (omega arith) is)
            | false ↦ λ is. passed_on 1 (comment_end true (suc levels) (c ∷ text)) _ left (length (c ∷ text))
                (λ there. ap (λ n. comment_end true n (c ∷ (text ++ rest))) (sym sum) ∙ passed (suc levels) more (c ∷ text) rest there) _ (omega arith) is
          ]
    ] e

opened : (open_levels : ℕ) (text rest : List ℕ) → after 2 (comment_end true 1 text) ≡ Some (length (47 ∷ 42 ∷ text))
    → comment_end true (suc open_levels) (47 ∷ 42 ∷ (text ++ rest)) ≡ after (length (47 ∷ 42 ∷ text)) (comment_end true (suc open_levels) rest)
opened open_levels text rest e =
    let deeper : 1 + suc open_levels ≡ suc (suc open_levels) = omega arith in
    passed_on 2 (comment_end true 1 text) _ (comment_end true (suc open_levels) rest) (length text)
    (λ there. ap (λ n. comment_end true n (text ++ rest)) (sym deeper) ∙ passed 1 (suc open_levels) text rest there) _ (omega arith) e

pub nested : CommentsNest
nested open_levels inner rest front whole =
    let written : inner ≡ 47 ∷ 42 ∷ drop 2 inner = begins_with (codes "/*") inner front in
    let is : comment_length true (47 ∷ 42 ∷ drop 2 inner) ≡ Some (length (47 ∷ 42 ∷ drop 2 inner)) = subst (λ z. comment_length true z ≡ Some (length z)) written whole in
    subst (λ z. comment_end true (suc open_levels) (z ++ rest) ≡ after (length z) (comment_end true (suc open_levels) rest)) (sym written) (opened open_levels (drop 2 inner) rest is)
