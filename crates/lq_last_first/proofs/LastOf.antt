-- The steps of a list's last thing come first.
use Rattle.std.proofs.Common.{List, [], ap, sym, ◌++◌, ◌∙◌, ◌∷◌, ◌≡◌}
use Rattle.std.proofs.lemmas.List.{append-nil, append_assoc}
use Rattle.lq_last_first.specs.LastFirst.{last_first}

last_of : {A S : Type 0} (f : A → List S) (xs : List A) (x : A) → last_first f (xs ++ x ∷ []) ≡ f x ++ last_first f xs
last_of f [] x = sym (append-nil (f x))
last_of f (y ∷ ys) x = ap (λ t. t ++ f y) (last_of f ys x) ∙ append_assoc (f x) (last_first f ys) (f y)

-- the last thing's steps are added
pub one_more : {A S : Type 0} (f : A → List S) (to new whole : List S) (rest before : List A) (x : A) → rest ≡ before ++ x ∷ [] → new ≡ to ++ f x
    → to ++ last_first f rest ≡ whole → new ++ last_first f before ≡ whole
one_more f to new whole rest before x is added so =
    ap (λ n. n ++ last_first f before) added
    ∙ (append_assoc to (f x) (last_first f before)
    ∙ (ap (λ t. to ++ t) (sym (last_of f before x)) ∙ (ap (λ r. to ++ last_first f r) (sym is) ∙ so)))
