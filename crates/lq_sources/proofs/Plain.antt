-- A list of which nothing changes, item by item.
use Rattle.std.proofs.Common.{◌≡◌, ◌∙◌, ◌<◌, ◌+◌, ℕ, List, ◌∷◌, drop, get_or, length, map, ap, sym, refl}
use Rattle.std.proofs.lemmas.List.{drop_more}

pub one_more : {X : Type 0} (f : X → X) (xs : List X) (i : ℕ) (x : X) → i < length xs → x ≡ get_or xs i x → f x ≡ x
    → map f (drop (i + 1) xs) ≡ drop (i + 1) xs → map f (drop i xs) ≡ drop i xs
one_more f xs i x less is same rest =
    let here : drop i xs ≡ x ∷ drop (i + 1) xs = drop_more xs i x less ∙ ap (λ y. y ∷ drop (i + 1) xs) (sym is) in
    rw (here, same, rest) refl
