-- A list that is filled with what each item gives.
use Rattle.std.proofs.Common.{ap, sym, ◌∙◌}
use Rattle.std.proofs.lemmas.List.{append_assoc}
use Rattle.std.specs.List.{flat_map}
use Rattle.std.specs.Prelude.{List, ◌++◌, ◌∷◌, ◌≡◌}

pub pushed : {X S : Type 0} (f : X → List S) (made new : List S) (x : X) (rest after whole : List X) → rest ≡ x ∷ after → made ++ flat_map f rest ≡ flat_map f whole → new ≡ made ++ f x → new ++ flat_map f after ≡ flat_map f whole
pushed f made new x rest after whole is so h = ap (λ n. n ++ flat_map f after) h ∙ append_assoc made (f x) (flat_map f after) ∙ ap (λ r. made ++ flat_map f r) (sym is) ∙ so
