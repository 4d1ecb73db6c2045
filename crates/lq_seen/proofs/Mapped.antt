-- A list is made from another, element after element.
use Rattle.std.proofs.Common.{ap, sym, ◌≡◌, ◌∙◌, ◌++◌, List, [], ◌∷◌, length, map}
use Rattle.std.proofs.lemmas.List.{append-nil, append_assoc}

module _ {A B : Type 0} (f : A → B) where
  pub more_mapped : (rest after : List A) (x : A) (made new : List B) (y : B) (all : List B) → rest ≡ x ∷ after → new ≡ made ++ y ∷ [] → y ≡ f x → made ++ map f rest ≡ all → new ++ map f after ≡ all
  more_mapped rest after x made new y all is grown its so =
      ap (λ ys. ys ++ map f after) grown
      ∙ (append_assoc made (y ∷ []) (map f after)
      ∙ (ap (λ z. made ++ z ∷ map f after) its
      ∙ (ap (λ xs. made ++ map f xs) (sym is) ∙ so)))

  pub all_mapped : (rest : List A) (made all : List B) → length rest ≡ 0 → made ++ map f rest ≡ all → made ≡ all
  all_mapped [] made all none so = sym (append-nil made) ∙ so
  all_mapped (x ∷ rest) made all none so = Prim.cc
