-- A text into which nothing is put stays as it is.
use Rattle.std.proofs.Common.{◌≡◌, ℕ, Bool, true, false, cond, List, [], ◌∷◌, ◌++◌, Option, Some, None, unwrap_or, codes, refl, sym, ap, ◌∙◌, ◌==◌, eqb-true}
use Rattle.lq_props.specs.Replaced.{closed, closed_pieces, longer, pieces, replaced, use_behind}
use Rattle.laws_generate.proofs.FileRead.{no_value}

no_use : (bs : List ℕ) → use_behind no_value bs ≡ None
no_use [] = refl
no_use (b ∷ name) = by (b == 123) where
  by : (is : Bool) → cond is (no_value name) None ≡ None
  by true = refl
  by false = refl

closed_is : (piece : List ℕ) → closed no_value piece ≡ piece ++ 125 ∷ []
unfolding closed
closed_is [] = refl
closed_is (b ∷ bs) = by (b == 36) refl (closed_is bs) where
  by : (is : Bool) → (b == 36) ≡ is → closed no_value bs ≡ bs ++ 125 ∷ [] → cond is (unwrap_or (use_behind no_value bs) (36 ∷ closed no_value bs)) (b ∷ closed no_value bs) ≡ b ∷ (bs ++ 125 ∷ [])
  by true is e = ap (λ o. unwrap_or o (36 ∷ closed no_value bs)) (no_use bs) ∙ ap (λ l. 36 ∷ l) e ∙ ap (λ x. x ∷ (bs ++ 125 ∷ [])) (sym (eqb-true b 36 is))
  by false is e = ap (λ l. b ∷ l) e

-- one byte more at the front of the first piece
longer_is : (b : ℕ) (ps : List (List ℕ)) → closed_pieces no_value (longer b ps) ≡ b ∷ closed_pieces no_value ps
longer_is b [] = refl
longer_is b (p ∷ []) = refl
longer_is b (p ∷ q ∷ ps) = ap (λ l. l ++ closed_pieces no_value (q ∷ ps)) (closed_is (b ∷ p) ∙ ap (λ l. b ∷ l) (sym (closed_is p)))

-- and a `}` before all of them
before_all : (ps : List (List ℕ)) → (some : ps ≡ [] → ⊥) → closed_pieces no_value ([] ∷ ps) ≡ 125 ∷ closed_pieces no_value ps
before_all [] some = absurd (some refl)
before_all (p ∷ ps) some = ap (λ l. l ++ closed_pieces no_value (p ∷ ps)) (closed_is [])

not_none : (text : List ℕ) → pieces text ≡ [] → ⊥
unfolding pieces
not_none [] e = Prim.cc
not_none (b ∷ bs) e = by (b == 125) (pieces bs) e where
  by : (is : Bool) (ps : List (List ℕ)) → cond is ([] ∷ ps) (longer b ps) ≡ [] → ⊥
  by true ps e = Prim.cc
  by false [] e = Prim.cc
  by false (p ∷ ps) e = Prim.cc

whole : (text : List ℕ) → closed_pieces no_value (pieces text) ≡ text
unfolding pieces
whole [] = refl
whole (b ∷ bs) = by (b == 125) refl (whole bs) where
  by : (is : Bool) → (b == 125) ≡ is → closed_pieces no_value (pieces bs) ≡ bs → closed_pieces no_value (cond is ([] ∷ pieces bs) (longer b (pieces bs))) ≡ b ∷ bs
  by true is e = before_all (pieces bs) (not_none bs) ∙ ap (λ l. 125 ∷ l) e ∙ ap (λ x. x ∷ bs) (sym (eqb-true b 125 is))
  by false is e = longer_is b (pieces bs) ∙ ap (λ l. b ∷ l) e

pub same : (text : List ℕ) → replaced no_value text ≡ text
unfolding replaced
same text = whole text
