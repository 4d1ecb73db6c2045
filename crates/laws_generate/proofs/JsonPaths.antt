-- A path that ends with `.json` does not end with `.xml`.
use Rattle.std.proofs.Common.{arith, ap, refl, subst, sym, ◌∙◌}
use Rattle.std.proofs.Math.Seq.{drop-append-add}
use Rattle.std.proofs.lemmas.Bool.{eqb-true}
use Rattle.std.proofs.lemmas.List.{length-append, take-append-drop}
use Rattle.std.specs.Cmp.Lexicographic.{pointwise}
use Rattle.std.specs.Prelude.{Bool, List, None, Option, Some, [], codes, drop, eqb, false, if◌then◌else◌, length, take, true, ℕ, ◌&&◌, ◌+◌, ◌++◌, ◌-◌, ◌∷◌, ◌≡◌, ◌||◌}
use Rattle.lq_model.proofs.Lists.{and_left, and_right}
use Rattle.lq_paths.specs.Paths.{ends, format_of, is_xml}
use Rattle.lq_paths.specs.declared.path.Format.{Format}
use Rattle.lq_paths.specs.declared.path.Format.TheVariants.{Json, Sql, Yaml}

same_text : (xs ys : List ℕ) → pointwise eqb xs ys ≡ true → xs ≡ ys
same_text [] [] h = refl
same_text [] (y ∷ ys) h = absurd Prim.cc
same_text (x ∷ xs) [] h = absurd Prim.cc
same_text (x ∷ xs) (y ∷ ys) h = ap (λ z. z ∷ xs) (eqb-true x y (and_left (eqb x y) _ h)) ∙ ap (λ zs. y ∷ zs) (same_text xs ys (and_right (eqb x y) _ h))

abbrev json : List ℕ
json = codes ".json"

behind : (front : List ℕ) → is_xml (front ++ json) ≡ false
behind front =
    let size = length-append front json in
    ap (λ n. pointwise eqb (codes ".xml") (drop n (front ++ json))) (omega (arith, size)) ∙ ap (pointwise eqb (codes ".xml")) (drop-append-add front json 1)

ends_so : (path : List ℕ) → format_of path ≡ Some Json → ends path json ≡ true
ends_so path is = by (ends path json) (ends path (codes ".yaml") || ends path (codes ".yml")) (ends path (codes ".sql")) is where
  by : (a b c : Bool) → (let o : Option Format = if a then Some Json else if b then Some Yaml else if c then Some Sql else None in o) ≡ Some Json → a ≡ true
  by true b c h = refl
  by false true c h = absurd Prim.cc
  by false false true h = absurd Prim.cc
  by false false false h = absurd Prim.cc

pub not_xml : (path : List ℕ) → format_of path ≡ Some Json → is_xml path ≡ false
not_xml path is =
    let n = length path - 5 in
    let last : json ≡ drop n path = same_text json (drop n path) (ends_so path is) in
    subst (λ p. is_xml p ≡ false) (ap (λ zs. take n path ++ zs) last ∙ take-append-drop n path) (behind (take n path))
