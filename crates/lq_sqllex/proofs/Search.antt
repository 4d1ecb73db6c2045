-- Where a delimiter does not begin.
use Rattle.std.proofs.Common.{◌≡◌, ◌≢◌, ◌≤◌, ◌<◌, ◌⊎◌, inl, inr, ℕ, ◌+◌, ◌-◌, ◌&&◌, Bool, true, false, List, [], ◌++◌, length, take, drop, Option, Some, None, Bor, unwrap_or, ◌∙◌, ap, sym, subst, refl, arith, append_assoc}
use Rattle.std.specs.Prelude.{not}
use Rattle.std.specs.Option.{MatchOption}
use Rattle.std.specs.Str.Pattern.{LacksTextAt, FindsText, MatchBeginsAt, GetsRange}
use Rattle.std.proofs.lemmas.List.{drop-drop, take-append-drop, take_rest}
use Rattle.std.proofs.lemmas.Bool.Decides.{Decides-eqb}
use Rattle.std.proofs.lemmas.Slice.Eq.{starts_is}
use Rattle.lq_base.specs.declared.dialect.Dialect.{Dialect}
use Rattle.lq_base.specs.Sql.{begins, sort_at}
use Rattle.lq_marks.specs.Enclosed.{is_enclosed}
use Rattle.lq_sqllex.specs.Pieces.{is_delimited, together}
use Rattle.lq_sqllex.proofs.PieceSteps.{begins_with}

and_false : (a : Bool) → (a && false) ≡ false
and_false true = refl
and_false false = refl

-- no delimiter is where none begins
pub not_begun : (d : Dialect) (delimiter text : List ℕ) → begins delimiter text ≡ false → is_delimited d delimiter text ≡ false
not_begun d delimiter text none = ap (λ t. not (is_enclosed (sort_at d text)) && t) none ∙ and_false (not (is_enclosed (sort_at d text)))

front_begins : (count : ℕ) (delimiter text : List ℕ) → begins delimiter text ≡ true → begins (take count delimiter) text ≡ true
front_begins count delimiter text there =
    let behind = drop (length delimiter) text in
    (starts_is Decides-eqb text (take count delimiter) (begins (take count delimiter) text) refl).1 (drop count delimiter ++ behind)
    (begins_with delimiter text there ∙ ap (λ z. z ++ behind) (sym (take-append-drop count delimiter)) ∙ append_assoc (take count delimiter) (drop count delimiter) behind)

front_none : (d : Dialect) (count : ℕ) (delimiter text : List ℕ) → is_delimited d (take count delimiter) text ≡ false → is_delimited d delimiter text ≡ false
front_none d count delimiter text other =
    elim (begins delimiter text) as (λ t. begins delimiter text ≡ t → (not (is_enclosed (sort_at d text)) && t) ≡ false) [
      | true ↦ λ there. subst (λ t. (not (is_enclosed (sort_at d text)) && t) ≡ false) (front_begins count delimiter text there) other
      | false ↦ λ _. and_false (not (is_enclosed (sort_at d text)))
    ] refl

-- nor where not even the front of one is
pub no_front : (d : Dialect) (count : ℕ) (delimiter text bytes there : List ℕ) → bytes ≡ delimiter → there ≡ text → is_delimited d (take count bytes) there ≡ false → is_delimited d delimiter text ≡ false
no_front d count delimiter text bytes there same here other =
    front_none d count delimiter text (ap (λ z. is_delimited d (take count z) text) (sym same) ∙ ap (is_delimited d (take count bytes)) (sym here) ∙ other)

open_one : (d : Dialect) (text : List ℕ) (behind : Bool) → (not (is_enclosed (sort_at d text)) && behind) ≡ true → together d text ≡ Some 1
open_one d text behind both =
    elim (is_enclosed (sort_at d text)) as (λ t. is_enclosed (sort_at d text) ≡ t → (not t && behind) ≡ true → together d text ≡ Some 1) [
      | true ↦ λ _ no. absurd (cc)
      | false ↦ λ here _. rw here refl
    ] refl both

-- where such a front is, one byte stands alone
pub one_stands : (d : Dialect) (front text there : List ℕ) → there ≡ text → is_delimited d front there ≡ true → together d text ≡ Some 1
one_stands d front text there here is = open_one d text (begins front text) (ap (is_delimited d front) (sym here) ∙ is)

lacks : (delimiter text : List ℕ) → ((rest : List ℕ) → text ≢ delimiter ++ rest) → begins delimiter text ≡ false
lacks delimiter text none =
    elim (begins delimiter text) as (λ t. begins delimiter text ≡ t → t ≡ false) [
      | true ↦ λ there. absurd (none _ (begins_with delimiter text there))
      | false ↦ λ _. refl
    ] refl

lacks_behind : (delimiter text rest : List ℕ) (place k : ℕ) → rest ≡ drop place text → place ≤ k → LacksTextAt delimiter rest (k - place) → begins delimiter (drop k text) ≡ false
lacks_behind delimiter text rest place k is from none =
    let there : drop (k - place) rest ≡ drop k text =
    ap (drop (k - place)) is ∙ drop-drop (k - place) place text ∙ ap (λ n. drop n text) (let sum : place + (k - place) ≡ k = omega arith in sum) in
    lacks delimiter (drop k text) (λ more same. none more (there ∙ same))

-- the rest of a text from a place on, or nothing
pub rest_or_none : (text : List ℕ) (place : ℕ) (part : Option (Bor (List ℕ))) (none rest : Bor (List ℕ)) → none.now ≡ [] → rest ≡ unwrap_or part none → GetsRange text place (length text) part
    → (rest.now ≡ drop place text) ⊎ (rest.now ≡ [])
rest_or_none text place None none rest empty is gets = inr (ap (λ z. z.now) is ∙ empty)
rest_or_none text place (Some part) none rest empty is gets = inl (ap (λ z. z.now) is ∙ gets.0 ∙ take_rest text place)

-- up to where the delimiter is found in it, it begins nowhere
pub cleared : (delimiter text rest : List ℕ) (place : ℕ) (found : Option ℕ) → (rest ≡ drop place text) ⊎ (rest ≡ [])
    → MatchOption found (FindsText delimiter rest None) (MatchBeginsAt (FindsText delimiter) rest)
    → (k : ℕ) → place ≤ k → k < place + unwrap_or found (length rest) → begins delimiter (drop k text) ≡ false
cleared delimiter text rest place None (inl is) finds k from below = lacks_behind delimiter text rest place k is from (finds (k - place) (omega arith))
cleared delimiter text rest place None (inr none) finds k from below = absurd (omega (arith, ap length none))
cleared delimiter text rest place (Some at) (inl is) finds k from below = lacks_behind delimiter text rest place k is from (finds.1.0 (k - place) (omega arith))
cleared delimiter text rest place (Some at) (inr none) finds k from below = absurd (omega (arith, ap length none, finds.3.0))
