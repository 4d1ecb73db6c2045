-- Texts cut at a place.
use Rattle.std.proofs.Common.{ltb, unwrap_or, tests, ◌⊎◌, ◌||◌, ◌&&◌, ◌≡◌, ◌≢◌, ◌<◌, ◌≤◌, ◌==◌, ◌∙◌, Bor, Bool, IfSome, List, None, Option, Some, [], ap, arith, cond, false, true, not, get_or, inl, inr, length, option_map, refl, rules, suc, zero, sym, subst, take, drop, ℕ, ◌++◌, ◌∷◌, ◌+◌}
use Rattle.std.specs.Option.{MatchOption}
use Rattle.std.specs.List.{list_all, position_or_len}
use Rattle.std.specs.Str.{IsUtf8, IsCharBoundary}
use Rattle.std.specs.Str.Pattern.{FindsTextPrefix, StripsPrefix}
use Rattle.std.proofs.lemmas.Bool.{and_from, and_parts, cases_lt, eq-eqb, eqb-true, ne_eqb}
use Rattle.std.proofs.lemmas.Bool.Decides.{eqb_tells}
use Rattle.std.proofs.lemmas.List.Sums.{prefix_len-le-length, passes_at_first, fails_before_first}
use Rattle.std.proofs.lemmas.Str.{IsCharBoundary-start, IsCharBoundary-before_ascii, IsCharBoundary-after_ascii}
use Rattle.lq_base.specs.Kind.{is_blank, is_no_blank}
use Rattle.lq_sqlfile.specs.Words.{after}
use Rattle.lq_sqlfile.specs.Cuts.{until, from, longer, cut_at}

-- ---- by places

pub until_place : (p : ℕ → Bool) (text : List ℕ) → take (position_or_len p text) text ≡ until p text
unfolding until
until_place p [] = refl
until_place p (b ∷ bs) =
    elim (p b) as (λ t. take (cond (not t) (1 + position_or_len p bs) 0) (b ∷ bs) ≡ cond t [] (b ∷ until p bs)) [
      | true ↦ refl
      | false ↦ let more : 1 + position_or_len p bs ≡ suc (position_or_len p bs) = omega arith in ap (λ n. take n (b ∷ bs)) more ∙ ap (λ z. b ∷ z) (until_place p bs)
    ]

pub from_place : (p : ℕ → Bool) (text : List ℕ) → drop (position_or_len p text) text ≡ from p text
unfolding from
from_place p [] = refl
from_place p (b ∷ bs) =
    elim (p b) as (λ t. drop (cond (not t) (1 + position_or_len p bs) 0) (b ∷ bs) ≡ cond t (b ∷ bs) (from p bs)) [
      | true ↦ refl
      | false ↦ let more : 1 + position_or_len p bs ≡ suc (position_or_len p bs) = omega arith in ap (λ n. drop n (b ∷ bs)) more ∙ from_place p bs
    ]

-- ---- where blanks end and begin is a boundary

by_blank : (b : ℕ) (s t : Bool) → (b == 32) ≡ s → (b == 9) ≡ t → (s || t) ≡ true → b < 128
by_blank b true t space tab is = rw (eqb-true b 32 space) (omega arith)
by_blank b false true space tab is = rw (eqb-true b 9 tab) (omega arith)
by_blank b false false space tab is = absurd Prim.cc

blank_low : (b : ℕ) → is_blank b ≡ true → b < 128
blank_low b is = by_blank b (b == 32) (b == 9) refl refl is

-- before the first blank
pub blank_boundary : (text : List ℕ) → IsCharBoundary text (position_or_len is_blank text)
blank_boundary text = by (cases_lt (position_or_len is_blank text) (length text))
  where
    at_blank : position_or_len is_blank text < length text → IsCharBoundary text (position_or_len is_blank text)
    at_blank lt = IsCharBoundary-before_ascii text (position_or_len is_blank text) lt (blank_low _ (passes_at_first is_blank text 0 lt))

    by : (position_or_len is_blank text < length text) ⊎ (length text ≤ position_or_len is_blank text) → IsCharBoundary text (position_or_len is_blank text)
    by (inl lt) = at_blank lt
    by (inr le) = let most = prefix_len-le-length (λ b. not (is_blank b)) text in (omega (arith, most), λ lt high. absurd (omega (arith, le)))

low_of : (b : Bool) (n : ℕ) → is_blank n ≡ b → not b ≡ false → n < 128
low_of true n is none = blank_low n is
low_of false n is none = absurd Prim.cc

-- behind the first blanks
pub blanks_boundary : (text : List ℕ) → IsUtf8 text → IsCharBoundary text (position_or_len is_no_blank text)
blanks_boundary text utf8 = by (position_or_len is_no_blank text) refl
  where
    by : (n : ℕ) → position_or_len is_no_blank text ≡ n → IsCharBoundary text n
    by zero is = IsCharBoundary-start text utf8
    by (suc n) is =
        let most = prefix_len-le-length (λ b. not (is_no_blank b)) text in
        let blank : is_no_blank (get_or text n 0) ≡ false = fails_before_first is_no_blank text n 0 (omega (arith, is)) in
        subst (λ m. IsCharBoundary text m) (let same : n + 1 ≡ suc n = omega arith in same)
        (IsCharBoundary-after_ascii text n utf8 (omega (arith, is, most)) (low_of (is_blank (get_or text n 0)) _ refl blank))

-- ---- behind words

pub after_front : (words rest : List ℕ) → after words (words ++ rest) ≡ Some rest
unfolding after
after_front [] rest = refl
after_front (w ∷ ws) rest = rw (eq-eqb w w refl) (after_front ws rest)

after_none : (words text : List ℕ) → ((rest : List ℕ) → text ≢ words ++ rest) → after words text ≡ None
unfolding after
after_none [] text none = absurd (none text refl)
after_none (w ∷ ws) [] none = refl
after_none (w ∷ ws) (b ∷ bs) none =
    elim (eqb_tells w b) [
      | inl same ↦ rw same.0 (after_none ws bs (λ rest is. none rest (ap (λ z. z ∷ bs) (sym same.1) ∙ ap (λ z. w ∷ z) is)))
      | inr other ↦ rw other.0 refl
    ]

stripped : (words text rest : List ℕ) → StripsPrefix (FindsTextPrefix words) text rest → text ≡ words ++ rest
stripped words text rest h = search rules

-- what `strip_prefix` tells of its answer
pub after_is : (words text : List ℕ) (r : Option (Bor (List ℕ))) → MatchOption r (FindsTextPrefix words text None) (λ x. StripsPrefix (FindsTextPrefix words) text x.now) → option_map (λ x. x.now) r ≡ after words text
after_is words text None none = sym (after_none words text none)
after_is words text (Some x) strips = sym (ap (after words) (stripped words text x.now strips) ∙ after_front words x.now)

-- ---- at a mark

abbrev Lacks : ℕ → List ℕ → Type 0
Lacks mark text = (i : ℕ) → i < length text → get_or text i 0 ≢ mark

rest_lacks : (mark b : ℕ) (bs : List ℕ) → Lacks mark (b ∷ bs) → Lacks mark bs
rest_lacks mark b bs none = λ i lt. none (suc i) (omega arith)

first_lacks : (mark b : ℕ) (bs : List ℕ) → Lacks mark (b ∷ bs) → (b == mark) ≡ false
first_lacks mark b bs none =
    elim (eqb_tells b mark) [
      | inl same ↦ absurd (none 0 (omega arith) same.1)
      | inr other ↦ other.0
    ]

cut_lacks : (mark : ℕ) (front behind : List ℕ) → Lacks mark front → cut_at mark (front ++ mark ∷ behind) ≡ Some (front, behind)
unfolding cut_at
cut_lacks mark [] behind none = rw (eq-eqb mark mark refl) refl
cut_lacks mark (b ∷ front) behind none = rw (first_lacks mark b front none) (ap (longer b) (cut_lacks mark front behind (rest_lacks mark b front none)))

cut_none : (mark : ℕ) (text : List ℕ) → Lacks mark text → cut_at mark text ≡ None
unfolding cut_at
cut_none mark [] none = refl
cut_none mark (b ∷ bs) none = rw (first_lacks mark b bs none) (ap (longer b) (cut_none mark bs (rest_lacks mark b bs none)))

-- what `split_once` tells of its answer
abbrev IsCut : ℕ → List ℕ → Option (Bor (List ℕ) × Bor (List ℕ)) → Type 0
IsCut mark text r = MatchOption r (Lacks mark text) (λ x. (text ≡ x.0.now ++ (mark ∷ x.1.now)) × Lacks mark x.0.now)

pub cut_is : (mark : ℕ) (text : List ℕ) (r : Option (Bor (List ℕ) × Bor (List ℕ))) → IsCut mark text r → option_map (λ x. (x.0.now, x.1.now)) r ≡ cut_at mark text
cut_is mark text None none = sym (cut_none mark text none)
cut_is mark text (Some x) split = sym (ap (cut_at mark) split.0 ∙ cut_lacks mark x.0.now x.1.now split.1)

pub place_from_position : {X : Type 0} (p : X → Bool) (xs : List X) (found : Option ℕ) (place : ℕ) → found ≡ cond (ltb (position_or_len p xs) (length xs)) (Some (position_or_len p xs)) None → place ≡ unwrap_or found (length xs) → place ≡ position_or_len p xs
place_from_position p xs found place is e =
    let bound : position_or_len p xs ≤ length xs = prefix_len-le-length _ xs in
    e ∙ ap (λ o. unwrap_or o (length xs)) is ∙ grind (arith, tests)

-- ---- as a concatenation

-- no byte passes
abbrev pub Lacking : (ℕ → Bool) → List ℕ → Type 0
Lacking p text = list_all (λ b. not (p b)) text ≡ true

pub none_until : (p : ℕ → Bool) (text : List ℕ) → Lacking p (until p text)
unfolding until
none_until p [] = refl
none_until p (b ∷ bs) = by (p b) refl (none_until p bs)
  where
    by : (t : Bool) → p b ≡ t → Lacking p (until p bs) → Lacking p (let z : List ℕ = cond t [] (b ∷ until p bs) in z)
    by true is rest = refl
    by false is rest = and_from (not (p b)) (list_all (λ c. not (p c)) (until p bs)) (ap not is) rest

pub until_from : (p : ℕ → Bool) (text : List ℕ) → text ≡ until p text ++ from p text
unfolding until from
until_from p [] = refl
until_from p (b ∷ bs) =
    elim (p b) as (λ t. b ∷ bs ≡ cond t [] (b ∷ until p bs) ++ cond t (b ∷ bs) (from p bs)) [
      | true ↦ refl
      | false ↦ ap (λ z. b ∷ z) (until_from p bs)
    ]

-- nothing, or first a byte that passes
abbrev pub stops : (ℕ → Bool) → List ℕ → Bool
stops p [] = true
stops p (b ∷ bs) = p b

pub stops_from : (p : ℕ → Bool) (text : List ℕ) → stops p (from p text) ≡ true
unfolding from
stops_from p [] = refl
stops_from p (b ∷ bs) = by (p b) refl (stops_from p bs)
  where
    by : (t : Bool) → p b ≡ t → stops p (from p bs) ≡ true → stops p (let z : List ℕ = cond t (b ∷ bs) (from p bs) in z) ≡ true
    by true is rest = is
    by false is rest = rest

until_end : (p : ℕ → Bool) (rest : List ℕ) → stops p rest ≡ true → until p rest ≡ []
unfolding until
until_end p [] is = refl
until_end p (b ∷ bs) is = rw is refl

from_end : (p : ℕ → Bool) (rest : List ℕ) → stops p rest ≡ true → from p rest ≡ rest
unfolding from
from_end p [] is = refl
from_end p (b ∷ bs) is = rw is refl

not_true : (t : Bool) → not t ≡ true → t ≡ false
not_true true is = absurd cc
not_true false is = refl

pub until_front : (p : ℕ → Bool) (front rest : List ℕ) → Lacking p front → stops p rest ≡ true → until p (front ++ rest) ≡ front
unfolding until
until_front p [] rest none end = until_end p rest end
until_front p (b ∷ front) rest none end =
    let both = and_parts (not (p b)) (list_all (λ c. not (p c)) front) none in
    rw (not_true (p b) both.0) (ap (λ z. b ∷ z) (until_front p front rest both.1 end))

pub from_front : (p : ℕ → Bool) (front rest : List ℕ) → Lacking p front → stops p rest ≡ true → from p (front ++ rest) ≡ rest
unfolding from
from_front p [] rest none end = from_end p rest end
from_front p (b ∷ front) rest none end =
    let both = and_parts (not (p b)) (list_all (λ c. not (p c)) front) none in
    rw (not_true (p b) both.0) (from_front p front rest both.1 end)

-- a cut at a mark and the text that is cut

pub cut_front : (mark : ℕ) (front behind : List ℕ) → Lacking (λ b. b == mark) front → cut_at mark (front ++ mark ∷ behind) ≡ Some (front, behind)
unfolding cut_at
cut_front mark [] behind none = rw (eq-eqb mark mark refl) refl
cut_front mark (b ∷ front) behind none =
    let both = and_parts (not (b == mark)) (list_all (λ c. not (c == mark)) front) none in
    rw (not_true (b == mark) both.0) (ap (longer b) (cut_front mark front behind both.1))

abbrev CutInto : ℕ → List ℕ → List ℕ × List ℕ → Type 0
CutInto mark text p = (text ≡ p.0 ++ mark ∷ p.1) × Lacking (λ b. b == mark) p.0

longer_cut : (mark b : ℕ) (bs : List ℕ) → (b == mark) ≡ false → (o : Option (List ℕ × List ℕ)) → IfSome o (CutInto mark bs) → IfSome (longer b o) (CutInto mark (b ∷ bs))
longer_cut mark b bs other None h = tt
longer_cut mark b bs other (Some p) h = (ap (λ z. b ∷ z) h.0, and_from (not (b == mark)) (list_all (λ c. not (c == mark)) p.0) (ap not other) h.1)

pub cut_made : (mark : ℕ) (text : List ℕ) → IfSome (cut_at mark text) (CutInto mark text)
unfolding cut_at
cut_made mark [] = tt
cut_made mark (b ∷ bs) = by (b == mark) refl (cut_made mark bs)
  where
    by : (t : Bool) → (b == mark) ≡ t → IfSome (cut_at mark bs) (CutInto mark bs)
        → (let o : Option (List ℕ × List ℕ) = cond t (Some ([], bs)) (longer b (cut_at mark bs)) in IfSome o (CutInto mark (b ∷ bs)))
    by true is rest = (ap (λ z. z ∷ bs) (eqb-true b mark is), refl)
    by false is rest = longer_cut mark b bs is (cut_at mark bs) rest

-- what is behind words and the text that begins with them
pub after_made : (words text rest : List ℕ) → after words text ≡ Some rest → text ≡ words ++ rest
unfolding after
after_made [] text rest is = let same : text ≡ rest = cc in same
after_made (w ∷ ws) [] rest is = absurd cc
after_made (w ∷ ws) (b ∷ bs) rest is = by (w == b) refl (after_made ws bs rest) is
  where
    by : (t : Bool) → (w == b) ≡ t → (after ws bs ≡ Some rest → bs ≡ ws ++ rest) → (let o : Option (List ℕ) = cond t (after ws bs) None in o ≡ Some rest) → b ∷ bs ≡ w ∷ (ws ++ rest)
    by true same again is = ap (λ z. z ∷ bs) (sym (eqb-true w b same)) ∙ ap (λ z. w ∷ z) (again is)
    by false other again is = absurd cc

-- a text of blanks alone has nothing behind them
pub blank_length : (text : List ℕ) → list_all is_blank text ≡ (length (from is_no_blank text) == 0)
unfolding from
blank_length [] = refl
blank_length (b ∷ bs) = by (is_blank b) (blank_length bs)
  where
    by : (t : Bool) → list_all is_blank bs ≡ (length (from is_no_blank bs) == 0) → (t && list_all is_blank bs) ≡ (length (cond (not t) (b ∷ bs) (from is_no_blank bs)) == 0)
    by true is = is
    by false is = sym (ne_eqb (length (b ∷ bs)) 0 (λ e. absurd (omega arith)))
