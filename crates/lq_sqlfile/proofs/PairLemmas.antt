-- The attributes of a text, by as many turns as it takes.
use Rattle.std.proofs.Common.{◌≡◌, ◌<◌, ◌≤◌, ◌==◌, Bool, IfSome, List, None, Option, Some, [], arith, cond, false, true, length, option_map, option_and_then, refl, suc, zero, subst, ℕ, ◌++◌, ◌∷◌, if◌then◌else◌}
use Rattle.lq_base.specs.Kind.{is_blank, is_no_blank}
use Rattle.lq_sqlfile.specs.Words.{after, has_name, known}
use Rattle.lq_sqlfile.specs.Cuts.{apart, cut_at, from, is_ended, longer, without_blanks}
use Rattle.lq_sqlfile.specs.Lines.{attributes, new_pair, pair, quoted, value, value_by}

-- ---- what is left is shorter

pub from_shorter : (p : ℕ → Bool) (text : List ℕ) → length (from p text) ≤ length text
unfolding from
from_shorter p [] = omega arith
from_shorter p (b ∷ bs) =
    elim (p b) as (λ t. length (cond t (b ∷ bs) (from p bs)) ≤ length (b ∷ bs)) [
      | true ↦ omega arith
      | false ↦ omega (arith, from_shorter p bs)
    ]

longer_shorter : (b : ℕ) (bs : List ℕ) (o : Option (List ℕ × List ℕ)) → IfSome o (λ p. length p.1 < length bs) → IfSome (longer b o) (λ p. length p.1 < length (b ∷ bs))
longer_shorter b bs None h = tt
longer_shorter b bs (Some p) h = omega arith

pub cut_shorter : (mark : ℕ) (text : List ℕ) → IfSome (cut_at mark text) (λ p. length p.1 < length text)
unfolding cut_at
cut_shorter mark [] = tt
cut_shorter mark (b ∷ bs) =
    elim (b == mark) as (λ t. (let at : Option (List ℕ × List ℕ) = cond t (Some ([], bs)) (longer b (cut_at mark bs)) in IfSome at (λ p. length p.1 < length (b ∷ bs)))) [
      | true ↦ omega arith
      | false ↦ longer_shorter b bs (cut_at mark bs) (cut_shorter mark bs)
    ]

apart_shorter : (text : List ℕ) → IfSome (apart text) (λ rest. length rest ≤ length text)
apart_shorter text =
    elim (is_ended text) as (λ t. (let at : Option (List ℕ) = cond t (Some (without_blanks text)) None in IfSome at (λ rest. length rest ≤ length text))) [
      | true ↦ from_shorter is_no_blank text
      | false ↦ tt
    ]

quoted_by : (most : ℕ) (front behind : List ℕ) (o : Option (List ℕ)) → length behind ≤ most → IfSome o (λ rest. length rest ≤ length behind)
    → IfSome (option_map {U = List ℕ × List ℕ} (λ rest. (front, rest)) o) (λ p. length p.1 ≤ most)
quoted_by most front behind None le h = tt
quoted_by most front behind (Some rest) le h = omega arith

quoted_cut : (most : ℕ) (o : Option (List ℕ × List ℕ)) → IfSome o (λ p. length p.1 < most)
    → IfSome (option_and_then (λ p. option_map {U = List ℕ × List ℕ} (λ rest. (p.0, rest)) (apart p.1)) o) (λ p. length p.1 ≤ most)
quoted_cut most None h = tt
quoted_cut most (Some p) h = quoted_by most p.0 p.1 (apart p.1) (omega arith) (apart_shorter p.1)

quoted_shorter : (inside : List ℕ) → IfSome (quoted inside) (λ p. length p.1 ≤ length inside)
quoted_shorter inside = quoted_cut (length inside) (cut_at 34 inside) (cut_shorter 34 inside)

more_room : (a b : ℕ) → a ≤ b → (o : Option (List ℕ × List ℕ)) → IfSome o (λ p. length p.1 ≤ a) → IfSome o (λ p. length p.1 ≤ b)
more_room a b le None h = tt
more_room a b le (Some p) h = omega arith

pub value_shorter : (text : List ℕ) → IfSome (value text) (λ p. length p.1 ≤ length text)
unfolding value after
value_shorter [] = omega (arith, from_shorter is_blank [], from_shorter is_no_blank (from is_blank []))
value_shorter (b ∷ bs) =
    elim (34 == b) as (λ t. IfSome (value_by (b ∷ bs) (cond t (Some bs) None)) (λ p. length p.1 ≤ length (b ∷ bs))) [
      | true ↦ more_room (length bs) (length (b ∷ bs)) (omega arith) (quoted bs) (quoted_shorter bs)
      | false ↦ omega (arith, from_shorter is_blank (b ∷ bs), from_shorter is_no_blank (from is_blank (b ∷ bs)))
    ]

value_behind : (most : ℕ) (name behind : List ℕ) (o : Option (List ℕ × List ℕ)) → length behind < most → IfSome o (λ p. length p.1 ≤ length behind)
    → IfSome (option_map {U = List ℕ × List ℕ × List ℕ} (λ v. (name, v.0, v.1)) o) (λ p. length p.2 < most)
value_behind most name behind None lt h = tt
value_behind most name behind (Some v) lt h = omega arith

pair_cut : (most : ℕ) (o : Option (List ℕ × List ℕ)) → IfSome o (λ p. length p.1 < most)
    → IfSome (option_and_then (λ p. option_map {U = List ℕ × List ℕ × List ℕ} (λ v. (p.0, v.0, v.1)) (value p.1)) o) (λ p. length p.2 < most)
pair_cut most None h = tt
pair_cut most (Some p) h = value_behind most p.0 p.1 (value p.1) h (value_shorter p.1)

pub pair_shorter : (text : List ℕ) → IfSome (pair text) (λ p. length p.2 < length text)
unfolding pair
pair_shorter text = pair_cut (length text) (cut_at 58 text) (cut_shorter 58 text)

new_known : (words : List (List ℕ)) (given : List (List ℕ × List ℕ)) (most : ℕ) (p : List ℕ × List ℕ × List ℕ) → length p.2 < most → (o : Option (List ℕ))
    → IfSome (option_and_then {U = List ℕ × List ℕ × List ℕ} (λ w. if has_name w given then None else Some (w, p.1, p.2)) o) (λ q. length q.2 < most)
new_known words given most p lt None = tt
new_known words given most p lt (Some w) = by (has_name w given)
  where
    by : (t : Bool) → (let at : Option (List ℕ × List ℕ × List ℕ) = cond t None (Some (w, p.1, p.2)) in IfSome at (λ q. length q.2 < most))
    by true = tt
    by false = lt

new_by : (words : List (List ℕ)) (given : List (List ℕ × List ℕ)) (most : ℕ) (o : Option (List ℕ × List ℕ × List ℕ)) → IfSome o (λ p. length p.2 < most)
    → IfSome (option_and_then {U = List ℕ × List ℕ × List ℕ} (λ p. option_and_then (λ w. if has_name w given then None else Some (w, p.1, p.2)) (known words p.0)) o) (λ q. length q.2 < most)
new_by words given most None h = tt
new_by words given most (Some p) h = new_known words given most p h (known words p.0)

pub new_shorter : (words : List (List ℕ)) (given : List (List ℕ × List ℕ)) (text : List ℕ) → IfSome (new_pair words given text) (λ p. length p.2 < length text)
unfolding new_pair
new_shorter words given text = new_by words given (length text) (pair text) (pair_shorter text)

-- ---- turns to spare change nothing

module _ (words : List (List ℕ)) where
  same_by : (n m most : ℕ) (given : List (List ℕ × List ℕ)) → most ≤ n → most ≤ m
      → ((next : List (List ℕ × List ℕ)) (rest : List ℕ) → length rest ≤ n → length rest ≤ m → attributes words n next rest ≡ attributes words m next rest)
      → (o : Option (List ℕ × List ℕ × List ℕ)) → IfSome o (λ p. length p.2 ≤ most)
      → option_and_then (λ p. attributes words n (given ++ (p.0, p.1) ∷ []) p.2) o ≡ option_and_then (λ p. attributes words m (given ++ (p.0, p.1) ∷ []) p.2) o
  same_by n m most given a b again None h = refl
  same_by n m most given a b again (Some p) h = again (given ++ (p.0, p.1) ∷ []) p.2 (omega arith) (omega arith)

  less : (bs : List ℕ) (o : Option (List ℕ × List ℕ × List ℕ)) → IfSome o (λ p. length p.2 < suc (length bs)) → IfSome o (λ p. length p.2 ≤ length bs)
  less bs None h = tt
  less bs (Some p) h = omega arith

  pub same_turns : (n m : ℕ) (given : List (List ℕ × List ℕ)) (text : List ℕ) → length text ≤ n → length text ≤ m → attributes words n given text ≡ attributes words m given text
  unfolding attributes
  same_turns n m given [] a b = refl
  same_turns zero m given (c ∷ cs) a b = absurd (omega arith)
  same_turns (suc n) zero given (c ∷ cs) a b = absurd (omega arith)
  same_turns (suc n) (suc m) given (c ∷ cs) a b =
      same_by n m (length cs) given (omega arith) (omega arith) (λ next rest. same_turns n m next rest) (new_pair words given (c ∷ cs)) (less cs (new_pair words given (c ∷ cs)) (new_shorter words given (c ∷ cs)))

  shortened : (most : ℕ) (o : Option (List ℕ × List ℕ × List ℕ)) (p : List ℕ × List ℕ × List ℕ) → o ≡ Some p → IfSome o (λ q. length q.2 < most) → length p.2 < most
  shortened most o p is h = let at : IfSome (Some p) (λ q. length q.2 < most) = subst (λ (x : Option (List ℕ × List ℕ × List ℕ)). IfSome x (λ q. length q.2 < most)) is h in at

  -- ---- a turn

  pub turn_shorter : (given : List (List ℕ × List ℕ)) (text : List ℕ) (p : List ℕ × List ℕ × List ℕ) → new_pair words given text ≡ Some p → length p.2 < length text
  turn_shorter given text p is = shortened (length text) (new_pair words given text) p is (new_shorter words given text)

  pub turn_none : (given : List (List ℕ × List ℕ)) (text : List ℕ) → 0 < length text → new_pair words given text ≡ None → attributes words (length text) given text ≡ None
  unfolding attributes
  turn_none given [] some is = absurd (omega arith)
  turn_none given (b ∷ bs) some is = rw is refl

  pub turn_some : (given : List (List ℕ × List ℕ)) (text : List ℕ) (p : List ℕ × List ℕ × List ℕ) → new_pair words given text ≡ Some p
      → attributes words (length text) given text ≡ attributes words (length p.2) (given ++ (p.0, p.1) ∷ []) p.2
  unfolding attributes
  turn_some given [] p is = let shorter = turn_shorter given [] p is in absurd (omega arith)
  turn_some given (b ∷ bs) p is =
      let shorter = turn_shorter given (b ∷ bs) p is in
      rw is (same_turns (length bs) (length p.2) (given ++ (p.0, p.1) ∷ []) p.2 (omega arith) (omega arith))

  pub turn_end : (given : List (List ℕ × List ℕ)) (text : List ℕ) → length text ≡ 0 → attributes words (length text) given text ≡ Some given
  unfolding attributes
  turn_end given [] is = refl
  turn_end given (b ∷ bs) is = absurd (omega arith)
