-- What follows an atom is shorter, and a number above what follows it is the length of no text.
use Rattle.std.proofs.Common.{Bool, List, None, Option, Some, [], arith, ap, drop, false, get_or, length, nat_le, nat_lt, option_and_then, refl, sym, take, tests, true, ℕ, ◌&&◌, ◌*◌, ◌+◌, ◌-◌, ◌<◌, ◌^◌, ◌==◌, ◌≡◌, ◌≤◌, ◌∙◌, ◌∷◌}
use Rattle.std.proofs.lemmas.List.{length-drop}
use Rattle.std.specs.Prelude.{if◌then◌else◌}
use Rattle.lq_canon.specs.Passing.{atom_at, number_at, split}

no_front : (n : ℕ) (bs : List ℕ) → length bs < n → nat_le n (length bs) ≡ false
no_front n bs h = grind (arith, tests)

pub too_long : (n : ℕ) (bytes : List ℕ) → length bytes < n → option_and_then split (number_at n bytes) ≡ None
too_long n [] h = refl
too_long n (b ∷ bs) h =
    by (b == 58) (nat_le 48 b && nat_lt b 58) n (n * 10 + (b - 48)) bs (ap (λ t. if t then Some (take n bs, drop n bs) else None) (no_front n bs (omega (arith, h)))) (too_long (n * 10 + (b - 48)) bs (omega (arith, h)))
  where
    by : (colon digit : Bool) (n m : ℕ) (bs : List ℕ) → split (n, bs) ≡ None → option_and_then split (number_at m bs) ≡ None
        → option_and_then split (if colon then Some (n, bs) else if digit then number_at m bs else None) ≡ None
    by true digit n m bs here more = here
    by false true n m bs here more = more
    by false false n m bs here more = refl

abbrev IsShorter : List ℕ → Option (ℕ × List ℕ) → Type 0
IsShorter bytes found = (p : ℕ × List ℕ) → found ≡ Some p → length p.1 < length bytes

after_number : (n : ℕ) (bytes : List ℕ) → IsShorter bytes (number_at n bytes)
after_number n [] p e = grind arith
after_number n (b ∷ bs) p e = by (b == 58) (nat_le 48 b && nat_lt b 58) n b (n * 10 + (b - 48)) bs (after_number (n * 10 + (b - 48)) bs) p e where
  by : (colon digit : Bool) (n b m : ℕ) (bs : List ℕ) → IsShorter bs (number_at m bs) → IsShorter (b ∷ bs) (if colon then Some (n, bs) else if digit then number_at m bs else None)
  by true digit n b m bs more p e = grind arith
  by false true n b m bs more p e = let less = more p e in omega (arith, less)
  by false false n b m bs more p e = grind arith

pub after_atom : (bytes : List ℕ) (p : List ℕ × List ℕ) → atom_at bytes ≡ Some p → length p.1 < length bytes
unfolding atom_at
after_atom bytes p e = by (number_at 0 bytes) (after_number 0 bytes) p e where
  cut : (fits : Bool) (q : ℕ × List ℕ) (p : List ℕ × List ℕ) → (if fits then Some (take q.0 q.1, drop q.0 q.1) else None) ≡ Some p → length p.1 ≤ length q.1
  cut true q p e = let less = length-drop q.0 q.1 in let is : drop q.0 q.1 ≡ p.1 = grind arith in rw (sym is) (omega (arith, less))
  cut false q p e = grind arith

  by : (found : Option (ℕ × List ℕ)) → IsShorter bytes found → (p : List ℕ × List ℕ) → option_and_then split found ≡ Some p → length p.1 < length bytes
  by None shorter p e = grind arith
  by (Some q) shorter p e = let less = shorter q refl in let short = cut (nat_le q.0 (length q.1)) q p e in omega (arith, less, short)

-- neither is one of nineteen digits or more, behind which one digit more stands
pub no_count : (count : ℕ) (rest whole : List ℕ) → (get_or rest 0 0 == 58) ≡ false → 10 ^ 18 ≤ count → length rest < 2 ^ 63 → option_and_then split (number_at count rest) ≡ option_and_then split (number_at 0 whole) → None ≡ atom_at whole
unfolding atom_at
no_count count rest whole colon large short is = sym (by rest colon short) ∙ is where
  by : (rest : List ℕ) → (get_or rest 0 0 == 58) ≡ false → length rest < 2 ^ 63 → option_and_then split (number_at count rest) ≡ None
  by [] colon short = refl
  by (b ∷ bs) colon short = rw colon (digit (nat_le 48 b && nat_lt b 58) b bs (omega (arith, short))) where
    digit : (is : Bool) (b : ℕ) (bs : List ℕ) → length bs < 2 ^ 63 → option_and_then split (if is then number_at (count * 10 + (b - 48)) bs else None) ≡ None
    digit true b bs short = too_long (count * 10 + (b - 48)) bs (omega (arith, short, large))
    digit false b bs short = refl
