-- What stands in quotes, where each byte of it stands for itself.
use Rattle.std.proofs.Common.{Bool, List, [], ap, arith, cond, drop, false, length, refl, suc, take, true, ℕ, ◌&&◌, ◌+◌, ◌-◌, ◌==◌, ◌≡◌, ◌∙◌, ◌∷◌}
use Rattle.std.specs.List.{prefix_len}
use Rattle.std.specs.Prelude.{not, slice_index, ◌||◌}
use Rattle.lq_base.specs.Sql.{is_pair}
use Rattle.lq_model.specs.SqlWord.{inside, unquoted}
use Rattle.lq_parse.specs.Plain.{is_plain}

no_pair : (escaping is_quote second escape : Bool) → (not is_quote && not (escaping && escape)) ≡ true → ((is_quote && second) || (escaping && escape)) ≡ false
no_pair true false second false plain = refl
no_pair false false second escape plain = refl
no_pair true false second true plain = absurd cc
no_pair escaping true second escape plain = absurd cc

plain_is : (escaping : Bool) (quote : ℕ) (text : List ℕ) → suc (prefix_len (is_plain escaping quote) text) ≡ length text
    → take (prefix_len (is_plain escaping quote) text) text ≡ inside escaping quote text
plain_is escaping quote [] all = absurd (omega (arith, all))
plain_is escaping quote (b ∷ []) all = by (is_plain escaping quote b) all
  where
    by : (t : Bool) → suc (cond t (1 + 0) 0) ≡ 1 → take (cond t (1 + 0) 0) (b ∷ []) ≡ []
    by true e = absurd (omega (arith, e))
    by false e = refl
plain_is escaping quote (b ∷ c ∷ rest) all = by (is_plain escaping quote b) refl all (plain_is escaping quote (c ∷ rest))
  where
    count : ℕ
    count = prefix_len (is_plain escaping quote) (c ∷ rest)

    by : (t : Bool) → is_plain escaping quote b ≡ t → suc (cond t (1 + count) 0) ≡ length (b ∷ c ∷ rest)
        → (suc count ≡ length (c ∷ rest) → take count (c ∷ rest) ≡ inside escaping quote (c ∷ rest))
        → take (cond t (1 + count) 0) (b ∷ c ∷ rest) ≡ inside escaping quote (b ∷ c ∷ rest)
    by true plain e others =
        let single : is_pair escaping quote b c ≡ false = no_pair escaping (b == quote) (c == quote) (b == 92) plain in
        let one : 1 + count ≡ suc count = omega arith in
        rw single (ap (λ (n : ℕ). take n (b ∷ c ∷ rest)) one ∙ ap (λ (more : List ℕ). b ∷ more) (others (omega (arith, e))))
    by false plain e others = absurd (omega (arith, e))

-- the same behind the opening quote
pub inside_is : (escaping : Bool) (bytes rest : List ℕ) (count : ℕ) → rest ≡ drop 1 bytes → count ≡ prefix_len (is_plain escaping (slice_index bytes 0)) rest
    → length rest - count ≡ 1 → take count rest ≡ unquoted escaping bytes
unfolding unquoted
inside_is escaping bytes rest count behind is one =
    ap (λ (n : ℕ). take n rest) is ∙ plain_is escaping (slice_index bytes 0) rest (omega (arith, one, is)) ∙ ap (inside escaping (slice_index bytes 0)) behind
