-- How many characters texts have.
use Rattle.std.proofs.Common.{ap, arith, rules, tests}
use Rattle.std.proofs.lemmas.List.{length-append, length-take}
use Rattle.std.proofs.lemmas.Str.{chars-encodes, scalars-chars}
use Rattle.std.specs.Prelude.{List, [], length, nat_le, refl, suc, take, true, zero, ℕ, ◌%◌, ◌*◌, ◌+◌, ◌-◌, ◌/◌, ◌∷◌, ◌≡◌, ◌≤◌}
use Rattle.std.specs.Str.{IsUtf8, all_scalars, chars, chars_after, continuation_len, lead_bits}
use Rattle.lq_base.specs.Number.{char_count, last_digits}
use Rattle.lq_model.proofs.Lists.{and_left, and_right, and_true}
use Rattle.lq_track.specs.Database.{cut}

pub at_most : (n most : ℕ) → n ≤ most → nat_le n most ≡ true
at_most n most h = search (rules, tests)

-- no more characters than bytes

after_bytes : (n c : ℕ) (bytes : List ℕ) → length (chars_after n c bytes) ≤ length bytes + 1
after_bytes zero c [] = omega arith
after_bytes zero c (b ∷ bytes) = omega (arith, after_bytes (continuation_len b) (lead_bits b) bytes)
after_bytes (suc n) c [] = omega arith
after_bytes (suc n) c (b ∷ bytes) = omega (arith, after_bytes n (c * 64 + (b - 128)) bytes)

characters_at_most : (bytes : List ℕ) → char_count bytes ≤ length bytes
unfolding chars
characters_at_most [] = omega arith
characters_at_most (b ∷ bytes) = omega (arith, after_bytes (continuation_len b) (lead_bits b) bytes)

pub within : (bytes : List ℕ) (most : ℕ) → length bytes ≤ most → nat_le (char_count bytes) most ≡ true
within bytes most h = at_most (char_count bytes) most (omega (arith, characters_at_most bytes, h))

digits_length : (count n : ℕ) → length (last_digits count n) ≡ count
digits_length zero n = refl
digits_length (suc count) n = omega (arith, digits_length count (n / 10), length-append (last_digits count (n / 10)) ((48 + n % 10) ∷ []))

pub digits_within : (count n : ℕ) → nat_le (char_count (last_digits count n)) count ≡ true
digits_within count n = within (last_digits count n) count (omega (arith, digits_length count n))

-- a text that is cut

scalars_taken : (n : ℕ) (cs : List ℕ) → all_scalars cs ≡ true → all_scalars (take n cs) ≡ true
scalars_taken zero cs h = refl
scalars_taken (suc n) [] h = refl
scalars_taken (suc n) (c ∷ cs) h = and_true _ _ (and_left _ (all_scalars cs) h) (scalars_taken n cs (and_right _ (all_scalars cs) h))

pub cut_within : (text : List ℕ) → IsUtf8 text → nat_le (char_count (cut text)) 255 ≡ true
cut_within text utf8 =
    let is = chars-encodes (take 255 (chars text)) (scalars_taken 255 (chars text) (scalars-chars text utf8)) in
    at_most (char_count (cut text)) 255 (omega (arith, ap length is, length-take 255 (chars text)))
