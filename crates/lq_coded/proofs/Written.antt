-- What is written fits, so that it can be read back.
use Rattle.std.proofs.Common.{◌&&◌, FitsSigned, int_le, pos, nat_le, nat_lt, ◌≡◌, ◌+◌, ◌^◌, ◌<◌, ◌≤◌, ◌++◌, ◌∷◌, ℕ, ℤ, true, List, [], length, refl, sym, ◌∙◌, ap, arith}
use Rattle.std.specs.Int.{w64}
use Rattle.std.specs.List.{list_all}
use Rattle.std.specs.Str.{IsUtf8, is_utf8}
use Rattle.std.proofs.lemmas.Bool.Decides.{nat_tests}
use Rattle.std.proofs.lemmas.List.{append_assoc}
use Rattle.std.proofs.lemmas.Str.{is_utf8-from_IsUtf8}
use lib.IntN.{negsuc}
use Rattle.lq_base.specs.Value.{is_int64}
use Rattle.lq_codec.specs.Codec.{write_each}
use Rattle.lq_codec.specs.Words.{any_byte, below, byte, count, digits, is_from_zero, number, small_number, text, width}
use Rattle.lq_codec.proofs.Laws.{both_true}

below_64 : (n : ℕ) → n < 2 ^ 63 → nat_le n 9_223_372_036_854_775_807 ≡ true
below_64 n lt = let le : n ≤ 9_223_372_036_854_775_807 = omega arith in grind (arith, nat_tests)

int64_from : (z : ℤ) → FitsSigned w64 z → is_int64 z ≡ true
int64_from (pos n) f = below_64 n f.sfits
int64_from (negsuc n) f = rw (below_64 n f.sfits) refl

pub small_fits : (z : ℤ) → FitsSigned w64 z → number.ok z ≡ true → small_number.ok z ≡ true
unfolding small_number
small_fits z f is = both_true (is_int64 z) (number.ok z) (int64_from z f) is

lt_is : (n most : ℕ) → n < most → nat_lt n most ≡ true
lt_is n most lt = grind (arith, nat_tests, lt)

least : (n : ℕ) → nat_le 0 n ≡ true
least n = grind (arith, nat_tests)

zero_le : (n : ℕ) → int_le (pos 0) (pos n) ≡ true
zero_le n = least n

pub below_fits : (most n : ℕ) → n < most → number.ok (pos n) ≡ true → (below most).ok n ≡ true
below_fits most n lt is =
    both_true (is_from_zero most (pos n)) (number.ok (pos n))
    (both_true (int_le (pos 0) (pos n)) (nat_lt n most) (zero_le n) (lt_is n most lt)) is

pub count_fits : (n : ℕ) → n < 2 ^ 64 → number.ok (pos n) ≡ true → count.ok n ≡ true
unfolding count
count_fits n lt is = below_fits (2 ^ 64) n lt is

pub width_fits : (n : ℕ) → n < 2 ^ 32 → number.ok (pos n) ≡ true → width.ok n ≡ true
unfolding width
width_fits n lt is = below_fits (2 ^ 32) n lt is

pub digits_fit : (n : ℕ) → n < 256 → number.ok (pos n) ≡ true → digits.ok n ≡ true
unfolding digits
digits_fit n lt is = below_fits 256 n lt is

pub each_written : (bytes : List ℕ) → write_each byte bytes ≡ bytes
each_written [] = refl
each_written (x ∷ bytes) = ap (λ (l : List ℕ). x ∷ l) (each_written bytes)

any_bytes : (bytes : List ℕ) → list_all any_byte bytes ≡ true
any_bytes [] = refl
any_bytes (x ∷ bytes) = any_bytes bytes

pub text_bytes : (before middle after bytes : List ℕ) → middle ≡ before ++ count.write (length bytes) → after ≡ middle ++ bytes → after ≡ before ++ text.write bytes
unfolding text
text_bytes before middle after bytes first second =
    second ∙ ap (λ (l : List ℕ). l ++ bytes) first ∙ append_assoc before (count.write (length bytes)) bytes
    ∙ ap (λ (l : List ℕ). before ++ (count.write (length bytes) ++ l)) (sym (each_written bytes))

pub text_fits : (bytes : List ℕ) → IsUtf8 bytes → count.ok (length bytes) ≡ true → text.ok bytes ≡ true
unfolding text
text_fits bytes utf8 few =
    both_true (is_utf8 bytes) (count.ok (length bytes) && list_all any_byte bytes)
    (is_utf8-from_IsUtf8 bytes utf8)
    (both_true (count.ok (length bytes)) (list_all any_byte bytes) few (any_bytes bytes))
