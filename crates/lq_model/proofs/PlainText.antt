-- Texts of ASCII are texts, which are not cut where they are short.
use Rattle.std.specs.Prelude.{◌≡◌, ◌<◌, ℕ, zero, suc, nat_lt, nat_le, take, length, true, false, ◌&&◌, Bool, List, [], ◌∷◌, refl}
use Rattle.std.specs.List.{list_all}
use Rattle.std.specs.Str.{is_utf8, IsAscii}
use Rattle.std.proofs.Common.{arith}
use Rattle.std.proofs.lemmas.Str.{is_utf8-from_IsUtf8, IsUtf8-from_ascii}
use Rattle.std.proofs.lemmas.List.{take_all}
use Rattle.lq_model.specs.Sound.{cut}

abbrev pub is_plain : List ℕ → Bool
is_plain bytes = list_all (λ b. nat_lt b 128) bytes

both_true : (a b : Bool) → (a && b) ≡ true → (a ≡ true) × (b ≡ true)
both_true true b h = (refl, h)
both_true false b h = absurd (grind arith)

below_128 : (b : ℕ) → nat_lt b 128 ≡ true → b < 128
below_128 b h = grind arith

ascii_plain : (bytes : List ℕ) → is_plain bytes ≡ true → IsAscii bytes
ascii_plain [] h i = omega arith
ascii_plain (b ∷ bytes) h zero = let small : nat_lt b 128 ≡ true = (both_true (nat_lt b 128) (is_plain bytes) h).0 in below_128 b small
ascii_plain (b ∷ bytes) h (suc i) = ascii_plain bytes (both_true (nat_lt b 128) (is_plain bytes) h).1 i

pub plain_utf8 : (bytes : List ℕ) → is_plain bytes ≡ true → is_utf8 bytes ≡ true
plain_utf8 bytes h = is_utf8-from_IsUtf8 bytes (IsUtf8-from_ascii bytes (ascii_plain bytes h))

pub plain_cut : (bytes : List ℕ) → is_plain bytes ≡ true → nat_le (length bytes) 63 ≡ true → cut 63 bytes ≡ bytes
unfolding cut
plain_cut bytes h g =
    let all : take 63 bytes ≡ bytes = take_all 63 bytes (grind arith) in
    rw (all, plain_utf8 bytes h) refl

-- one that is longer is cut to its front
pub plain_front : (bytes : List ℕ) → is_plain (take 63 bytes) ≡ true → cut 63 bytes ≡ take 63 bytes
unfolding cut
plain_front bytes h = rw (plain_utf8 (take 63 bytes) h) refl
