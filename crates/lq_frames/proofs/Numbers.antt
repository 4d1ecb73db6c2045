-- Lengths of four bytes.
use Rattle.std.proofs.Common.{◌≡◌, ◌<◌, ◌≤◌, ◌^◌, ℕ, List, ◌++◌, length, refl, ap}
use Rattle.std.specs.Int.{w32, from_be_bytes}
use Rattle.std.proofs.lemmas.List.{take-append-le}
use Rattle.std.proofs.lemmas.Nat.{from_be_bytes-to_be_bytes_4}
use Rattle.lq_frames.specs.Body.{number, front_number}

pub number-length : (n : ℕ) → length (number n) ≡ 4
unfolding number
number-length n = refl

-- a number's four bytes are at the front
pub front_number-append : (front rest : List ℕ) → 4 ≤ length front → front_number (front ++ rest) ≡ front_number front
unfolding front_number
front_number-append front rest le = ap (from_be_bytes w32) (take-append-le 4 front rest le)

pub front_number-number : (n : ℕ) (rest : List ℕ) → n < 2 ^ 32 → front_number (number n ++ rest) ≡ n
unfolding number front_number
front_number-number n rest fits = from_be_bytes-to_be_bytes_4 n fits
