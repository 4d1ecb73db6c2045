-- Where a text that was appended to is cut back.
use Rattle.std.proofs.Common.{◌≡◌, ℕ, ◌≤◌, List, ◌++◌, length, arith}
use Rattle.std.proofs.lemmas.Str.{IsCharBoundary-from_take}
use Rattle.std.proofs.Math.Seq.{take-append_seam}
use Rattle.std.proofs.lemmas.List.{length-append}
use Rattle.std.specs.Str.{IsUtf8}
use Rattle.std.specs.String.Boundary.{IsSplitPoint}

-- at the end of the UTF-8 that it begins with
pub IsSplitPoint-seam : (bytes old more : List ℕ) (n : ℕ) → IsUtf8 bytes → IsUtf8 old → bytes ≡ old ++ more → n ≡ length old → IsSplitPoint bytes n
IsSplitPoint-seam bytes old more n utf8 front e at =
    let within : length old ≤ length bytes = rw e (omega (arith, length-append old more)) in
    let edge = IsCharBoundary-from_take bytes (length old) utf8 within (rw (e, take-append_seam) front) in
    rw at (edge.0, λ _ lt high. edge.1 lt high)
