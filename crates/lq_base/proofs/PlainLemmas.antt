-- The text of a moment is ASCII.
use Rattle.std.proofs.Common.{ℕ, ◌<◌, List, [], ◌∷◌, arith}
use Rattle.std.proofs.lemmas.Str.{IsUtf8-from_ascii}
use Rattle.std.proofs.lemmas.Str.Ascii.{IsAscii-cons, IsAscii-nil}
use Rattle.std.specs.Str.{IsAscii, IsUtf8}
use Rattle.lq_base.specs.Moment.{text_since}

abbrev AllPlain : List ℕ → Type 0
AllPlain [] = Unit {0}
AllPlain (b ∷ bs) = (b < 128) × AllPlain bs

IsAscii-from_plain : (bs : List ℕ) → AllPlain bs → IsAscii bs
IsAscii-from_plain [] h = IsAscii-nil
IsAscii-from_plain (b ∷ bs) h = IsAscii-cons b bs h.0 (IsAscii-from_plain bs h.1)

pub IsUtf8-text_since : (ms : ℕ) → IsUtf8 (text_since ms)
IsUtf8-text_since ms =
    let plain : AllPlain (text_since ms) = search (arith) in
    IsUtf8-from_ascii (text_since ms) (IsAscii-from_plain (text_since ms) plain)
