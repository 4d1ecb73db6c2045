-- What a reading of canonical text answers, without its references.
use Rattle.std.specs.Prelude.{Bool, List, None, Option, Some, [], drop, if◌then◌else◌, length, nat_le, nat_lt, option_and_then, option_map, suc, take, zero, ℕ, ◌&&◌, ◌*◌, ◌+◌, ◌-◌, ◌==◌, ◌||◌, ◌∷◌}
use Rattle.lq_canon.specs.declared.reading.Pair.{Pair}
use Rattle.lq_canon.specs.declared.reading.Part.{Part}
use Rattle.lq_canon.specs.declared.reading.Place.{Place}
use Rattle.lq_model.specs.Changes.{CanonicalValue, text}

abbrev pub part_of : Part → List ℕ × List ℕ
part_of part = (part.bytes.now, part.rest.now)

abbrev pub place_of : Place → ℕ × List ℕ
place_of place = (place.depth, place.rest.now)

abbrev pub pair_of : Pair → List ℕ × List ℕ × List ℕ
pair_of pair = (pair.key.now, pair.value.now, pair.rest.now)

-- the text that a value is
abbrev pub text_in : CanonicalValue → Option (List ℕ)
text_in (text t) = Some t
text_in _ = None

-- Canonical text, read from its front.

-- digits up to a colon, and what follows it
abbrev pub number_at : ℕ → List ℕ → Option (ℕ × List ℕ)
number_at n [] = None
number_at n (b ∷ bs) = if b == 58 then Some (n, bs) else if nat_le 48 b && nat_lt b 58 then number_at (n * 10 + (b - 48)) bs else None

-- so many bytes, and what follows them
abbrev pub split : ℕ × List ℕ → Option (List ℕ × List ℕ)
split p = if nat_le p.0 (length p.1) then Some (take p.0 p.1, drop p.0 p.1) else None

-- the text of an atom, and what follows it
unfoldable pub atom_at : List ℕ → Option (List ℕ × List ℕ)
atom_at bytes = option_and_then split (number_at 0 bytes)

abbrev pub is_opening : ℕ → Bool
is_opening b = b == 91 || b == 123

abbrev pub is_closing : ℕ → Bool
is_closing b = b == 93 || b == 125

-- `t` and `n` stand before an atom
abbrev pub is_before_atom : ℕ → Bool
is_before_atom b = b == 116 || b == 110

-- so much is open behind an atom as before it
abbrev pub behind_atom : ℕ → Option (List ℕ × List ℕ) → Option (ℕ × List ℕ)
behind_atom depth atom = option_map (λ p. (depth, p.1)) atom

abbrev pub closed : ℕ → List ℕ → Option (ℕ × List ℕ)
closed zero bytes = None
closed (suc depth) bytes = Some (depth, bytes)

-- with so much open: what is open behind the bracket, the truth value or the atom that stands first, and what follows it
abbrev pub stepped : ℕ → List ℕ → Option (ℕ × List ℕ)
stepped depth [] = None
stepped depth (b ∷ bs) =
    if is_opening b then Some (suc depth, bs)
    else if is_closing b then closed depth bs
    else if b == 98 then Some (depth, drop 1 bs)
    else if is_before_atom b then behind_atom depth (atom_at bs)
    else behind_atom depth (atom_at (b ∷ bs))

-- on with what is still open, or what follows where nothing is
abbrev pub behind : (ℕ → List ℕ → Option (List ℕ)) → ℕ → List ℕ → Option (List ℕ)
behind on zero bytes = Some bytes
behind on (suc depth) bytes = on (suc depth) bytes

-- what follows what begins here with so much open, in at most so many steps
abbrev pub passed : ℕ → ℕ → List ℕ → Option (List ℕ)
passed zero depth bytes = None
passed (suc steps) depth bytes = option_and_then (λ p. behind (passed steps) p.0 p.1) (stepped depth bytes)
