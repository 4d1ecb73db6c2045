-- Texts cut at the first byte of a sort.
use Rattle.std.specs.Prelude.{Bool, List, None, Option, Some, [], if◌then◌else◌, option_map, true, ℕ, ◌==◌, ◌∷◌}
use Rattle.lq_base.specs.Kind.{is_blank, is_no_blank}

-- what stands before the first byte that passes, or all where none does
unfoldable pub until : (ℕ → Bool) → List ℕ → List ℕ
until p [] = []
until p (b ∷ bs) = if p b then [] else b ∷ until p bs

-- the first byte that passes and all that follows it, or nothing
unfoldable pub from : (ℕ → Bool) → List ℕ → List ℕ
from p [] = []
from p (b ∷ bs) = if p b then b ∷ bs else from p bs

-- the blanks at the front are dropped
abbrev pub without_blanks : List ℕ → List ℕ
without_blanks text = from is_no_blank text

-- the first word, and what stands behind it and the blanks that follow
abbrev pub word : List ℕ → List ℕ
word text = until is_blank text

abbrev pub behind_word : List ℕ → List ℕ
behind_word text = without_blanks (from is_blank text)

-- a byte before the first of the parts
abbrev pub longer : ℕ → Option (List ℕ × List ℕ) → Option (List ℕ × List ℕ)
longer b parts = option_map (λ p. (b ∷ p.0, p.1)) parts

-- the text before the first such mark, and what stands behind the mark
unfoldable pub cut_at : ℕ → List ℕ → Option (List ℕ × List ℕ)
cut_at mark [] = None
cut_at mark (b ∷ bs) = if b == mark then Some ([], bs) else longer b (cut_at mark bs)

-- the text is at an end: it is empty or begins with a blank
abbrev pub is_ended : List ℕ → Bool
is_ended [] = true
is_ended (b ∷ bs) = is_blank b

-- what stands behind the blanks at an end
abbrev pub apart : List ℕ → Option (List ℕ)
apart text = if is_ended text then Some (without_blanks text) else None
