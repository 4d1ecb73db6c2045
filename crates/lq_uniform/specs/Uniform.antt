-- An SQL text without what does not count in it: runs of blanks outside quoted stretches.
use Rattle.std.specs.Prelude.{Bool, List, None, Option, Some, [], false, if◌then◌else◌, true, ℕ, ◌&&◌, ◌++◌, ◌==◌, ◌||◌, ◌∷◌}

-- space, tab, line feed, carriage return
abbrev pub is_space : ℕ → Bool
is_space b = b == 32 || (b == 9 || (b == 10 || b == 13))

-- `'`, `"` and the grave accent
abbrev pub is_quote : ℕ → Bool
is_quote b = b == 39 || (b == 34 || b == 96)

abbrev pub begins_comment : ℕ → List ℕ → Bool
begins_comment b [] = false
begins_comment b (c ∷ cs) = (b == 45 && c == 45) || (b == 47 && c == 42)

-- `--`, `#`, `/*` or `\` stands anywhere in the text
abbrev pub has_mark : List ℕ → Bool
has_mark [] = false
has_mark (b ∷ bs) = (b == 35 || (b == 92 || begins_comment b bs)) || has_mark bs

-- the quote that is open behind a byte
abbrev pub quote_behind : Option ℕ → ℕ → Option ℕ
quote_behind None b = if is_quote b then Some b else None
quote_behind (Some q) b = if b == q then None else Some q

-- one blank, where some were passed
abbrev pub blank_if : Bool → List ℕ
blank_if passed = if passed then 32 ∷ [] else []

-- a run of blanks counts only outside a quoted stretch
abbrev pub is_passed : Option ℕ → ℕ → Bool
is_passed None b = is_space b
is_passed (Some q) b = false

-- with one blank for each run of them outside the quoted stretches, and none at the end: the quote that is open, and whether blanks were passed
abbrev pub folded : Option ℕ → Bool → List ℕ → List ℕ
folded quote passed [] = []
folded quote passed (b ∷ bs) = if is_passed quote b then folded quote true bs else blank_if passed ++ b ∷ folded (quote_behind quote b) false bs

-- and without those at its beginning
abbrev pub without_front : List ℕ → List ℕ
without_front [] = []
without_front (b ∷ bs) = if is_space b then without_front bs else b ∷ bs

-- a text that may have a comment or an escape stays as it is
unfoldable pub uniform : List ℕ → List ℕ
uniform text = if has_mark text then text else folded None false (without_front text)
