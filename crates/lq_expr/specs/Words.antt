-- The words of a text.
use Rattle.std.specs.List.{flat_map}
use Rattle.std.specs.Prelude.{Bool, List, [], codes, if◌then◌else◌, ℕ, ◌==◌, ◌||◌, ◌∷◌}
use Rattle.std.specs.Str.{bytes_eq, str_eq_ignore_ascii_case}
use Rattle.lq_operators.specs.declared.word.Word.{Word}
use Rattle.lq_operators.specs.declared.word.Word.TheVariants as word

-- space, tab and line ends
abbrev pub is_blank : ℕ → Bool
is_blank b = b == 32 || b == 9 || b == 10 || b == 13

-- `(`, `)`, `,` and `!`
abbrev pub is_mark : ℕ → Bool
is_mark b = b == 40 || b == 41 || b == 44 || b == 33

-- the first of the lists becomes longer at its front
abbrev pub longer : {A : Type 0} → A → List (List A) → List (List A)
longer a [] = (a ∷ []) ∷ []
longer a (p ∷ ps) = (a ∷ p) ∷ ps

-- a text cut at its blanks, and before and behind each of its marks
unfoldable pub runs : List ℕ → List (List ℕ)
runs [] = [] ∷ []
runs (b ∷ bs) = if is_blank b then [] ∷ runs bs else (if is_mark b then [] ∷ (b ∷ []) ∷ runs bs else longer b (runs bs))

-- the word that is spelled so: a mark, `or`, `and` or `not` in any case, or else a name
unfoldable pub word_of : List ℕ → Word
word_of run =
    if bytes_eq run (codes "(") then word.Open
    else (if bytes_eq run (codes ")") then word.Close
    else (if bytes_eq run (codes ",") then word.Comma
    else (if bytes_eq run (codes "!") then word.Not
    else (if str_eq_ignore_ascii_case run (codes "or") then word.Or
    else (if str_eq_ignore_ascii_case run (codes "and") then word.And
    else (if str_eq_ignore_ascii_case run (codes "not") then word.Not
    else word.Name run))))))

-- an empty run is no word
abbrev pub spelled_words : List ℕ → List Word
spelled_words [] = []
spelled_words (b ∷ bs) = word_of (b ∷ bs) ∷ []

-- the words of a text: its runs that are not empty
unfoldable pub words : List ℕ → List Word
words text = flat_map spelled_words (runs text)
