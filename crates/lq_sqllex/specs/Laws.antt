-- What holds of the definitions.
use Rattle.std.specs.List.{flat_map}
use Rattle.std.specs.Prelude.{All, Bool, List, Some, [], codes, drop, false, if◌then◌else◌, length, option_map, slice_index, suc, true, ℕ, ◌&&◌, ◌++◌, ◌+◌, ◌<◌, ◌==◌, ◌||◌, ◌∷◌, ◌≡◌, ◌≤◌}
use Rattle.lq_base.specs.Sql.{after, begins, comment_end, comment_length, escapes, is_name_quote, is_text_quote, is_trivia, length_at, lexemes, sort_at}
use Rattle.lq_base.specs.declared.dialect.Dialect.{Dialect}
use Rattle.lq_base.specs.declared.lexeme.LexemeSort.{LexemeSort}
use Rattle.lq_base.specs.declared.lexeme.LexemeSort.TheVariants.{Name, Text}
use Rattle.lq_marks.specs.Enclosed.{is_enclosed}
use Rattle.lq_sqllex.specs.Pieces.{cut, pieces}

-- the lexemes of a text, one after the other, are the text
abbrev pub LexemesAreTheText : Type 0
LexemesAreTheText = (d : Dialect) (text : List ℕ) (found : List (LexemeSort × List ℕ)) → lexemes d text ≡ Some found → flat_map (λ lexeme. lexeme.1) found ≡ text

-- after a lexeme the reading begins anew
abbrev pub LexemesGoOn : Type 0
LexemesGoOn = (d : Dialect) (bytes rest : List ℕ) → 0 < length bytes → length_at d (bytes ++ rest) ≡ Some (length bytes)
    → lexemes d (bytes ++ rest) ≡ option_map (λ more. (sort_at d (bytes ++ rest), bytes) ∷ more) (lexemes d rest)

-- the pieces with a delimiter between each two
abbrev pub joined : List ℕ → List (List ℕ) → List ℕ
joined delimiter [] = []
joined delimiter (piece ∷ []) = piece
joined delimiter (piece ∷ next ∷ more) = piece ++ (delimiter ++ joined delimiter (next ∷ more))

-- all pieces of a text, with the delimiters between them, are the text
abbrev pub PiecesAreTheText : Type 0
PiecesAreTheText = (d : Dialect) (text delimiter : List ℕ) (found : List (List ℕ)) → 0 < length delimiter → cut d text delimiter ≡ Some found → joined delimiter found ≡ text

-- a text with each quote twice and, where it escapes, each backslash
abbrev pub doubled : Bool → ℕ → List ℕ → List ℕ
doubled escaping quote [] = []
doubled escaping quote (b ∷ rest) =
    if b == quote || (escaping && b == 92) then b ∷ b ∷ doubled escaping quote rest else b ∷ doubled escaping quote rest

-- that in its quotes
abbrev pub in_quotes : Bool → ℕ → List ℕ → List ℕ
in_quotes escaping quote text = quote ∷ (doubled escaping quote text ++ quote ∷ [])

-- such a lexeme is read whole, whatever else than its quote comes after it
abbrev pub IsRead : Dialect → LexemeSort → ℕ → List ℕ → Type 0
IsRead d sort quote lexeme =
    (rest : List ℕ) → (slice_index rest 0 == quote) ≡ false → (sort_at d (lexeme ++ rest) ≡ sort) × (length_at d (lexeme ++ rest) ≡ Some (length lexeme))

-- each text can be written as a string, and as a quoted name
abbrev pub TextsAreRead : Type 0
TextsAreRead = (d : Dialect) (quote : ℕ) (text : List ℕ) → is_text_quote d quote ≡ true → IsRead d Text quote (in_quotes (escapes d) quote text)

abbrev pub NamesAreRead : Type 0
NamesAreRead = (d : Dialect) (quote : ℕ) (text : List ℕ) → is_name_quote d quote ≡ true → IsRead d Name quote (in_quotes false quote text)

-- in postgresql a whole comment inside another is passed over, however many are open
abbrev pub CommentsNest : Type 0
CommentsNest = (open_levels : ℕ) (inner rest : List ℕ) → begins (codes "/*") inner ≡ true → comment_length true inner ≡ Some (length inner)
    → comment_end true (suc open_levels) (inner ++ rest) ≡ after (length inner) (comment_end true (suc open_levels) rest)

-- a piece that is kept is not of blanks and comments alone
abbrev pub PiecesHaveWords : Type 0
PiecesHaveWords = (d : Dialect) (text delimiter : List ℕ) (found : List (List ℕ)) → pieces d text delimiter ≡ Some found → All (λ piece. is_trivia d piece ≡ false) found

-- after a piece and its delimiter the reading begins anew
abbrev pub PiecesGoOn : Type 0
PiecesGoOn = (d : Dialect) (text delimiter piece next : List ℕ) (more : List (List ℕ)) → 0 < length delimiter → cut d text delimiter ≡ Some (piece ∷ next ∷ more)
    → cut d (drop (length piece + length delimiter) text) delimiter ≡ Some (next ∷ more)

-- the place is one of a string, quoted name or comment of the text, its first byte among them
pub record IsInside (d : Dialect) (text : List ℕ) (place : ℕ) : Type 0 where
  pub begin : ℕ
  pub count : ℕ
  pub enclosed : is_enclosed (sort_at d (drop begin text)) ≡ true
  pub closed : length_at d (drop begin text) ≡ Some count
  pub from_begin : begin ≤ place
  pub before_end : place < begin + count

-- where a delimiter stands in the first piece, it begins in a string, quoted name or comment
abbrev pub DelimitersAreInside : Type 0
DelimitersAreInside = (d : Dialect) (text delimiter piece : List ℕ) (more : List (List ℕ)) (place : ℕ) → 0 < length delimiter → cut d text delimiter ≡ Some (piece ∷ more)
    → place < length piece → begins delimiter (drop place text) ≡ true → IsInside d text place
