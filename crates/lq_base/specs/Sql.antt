-- The lexemes of SQL.
use Rattle.std.specs.Char.{is_ascii_alphanumeric, is_ascii_digit}
use Rattle.std.specs.List.{list_all, prefix_len, starts_with}
use Rattle.std.specs.Option.{option_map_or}
use Rattle.std.specs.Prelude.{Bool, List, None, Option, Some, [], codes, drop, false, if◌then◌else◌, not, option_and_then, option_map, slice_index, suc, take, true, zero, ℕ, ◌&&◌, ◌+◌, ◌-◌, ◌==◌, ◌||◌, ◌∷◌}
use Rattle.lq_base.specs.declared.dialect.Dialect.{Dialect}
use Rattle.lq_base.specs.declared.dialect.Dialect.TheVariants.{Mysql, Postgresql}
use Rattle.lq_base.specs.declared.lexeme.LexemeSort.{LexemeSort}
use Rattle.lq_base.specs.declared.lexeme.LexemeSort.TheVariants.{Blank, BlockComment, LineComment, Mark, Name, Number, Text, Word}

-- Which bytes make what, in each dialect.

-- a space, tab, carriage return or line feed
abbrev pub is_blank : ℕ → Bool
is_blank byte = (byte == 32 || byte == 9) || (byte == 13 || byte == 10)

abbrev pub is_line_feed : ℕ → Bool
is_line_feed byte = byte == 10

-- an ASCII letter, a digit or `_`
abbrev pub is_word_byte : ℕ → Bool
is_word_byte byte = is_ascii_alphanumeric byte || byte == 95

-- what a number goes on with: the bytes of words, and `.`
abbrev pub is_number_byte : ℕ → Bool
is_number_byte byte = is_word_byte byte || byte == 46

-- a string stands in `'`, in mysql also in `"`
abbrev pub is_text_quote : Dialect → ℕ → Bool
is_text_quote Postgresql byte = byte == 39
is_text_quote Mysql byte = byte == 39 || byte == 34

-- a quoted name stands in `"`, in mysql in a grave accent
abbrev pub is_name_quote : Dialect → ℕ → Bool
is_name_quote Postgresql byte = byte == 34
is_name_quote Mysql byte = byte == 96

-- in a string of mysql a backslash and the byte after it stand together
abbrev pub escapes : Dialect → Bool
escapes Postgresql = false
escapes Mysql = true

-- in postgresql a comment may stand in a comment
abbrev pub nests : Dialect → Bool
nests Postgresql = true
nests Mysql = false

-- the text begins with the mark
abbrev pub begins : List ℕ → List ℕ → Bool
begins mark text = starts_with ◌==◌ text mark

-- How far a string or a quoted name goes.

-- so many bytes, and then those
abbrev pub after : ℕ → Option ℕ → Option ℕ
after count more = option_map (λ n. count + n) more

-- two bytes inside the quotes that stand together: a doubled quote, or a backslash, where it escapes, and the byte after it
abbrev pub is_pair : Bool → ℕ → ℕ → ℕ → Bool
is_pair escaping quote first second = (first == quote && second == quote) || (escaping && first == 92)

-- How many bytes follow the opening quote: up to the first quote that is in no such pair. None where there is no such quote.
abbrev pub quoted_end : Bool → ℕ → List ℕ → Option ℕ
quoted_end escaping quote [] = None
quoted_end escaping quote (b ∷ []) = if b == quote then Some 1 else None
quoted_end escaping quote (b ∷ c ∷ rest) =
    if is_pair escaping quote b c then after 2 (quoted_end escaping quote rest)
    else (if b == quote then Some 1 else after 1 (quoted_end escaping quote (c ∷ rest)))

-- of a text that begins with the opening quote
abbrev pub quoted_length : Bool → List ℕ → Option ℕ
quoted_length escaping text = after 1 (quoted_end escaping (slice_index text 0) (drop 1 text))

-- Where a comment begins, and how far one in `/* */` goes.

-- `--`; in mysql `--` before a blank, and `#`
abbrev pub begins_line_comment : Dialect → List ℕ → Bool
begins_line_comment Postgresql text = begins (codes "--") text
begins_line_comment Mysql text = (begins (codes "--") text && is_blank (slice_index text 2)) || begins (codes "#") text

-- `/*`; in mysql not `/*!`, whose inside is SQL there
abbrev pub begins_block_comment : Dialect → List ℕ → Bool
begins_block_comment Postgresql text = begins (codes "/*") text
begins_block_comment Mysql text = begins (codes "/*") text && not (begins (codes "/*!") text)

-- `*/`
abbrev pub closes : ℕ → ℕ → Bool
closes first second = first == 42 && second == 47

-- `/*`, where comments nest
abbrev pub opens : Bool → ℕ → ℕ → Bool
opens nesting first second = nesting && (first == 47 && second == 42)

-- How many bytes are left of comments of which so many stand in one another, up to the end of the outermost: each `*/` closes one,
-- and each `/*` opens one, where they nest. None where they are not all closed.
abbrev pub comment_end : Bool → ℕ → List ℕ → Option ℕ
comment_end nesting zero text = Some 0
comment_end nesting (suc levels) [] = None
comment_end nesting (suc levels) (b ∷ []) = None
comment_end nesting (suc levels) (b ∷ c ∷ rest) =
    if closes b c then after 2 (comment_end nesting levels rest)
    else (if opens nesting b c then after 2 (comment_end nesting (suc (suc levels)) rest)
    else after 1 (comment_end nesting (suc levels) (c ∷ rest)))

-- of a text that begins with `/*`
abbrev pub comment_length : Bool → List ℕ → Option ℕ
comment_length nesting text = after 2 (comment_end nesting 1 (drop 2 text))

-- A text taken apart from its front.

-- The units of a text, where `front` tells what unit is at the front of a text and how many bytes it has, if there is one.
-- The first bytes, as many as have begun, belong to a unit before these.
abbrev pub units : {A : Type 0} → (List ℕ → Option (A × ℕ)) → ℕ → List ℕ → Option (List (A × List ℕ))
units front begun [] = Some []
units front (suc begun) (b ∷ rest) = units front begun rest
units front zero (b ∷ rest) =
    option_and_then (λ unit. option_map (λ more. (unit.0, take unit.1 (b ∷ rest)) ∷ more) (units front (unit.1 - 1) rest)) (front (b ∷ rest))

-- The lexemes of SQL: what stands at the front of a text, told by its first bytes, and how far it goes.

-- a digit, or `-` directly before one
abbrev pub begins_number : ℕ → ℕ → Bool
begins_number first second = is_ascii_digit first || (first == 45 && is_ascii_digit second)

-- the sort of what begins with these two bytes and is no comment
abbrev pub plain_sort : Dialect → ℕ → ℕ → LexemeSort
plain_sort d first second =
    if is_text_quote d first then Text else (if is_name_quote d first then Name
    else (if is_blank first then Blank else (if begins_number first second then Number
    else (if is_word_byte first then Word else Mark))))

-- the sort of the lexeme at the front of a text
abbrev pub sort_at : Dialect → List ℕ → LexemeSort
sort_at d text =
    if begins_line_comment d text then LineComment else (if begins_block_comment d text then BlockComment
    else plain_sort d (slice_index text 0) (slice_index text 1))

-- a mark of two bytes, or else of one
abbrev pub mark_length : List ℕ → ℕ
mark_length text =
    if (begins (codes "<=") text || begins (codes ">=") text) || (begins (codes "<>") text || begins (codes "!=") text) then 2 else 1

-- a lexeme of this sort is a run of bytes and goes on with this one; those of the other sorts are no runs
abbrev pub goes_on : LexemeSort → ℕ → Bool
goes_on Blank byte = is_blank byte
goes_on LineComment byte = not (is_line_feed byte)
goes_on Number byte = is_number_byte byte
goes_on Word byte = is_word_byte byte
goes_on _ byte = false

-- how many bytes the lexeme of this sort at the front of a text has; none where it is not closed
abbrev pub length_of : Dialect → LexemeSort → List ℕ → Option ℕ
length_of d BlockComment text = comment_length (nests d) text
length_of d Name text = quoted_length false text
length_of d Text text = quoted_length (escapes d) text
length_of d Mark text = Some (mark_length text)
length_of d sort text = Some (1 + prefix_len (goes_on sort) (drop 1 text))

unfoldable pub length_at : Dialect → List ℕ → Option ℕ
length_at d text = length_of d (sort_at d text) text

-- the lexeme at the front of a text: its sort and its number of bytes
abbrev pub lexeme_at : Dialect → List ℕ → Option (LexemeSort × ℕ)
lexeme_at d text = option_map (λ n. (sort_at d text, n)) (length_at d text)

-- the lexemes of a text; none where a string, quoted name or comment is not closed
unfoldable pub lexemes : Dialect → List ℕ → Option (List (LexemeSort × List ℕ))
lexemes d text = units (lexeme_at d) 0 text

-- what stands between words: blanks and comments
abbrev pub is_trivia_sort : LexemeSort → Bool
is_trivia_sort Blank = true
is_trivia_sort LineComment = true
is_trivia_sort BlockComment = true
is_trivia_sort _ = false

-- a text of blanks and comments alone, or of nothing
unfoldable pub is_trivia : Dialect → List ℕ → Bool
is_trivia d text = option_map_or (list_all (λ lexeme. is_trivia_sort lexeme.0)) (lexemes d text) false
