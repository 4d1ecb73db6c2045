-- The words of an SQL text: its lexemes without blanks and comments, each as what it means.
use Rattle.std.specs.Char.{to_ascii_lowercase}
use Rattle.std.specs.List.{flat_map}
use Rattle.std.specs.Prelude.{Bool, List, Option, [], drop, false, if◌then◌else◌, map, option_map, slice_index, true, ℕ, ◌++◌, ◌==◌, ◌||◌, ◌∷◌}
use Rattle.std.specs.Str.{str_eq_ignore_ascii_case}
use Rattle.lq_base.specs.Sql.{escapes, is_pair, lexemes}
use Rattle.lq_base.specs.declared.dialect.Dialect.{Dialect}
use Rattle.lq_base.specs.declared.dialect.Dialect.TheVariants.{Mysql, Postgresql}
use Rattle.lq_base.specs.declared.lexeme.LexemeSort.{LexemeSort}
use Rattle.lq_base.specs.declared.lexeme.LexemeSort.TheVariants as sort
use Rattle.lq_model.specs.declared.word.TheConstants.{SPELLINGS}
use Rattle.lq_model.specs.declared.word.Word.{Word}
use Rattle.lq_model.specs.declared.word.WordKind.{WordKind}
use Rattle.lq_model.specs.declared.word.WordKind.TheVariants as word

-- the kind of what is spelled so, in any ASCII case, or else another
abbrev pub kind_in : List (List ℕ × WordKind) → WordKind → List ℕ → WordKind
kind_in [] other bytes = other
kind_in (spelling ∷ spellings) other bytes = if str_eq_ignore_ascii_case spelling.0 bytes then spelling.1 else kind_in spellings other bytes

unfoldable pub kind_of_word : WordKind → List ℕ → WordKind
kind_of_word = kind_in (map (λ spelling. (spelling.0.now, spelling.1)) SPELLINGS)

-- a name in quotes, and a word that is no reserved word
abbrev pub may_be_name : WordKind → Bool
may_be_name word.Quoted = true
may_be_name word.Plain = true
may_be_name word.Action = true
may_be_name word.AutoIncrement = true
may_be_name word.By = true
may_be_name word.Cascade = true
may_be_name word.Count = true
may_be_name word.Generated = true
may_be_name word.Identity = true
may_be_name word.Increment = true
may_be_name word.Index = true
may_be_name word.Key = true
may_be_name word.Modify = true
may_be_name word.No = true
may_be_name word.Rename = true
may_be_name word.Replace = true
may_be_name word.Restrict = true
may_be_name word.Sequence = true
may_be_name word.Start = true
may_be_name word.View = true
may_be_name word.With = true
may_be_name _ = false

-- an unquoted name stands for one in lower case in postgresql
abbrev pub folded : Dialect → List ℕ → List ℕ
folded Postgresql bytes = map to_ascii_lowercase bytes
folded Mysql bytes = bytes

abbrev pub with_text : WordKind → List ℕ → Word
with_text kind text = record { kind = kind; text = text }

-- a word that is the same however it is spelled
abbrev pub bare : WordKind → Word
bare kind = with_text kind []

abbrev pub unquoted_word : WordKind → List ℕ → Word
unquoted_word kind name = if may_be_name kind then with_text kind name else bare kind

-- the character that a backslash and this byte stand for: MySQL's manual, 9.1.1
abbrev pub escaped : ℕ → ℕ
escaped byte =
    if byte == 48 then 0 else (if byte == 110 then 10 else (if byte == 116 then 9
    else (if byte == 114 then 13 else (if byte == 98 then 8 else (if byte == 90 then 26 else byte)))))

-- what two bytes stand for that stand together: a doubled quote is one quote, and `\%` and `\_` keep the backslash
abbrev pub pair_text : ℕ → ℕ → List ℕ
pair_text first second =
    if first == 92 then (if second == 37 || second == 95 then first ∷ second ∷ [] else escaped second ∷ []) else first ∷ []

-- the text of what follows an opening quote, up to the closing one, which is the last byte
abbrev pub inside : Bool → ℕ → List ℕ → List ℕ
inside escaping quote [] = []
inside escaping quote (b ∷ []) = []
inside escaping quote (b ∷ c ∷ rest) =
    if is_pair escaping quote b c then pair_text b c ++ inside escaping quote rest else b ∷ inside escaping quote (c ∷ rest)

unfoldable pub unquoted : Bool → List ℕ → List ℕ
unquoted escaping bytes = inside escaping (slice_index bytes 0) (drop 1 bytes)

-- the word that a lexeme is; blanks and comments are none
abbrev pub words_of : Dialect → LexemeSort → List ℕ → List Word
words_of d sort.Name bytes = with_text word.Quoted (unquoted false bytes) ∷ []
words_of d sort.Text bytes = with_text word.Text (unquoted (escapes d) bytes) ∷ []
words_of d sort.Number bytes = with_text word.Number bytes ∷ []
words_of d sort.Word bytes = unquoted_word (kind_of_word word.Plain bytes) (folded d bytes) ∷ []
words_of d sort.Mark bytes = bare (kind_of_word word.Unknown bytes) ∷ []
words_of d _ bytes = []

-- none where a string, quoted name or comment is not closed
unfoldable pub words : Dialect → List ℕ → Option (List Word)
words d text = option_map (flat_map (λ lexeme. words_of d lexeme.0 lexeme.1)) (lexemes d text)
