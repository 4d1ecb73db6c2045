-- What holds of the meanings of SQL texts.
use Rattle.std.specs.Char.{to_ascii_lowercase}
use Rattle.std.specs.List.{list_any}
use Rattle.std.specs.Prelude.{All, List, Some, [], codes, false, filter, if◌then◌else◌, map, not, option_map, slice_index, true, ℕ, ◌++◌, ◌==◌, ◌∷◌, ◌≡◌}
use Rattle.std.specs.Str.{bytes_eq, str_eq_ignore_ascii_case}
use Rattle.lq_base.specs.Sql.{escapes, is_name_quote, is_text_quote, is_trivia_sort, lexemes}
use Rattle.lq_base.specs.declared.dialect.Dialect.{Dialect}
use Rattle.lq_base.specs.declared.dialect.Dialect.TheVariants.{Mysql, Postgresql}
use Rattle.lq_base.specs.declared.lexeme.LexemeSort.{LexemeSort}
use Rattle.lq_base.specs.declared.lexeme.LexemeSort.TheVariants as sort
use Rattle.lq_model.specs.SqlParser.{expect, same_kind, sees}
use Rattle.lq_model.specs.SqlPart.{name}
use Rattle.lq_model.specs.SqlQuery.{query}
use Rattle.lq_model.specs.SqlText.{query_in, test_in}
use Rattle.lq_model.specs.SqlWord.{bare, folded, kind_of_word, may_be_name, with_text, words, words_of}
use Rattle.lq_model.specs.Step.{is_query, is_where}
use Rattle.lq_model.specs.TestText.{query_text, test_text}
use Rattle.lq_model.specs.declared.query.Query.{Query}
use Rattle.lq_model.specs.declared.test.Test.{And, Not, Or, Test}
use Rattle.lq_model.specs.declared.word.Word.{Word}
use Rattle.lq_model.specs.declared.word.WordKind.{WordKind}
use Rattle.lq_model.specs.declared.word.WordKind.TheVariants as word
use Rattle.lq_sqllex.specs.Laws.{doubled, in_quotes, joined}

-- a test that can be written is read from its text
abbrev pub TestsReadBack : Type 0
TestsReadBack = (d : Dialect) (t : Test) → is_where (Some t) ≡ true → test_in d (test_text d t) ≡ Some t

-- so is a query
abbrev pub QueriesReadBack : Type 0
QueriesReadBack = (d : Dialect) (q : Query) → is_query d q ≡ true → query_in d (query_text d q) ≡ Some q

-- a test that is read can be written
abbrev pub TestsCanBeWritten : Type 0
TestsCanBeWritten = (d : Dialect) (text : List ℕ) (t : Test) → test_in d text ≡ Some t → is_where (Some t) ≡ true

-- so can a query
abbrev pub QueriesCanBeWritten : Type 0
QueriesCanBeWritten = (d : Dialect) (text : List ℕ) (q : Query) → query_in d text ≡ Some q → is_query d q ≡ true

-- the lexemes without blanks and comments
abbrev pub without_trivia : List (LexemeSort × List ℕ) → List (LexemeSort × List ℕ)
without_trivia = filter (λ lexeme. not (is_trivia_sort lexeme.0))

-- other blanks and comments between the words change nothing
abbrev pub BlanksChangeNothing : Type 0
BlanksChangeNothing = (d : Dialect) (a b : List ℕ) (found other : List (LexemeSort × List ℕ)) → lexemes d a ≡ Some found → lexemes d b ≡ Some other
    → without_trivia found ≡ without_trivia other → (test_in d a ≡ test_in d b) × (query_in d a ≡ query_in d b)

-- nothing counts but the words: where they are the same, so are the query and, in whichever dialects, the test
abbrev pub WordsAreTheMeaning : Type 0
WordsAreTheMeaning =
    ((d e : Dialect) (a b : List ℕ) → words d a ≡ words e b → test_in d a ≡ test_in e b)
    × ((d : Dialect) (a b : List ℕ) → words d a ≡ words d b → query_in d a ≡ query_in d b)

-- each text in a quote of strings, which is doubled inside, in mysql as a backslash is, is that one string, whatever else than the quote comes after it
abbrev pub StringsAreOneWord : Type 0
StringsAreOneWord = (d : Dialect) (quote : ℕ) (text rest : List ℕ) → is_text_quote d quote ≡ true → (slice_index rest 0 == quote) ≡ false
    → words d (in_quotes (escapes d) quote text ++ rest) ≡ option_map (λ more. with_text word.Text text ∷ more) (words d rest)

-- likewise each name in the quote of names
abbrev pub QuotedNamesAreOneWord : Type 0
QuotedNamesAreOneWord = (d : Dialect) (quote : ℕ) (name rest : List ℕ) → is_name_quote d quote ≡ true → (slice_index rest 0 == quote) ≡ false
    → words d (in_quotes false quote name ++ rest) ≡ option_map (λ more. with_text word.Quoted name ∷ more) (words d rest)

-- what a backslash and a character stand for in a string of mysql: MySQL's manual, 9.1.1
abbrev pub escape_meanings : List (List ℕ × List ℕ)
escape_meanings =
    (codes "\\0", 0 ∷ []) ∷ (codes "\\n", 10 ∷ []) ∷ (codes "\\t", 9 ∷ []) ∷ (codes "\\r", 13 ∷ []) ∷ (codes "\\b", 8 ∷ []) ∷ (codes "\\Z", 26 ∷ [])
    ∷ (codes "\\%", codes "\\%") ∷ (codes "\\_", codes "\\_") ∷ []

-- in a string of mysql, between any two texts, these bytes stand for that text
abbrev pub StandsFor : List ℕ → List ℕ → Type 0
StandsFor bytes meant = (quote : ℕ) (front back rest : List ℕ) → is_text_quote Mysql quote ≡ true → (slice_index rest 0 == quote) ≡ false
    → words Mysql ((quote ∷ (doubled true quote front ++ (bytes ++ (doubled true quote back ++ quote ∷ [])))) ++ rest)
    ≡ option_map (λ more. with_text word.Text (front ++ (meant ++ back)) ∷ more) (words Mysql rest)

abbrev pub EscapesAreRead : Type 0
EscapesAreRead = All (λ escape. StandsFor escape.0 escape.1) escape_meanings

-- before any other character a backslash says nothing
abbrev pub OtherBackslashesFallAway : Type 0
OtherBackslashesFallAway = (byte : ℕ) → list_any (λ c. byte == c) (codes "0ntrbZ%_") ≡ false → StandsFor (92 ∷ byte ∷ []) (byte ∷ [])

-- a word of the statements is the same one in any ASCII case
abbrev pub CaseChangesNothing : Type 0
CaseChangesNothing = (other : WordKind) (a b : List ℕ) → str_eq_ignore_ascii_case a b ≡ true → kind_of_word other a ≡ kind_of_word other b

-- so a reserved word is read alike in any case
abbrev pub ReservedWordsInAnyCase : Type 0
ReservedWordsInAnyCase = (d : Dialect) (a b : List ℕ) → str_eq_ignore_ascii_case a b ≡ true → may_be_name (kind_of_word word.Plain a) ≡ false → words_of d sort.Word a ≡ words_of d sort.Word b

-- and in postgresql each unquoted word
abbrev pub WordsInAnyCase : Type 0
WordsInAnyCase = (a b : List ℕ) → str_eq_ignore_ascii_case a b ≡ true → words_of Postgresql sort.Word a ≡ words_of Postgresql sort.Word b

-- where the grammar asks for a word of the statements, each unquoted word is taken alike in any case
abbrev pub KeywordsInAnyCase : Type 0
KeywordsInAnyCase = (d : Dialect) (k : WordKind) (a b : List ℕ) (rest : List Word) → str_eq_ignore_ascii_case a b ≡ true
    → (sees k (words_of d sort.Word a ++ rest) ≡ sees k (words_of d sort.Word b ++ rest)) × (expect k (words_of d sort.Word a ++ rest) ≡ expect k (words_of d sort.Word b ++ rest))

-- so COUNT is the count in any case, where `(` follows it after SELECT
abbrev pub CountInAnyCase : Type 0
CountInAnyCase = (d : Dialect) (a : List ℕ) (rest : List Word) → str_eq_ignore_ascii_case a (codes "COUNT") ≡ true
    → query d (bare word.Select ∷ (words_of d sort.Word a ++ (bare word.Open ∷ rest))) ≡ query d (bare word.Select ∷ (words_of d sort.Word (codes "COUNT") ++ (bare word.Open ∷ rest)))

-- `!=` and `<>` are one mark
abbrev pub UnequalIsOneMark : Type 0
UnequalIsOneMark = kind_of_word word.Unknown (codes "!=") ≡ kind_of_word word.Unknown (codes "<>")

-- a word that may be a name is read as that name in quotes
abbrev pub NamesNeedNoQuotes : Type 0
NamesNeedNoQuotes = (kind : WordKind) (said : List ℕ) (rest : List Word) → may_be_name kind ≡ true → name (with_text kind said ∷ rest) ≡ name (with_text word.Quoted said ∷ rest)

-- a word that may be a name, as that name in its quotes
abbrev pub in_its_quotes : Word → Word
in_its_quotes said = if may_be_name said.kind then with_text word.Quoted said.text else said

-- so in a test each name may stand in its quotes or without
abbrev pub QuotesChangeNoTest : Type 0
QuotesChangeNoTest = (d e : Dialect) (a b : List ℕ) → option_map (map in_its_quotes) (words d a) ≡ option_map (map in_its_quotes) (words e b) → test_in d a ≡ test_in e b

-- COUNT stays what it is, since it may be the count
abbrev pub but_count : Word → Word
but_count said = if same_kind said.kind word.Count then said else in_its_quotes said

-- likewise in a query, but for COUNT
abbrev pub QuotesChangeNoQuery : Type 0
QuotesChangeNoQuery = (d : Dialect) (a b : List ℕ) → option_map (map but_count) (words d a) ≡ option_map (map but_count) (words d b) → query_in d a ≡ query_in d b

-- a lexeme in its plain spelling: reserved words in small letters, in postgresql all unquoted words, and `<>` for `!=`
abbrev pub plain_bytes : Dialect → LexemeSort → List ℕ → List ℕ
plain_bytes d sort.Word bytes = if may_be_name (kind_of_word word.Plain bytes) then folded d bytes else map to_ascii_lowercase bytes
plain_bytes d sort.Mark bytes = if bytes_eq bytes (codes "!=") then codes "<>" else bytes
plain_bytes d _ bytes = bytes

abbrev pub plain : Dialect → LexemeSort × List ℕ → LexemeSort × List ℕ
plain d lexeme = (lexeme.0, plain_bytes d lexeme.0 lexeme.1)

-- texts that are the same in the plain spelling, but for blanks and comments, have one meaning
abbrev pub SpellingsChangeNothing : Type 0
SpellingsChangeNothing = (d : Dialect) (a b : List ℕ) (found other : List (LexemeSort × List ℕ)) → lexemes d a ≡ Some found → lexemes d b ≡ Some other
    → map (plain d) (without_trivia found) ≡ map (plain d) (without_trivia other) → (test_in d a ≡ test_in d b) × (query_in d a ≡ query_in d b)

-- texts with a blank between each two
abbrev pub spaced : List (List ℕ) → List ℕ
spaced = joined (codes " ")

-- the text is read as the test, where that can be written
abbrev pub IsReadAs : Dialect → List ℕ → Test → Type 0
IsReadAs d text t = is_where (Some t) ≡ true → test_in d text ≡ Some t

-- without parentheses NOT binds tighter than AND, AND tighter than OR, and AND and OR to the left
abbrev pub NotAndOrBindInTurn : Type 0
NotAndOrBindInTurn = (d : Dialect) (a b c : Test) →
    IsReadAs d (spaced (codes "NOT" ∷ test_text d a ∷ codes "AND" ∷ test_text d b ∷ [])) (And (Not a) b)
    × IsReadAs d (spaced (codes "NOT" ∷ test_text d a ∷ codes "OR" ∷ test_text d b ∷ [])) (Or (Not a) b)
    × IsReadAs d (spaced (test_text d a ∷ codes "AND" ∷ test_text d b ∷ codes "OR" ∷ test_text d c ∷ [])) (Or (And a b) c)
    × IsReadAs d (spaced (test_text d a ∷ codes "OR" ∷ test_text d b ∷ codes "AND" ∷ test_text d c ∷ [])) (Or a (And b c))
    × IsReadAs d (spaced (test_text d a ∷ codes "AND" ∷ test_text d b ∷ codes "AND" ∷ test_text d c ∷ [])) (And (And a b) c)
    × IsReadAs d (spaced (test_text d a ∷ codes "OR" ∷ test_text d b ∷ codes "OR" ∷ test_text d c ∷ [])) (Or (Or a b) c)
