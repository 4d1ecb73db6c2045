-- What changes nothing in what a text means.
use Rattle.std.proofs.Common.{◌≡◌, ℕ, Bool, true, false, if◌then◌else◌, List, [], ◌∷◌, ◌++◌, map, Some, None, option_map, cond, ap, ◌∙◌, sym, refl}
use Rattle.std.specs.Char.{to_ascii_lowercase}
use Rattle.std.specs.List.{flat_map}
use Rattle.std.specs.Prelude.{codes}
use Rattle.std.specs.Str.{bytes_eq, str_eq_ignore_ascii_case, str_to_ascii_lowercase}
use Rattle.std.proofs.lemmas.Slice.Eq.{bytes_eq-Decides}
use Rattle.std.proofs.lemmas.Str.Ascii.{lowercase-lowercase}
use Rattle.lq_base.specs.Sql.{lexemes}
use Rattle.lq_base.specs.declared.dialect.Dialect.{Dialect}
use Rattle.lq_base.specs.declared.dialect.Dialect.TheVariants.{Mysql, Postgresql}
use Rattle.lq_base.specs.declared.lexeme.LexemeSort.{LexemeSort}
use Rattle.lq_base.specs.declared.lexeme.LexemeSort.TheVariants as sort
use Rattle.lq_model.specs.SqlParser.{after, expect, same_kind, sees}
use Rattle.lq_model.specs.SqlPart.{name}
use Rattle.lq_model.specs.SqlQuery.{count, query, sees_count, selected}
use Rattle.lq_model.specs.SqlText.{query_in, test_in}
use Rattle.lq_model.specs.SqlWord.{bare, folded, kind_in, kind_of_word, may_be_name, unquoted_word, with_text, words, words_of}
use Rattle.lq_model.specs.declared.word.TheConstants.{SPELLINGS}
use Rattle.lq_model.specs.declared.word.Word.{Word}
use Rattle.lq_model.specs.declared.word.WordKind.{WordKind}
use Rattle.lq_model.specs.declared.word.WordKind.TheVariants as word
use Rattle.lq_parse.specs.Laws.{BlanksChangeNothing, CaseChangesNothing, CountInAnyCase, KeywordsInAnyCase, NamesNeedNoQuotes, ReservedWordsInAnyCase, SpellingsChangeNothing, UnequalIsOneMark, WordsAreTheMeaning, WordsInAnyCase, plain, plain_bytes, without_trivia}

abbrev all_words : Dialect → List (LexemeSort × List ℕ) → List Word
all_words d = flat_map (λ lexeme. words_of d lexeme.0 lexeme.1)

kept_by : (d : Dialect) (s : LexemeSort) (bytes : List ℕ) (more : List (LexemeSort × List ℕ)) → all_words d more ≡ all_words d (without_trivia more)
    → all_words d ((s, bytes) ∷ more) ≡ all_words d (without_trivia ((s, bytes) ∷ more))
kept_by d sort.Blank bytes more same = same
kept_by d sort.LineComment bytes more same = same
kept_by d sort.BlockComment bytes more same = same
kept_by d sort.Name bytes more same = ap (λ ws. words_of d sort.Name bytes ++ ws) same
kept_by d sort.Text bytes more same = ap (λ ws. words_of d sort.Text bytes ++ ws) same
kept_by d sort.Number bytes more same = ap (λ ws. words_of d sort.Number bytes ++ ws) same
kept_by d sort.Word bytes more same = ap (λ ws. words_of d sort.Word bytes ++ ws) same
kept_by d sort.Mark bytes more same = ap (λ ws. words_of d sort.Mark bytes ++ ws) same

kept_same : (d : Dialect) (found : List (LexemeSort × List ℕ)) → all_words d found ≡ all_words d (without_trivia found)
kept_same d [] = refl
kept_same d (lexeme ∷ more) = kept_by d lexeme.0 lexeme.1 more (kept_same d more)

pub words_same : (d : Dialect) (a b : List ℕ) (found other : List (LexemeSort × List ℕ)) → lexemes d a ≡ Some found → lexemes d b ≡ Some other
    → without_trivia found ≡ without_trivia other → words d a ≡ words d b
unfolding words
words_same d a b found other is_a is_b same =
    ap (option_map (all_words d)) is_a
    ∙ ap (λ ws. Some ws) (kept_same d found ∙ ap (all_words d) same ∙ sym (kept_same d other))
    ∙ sym (ap (option_map (all_words d)) is_b)

pub words_are_the_meaning : WordsAreTheMeaning
unfolding test_in query_in
words_are_the_meaning = (λ d e a b same. rw same refl, λ d a b same. rw same refl)

pub blanks_change_nothing : BlanksChangeNothing
blanks_change_nothing d a b found other is_a is_b same =
    let alike = words_same d a b found other is_a is_b same in
    (words_are_the_meaning.0 d d a b alike, words_are_the_meaning.1 d a b alike)

-- the kind depends on the word in small letters alone
kind_by : (spellings : List (List ℕ × WordKind)) (other : WordKind) (a b : List ℕ) → str_to_ascii_lowercase a ≡ str_to_ascii_lowercase b → kind_in spellings other a ≡ kind_in spellings other b
kind_by [] other a b same = refl
kind_by (spelling ∷ more) other a b same =
    ap (λ low. cond (bytes_eq (str_to_ascii_lowercase spelling.0) low) spelling.1 (kind_in more other a)) same
    ∙ ap (cond (str_eq_ignore_ascii_case spelling.0 b) spelling.1) (kind_by more other a b same)

pub case_changes_nothing : CaseChangesNothing
unfolding kind_of_word
case_changes_nothing other a b same = kind_by (map (λ spelling. (spelling.0.now, spelling.1)) SPELLINGS) other a b ((bytes_eq-Decides (str_to_ascii_lowercase a) (str_to_ascii_lowercase b)).0 same)

bare_by : (k : WordKind) (first other : List ℕ) → may_be_name k ≡ false → unquoted_word k first ≡ unquoted_word k other
bare_by k first other reserved = rw reserved refl

pub reserved_words_in_any_case : ReservedWordsInAnyCase
reserved_words_in_any_case d a b same reserved =
    ap (λ w. w ∷ []) (bare_by (kind_of_word word.Plain a) (folded d a) (folded d b) reserved ∙ ap (λ k. unquoted_word k (folded d b)) (case_changes_nothing word.Plain a b same))

pub words_in_any_case : WordsInAnyCase
words_in_any_case a b same =
    ap (λ w. w ∷ [])
    (ap (λ k. unquoted_word k (folded Postgresql a)) (case_changes_nothing word.Plain a b same)
    ∙ ap (unquoted_word (kind_of_word word.Plain b)) ((bytes_eq-Decides (str_to_ascii_lowercase a) (str_to_ascii_lowercase b)).0 same))

pub unequal_is_one_mark : UnequalIsOneMark
unfolding kind_of_word
unequal_is_one_mark = refl

pub names_need_no_quotes : NamesNeedNoQuotes
unfolding name
names_need_no_quotes kind said rest is = rw is refl

-- an unquoted word is of its kind, whether or not it may be a name
kind_is : (k : WordKind) (name : List ℕ) → (unquoted_word k name).kind ≡ k
kind_is k name =
    by (may_be_name k)
  where
    by : (can : Bool) → (if can then with_text k name else bare k).kind ≡ k
    by true = refl
    by false = refl

pub keywords_in_any_case : KeywordsInAnyCase
unfolding sees expect
keywords_in_any_case d k a b rest same =
    let alike : (unquoted_word (kind_of_word word.Plain a) (folded d a)).kind ≡ (unquoted_word (kind_of_word word.Plain b) (folded d b)).kind =
    kind_is (kind_of_word word.Plain a) (folded d a) ∙ case_changes_nothing word.Plain a b same ∙ sym (kind_is (kind_of_word word.Plain b) (folded d b)) in
    (ap (λ found. same_kind found k) alike, ap (λ found. if same_kind found k then Some (tt, rest) else None) alike)

counts_same : (d : Dialect) (a b : List ℕ) (rest : List Word) → query d (bare word.Select ∷ with_text word.Count a ∷ bare word.Open ∷ rest) ≡ query d (bare word.Select ∷ with_text word.Count b ∷ bare word.Open ∷ rest)
unfolding query selected sees_count count sees after expect same_kind
counts_same d a b rest = refl

count_word : kind_of_word word.Plain (codes "COUNT") ≡ word.Count
unfolding kind_of_word
count_word = refl

count_by : (d : Dialect) (a : List ℕ) (rest : List Word) → kind_of_word word.Plain a ≡ word.Count
    → query d (bare word.Select ∷ (words_of d sort.Word a ++ (bare word.Open ∷ rest))) ≡ query d (bare word.Select ∷ with_text word.Count (folded d a) ∷ bare word.Open ∷ rest)
count_by d a rest is = ap (λ k. query d (bare word.Select ∷ unquoted_word k (folded d a) ∷ bare word.Open ∷ rest)) is

pub count_in_any_case : CountInAnyCase
count_in_any_case d a rest same =
    count_by d a rest (case_changes_nothing word.Plain a (codes "COUNT") same ∙ count_word)
    ∙ counts_same d (folded d a) (folded d (codes "COUNT")) rest
    ∙ sym (count_by d (codes "COUNT") rest count_word)

-- the plain spelling has the same words

small_twice : (bytes : List ℕ) → map to_ascii_lowercase (map to_ascii_lowercase bytes) ≡ map to_ascii_lowercase bytes
small_twice [] = refl
small_twice (b ∷ bytes) = rw (lowercase-lowercase b, small_twice bytes) refl

small_same : (bytes : List ℕ) → str_eq_ignore_ascii_case bytes (map to_ascii_lowercase bytes) ≡ true
small_same bytes = (bytes_eq-Decides (str_to_ascii_lowercase bytes) (str_to_ascii_lowercase (map to_ascii_lowercase bytes))).1 (sym (small_twice bytes))

plain_word : (d : Dialect) (bytes : List ℕ) (can : Bool) → may_be_name (kind_of_word word.Plain bytes) ≡ can
    → words_of d sort.Word bytes ≡ words_of d sort.Word (if can then folded d bytes else map to_ascii_lowercase bytes)
plain_word Postgresql bytes true is = words_in_any_case bytes (map to_ascii_lowercase bytes) (small_same bytes)
plain_word Mysql bytes true is = refl
plain_word d bytes false is = reserved_words_in_any_case d bytes (map to_ascii_lowercase bytes) (small_same bytes) is

plain_mark : (d : Dialect) (bytes : List ℕ) (unequal : Bool) → bytes_eq bytes (codes "!=") ≡ unequal → words_of d sort.Mark bytes ≡ words_of d sort.Mark (if unequal then codes "<>" else bytes)
plain_mark d bytes true is =
    ap (λ found. words_of d sort.Mark found) ((bytes_eq-Decides bytes (codes "!=")).0 is) ∙ ap (λ k. bare k ∷ []) unequal_is_one_mark
plain_mark d bytes false is = refl

plain_same : (d : Dialect) (s : LexemeSort) (bytes : List ℕ) → words_of d s bytes ≡ words_of d s (plain_bytes d s bytes)
plain_same d sort.Word bytes = plain_word d bytes (may_be_name (kind_of_word word.Plain bytes)) refl
plain_same d sort.Mark bytes = plain_mark d bytes (bytes_eq bytes (codes "!=")) refl
plain_same d sort.Blank bytes = refl
plain_same d sort.LineComment bytes = refl
plain_same d sort.BlockComment bytes = refl
plain_same d sort.Name bytes = refl
plain_same d sort.Text bytes = refl
plain_same d sort.Number bytes = refl

all_plain : (d : Dialect) (found : List (LexemeSort × List ℕ)) → all_words d found ≡ all_words d (map (plain d) found)
all_plain d [] = refl
all_plain d (lexeme ∷ more) =
    ap (λ ws. ws ++ all_words d more) (plain_same d lexeme.0 lexeme.1) ∙ ap (λ ws. words_of d lexeme.0 (plain_bytes d lexeme.0 lexeme.1) ++ ws) (all_plain d more)

pub spelled_same : (d : Dialect) (a b : List ℕ) (found other : List (LexemeSort × List ℕ)) → lexemes d a ≡ Some found → lexemes d b ≡ Some other
    → map (plain d) (without_trivia found) ≡ map (plain d) (without_trivia other) → words d a ≡ words d b
unfolding words
spelled_same d a b found other is_a is_b same =
    ap (option_map (all_words d)) is_a
    ∙ ap (λ ws. Some ws) (plainly found ∙ ap (all_words d) same ∙ sym (plainly other))
    ∙ sym (ap (option_map (all_words d)) is_b)
  where
    plainly : (lexemes : List (LexemeSort × List ℕ)) → all_words d lexemes ≡ all_words d (map (plain d) (without_trivia lexemes))
    plainly lexemes = kept_same d lexemes ∙ all_plain d (without_trivia lexemes)

pub spellings_change_nothing : SpellingsChangeNothing
spellings_change_nothing d a b found other is_a is_b same =
    let alike = spelled_same d a b found other is_a is_b same in
    (words_are_the_meaning.0 d d a b alike, words_are_the_meaning.1 d a b alike)
