-- What stands in quotes is read as it was written.
use Rattle.std.proofs.Common.{◌≡◌, ◌<◌, ℕ, ◌==◌, ◌||◌, ◌&&◌, Bool, true, false, if◌then◌else◌, List, [], ◌∷◌, ◌++◌, length, Option, None, Some, is_some, option_map, ap, ◌∙◌, sym, subst, refl, arith, length-append, append_assoc}
use Rattle.std.specs.Prelude.{codes, slice_index}
use Rattle.std.proofs.lemmas.Bool.{eqb-true}
use Rattle.std.proofs.lemmas.List.{append-nil}
use Rattle.lq_base.specs.Name.{parts_of, schema_in, text_in}
use Rattle.lq_base.specs.Sql.{escapes, is_text_quote, length_at, is_pair}
use Rattle.lq_base.specs.declared.dialect.Dialect.{Dialect}
use Rattle.lq_base.specs.declared.dialect.Dialect.TheVariants.{Postgresql, Mysql}
use Rattle.lq_base.specs.declared.lexeme.LexemeSort.TheVariants as sort
use Rattle.lq_model.specs.TestText as phrases
use Rattle.lq_model.specs.SqlWord.{bare, inside, kind_of_word, pair_text, unquoted, with_text, words}
use Rattle.lq_model.specs.declared.phrase.Phrase.TheVariants as phrase
use Rattle.lq_model.specs.declared.word.Word.{Word}
use Rattle.lq_model.specs.declared.word.WordKind.TheVariants as word
use Rattle.lq_sqllex.specs.Laws.{doubled, in_quotes, IsRead, LexemesGoOn, NamesAreRead, TextsAreRead}
use Rattle.lq_parse.specs.Laws.{QuotedNamesAreOneWord, StringsAreOneWord}
use Rattle.lq_parse.proofs.Bytes.{Each, Stops, each_is, stops}
use Rattle.lq_parse.proofs.Fronts.{Says, lexeme_says, mark_says}
use Rattle.lq_parse.proofs.Objects.{name_word, words_in}

pub neither : (x y : Bool) → (x || y) ≡ false → (x ≡ false) × (y ≡ false)
neither true y e = absurd cc
neither false y e = (refl, e)

pub together : (x y : Bool) → (x || y) ≡ true → ((x && x) || y) ≡ true
together true y e = refl
together false y e = e

twice_by : (b : ℕ) (backslash : Bool) → (b == 92) ≡ backslash → pair_text b b ≡ b ∷ []
twice_by b true is = subst (λ (c : ℕ). pair_text c c ≡ c ∷ []) (sym (eqb-true b 92 is)) refl
twice_by b false is = rw is refl

twice : (b : ℕ) → pair_text b b ≡ b ∷ []
twice b = twice_by b (b == 92) refl

alone : (escaping : Bool) (quote b : ℕ) (rest : List ℕ) → 0 < length rest → (b == quote || (escaping && b == 92)) ≡ false
    → inside escaping quote (b ∷ rest) ≡ b ∷ inside escaping quote rest
alone escaping quote b [] some other = absurd (omega arith)
alone escaping quote b (c ∷ rest) some other =
    let apart : ((b == quote) ≡ false) × ((escaping && b == 92) ≡ false) = neither (b == quote) (escaping && b == 92) other in
    rw (apart.0, apart.1) refl

paired : (escaping : Bool) (quote b : ℕ) (rest : List ℕ) → (b == quote || (escaping && b == 92)) ≡ true
    → inside escaping quote (b ∷ b ∷ rest) ≡ b ∷ inside escaping quote rest
paired escaping quote b rest one =
    let pair : is_pair escaping quote b b ≡ true = together (b == quote) (escaping && b == 92) one in
    rw pair (ap (λ z. z ++ inside escaping quote rest) (twice b))

-- a doubled text is read as that text, and then what follows it
pub inside_front : (escaping : Bool) (quote : ℕ) (text rest : List ℕ) → 0 < length rest → inside escaping quote (doubled escaping quote text ++ rest) ≡ text ++ inside escaping quote rest
inside_front escaping quote [] rest some = refl
inside_front escaping quote (b ∷ text) rest some =
    elim (b == quote || (escaping && b == 92)) as (λ twice. (b == quote || (escaping && b == 92)) ≡ twice
    → inside escaping quote ((if twice then b ∷ b ∷ doubled escaping quote text else b ∷ doubled escaping quote text) ++ rest) ≡ b ∷ (text ++ inside escaping quote rest)) [
      | true ↦ λ one. paired escaping quote b (doubled escaping quote text ++ rest) one ∙ ap (λ z. b ∷ z) (inside_front escaping quote text rest some)
      | false ↦ λ other. alone escaping quote b (doubled escaping quote text ++ rest) (omega (arith, length-append (doubled escaping quote text) rest)) other
          ∙ ap (λ z. b ∷ z) (inside_front escaping quote text rest some)
    ] refl

pub inside_doubled : (escaping : Bool) (quote : ℕ) (text : List ℕ) → inside escaping quote (doubled escaping quote text ++ quote ∷ []) ≡ text
inside_doubled escaping quote text = inside_front escaping quote text (quote ∷ []) (omega arith) ∙ append-nil text

unquoted_is : (escaping : Bool) (quote : ℕ) (text : List ℕ) → unquoted escaping (in_quotes escaping quote text) ≡ text
unfolding unquoted
unquoted_is escaping quote text = inside_doubled escaping quote text

-- two tests of what is doubled that agree
doubled_same : (escaping : Bool) (quote : ℕ) (is_twice : ℕ → Bool) → ((b : ℕ) → is_twice b ≡ (b == quote || (escaping && b == 92))) → (text : List ℕ) → phrases.doubled is_twice text ≡ doubled escaping quote text
doubled_same escaping quote is_twice agree [] = refl
doubled_same escaping quote is_twice agree (b ∷ text) = rw (agree b, doubled_same escaping quote is_twice agree text) refl

plain_or : (x : Bool) → x ≡ (x || false)
plain_or true = refl
plain_or false = refl

apart : (quote : ℕ) → (0 == quote) ≡ false → Each (λ b. (b == quote) ≡ false) stops → (rest : List ℕ) → Stops rest → (slice_index rest 0 == quote) ≡ false
apart quote zero each [] stop = zero
apart quote zero each (b ∷ rest) stop = each_is (λ c. (c == quote) ≡ false) stops b stop each

quoted_says : LexemesGoOn → (d : Dialect) (quote : ℕ) (name rest : List ℕ) → IsRead d sort.Name quote (in_quotes false quote name) → (slice_index rest 0 == quote) ≡ false
    → Says d (in_quotes false quote name) (λ more. with_text word.Quoted name ∷ more) rest
quoted_says go_on d quote name rest read other =
    let is = read rest other in
    lexeme_says go_on d sort.Name (in_quotes false quote name) rest (omega arith) is.0 is.1
    ∙ ap (λ x. option_map (λ more. with_text word.Quoted x ∷ more) (words d rest)) (unquoted_is false quote name)

-- the byte that ends a name in quotes
abbrev name_mark : Dialect → ℕ
name_mark Postgresql = 34
name_mark Mysql = 96

text_says : LexemesGoOn → NamesAreRead → (d : Dialect) (text rest : List ℕ) → (slice_index rest 0 == name_mark d) ≡ false → Says d (phrases.quoted_text d text) (λ more. with_text word.Quoted text ∷ more) rest
unfolding phrases.quoted_text phrases.words
text_says go_on names Postgresql text rest other =
    ap (λ z. words Postgresql (34 ∷ (z ++ 34 ∷ []) ++ rest)) (doubled_same false 34 (λ b. b == 34) (λ b. plain_or (b == 34)) text)
    ∙ quoted_says go_on Postgresql 34 text rest (names Postgresql 34 text refl) other
text_says go_on names Mysql text rest other =
    ap (λ z. words Mysql (96 ∷ (z ++ 96 ∷ []) ++ rest)) (doubled_same false 96 (λ b. b == 96) (λ b. plain_or (b == 96)) text)
    ∙ quoted_says go_on Mysql 96 text rest (names Mysql 96 text refl) other

stops_name : (d : Dialect) (rest : List ℕ) → Stops rest → (slice_index rest 0 == name_mark d) ≡ false
stops_name Postgresql rest stop = apart 34 refl (refl, (refl, (refl, (refl, tt)))) rest stop
stops_name Mysql rest stop = apart 96 refl (refl, (refl, (refl, (refl, tt)))) rest stop

-- a text in the quotes of names
pub quoted_text_says : LexemesGoOn → NamesAreRead → (d : Dialect) (text rest : List ℕ) → Stops rest → Says d (phrases.quoted_text d text) (λ more. with_text word.Quoted text ∷ more) rest
quoted_text_says go_on names d text rest stop = text_says go_on names d text rest (stops_name d rest stop)

dot_says : LexemesGoOn → (d : Dialect) (text rest : List ℕ) → words d (phrases.words phrase.Dot ++ (phrases.quoted_text d text ++ rest)) ≡ option_map (λ ws. bare word.Dot ∷ ws) (words d (phrases.quoted_text d text ++ rest))
unfolding phrases.quoted_text phrases.words length_at kind_of_word
dot_says go_on Postgresql text rest = mark_says go_on Postgresql (codes ".") (phrases.quoted_text Postgresql text ++ rest) word.Dot (omega arith) refl refl refl
dot_says go_on Mysql text rest = mark_says go_on Mysql (codes ".") (phrases.quoted_text Mysql text ++ rest) word.Dot (omega arith) refl refl refl

joined_words : (f g h : List Word → List Word) (o : Option (List Word)) → option_map f (option_map g (option_map h o)) ≡ option_map (λ ws. f (g (h ws))) o
joined_words f g h None = refl
joined_words f g h (Some ws) = refl

not_mark : (d : Dialect) (more : List ℕ) → (slice_index (phrases.words phrase.Dot ++ more) 0 == name_mark d) ≡ false
unfolding phrases.words
not_mark Postgresql more = refl
not_mark Mysql more = refl

-- a schema, a dot and a text
both_say : LexemesGoOn → NamesAreRead → (d : Dialect) (schema text rest : List ℕ) → Stops rest
    → Says d (phrases.quoted_text d schema ++ phrases.words phrase.Dot ++ phrases.quoted_text d text) (λ more. with_text word.Quoted schema ∷ bare word.Dot ∷ with_text word.Quoted text ∷ more) rest
both_say go_on names d schema text rest stop =
    let one = phrases.quoted_text d schema in
    let two = phrases.quoted_text d text in
    let dot = phrases.words phrase.Dot in
    ap (words d) (append_assoc (one ++ dot) two rest ∙ append_assoc one dot (two ++ rest))
    ∙ text_says go_on names d schema (dot ++ (two ++ rest)) (not_mark d (two ++ rest))
    ∙ ap (option_map (λ more. with_text word.Quoted schema ∷ more))
    (dot_says go_on d text rest ∙ ap (option_map (λ ws. bare word.Dot ∷ ws)) (quoted_text_says go_on names d text rest stop))
    ∙ joined_words (λ more. with_text word.Quoted schema ∷ more) (λ ws. bare word.Dot ∷ ws) (λ more. with_text word.Quoted text ∷ more) (words d rest)

name_by : LexemesGoOn → NamesAreRead → (d : Dialect) (n : List ℕ) (o : Option (List ℕ × List ℕ)) (rest : List ℕ) → Stops rest
    → Says d (if is_some o then phrases.quoted_text d (schema_in o) ++ phrases.words phrase.Dot ++ phrases.quoted_text d (text_in n o) else phrases.quoted_text d n) (words_in n o) rest
name_by go_on names d n None rest stop = quoted_text_says go_on names d n rest stop
name_by go_on names d n (Some parts) rest stop = both_say go_on names d parts.0 parts.1 rest stop

pub name_says : LexemesGoOn → NamesAreRead → (d : Dialect) (name rest : List ℕ) → Stops rest → Says d (phrases.name_text d name) (name_word name) rest
unfolding phrases.name_text
name_says go_on names d name rest stop = name_by go_on names d name (parts_of name) rest stop

pub names_whole : LexemesGoOn → NamesAreRead → QuotedNamesAreOneWord
names_whole go_on names d quote name rest is other = quoted_says go_on d quote name rest (names d quote name is) other

pub strings_whole : LexemesGoOn → TextsAreRead → StringsAreOneWord
strings_whole go_on texts d quote text rest is other =
    let read = texts d quote text is rest other in
    lexeme_says go_on d sort.Text (in_quotes (escapes d) quote text) rest (omega arith) read.0 read.1
    ∙ ap (λ x. option_map (λ more. with_text word.Text x ∷ more) (words d rest)) (unquoted_is (escapes d) quote text)

string_read : LexemesGoOn → TextsAreRead → (d : Dialect) (text rest : List ℕ) → is_text_quote d 39 ≡ true → Stops rest
    → Says d (in_quotes (escapes d) 39 text) (λ more. with_text word.Text text ∷ more) rest
string_read go_on texts d text rest is stop = strings_whole go_on texts d 39 text rest is (apart 39 refl (refl, (refl, (refl, (refl, tt)))) rest stop)

pub string_says : LexemesGoOn → TextsAreRead → (d : Dialect) (text rest : List ℕ) → Stops rest → Says d (phrases.string_text d text) (λ more. with_text word.Text text ∷ more) rest
unfolding phrases.string_text Rattle.lq_model.specs.TestText.words
string_says go_on texts Postgresql text rest stop =
    ap (λ z. words Postgresql (39 ∷ (z ++ 39 ∷ []) ++ rest)) (doubled_same false 39 (λ b. b == 39) (λ b. plain_or (b == 39)) text)
    ∙ string_read go_on texts Postgresql text rest refl stop
string_says go_on texts Mysql text rest stop =
    ap (λ z. words Mysql (39 ∷ (z ++ 39 ∷ []) ++ rest)) (doubled_same true 39 (λ b. b == 39 || b == 92) (λ b. refl) text)
    ∙ string_read go_on texts Mysql text rest refl stop
