-- Which words stand at the front of a text.
use Rattle.std.proofs.Common.{◌≡◌, ◌<◌, ℕ, ◌+◌, Bool, true, false, List, [], ◌∷◌, ◌++◌, length, drop, Option, Some, None, option_map, ap, ◌∙◌, subst, sym, refl, arith}
use Rattle.std.specs.Char.{is_ascii_digit}
use Rattle.std.specs.Fmt.{sign_text}
use Rattle.std.specs.List.{list_all, prefix_len}
use Rattle.std.specs.Prelude.{codes}
use Rattle.std.proofs.lemmas.Bool.{and_from, and_parts}
use Rattle.lq_base.specs.Sql.{is_blank, is_word_byte, is_number_byte, goes_on, length_at, length_of, lexemes, sort_at}
use Rattle.lq_base.specs.declared.dialect.Dialect.{Dialect}
use Rattle.lq_base.specs.declared.dialect.Dialect.TheVariants.{Postgresql, Mysql}
use Rattle.lq_base.specs.declared.lexeme.LexemeSort.{LexemeSort}
use Rattle.lq_base.specs.declared.lexeme.LexemeSort.TheVariants as sort
use Rattle.lq_model.specs.SqlWord.{bare, folded, kind_of_word, unquoted_word, with_text, words, words_of}
use Rattle.lq_model.specs.declared.word.Word.{Word}
use Rattle.lq_model.specs.declared.word.WordKind.{WordKind}
use Rattle.lq_model.specs.declared.word.WordKind.TheVariants as word
use Rattle.lq_sqllex.specs.Laws.{LexemesGoOn}
use Rattle.lq_parse.proofs.Bytes.{Each, EachFrom, Stops, all_in, blank_is, digit_is, each_is, is_one_of, run_whole, stops_run}
use Rattle.lq_parse.proofs.WordSteps.{words_on}

-- the words at the front of a text, before those of the rest
abbrev pub Says : Dialect → List ℕ → (List Word → List Word) → List ℕ → Type 0
Says d bytes these rest = words d (bytes ++ rest) ≡ option_map these (words d rest)

pub lexeme_says : LexemesGoOn → (d : Dialect) (s : LexemeSort) (bytes rest : List ℕ) → 0 < length bytes → sort_at d (bytes ++ rest) ≡ s → length_at d (bytes ++ rest) ≡ Some (length bytes)
    → Says d bytes (λ more. words_of d s bytes ++ more) rest
lexeme_says go_on d s bytes rest some is whole =
    words_on d (bytes ++ rest) s bytes rest (go_on d bytes rest some whole ∙ ap (λ x. option_map (λ more. (x, bytes) ∷ more) (lexemes d rest)) is)

-- a lexeme that is a run of bytes
run_length : (d : Dialect) (s : LexemeSort) (b : ℕ) (w rest : List ℕ) → ((text : List ℕ) → length_of d s text ≡ Some (1 + prefix_len (goes_on s) (drop 1 text)))
    → sort_at d (b ∷ (w ++ rest)) ≡ s → list_all (goes_on s) w ≡ true → prefix_len (goes_on s) rest ≡ 0 → length_at d (b ∷ (w ++ rest)) ≡ Some (length (b ∷ w))
unfolding length_at
run_length d s b w rest runs is all stop =
    ap (λ x. length_of d x (b ∷ (w ++ rest))) is ∙ runs (b ∷ (w ++ rest)) ∙ ap (λ n. Some n) (let whole = run_whole (goes_on s) w rest all stop in omega (arith, whole))

run_says : LexemesGoOn → (d : Dialect) (s : LexemeSort) (b : ℕ) (w rest : List ℕ) → ((text : List ℕ) → length_of d s text ≡ Some (1 + prefix_len (goes_on s) (drop 1 text)))
    → sort_at d (b ∷ (w ++ rest)) ≡ s → list_all (goes_on s) w ≡ true → prefix_len (goes_on s) rest ≡ 0 → Says d (b ∷ w) (λ more. words_of d s (b ∷ w) ++ more) rest
run_says go_on d s b w rest runs is all stop = lexeme_says go_on d s (b ∷ w) rest (omega arith) is (run_length d s b w rest runs is all stop)

-- words in capitals

abbrev pub capitals : List ℕ
capitals = codes "ABCDEFGHIJKLMNOPQRSTUVWXYZ_"

capital_begins : (d : Dialect) (more : List ℕ) → Each (λ b. sort_at d (b ∷ more) ≡ sort.Word) capitals
capital_begins Postgresql more = (refl, (refl, (refl, (refl, (refl, (refl, (refl, (refl, (refl, (refl, (refl, (refl, (refl, (refl, (refl, (refl, (refl, (refl, (refl, (refl, (refl, (refl, (refl, (refl, (refl, (refl, (refl, tt)))))))))))))))))))))))))))
capital_begins Mysql more = (refl, (refl, (refl, (refl, (refl, (refl, (refl, (refl, (refl, (refl, (refl, (refl, (refl, (refl, (refl, (refl, (refl, (refl, (refl, (refl, (refl, (refl, (refl, (refl, (refl, (refl, (refl, tt)))))))))))))))))))))))))))

capital_goes_on : Each (λ b. is_word_byte b ≡ true) capitals
capital_goes_on = (refl, (refl, (refl, (refl, (refl, (refl, (refl, (refl, (refl, (refl, (refl, (refl, (refl, (refl, (refl, (refl, (refl, (refl, (refl, (refl, (refl, (refl, (refl, (refl, (refl, (refl, (refl, tt)))))))))))))))))))))))))))

pub capitals_say : LexemesGoOn → (d : Dialect) (b : ℕ) (w rest : List ℕ) → list_all (is_one_of capitals) (b ∷ w) ≡ true → Stops rest
    → Says d (b ∷ w) (λ more. unquoted_word (kind_of_word word.Plain (b ∷ w)) (folded d (b ∷ w)) ∷ more) rest
capitals_say go_on d b w rest all stop =
    run_says go_on d sort.Word b w rest (λ text. refl)
    (each_is (λ c. sort_at d (c ∷ (w ++ rest)) ≡ sort.Word) capitals b (and_parts (is_one_of capitals b) (list_all (is_one_of capitals) w) all).0 (capital_begins d (w ++ rest)))
    (all_in (is_one_of capitals) is_word_byte (λ c is. each_is (λ x. is_word_byte x ≡ true) capitals c is capital_goes_on) w (and_parts (is_one_of capitals b) (list_all (is_one_of capitals) w) all).1)
    (stops_run is_word_byte rest stop (refl, (refl, (refl, (refl, tt)))))

-- numbers

digit_begins : (d : Dialect) (more : List ℕ) → EachFrom (λ b. sort_at d (b ∷ more) ≡ sort.Number) 48 10
digit_begins Postgresql more = (refl, (refl, (refl, (refl, (refl, (refl, (refl, (refl, (refl, (refl, tt))))))))))
digit_begins Mysql more = (refl, (refl, (refl, (refl, (refl, (refl, (refl, (refl, (refl, (refl, tt))))))))))

minus_begins : (d : Dialect) (more : List ℕ) → EachFrom (λ b. sort_at d (45 ∷ b ∷ more) ≡ sort.Number) 48 10
minus_begins Postgresql more = (refl, (refl, (refl, (refl, (refl, (refl, (refl, (refl, (refl, (refl, tt))))))))))
minus_begins Mysql more = (refl, (refl, (refl, (refl, (refl, (refl, (refl, (refl, (refl, (refl, tt))))))))))

digit_goes_on : EachFrom (λ b. is_number_byte b ≡ true) 48 10
digit_goes_on = (refl, (refl, (refl, (refl, (refl, (refl, (refl, (refl, (refl, (refl, tt))))))))))

pub digit_is_number_byte : (b : ℕ) → is_ascii_digit b ≡ true → is_number_byte b ≡ true
digit_is_number_byte b is = digit_is (λ c. is_number_byte c ≡ true) b is digit_goes_on

-- a number's text: `-` or nothing, a digit, and then digits and a dot
pub record IsNumberText (text : List ℕ) : Type 0 where
  pub negative : Bool
  pub first : ℕ
  pub more : List ℕ
  pub is : text ≡ sign_text negative ++ (first ∷ more)
  pub digit : is_ascii_digit first ≡ true
  pub others : list_all is_number_byte more ≡ true

no_number : (rest : List ℕ) → Stops rest → prefix_len is_number_byte rest ≡ 0
no_number rest stop = stops_run is_number_byte rest stop (refl, (refl, (refl, (refl, tt))))

signed_says : LexemesGoOn → (d : Dialect) (negative : Bool) (first : ℕ) (more rest : List ℕ) → is_ascii_digit first ≡ true → list_all is_number_byte more ≡ true → Stops rest
    → Says d (sign_text negative ++ (first ∷ more)) (λ ws. with_text word.Number (sign_text negative ++ (first ∷ more)) ∷ ws) rest
signed_says go_on d true first more rest digit others stop =
    run_says go_on d sort.Number 45 (first ∷ more) rest (λ text. refl)
    (digit_is (λ c. sort_at d (45 ∷ c ∷ (more ++ rest)) ≡ sort.Number) first digit (minus_begins d (more ++ rest)))
    (and_from (is_number_byte first) (list_all is_number_byte more) (digit_is_number_byte first digit) others)
    (no_number rest stop)
signed_says go_on d false first more rest digit others stop =
    run_says go_on d sort.Number first more rest (λ text. refl)
    (digit_is (λ c. sort_at d (c ∷ (more ++ rest)) ≡ sort.Number) first digit (digit_begins d (more ++ rest)))
    others
    (no_number rest stop)

pub number_says : LexemesGoOn → (d : Dialect) (text rest : List ℕ) → IsNumberText text → Stops rest → Says d text (λ ws. with_text word.Number text ∷ ws) rest
number_says go_on d text rest it stop =
    subst (λ (t : List ℕ). Says d t (λ ws. with_text word.Number t ∷ ws) rest) (sym it.is) (signed_says go_on d it.negative it.first it.more rest it.digit it.others stop)

-- blanks

blank_sort : (d : Dialect) (b : ℕ) (more : List ℕ) → is_blank b ≡ true → sort_at d (b ∷ more) ≡ sort.Blank
blank_sort Postgresql b more is = blank_is (λ c. sort_at Postgresql (c ∷ more) ≡ sort.Blank) b is refl refl refl refl
blank_sort Mysql b more is = blank_is (λ c. sort_at Mysql (c ∷ more) ≡ sort.Blank) b is refl refl refl refl

same_words : (o : Option (List Word)) → option_map (λ more. [] ++ more) o ≡ o
same_words None = refl
same_words (Some ws) = refl

blanks_say : LexemesGoOn → (d : Dialect) (w rest : List ℕ) → list_all is_blank w ≡ true → prefix_len is_blank rest ≡ 0 → words d (w ++ rest) ≡ words d rest
blanks_say go_on d [] rest all stop = refl
blanks_say go_on d (b ∷ w) rest all stop =
    let both = and_parts (is_blank b) (list_all is_blank w) all in
    run_says go_on d sort.Blank b w rest (λ text. refl) (blank_sort d b (w ++ rest) both.0) both.1 stop ∙ same_words (words d rest)

record Blanks (text : List ℕ) : Type 0 where
  front : List ℕ
  rest : List ℕ
  is : text ≡ front ++ rest
  all : list_all is_blank front ≡ true
  stop : prefix_len is_blank rest ≡ 0

blanks_of : (text : List ℕ) → Blanks text
blanks_of [] = record { front = []; rest = []; is = refl; all = refl; stop = refl }
blanks_of (b ∷ text) =
    elim (is_blank b) as (λ t. is_blank b ≡ t → Blanks (b ∷ text)) [
      | true ↦ λ e. let more = blanks_of text in record { front = b ∷ more.front; rest = more.rest; is = ap (λ z. b ∷ z) more.is; all = and_from (is_blank b) (list_all is_blank more.front) e more.all; stop = more.stop }
      | false ↦ λ e. record { front = []; rest = b ∷ text; is = refl; all = refl; stop = rw e refl }
    ] refl

pub blank_says : LexemesGoOn → (d : Dialect) (rest : List ℕ) → words d (32 ∷ rest) ≡ words d rest
blank_says go_on d rest =
    let split = blanks_of rest in
    ap (λ z. words d (32 ∷ z)) split.is
    ∙ blanks_say go_on d (32 ∷ split.front) split.rest split.all split.stop
    ∙ sym (blanks_say go_on d split.front split.rest split.all split.stop)
    ∙ ap (words d) (sym split.is)

-- a keyword between blanks
pub keyword_says : LexemesGoOn → (d : Dialect) (b : ℕ) (w rest : List ℕ) (said : Word) → list_all (is_one_of capitals) (b ∷ w) ≡ true
    → unquoted_word (kind_of_word word.Plain (b ∷ w)) (folded d (b ∷ w)) ≡ said → words d ((b ∷ w) ++ (32 ∷ rest)) ≡ option_map (λ more. said ∷ more) (words d rest)
keyword_says go_on d b w rest said all is =
    capitals_say go_on d b w (32 ∷ rest) all refl
    ∙ ap (λ x. option_map (λ more. x ∷ more) (words d (32 ∷ rest))) is
    ∙ ap (option_map (λ more. said ∷ more)) (blank_says go_on d rest)

-- and one at the end
pub last_keyword_says : LexemesGoOn → (d : Dialect) (b : ℕ) (w rest : List ℕ) (said : Word) → list_all (is_one_of capitals) (b ∷ w) ≡ true → Stops rest
    → unquoted_word (kind_of_word word.Plain (b ∷ w)) (folded d (b ∷ w)) ≡ said → words d ((b ∷ w) ++ rest) ≡ option_map (λ more. said ∷ more) (words d rest)
last_keyword_says go_on d b w rest said all stop is =
    capitals_say go_on d b w rest all stop ∙ ap (λ x. option_map (λ more. x ∷ more) (words d rest)) is

pub mark_says : LexemesGoOn → (d : Dialect) (bytes rest : List ℕ) (k : WordKind) → 0 < length bytes → sort_at d (bytes ++ rest) ≡ sort.Mark → length_at d (bytes ++ rest) ≡ Some (length bytes)
    → kind_of_word word.Unknown bytes ≡ k → words d (bytes ++ rest) ≡ option_map (λ more. bare k ∷ more) (words d rest)
mark_says go_on d bytes rest k some is whole kind =
    lexeme_says go_on d sort.Mark bytes rest some is whole ∙ ap (λ x. option_map (λ more. bare x ∷ more) (words d rest)) kind
