-- The text of a kind has its words, and is read from them.
use Rattle.std.proofs.Common.{◌≡◌, ◌<◌, ◌≤◌, ◌^◌, ℕ, true, false, nat_le, List, [], ◌∷◌, ◌++◌, Some, refl, arith}
use Rattle.std.specs.Fmt.{decimal}
use Rattle.std.specs.Int.{is_in_range}
use Rattle.std.specs.Prelude.{codes}
use Rattle.std.proofs.lemmas.Bool.{and_parts, leb-true}
use Rattle.lq_base.specs.Kind.{decimal_kind, is_kind, kind_text, plain_kind, sized_kind}
use Rattle.lq_base.specs.declared.dialect.Dialect.{Dialect}
use Rattle.lq_base.specs.declared.dialect.Dialect.TheVariants.{Postgresql, Mysql}
use Rattle.lq_base.specs.declared.kind.Kind.{Kind}
use Rattle.lq_base.specs.declared.kind.Kind.TheVariants as kind
use Rattle.lq_base.proofs.SpacedLemmas.{plain_number-decimal}
use Rattle.lq_model.specs.TestText as text
use Rattle.lq_model.specs.SqlParser.{after, expect, same_kind, sees}
use Rattle.lq_model.specs.SqlPart.{column_kind, decimal_with, kind_number, kind_with, sized_with}
use Rattle.lq_model.specs.SqlWord.{bare, folded, kind_of_word, with_text}
use Rattle.lq_model.specs.declared.phrase.Phrase.TheVariants as phrase
use Rattle.lq_model.specs.declared.word.Word.{Word}
use Rattle.lq_model.specs.declared.word.WordKind.TheVariants as word
use Rattle.lq_parse.proofs.Bytes.{Stops}
use Rattle.lq_parse.proofs.Fronts.{IsNumberText, Says, capitals_say, number_says}
use Rattle.lq_parse.proofs.Numbers.{decimal_digits, signed_digits}
use Rattle.lq_parse.proofs.Spoken.{Below, open_says, then}
use Rattle.lq_statement.proofs.Phrases as say
use Rattle.lq_statement.proofs.Said.{Closed, Open, cl, oc, ready}

abbrev pub kind_word : Dialect → List ℕ → Word
kind_word d bytes = with_text word.Plain (folded d bytes)

-- a word and `(`
sized_front : Below → (d : Dialect) (b : ℕ) (w rest : List ℕ) (these : List Word → List Word) → ((more : List ℕ) → Stops more → Says d (b ∷ w) these more) → Says d ((b ∷ w) ++ codes "(") (λ ws. these (bare word.Open ∷ ws)) rest
unfolding text.words
sized_front below d b w rest these word_says = then d (b ∷ w) (text.words phrase.Open) rest these (λ ws. bare word.Open ∷ ws) (word_says (40 ∷ rest) refl) (open_says below d rest)

pub number_text : (n : ℕ) → n < 2 ^ 64 → IsNumberText (decimal n)
number_text n small = signed_digits (decimal n) false (decimal n) refl (decimal_digits n (omega arith))

abbrev pub numeral : Below → (d : Dialect) (n : ℕ) → n < 2 ^ 64 → Closed d (decimal n)
numeral below d n small = record { these = λ ws. with_text word.Number (decimal n) ∷ ws; is = λ rest stop. number_says below.go_on d (decimal n) rest (number_text n small) stop }

three : IsNumberText (codes "3")
three = record { negative = false; first = 51; more = []; is = refl; digit = refl; others = refl }

abbrev varchar_front : Below → (d : Dialect) → Open d (codes "VARCHAR(")
unfolding kind_of_word
varchar_front below d = record { these = λ ws. kind_word d (codes "VARCHAR") ∷ bare word.Open ∷ ws; is = λ rest. sized_front below d 86 (codes "ARCHAR") rest (λ ws. kind_word d (codes "VARCHAR") ∷ ws) (λ more stop. capitals_say below.go_on d 86 (codes "ARCHAR") more refl stop) }

abbrev decimal_front : Below → (d : Dialect) → Open d (codes "DECIMAL(")
unfolding kind_of_word
decimal_front below d = record { these = λ ws. kind_word d (codes "DECIMAL") ∷ bare word.Open ∷ ws; is = λ rest. sized_front below d 68 (codes "ECIMAL") rest (λ ws. kind_word d (codes "DECIMAL") ∷ ws) (λ more stop. capitals_say below.go_on d 68 (codes "ECIMAL") more refl stop) }

abbrev datetime_front : Below → (d : Dialect) → Open d (codes "DATETIME(")
unfolding kind_of_word
datetime_front below d = record { these = λ ws. kind_word d (codes "DATETIME") ∷ bare word.Open ∷ ws; is = λ rest. sized_front below d 68 (codes "ATETIME") rest (λ ws. kind_word d (codes "DATETIME") ∷ ws) (λ more stop. capitals_say below.go_on d 68 (codes "ATETIME") more refl stop) }

-- the numbers of a kind are small

varchar_small : (n : ℕ) → is_kind (kind.Varchar n) ≡ true → n < 2 ^ 64
varchar_small n is = let most : n ≤ 10000 = leb-true n 10000 (and_parts (nat_le 1 n) (nat_le n 10000) is).1 in omega arith

digits_small : (p s : ℕ) → is_kind (kind.Decimal p s) ≡ true → (p < 2 ^ 64) × (s < 2 ^ 64)
digits_small p s is =
    let both = and_parts (is_in_range 1 38 p) (nat_le s p) is in
    let most : p ≤ 38 = leb-true p 38 (and_parts (nat_le 1 p) (nat_le p 38) both.0).1 in
    let less : s ≤ p = leb-true s p both.1 in
    (omega arith, omega arith)

abbrev pub kind_words : Dialect → Kind → List Word → List Word
kind_words Postgresql kind.Int rest = kind_word Postgresql (codes "INTEGER") ∷ rest
kind_words Mysql kind.Int rest = kind_word Mysql (codes "INT") ∷ rest
kind_words d kind.BigInt rest = kind_word d (codes "BIGINT") ∷ rest
kind_words d kind.Boolean rest = kind_word d (codes "BOOLEAN") ∷ rest
kind_words d (kind.Varchar n) rest = kind_word d (codes "VARCHAR") ∷ bare word.Open ∷ with_text word.Number (decimal n) ∷ bare word.Close ∷ rest
kind_words d kind.Text rest = kind_word d (codes "TEXT") ∷ rest
kind_words Postgresql kind.Moment rest = kind_word Postgresql (codes "TIMESTAMP") ∷ rest
kind_words Mysql kind.Moment rest = kind_word Mysql (codes "DATETIME") ∷ bare word.Open ∷ with_text word.Number (codes "3") ∷ bare word.Close ∷ rest
kind_words d (kind.Decimal p s) rest = kind_word d (codes "DECIMAL") ∷ bare word.Open ∷ with_text word.Number (decimal p) ∷ bare word.Comma ∷ with_text word.Number (decimal s) ∷ bare word.Close ∷ rest

pub kind_says : Below → (d : Dialect) (k : Kind) (rest : List ℕ) → is_kind k ≡ true → Stops rest → Says d (kind_text d k) (kind_words d k) rest
unfolding kind_of_word text.words
kind_says below Postgresql kind.Int rest is stop = capitals_say below.go_on Postgresql 73 (codes "NTEGER") rest refl stop
kind_says below Mysql kind.Int rest is stop = capitals_say below.go_on Mysql 73 (codes "NT") rest refl stop
kind_says below Postgresql kind.BigInt rest is stop = capitals_say below.go_on Postgresql 66 (codes "IGINT") rest refl stop
kind_says below Mysql kind.BigInt rest is stop = capitals_say below.go_on Mysql 66 (codes "IGINT") rest refl stop
kind_says below Postgresql kind.Boolean rest is stop = capitals_say below.go_on Postgresql 66 (codes "OOLEAN") rest refl stop
kind_says below Mysql kind.Boolean rest is stop = capitals_say below.go_on Mysql 66 (codes "OOLEAN") rest refl stop
kind_says below Postgresql kind.Text rest is stop = capitals_say below.go_on Postgresql 84 (codes "EXT") rest refl stop
kind_says below Mysql kind.Text rest is stop = capitals_say below.go_on Mysql 84 (codes "EXT") rest refl stop
kind_says below Postgresql kind.Moment rest is stop = capitals_say below.go_on Postgresql 84 (codes "IMESTAMP") rest refl stop
kind_says below Mysql kind.Moment rest is stop =
    (ready (cl (oc {b = codes "3"} (datetime_front below Mysql) (record { these = λ ws. with_text word.Number (codes "3") ∷ ws; is = λ more stop. number_says below.go_on Mysql (codes "3") more three stop })) (say.close below Mysql))).is rest stop
kind_says below Postgresql (kind.Varchar n) rest is stop = (ready (cl (oc (varchar_front below Postgresql) (numeral below Postgresql n (varchar_small n is))) (say.close below Postgresql))).is rest stop
kind_says below Mysql (kind.Varchar n) rest is stop = (ready (cl (oc (varchar_front below Mysql) (numeral below Mysql n (varchar_small n is))) (say.close below Mysql))).is rest stop
kind_says below Postgresql (kind.Decimal p s) rest is stop =
    (ready (cl (oc (cl (oc (decimal_front below Postgresql) (numeral below Postgresql p (digits_small p s is).0)) (say.comma below Postgresql)) (numeral below Postgresql s (digits_small p s is).1)) (say.close below Postgresql))).is rest stop
kind_says below Mysql (kind.Decimal p s) rest is stop =
    (ready (cl (oc (cl (oc (decimal_front below Mysql) (numeral below Mysql p (digits_small p s is).0)) (say.comma below Mysql)) (numeral below Mysql s (digits_small p s is).1)) (say.close below Mysql))).is rest stop

abbrev pub kind_said : Below → (d : Dialect) (k : Kind) → is_kind k ≡ true → Closed d (kind_text d k)
kind_said below d k is = record { these = kind_words d k; is = λ rest stop. kind_says below d k rest is stop }

-- a kind of one word is read where no `(` follows
pub kind_again : (d : Dialect) (k : Kind) (rest : List Word) → is_kind k ≡ true → sees word.Open rest ≡ false → column_kind (kind_words d k rest) ≡ Some (k, rest)
unfolding column_kind kind_with sized_with decimal_with kind_number plain_kind sized_kind decimal_kind expect same_kind after sees
kind_again Postgresql kind.Int rest is end = rw end refl
kind_again Mysql kind.Int rest is end = rw end refl
kind_again Postgresql kind.BigInt rest is end = rw end refl
kind_again Mysql kind.BigInt rest is end = rw end refl
kind_again Postgresql kind.Boolean rest is end = rw end refl
kind_again Mysql kind.Boolean rest is end = rw end refl
kind_again Postgresql kind.Text rest is end = rw end refl
kind_again Mysql kind.Text rest is end = rw end refl
kind_again Postgresql kind.Moment rest is end = rw end refl
kind_again Mysql kind.Moment rest is end = refl
kind_again Postgresql (kind.Varchar n) rest is end = rw (plain_number-decimal n (varchar_small n is), is) refl
kind_again Mysql (kind.Varchar n) rest is end = rw (plain_number-decimal n (varchar_small n is), is) refl
kind_again Postgresql (kind.Decimal p s) rest is end = rw (plain_number-decimal p (digits_small p s is).0, plain_number-decimal s (digits_small p s is).1, is) refl
kind_again Mysql (kind.Decimal p s) rest is end = rw (plain_number-decimal p (digits_small p s is).0, plain_number-decimal s (digits_small p s is).1, is) refl
