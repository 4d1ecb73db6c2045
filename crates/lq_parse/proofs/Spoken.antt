-- The canonical texts of literals, tests and queries have their canonical words.
use Rattle.std.proofs.Common.{◌≡◌, ℕ, true, false, List, ◌∷◌, ◌++◌, Option, Some, None, option_map, ap, ◌∙◌, refl, append_assoc, arith}
use Rattle.std.specs.Prelude.{codes}
use Rattle.lq_base.specs.Laws.{FixedReadsBack, SpellsGivesNumberOf}
use Rattle.lq_base.specs.Sql.{length_at}
use Rattle.lq_base.specs.declared.dialect.Dialect.{Dialect}
use Rattle.lq_base.specs.declared.dialect.Dialect.TheVariants.{Postgresql, Mysql}
use Rattle.lq_base.specs.declared.literal.Literal.{Literal}
use Rattle.lq_base.specs.declared.literal.Literal.TheVariants as constant
use Rattle.lq_model.specs.TestText as text
use Rattle.lq_model.specs.Comparison.{is_literal}
use Rattle.lq_model.specs.SqlWord.{bare, kind_of_word, words}
use Rattle.lq_model.specs.TestText.{literal_text, op_text, operand_text, test_text}
use Rattle.lq_model.specs.Truth.{Both, Either, Turned}
use Rattle.lq_model.specs.declared.phrase.Phrase.TheVariants as phrase
use Rattle.lq_model.specs.declared.test.Op.{Op}
use Rattle.lq_model.specs.declared.test.Op.TheVariants as op
use Rattle.lq_model.specs.declared.test.Operand.{Operand}
use Rattle.lq_model.specs.declared.test.Operand.TheVariants as side
use Rattle.lq_model.specs.declared.test.Test.{Compare, IsNull, NotNull, Test}
use Rattle.lq_model.specs.declared.word.Word.{Word}
use Rattle.lq_model.specs.declared.word.WordKind.{WordKind}
use Rattle.lq_model.specs.declared.word.WordKind.TheVariants as word
use Rattle.lq_sqllex.specs.Laws.{LexemesGoOn, NamesAreRead, TextsAreRead}
use Rattle.lq_parse.proofs.Again.{literal_words, op_kind, operand_words, test_words}
use Rattle.lq_parse.proofs.Bytes.{Stops}
use Rattle.lq_parse.proofs.Fronts.{Says, blank_says, keyword_says, last_keyword_says, mark_says, number_says}
use Rattle.lq_parse.proofs.Numbers.{fixed_number_text, whole_number_text}
use Rattle.lq_parse.proofs.Quotes.{name_says, string_says}

-- the laws that stand below
pub record Below : Type 0 where
  pub go_on : LexemesGoOn
  pub names : NamesAreRead
  pub strings : TextsAreRead
  pub fixed : FixedReadsBack
  pub spells : SpellsGivesNumberOf

twice : (f g : List Word → List Word) (o : Option (List Word)) → option_map f (option_map g o) ≡ option_map (λ ws. f (g ws)) o
twice f g None = refl
twice f g (Some ws) = refl

-- one text after another
pub then : (d : Dialect) (a b rest : List ℕ) (f g : List Word → List Word) → Says d a f (b ++ rest) → Says d b g rest → Says d (a ++ b) (λ ws. f (g ws)) rest
then d a b rest f g first second = ap (words d) (append_assoc a b rest) ∙ first ∙ ap (option_map f) second ∙ twice f g (words d rest)

-- marks

pub open_says : Below → (d : Dialect) (rest : List ℕ) → Says d (text.words phrase.Open) (λ ws. bare word.Open ∷ ws) rest
unfolding text.words length_at kind_of_word
open_says below Postgresql rest = mark_says below.go_on Postgresql (codes "(") rest word.Open (omega arith) refl refl refl
open_says below Mysql rest = mark_says below.go_on Mysql (codes "(") rest word.Open (omega arith) refl refl refl

pub close_says : Below → (d : Dialect) (rest : List ℕ) → Says d (text.words phrase.Close) (λ ws. bare word.Close ∷ ws) rest
unfolding text.words length_at kind_of_word
close_says below Postgresql rest = mark_says below.go_on Postgresql (codes ")") rest word.Close (omega arith) refl refl refl
close_says below Mysql rest = mark_says below.go_on Mysql (codes ")") rest word.Close (omega arith) refl refl refl

-- a mark between blanks
between : Below → (d : Dialect) (bytes rest : List ℕ) (k : WordKind) → words d (bytes ++ (32 ∷ rest)) ≡ option_map (λ ws. bare k ∷ ws) (words d (32 ∷ rest))
    → words d (32 ∷ (bytes ++ (32 ∷ rest))) ≡ option_map (λ ws. bare k ∷ ws) (words d rest)
between below d bytes rest k is =
    blank_says below.go_on d (bytes ++ (32 ∷ rest)) ∙ is ∙ ap (option_map (λ ws. bare k ∷ ws)) (blank_says below.go_on d rest)

pub op_says : Below → (d : Dialect) (o : Op) (rest : List ℕ) → Says d (op_text o) (λ ws. bare (op_kind o) ∷ ws) rest
unfolding text.words length_at kind_of_word
op_says below Postgresql op.Eq rest = between below Postgresql (codes "=") rest word.Equal (mark_says below.go_on Postgresql (codes "=") (32 ∷ rest) word.Equal (omega arith) refl refl refl)
op_says below Postgresql op.Ne rest = between below Postgresql (codes "<>") rest word.Unequal (mark_says below.go_on Postgresql (codes "<>") (32 ∷ rest) word.Unequal (omega arith) refl refl refl)
op_says below Postgresql op.Lt rest = between below Postgresql (codes "<") rest word.Less (mark_says below.go_on Postgresql (codes "<") (32 ∷ rest) word.Less (omega arith) refl refl refl)
op_says below Postgresql op.Le rest = between below Postgresql (codes "<=") rest word.AtMost (mark_says below.go_on Postgresql (codes "<=") (32 ∷ rest) word.AtMost (omega arith) refl refl refl)
op_says below Postgresql op.Gt rest = between below Postgresql (codes ">") rest word.More (mark_says below.go_on Postgresql (codes ">") (32 ∷ rest) word.More (omega arith) refl refl refl)
op_says below Postgresql op.Ge rest = between below Postgresql (codes ">=") rest word.AtLeast (mark_says below.go_on Postgresql (codes ">=") (32 ∷ rest) word.AtLeast (omega arith) refl refl refl)
op_says below Mysql op.Eq rest = between below Mysql (codes "=") rest word.Equal (mark_says below.go_on Mysql (codes "=") (32 ∷ rest) word.Equal (omega arith) refl refl refl)
op_says below Mysql op.Ne rest = between below Mysql (codes "<>") rest word.Unequal (mark_says below.go_on Mysql (codes "<>") (32 ∷ rest) word.Unequal (omega arith) refl refl refl)
op_says below Mysql op.Lt rest = between below Mysql (codes "<") rest word.Less (mark_says below.go_on Mysql (codes "<") (32 ∷ rest) word.Less (omega arith) refl refl refl)
op_says below Mysql op.Le rest = between below Mysql (codes "<=") rest word.AtMost (mark_says below.go_on Mysql (codes "<=") (32 ∷ rest) word.AtMost (omega arith) refl refl refl)
op_says below Mysql op.Gt rest = between below Mysql (codes ">") rest word.More (mark_says below.go_on Mysql (codes ">") (32 ∷ rest) word.More (omega arith) refl refl refl)
op_says below Mysql op.Ge rest = between below Mysql (codes ">=") rest word.AtLeast (mark_says below.go_on Mysql (codes ">=") (32 ∷ rest) word.AtLeast (omega arith) refl refl refl)

-- words

pub and_says : Below → (d : Dialect) (rest : List ℕ) → Says d (text.words phrase.And) (λ ws. bare word.And ∷ ws) rest
unfolding text.words kind_of_word
and_says below d rest = blank_says below.go_on d (codes "AND " ++ rest) ∙ keyword_says below.go_on d 65 (codes "ND") rest (bare word.And) refl refl

pub or_says : Below → (d : Dialect) (rest : List ℕ) → Says d (text.words phrase.Or) (λ ws. bare word.Or ∷ ws) rest
unfolding text.words kind_of_word
or_says below d rest = blank_says below.go_on d (codes "OR " ++ rest) ∙ keyword_says below.go_on d 79 (codes "R") rest (bare word.Or) refl refl

not_says : Below → (d : Dialect) (rest : List ℕ) → Says d (text.words phrase.Not) (λ ws. bare word.Open ∷ bare word.Not ∷ ws) rest
unfolding text.words kind_of_word
not_says below d rest =
    open_says below d (codes "NOT " ++ rest)
    ∙ ap (option_map (λ ws. bare word.Open ∷ ws)) (keyword_says below.go_on d 78 (codes "OT") rest (bare word.Not) refl refl)
    ∙ twice (λ ws. bare word.Open ∷ ws) (λ ws. bare word.Not ∷ ws) (words d rest)

null_says : Below → (d : Dialect) (rest : List ℕ) → Stops rest → Says d (codes "NULL") (λ ws. bare word.Null ∷ ws) rest
unfolding kind_of_word
null_says below d rest stop = last_keyword_says below.go_on d 78 (codes "ULL") rest (bare word.Null) refl stop refl

is_says : Below → (d : Dialect) (rest : List ℕ) → words d (codes " IS " ++ rest) ≡ option_map (λ ws. bare word.Is ∷ ws) (words d rest)
unfolding kind_of_word
is_says below d rest = blank_says below.go_on d (codes "IS " ++ rest) ∙ keyword_says below.go_on d 73 (codes "S") rest (bare word.Is) refl refl

is_null_says : Below → (d : Dialect) (rest : List ℕ) → Stops rest → Says d (text.words phrase.IsNull) (λ ws. bare word.Is ∷ bare word.Null ∷ ws) rest
unfolding text.words
is_null_says below d rest stop =
    is_says below d (codes "NULL" ++ rest)
    ∙ ap (option_map (λ ws. bare word.Is ∷ ws)) (null_says below d rest stop)
    ∙ twice (λ ws. bare word.Is ∷ ws) (λ ws. bare word.Null ∷ ws) (words d rest)

not_null_says : Below → (d : Dialect) (rest : List ℕ) → Stops rest → Says d (text.words phrase.IsNotNull) (λ ws. bare word.Is ∷ bare word.Not ∷ bare word.Null ∷ ws) rest
unfolding text.words kind_of_word
not_null_says below d rest stop =
    is_says below d (codes "NOT NULL" ++ rest)
    ∙ ap (option_map (λ ws. bare word.Is ∷ ws))
    (keyword_says below.go_on d 78 (codes "OT") (codes "NULL" ++ rest) (bare word.Not) refl refl
    ∙ ap (option_map (λ ws. bare word.Not ∷ ws)) (null_says below d rest stop)
    ∙ twice (λ ws. bare word.Not ∷ ws) (λ ws. bare word.Null ∷ ws) (words d rest))
    ∙ twice (λ ws. bare word.Is ∷ ws) (λ ws. bare word.Not ∷ bare word.Null ∷ ws) (words d rest)

-- literals and operands

pub literal_says : Below → (d : Dialect) (l : Literal) (rest : List ℕ) → is_literal l ≡ true → Stops rest → Says d (literal_text d l) (literal_words l) rest
unfolding literal_text text.words kind_of_word
literal_says below d constant.Null rest is stop = null_says below d rest stop
literal_says below d (constant.Bool true) rest is stop = last_keyword_says below.go_on d 84 (codes "RUE") rest (bare word.True) refl stop refl
literal_says below d (constant.Bool false) rest is stop = last_keyword_says below.go_on d 70 (codes "ALSE") rest (bare word.False) refl stop refl
literal_says below d (constant.Text t) rest is stop = string_says below.go_on below.strings d t rest stop
literal_says below d (constant.Int n) rest is stop = number_says below.go_on d _ rest (whole_number_text n is) stop
literal_says below d (constant.Fixed units scale) rest is stop = number_says below.go_on d _ rest (fixed_number_text below.fixed units scale is) stop

-- the literals of an operand and of a test can be written

abbrev pub HasLiterals : Operand → Type 0
HasLiterals (side.Column n) = Unit {0}
HasLiterals (side.Literal l) = is_literal l ≡ true

abbrev pub TestHasLiterals : Test → Type 0
TestHasLiterals (Compare o x y) = HasLiterals x × HasLiterals y
TestHasLiterals (IsNull x) = HasLiterals x
TestHasLiterals (NotNull x) = HasLiterals x
TestHasLiterals (Both a b) = TestHasLiterals a × TestHasLiterals b
TestHasLiterals (Either a b) = TestHasLiterals a × TestHasLiterals b
TestHasLiterals (Turned a) = TestHasLiterals a

operand_says : Below → (d : Dialect) (x : Operand) (rest : List ℕ) → HasLiterals x → Stops rest → Says d (operand_text d x) (operand_words x) rest
operand_says below d (side.Column n) rest is stop = name_says below.go_on below.names d n rest stop
operand_says below d (side.Literal l) rest is stop = literal_says below d l rest is stop

op_stops : (o : Op) (rest : List ℕ) → Stops (op_text o ++ rest)
unfolding text.words
op_stops op.Eq rest = refl
op_stops op.Ne rest = refl
op_stops op.Lt rest = refl
op_stops op.Le rest = refl
op_stops op.Gt rest = refl
op_stops op.Ge rest = refl

is_null_stops : (rest : List ℕ) → Stops (text.words phrase.IsNull ++ rest)
unfolding text.words
is_null_stops rest = refl

not_null_stops : (rest : List ℕ) → Stops (text.words phrase.IsNotNull ++ rest)
unfolding text.words
not_null_stops rest = refl

and_stops : (rest : List ℕ) → Stops (text.words phrase.And ++ rest)
unfolding text.words
and_stops rest = refl

or_stops : (rest : List ℕ) → Stops (text.words phrase.Or ++ rest)
unfolding text.words
or_stops rest = refl

close_stops : (rest : List ℕ) → Stops (text.words phrase.Close ++ rest)
unfolding text.words
close_stops rest = refl

-- `(`, a test, a word, a test and `)`
infix_says : Below → (d : Dialect) (a link b : List ℕ) (fa fb : List Word → List Word) (k : WordKind) (rest : List ℕ)
    → Says d a fa (link ++ (b ++ (text.words phrase.Close ++ rest)))
    → Says d link (λ ws. bare k ∷ ws) (b ++ (text.words phrase.Close ++ rest))
    → Says d b fb (text.words phrase.Close ++ rest)
    → Says d (text.words phrase.Open ++ a ++ link ++ b ++ text.words phrase.Close) (λ ws. bare word.Open ∷ fa (bare k ∷ fb (bare word.Close ∷ ws))) rest
infix_says below d a link b fa fb k rest first mid second =
    let opening = text.words phrase.Open in
    let closing = text.words phrase.Close in
    let e1 = then d opening a (link ++ (b ++ (closing ++ rest))) (λ ws. bare word.Open ∷ ws) fa (open_says below d _) first in
    let e2 = then d (opening ++ a) link (b ++ (closing ++ rest)) (λ ws. bare word.Open ∷ fa ws) (λ ws. bare k ∷ ws) e1 mid in
    let e3 = then d (opening ++ a ++ link) b (closing ++ rest) (λ ws. bare word.Open ∷ fa (bare k ∷ ws)) fb e2 second in
    then d (opening ++ a ++ link ++ b) closing rest (λ ws. bare word.Open ∷ fa (bare k ∷ fb ws)) (λ ws. bare word.Close ∷ ws) e3 (close_says below d rest)

pub test_says : Below → (d : Dialect) (t : Test) (rest : List ℕ) → TestHasLiterals t → Stops rest → Says d (test_text d t) (test_words t) rest
unfolding test_text
test_says below d (Compare o x y) rest is stop =
    then d (operand_text d x ++ op_text o) (operand_text d y) rest (λ ws. operand_words x (bare (op_kind o) ∷ ws)) (operand_words y)
    (then d (operand_text d x) (op_text o) (operand_text d y ++ rest) (operand_words x) (λ ws. bare (op_kind o) ∷ ws)
    (operand_says below d x (op_text o ++ (operand_text d y ++ rest)) is.0 (op_stops o _))
    (op_says below d o (operand_text d y ++ rest)))
    (operand_says below d y rest is.1 stop)
test_says below d (IsNull x) rest is stop =
    then d (operand_text d x) (text.words phrase.IsNull) rest (operand_words x) (λ ws. bare word.Is ∷ bare word.Null ∷ ws)
    (operand_says below d x (text.words phrase.IsNull ++ rest) is (is_null_stops rest))
    (is_null_says below d rest stop)
test_says below d (NotNull x) rest is stop =
    then d (operand_text d x) (text.words phrase.IsNotNull) rest (operand_words x) (λ ws. bare word.Is ∷ bare word.Not ∷ bare word.Null ∷ ws)
    (operand_says below d x (text.words phrase.IsNotNull ++ rest) is (not_null_stops rest))
    (not_null_says below d rest stop)
test_says below d (Both a b) rest is stop =
    infix_says below d (test_text d a) (text.words phrase.And) (test_text d b) (test_words a) (test_words b) word.And rest
    (test_says below d a _ is.0 (and_stops _)) (and_says below d _) (test_says below d b _ is.1 (close_stops rest))
test_says below d (Either a b) rest is stop =
    infix_says below d (test_text d a) (text.words phrase.Or) (test_text d b) (test_words a) (test_words b) word.Or rest
    (test_says below d a _ is.0 (or_stops _)) (or_says below d _) (test_says below d b _ is.1 (close_stops rest))
test_says below d (Turned a) rest is stop =
    then d (text.words phrase.Not ++ test_text d a) (text.words phrase.Close) rest (λ ws. bare word.Open ∷ bare word.Not ∷ test_words a ws) (λ ws. bare word.Close ∷ ws)
    (then d (text.words phrase.Not) (test_text d a) (text.words phrase.Close ++ rest) (λ ws. bare word.Open ∷ bare word.Not ∷ ws) (test_words a)
    (not_says below d _) (test_says below d a _ is (close_stops rest)))
    (close_says below d rest)
