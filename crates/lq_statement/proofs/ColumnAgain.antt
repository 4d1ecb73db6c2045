-- The text of a column has its words, and is read from them.
use Rattle.std.proofs.Common.{◌≡◌, ◌⊎◌, ◌≤◌, ℕ, zero, suc, Bool, true, false, not, if◌then◌else◌, List, [], ◌∷◌, ◌++◌, length, Option, Some, None, inl, inr, ap, refl, arith}
use Rattle.std.specs.Option.{unwrap_or}
use Rattle.std.specs.Prelude.{codes}
use Rattle.lq_base.specs.Kind.{is_kind}
use Rattle.lq_base.specs.declared.dialect.Dialect.{Dialect}
use Rattle.lq_base.specs.declared.dialect.Dialect.TheVariants.{Postgresql, Mysql}
use Rattle.lq_base.specs.declared.kind.Kind.{Kind}
use Rattle.lq_base.specs.declared.literal.Literal.{Literal}
use Rattle.lq_model.specs.TestText as text
use Rattle.lq_model.specs.Comparison.{is_literal}
use Rattle.lq_model.specs.SqlTable.{added_column, column_clause, column_of, column_with, differ, identity, stated_column}
use Rattle.lq_model.specs.SqlParser.{expect, kind, many, many_of, pure, refuse, same_kind, sees}
use Rattle.lq_model.specs.SqlPart.{name}
use Rattle.lq_model.specs.SqlWord.{bare, folded, kind_of_word, with_text, words}
use Rattle.lq_model.specs.StatementText.{column_text, default_text, numbering, words_if}
use Rattle.lq_model.specs.declared.column.ColumnDef.{ColumnDef}
use Rattle.lq_model.specs.declared.phrase.Phrase.TheVariants as phrase
use Rattle.lq_model.specs.declared.table_item.ColumnClause.{ColumnClause}
use Rattle.lq_model.specs.declared.table_item.ColumnClause.TheVariants as clause
use Rattle.lq_model.specs.declared.word.Word.{Word}
use Rattle.lq_model.specs.declared.word.WordKind.TheVariants as word
use Rattle.lq_parse.proofs.Again.{IsLiteral, literal_again, literal_words}
use Rattle.lq_parse.proofs.Bytes.{Stops}
use Rattle.lq_parse.proofs.Chains.{many_end, many_next}
use Rattle.lq_parse.proofs.Fronts.{Says}
use Rattle.lq_parse.proofs.Objects.{IsReadName, name_read, name_word}
use Rattle.lq_parse.proofs.Spoken.{Below}
use Rattle.lq_statement.proofs.KindTexts.{kind_again, kind_said, kind_words}
use Rattle.lq_statement.proofs.ListsAgain.{literal_said}
use Rattle.lq_statement.proofs.Phrases as say
use Rattle.lq_statement.proofs.Said.{Tail, cl, ct, oc, opened, same_words}
use Rattle.lq_statement.proofs.Whole.{named}

-- what may follow a column or a constraint
abbrev pub EndsItem : List Word → Type 0
EndsItem rest = (kind rest ≡ word.Comma) ⊎ ((kind rest ≡ word.Close) ⊎ (kind rest ≡ word.End))

-- the words of its clauses

abbrev pub number_words : Dialect → Bool → List Word → List Word
number_words d false rest = rest
number_words Postgresql true rest = with_text word.Generated (folded Postgresql (codes "GENERATED")) ∷ with_text word.By (folded Postgresql (codes "BY")) ∷ bare word.Default ∷ bare word.As ∷ with_text word.Identity (folded Postgresql (codes "IDENTITY")) ∷ rest
number_words Mysql true rest = with_text word.AutoIncrement (folded Mysql (codes "AUTO_INCREMENT")) ∷ rest

abbrev pub null_words : Bool → List Word → List Word
null_words true rest = rest
null_words false rest = bare word.Not ∷ bare word.Null ∷ rest

abbrev pub default_words : Option Literal → List Word → List Word
default_words None rest = rest
default_words (Some l) rest = bare word.Default ∷ literal_words l rest

number_is : Below → (d : Dialect) (numbered : Bool) (rest : List ℕ) → Stops rest → Says d (words_if numbered (numbering d)) (number_words d numbered) rest
unfolding text.words kind_of_word
number_is below d false rest stop = same_words (words d rest)
number_is below Postgresql true rest stop = (say.identity below Postgresql).is rest stop
number_is below Mysql true rest stop = (say.auto_increment below Mysql).is rest stop

number_stops : (d : Dialect) (numbered : Bool) (rest : List ℕ) → Stops rest → Stops (words_if numbered (numbering d) ++ rest)
unfolding text.words
number_stops d false rest stop = stop
number_stops Postgresql true rest stop = refl
number_stops Mysql true rest stop = refl

null_is : Below → (d : Dialect) (nullable : Bool) (rest : List ℕ) → Stops rest → Says d (words_if (not nullable) phrase.NotNull) (null_words nullable) rest
unfolding text.words kind_of_word
null_is below d true rest stop = same_words (words d rest)
null_is below d false rest stop = (say.not_null below d).is rest stop

null_stops : (nullable : Bool) (rest : List ℕ) → Stops rest → Stops (words_if (not nullable) phrase.NotNull ++ rest)
unfolding text.words
null_stops true rest stop = stop
null_stops false rest stop = refl

abbrev pub CanDefault : Option Literal → Type 0
CanDefault None = Unit {0}
CanDefault (Some l) = is_literal l ≡ true

default_is : Below → (d : Dialect) (default : Option Literal) (rest : List ℕ) → CanDefault default → Stops rest → Says d (default_text d default) (default_words default) rest
unfolding text.words kind_of_word
default_is below d None rest can stop = same_words (words d rest)
default_is below d (Some l) rest can stop = (oc (opened (say.default below d)) (literal_said below d l can)).is rest stop

default_stops : (d : Dialect) (default : Option Literal) (rest : List ℕ) → Stops rest → Stops (default_text d default ++ rest)
unfolding text.words
default_stops d None rest stop = stop
default_stops d (Some l) rest stop = refl

-- a whole column

abbrev pub column_words : Dialect → ColumnDef → List Word → List Word
column_words d c rest = name_word c.name (kind_words d c.kind (number_words d c.numbered (null_words c.nullable (default_words c.default rest))))

pub column_says : Below → (d : Dialect) (c : ColumnDef) (rest : List ℕ) → is_kind c.kind ≡ true → CanDefault c.default → Stops rest → Says d (column_text d c) (column_words d c) rest
unfolding column_text text.words
column_says below d c rest is can stop =
    let numbers : Tail d (words_if c.numbered (numbering d)) = record { these = number_words d c.numbered; is = number_is below d c.numbered; stops = number_stops d c.numbered } in
    let nulls : Tail d (words_if (not c.nullable) phrase.NotNull) = record { these = null_words c.nullable; is = null_is below d c.nullable; stops = null_stops c.nullable } in
    let defaults : Tail d (default_text d c.default) = record { these = default_words c.default; is = λ more end. default_is below d c.default more can end; stops = default_stops d c.default } in
    (ct {b = default_text d c.default} (ct {b = words_if (not c.nullable) phrase.NotNull} (ct {b = words_if c.numbered (numbering d)} (oc (cl (named below d c.name) (say.blank below d)) (kind_said below d c.kind is)) numbers) nulls) defaults).is rest stop

-- and back

abbrev pub IsDefault : Option Literal → Type 0
IsDefault None = Unit {0}
IsDefault (Some l) = IsLiteral l

no_open : (d : Dialect) (numbered nullable : Bool) (default : Option Literal) (rest : List Word) → EndsItem rest → sees word.Open (number_words d numbered (null_words nullable (default_words default rest))) ≡ false
unfolding sees same_kind
no_open Postgresql true nullable default rest end = refl
no_open Mysql true nullable default rest end = refl
no_open d false false default rest end = refl
no_open d false true (Some l) rest end = refl
no_open d false true None rest (inl e) = rw e refl
no_open d false true None rest (inr (inl e)) = rw e refl
no_open d false true None rest (inr (inr e)) = rw e refl

abbrev null_of : Bool → Option Bool
null_of true = None
null_of false = Some false

-- the clauses that are written

abbrev number_clause : Bool → List ColumnClause → List ColumnClause
number_clause true cs = clause.Numbered ∷ cs
number_clause false cs = cs

abbrev null_clause : Bool → List ColumnClause → List ColumnClause
null_clause true cs = cs
null_clause false cs = clause.Nullable false ∷ cs

abbrev default_clause : Option Literal → List ColumnClause
default_clause None = []
default_clause (Some l) = clause.Default l ∷ []

abbrev written : Bool → Bool → Option Literal → List ColumnClause
written numbered nullable default = number_clause numbered (null_clause nullable (default_clause default))

clause_end : (d : Dialect) (rest : List Word) → EndsItem rest → column_clause d rest ≡ Some (None, rest)
unfolding column_clause
clause_end Postgresql rest (inl e) = rw e refl
clause_end Postgresql rest (inr (inl e)) = rw e refl
clause_end Postgresql rest (inr (inr e)) = rw e refl
clause_end Mysql rest (inl e) = rw e refl
clause_end Mysql rest (inr (inl e)) = rw e refl
clause_end Mysql rest (inr (inr e)) = rw e refl

default_again : (d : Dialect) (l : Literal) (rest : List Word) → IsLiteral l → column_clause d (bare word.Default ∷ literal_words l rest) ≡ Some (Some (clause.Default l), rest)
unfolding column_clause
default_again Postgresql l rest is = rw (literal_again l rest is) refl
default_again Mysql l rest is = rw (literal_again l rest is) refl

null_again : (d : Dialect) (rest : List Word) → column_clause d (bare word.Not ∷ bare word.Null ∷ rest) ≡ Some (Some (clause.Nullable false), rest)
unfolding column_clause expect sees same_kind
null_again Postgresql rest = refl
null_again Mysql rest = refl

number_again : (d : Dialect) (rest : List Word) → column_clause d (number_words d true rest) ≡ Some (Some clause.Numbered, rest)
unfolding column_clause identity expect sees same_kind
number_again Postgresql rest = refl
number_again Mysql rest = refl

-- in as many turns as there are clauses, or more
abbrev Found : Dialect → List Word → List ColumnClause → List Word → Type 0
Found d i cs rest = (n : ℕ) → length cs ≤ n → many_of (column_clause d) n i ≡ Some (cs, rest)

found_next : (d : Dialect) (x : ColumnClause) (cs : List ColumnClause) (i j rest : List Word) → column_clause d i ≡ Some (Some x, j) → Found d j cs rest → Found d i (x ∷ cs) rest
found_next d x cs i j rest is more zero enough = absurd (omega arith)
found_next d x cs i j rest is more (suc n) enough = many_next (column_clause d) n x cs i j rest is (more n (omega arith))

found_end : (d : Dialect) (rest : List Word) → EndsItem rest → Found d rest [] rest
found_end d rest end n enough = many_end (column_clause d) n rest (clause_end d rest end)

default_found : (d : Dialect) (default : Option Literal) (rest : List Word) → IsDefault default → EndsItem rest → Found d (default_words default rest) (default_clause default) rest
default_found d None rest is end = found_end d rest end
default_found d (Some l) rest is end = found_next d (clause.Default l) [] _ rest rest (default_again d l rest is) (found_end d rest end)

null_found : (d : Dialect) (nullable : Bool) (cs : List ColumnClause) (i rest : List Word) → Found d i cs rest → Found d (null_words nullable i) (null_clause nullable cs) rest
null_found d true cs i rest more = more
null_found d false cs i rest more = found_next d (clause.Nullable false) cs _ i rest (null_again d i) more

number_found : (d : Dialect) (numbered : Bool) (cs : List ColumnClause) (i rest : List Word) → Found d i cs rest → Found d (number_words d numbered i) (number_clause numbered cs) rest
number_found d true cs i rest more = found_next d clause.Numbered cs _ i rest (number_again d i) more
number_found d false cs i rest more = more

-- each has a word at least

default_count : (default : Option Literal) (rest : List Word) → length (default_clause default) ≤ length (default_words default rest)
default_count None rest = omega arith
default_count (Some l) rest = omega arith

null_count : (nullable : Bool) (cs : List ColumnClause) (i : List Word) → length cs ≤ length i → length (null_clause nullable cs) ≤ length (null_words nullable i)
null_count true cs i enough = enough
null_count false cs i enough = omega arith

number_count : (d : Dialect) (numbered : Bool) (cs : List ColumnClause) (i : List Word) → length cs ≤ length i → length (number_clause numbered cs) ≤ length (number_words d numbered i)
number_count d false cs i enough = enough
number_count Postgresql true cs i enough = omega arith
number_count Mysql true cs i enough = omega arith

clauses_again : (d : Dialect) (numbered nullable : Bool) (default : Option Literal) (rest : List Word) → IsDefault default → EndsItem rest
    → many (column_clause d) (number_words d numbered (null_words nullable (default_words default rest))) ≡ Some (written numbered nullable default, rest)
unfolding many
clauses_again d numbered nullable default rest is end =
    let nulls = null_words nullable (default_words default rest) in
    let said = null_clause nullable (default_clause default) in
    number_found d numbered said nulls rest (null_found d nullable (default_clause default) (default_words default rest) rest (default_found d default rest is end))
    (length (number_words d numbered nulls)) (number_count d numbered said nulls (null_count nullable (default_clause default) (default_words default rest) (default_count default rest)))

column_again : (n : List ℕ) (k : Kind) (numbered nullable : Bool) (default : Option Literal) (rest : List Word)
    → (if differ (written numbered nullable default) then pure (column_with n k (written numbered nullable default)) else refuse) rest
    ≡ Some (record { name = n; kind = k; nullable = null_of nullable; default = default; numbered = numbered; key = false; unique = false; target = None }, rest)
column_again n k true true None rest = refl
column_again n k true true (Some l) rest = refl
column_again n k true false None rest = refl
column_again n k true false (Some l) rest = refl
column_again n k false true None rest = refl
column_again n k false true (Some l) rest = refl
column_again n k false false None rest = refl
column_again n k false false (Some l) rest = refl

pub stated_again : (d : Dialect) (c : ColumnDef) (rest : List Word) → IsReadName c.name → is_kind c.kind ≡ true → IsDefault c.default → EndsItem rest
    → stated_column d (column_words d c rest) ≡ Some (record { name = c.name; kind = c.kind; nullable = null_of c.nullable; default = c.default; numbered = c.numbered; key = false; unique = false; target = None }, rest)
unfolding stated_column
stated_again d c rest one is default end =
    rw (name_read c.name (kind_words d c.kind (number_words d c.numbered (null_words c.nullable (default_words c.default rest)))) one, kind_again d c.kind (number_words d c.numbered (null_words c.nullable (default_words c.default rest))) is (no_open d c.numbered c.nullable c.default rest end), clauses_again d c.numbered c.nullable c.default rest default end)
    (column_again c.name c.kind c.numbered c.nullable c.default rest)

null_same : (nullable : Bool) → unwrap_or (null_of nullable) true ≡ nullable
null_same true = refl
null_same false = refl

pub added_again : (d : Dialect) (c : ColumnDef) (rest : List Word) → IsReadName c.name → is_kind c.kind ≡ true → IsDefault c.default → EndsItem rest → added_column d (column_words d c rest) ≡ Some (c, rest)
unfolding added_column
added_again d c rest one is default end = rw (stated_again d c rest one is default end) (ap (λ b. Some (record { name = c.name; kind = c.kind; nullable = b; default = c.default; numbered = c.numbered }, rest)) (null_same c.nullable))

pub column_same : (c : ColumnDef) → column_of (record { name = c.name; kind = c.kind; nullable = null_of c.nullable; default = c.default; numbered = c.numbered; key = false; unique = false; target = None }) ≡ c
column_same c = ap (λ b. record { name = c.name; kind = c.kind; nullable = b; default = c.default; numbered = c.numbered }) (null_same c.nullable)
