-- Defaults, kinds, indexes, views and sequences: statements that are read from their texts.
use Rattle.std.proofs.Common.{◌≡◌, ℕ, ℤ, pos, Bool, true, false, not, List, [], ◌∷◌, ◌++◌, Option, Some, refl}
use Rattle.std.specs.Prelude.{codes}
use Rattle.std.specs.Ordering.{int_eq}
use Rattle.lq_base.specs.Number.{whole_text}
use Rattle.lq_base.specs.declared.dialect.Dialect.{Dialect}
use Rattle.lq_base.specs.declared.dialect.Dialect.TheVariants.{Postgresql, Mysql}
use Rattle.lq_base.specs.declared.kind.Kind.{Kind}
use Rattle.lq_base.specs.declared.literal.Literal.{Literal}
use Rattle.lq_base.specs.declared.literal.Literal.TheVariants as constant
use Rattle.lq_base.specs.Kind.{is_kind}
use Rattle.lq_model.specs.TestText as text
use Rattle.lq_model.specs.Comparison.{is_literal}
use Rattle.lq_model.specs.SqlAlter.{alter, alter_column, alter_table, modify, set_part}
use Rattle.lq_model.specs.SqlStatement.{create, create_index, create_sequence, create_view, step, whole, statement}
use Rattle.lq_model.specs.SqlParser.{after, ended, expect, same_kind, sees}
use Rattle.lq_model.specs.SqlPart.{literal}
use Rattle.lq_model.specs.SqlText.{statement_in}
use Rattle.lq_model.specs.SqlWord.{bare, folded, kind_of_word, with_text}
use Rattle.lq_model.specs.Step.{is_wanted, is_where}
use Rattle.lq_model.specs.StatementText.{text_of}
use Rattle.lq_model.specs.TestText.{query_text}
use Rattle.lq_model.specs.declared.query.Query.{Query}
use Rattle.lq_model.specs.declared.query.Wanted.{Wanted}
use Rattle.lq_model.specs.declared.query.Wanted.TheVariants as wanted
use Rattle.lq_model.specs.declared.statement.Statement.TheVariants.{CreateIndex, CreateSequence, CreateView, Modify, SetDefault}
use Rattle.lq_model.specs.declared.test.Test.{Test}
use Rattle.lq_model.specs.declared.word.Word.{Word}
use Rattle.lq_model.specs.declared.word.WordKind.TheVariants as word
use Rattle.lq_parse.proofs.Again.{IsLiteral, literal_again, literal_words}
use Rattle.lq_parse.proofs.Fronts.{Says, number_says}
use Rattle.lq_parse.proofs.Lists.{EachItem}
use Rattle.lq_parse.proofs.Objects.{IsReadName, IsReadObject, name_read, name_word, object_again}
use Rattle.lq_parse.proofs.Numbers.{whole_number, whole_number_text}
use Rattle.lq_parse.proofs.QueryAgain.{names_words, query_again, query_says, wanted_names, wanted_words, where_again, where_words}
use Rattle.lq_parse.proofs.Spoken.{Below, then}
use Rattle.lq_statement.proofs.KindTexts.{kind_again, kind_said, kind_words}
use Rattle.lq_statement.proofs.ListsAgain.{literal_said, names_again, names_said}
use Rattle.lq_statement.proofs.Named.{of_column, of_table}
use Rattle.lq_statement.proofs.Phrases as say
use Rattle.lq_statement.proofs.Said.{Closed, Open, cl, ct, oc, ready}
use Rattle.lq_statement.proofs.Whole.{named, read_back, read_says}

-- SET DEFAULT and MODIFY

pub set_default_back : Below → (d : Dialect) (t n : List ℕ) (l : Literal) → IsReadObject d t → IsReadName n → is_literal l ≡ true → IsLiteral l → statement_in d (text_of d (SetDefault t n l)) ≡ Some (SetDefault t n l)
unfolding text.words kind_of_word statement alter alter_table alter_column set_part sees same_kind after expect ended
set_default_back below Postgresql t n l h g is k = read_back Postgresql (SetDefault t n l) _ (oc (cl (of_column below Postgresql t n) (say.set_default below Postgresql)) (literal_said below Postgresql l is))
    (rw (object_again Postgresql t (bare word.Alter ∷ bare word.Column ∷ name_word n (bare word.Set ∷ bare word.Default ∷ literal_words l [])) h refl, name_read n (bare word.Set ∷ bare word.Default ∷ literal_words l []) g, literal_again l [] k) refl)
set_default_back below Mysql t n l h g is k = read_back Mysql (SetDefault t n l) _ (oc (cl (of_column below Mysql t n) (say.set_default below Mysql)) (literal_said below Mysql l is))
    (rw (object_again Mysql t (bare word.Alter ∷ bare word.Column ∷ name_word n (bare word.Set ∷ bare word.Default ∷ literal_words l [])) h refl, name_read n (bare word.Set ∷ bare word.Default ∷ literal_words l []) g, literal_again l [] k) refl)

not_open : (rest : List Word) → sees word.Open (bare word.Not ∷ rest) ≡ false
unfolding sees same_kind
not_open rest = refl

null_closed : (rest : List Word) → sees word.Open (bare word.Null ∷ rest) ≡ false
unfolding sees same_kind
null_closed rest = refl

pub modify_back : Below → (t n : List ℕ) (k : Kind) (nullable : Bool) → IsReadObject Mysql t → IsReadName n → is_kind k ≡ true → statement_in Mysql (text_of Mysql (Modify t n k nullable)) ≡ Some (Modify t n k nullable)
unfolding text.words kind_of_word statement alter alter_table modify sees same_kind after expect ended
modify_back below t n k false h g is =
    read_back Mysql (Modify t n k false) _ (ct (oc (cl (oc (cl (of_table below Mysql t) (say.modify below Mysql)) (named below Mysql n)) (say.blank below Mysql)) (kind_said below Mysql k is)) (say.not_null below Mysql))
    (rw (object_again Mysql t (with_text word.Modify (folded Mysql (codes "MODIFY")) ∷ name_word n (kind_words Mysql k (bare word.Not ∷ bare word.Null ∷ []))) h refl, name_read n (kind_words Mysql k (bare word.Not ∷ bare word.Null ∷ [])) g, kind_again Mysql k (bare word.Not ∷ bare word.Null ∷ []) is (not_open (bare word.Null ∷ []))) refl)
modify_back below t n k true h g is =
    read_back Mysql (Modify t n k true) _ (ct (oc (cl (oc (cl (of_table below Mysql t) (say.modify below Mysql)) (named below Mysql n)) (say.blank below Mysql)) (kind_said below Mysql k is)) (say.nullable below Mysql))
    (rw (object_again Mysql t (with_text word.Modify (folded Mysql (codes "MODIFY")) ∷ name_word n (kind_words Mysql k (bare word.Null ∷ []))) h refl, name_read n (kind_words Mysql k (bare word.Null ∷ [])) g, kind_again Mysql k (bare word.Null ∷ []) is (null_closed [])) refl)

-- CREATE INDEX

pub index_back : Below → (d : Dialect) (t n c : List ℕ) (cs : List (List ℕ)) (unique : Bool) → IsReadObject d t → IsReadName n → IsReadName c → EachItem IsReadName cs
    → statement_in d (text_of d (CreateIndex t (record { name = n; columns = c ∷ cs; unique = unique }))) ≡ Some (CreateIndex t (record { name = n; columns = c ∷ cs; unique = unique }))
unfolding text.words kind_of_word statement create create_index sees same_kind after expect ended
index_back below d t n c cs false h g one each =
    read_back d _ _ (ready (cl (oc (cl (oc (cl (oc (say.create_index below d) (named below d n)) (say.on below d)) (named below d t)) (say.open_next below d)) (names_said below d c cs)) (say.close below d)))
    (rw (name_read n (bare word.On ∷ name_word t (bare word.Open ∷ names_words (c ∷ cs) (bare word.Close ∷ []))) g, object_again d t (bare word.Open ∷ names_words (c ∷ cs) (bare word.Close ∷ [])) h refl, names_again c cs [] one each) refl)
index_back below d t n c cs true h g one each =
    read_back d _ _ (ready (cl (oc (cl (oc (cl (oc (say.create_unique_index below d) (named below d n)) (say.on below d)) (named below d t)) (say.open_next below d)) (names_said below d c cs)) (say.close below d)))
    (rw (name_read n (bare word.On ∷ name_word t (bare word.Open ∷ names_words (c ∷ cs) (bare word.Close ∷ []))) g, object_again d t (bare word.Open ∷ names_words (c ∷ cs) (bare word.Close ∷ [])) h refl, names_again c cs [] one each) refl)

-- CREATE VIEW

as_first : (rest : List Word) → sees word.Dot (bare word.As ∷ rest) ≡ false
unfolding sees same_kind
as_first rest = refl

with_query : Below → (d : Dialect) (bytes : List ℕ) (part : Open d bytes) (q : Query) → is_wanted q.wanted ≡ true → is_where q.test ≡ true
    → Says d (bytes ++ query_text d q) (λ ws. part.these (wanted_words d q.wanted (name_word q.table (where_words q.test ws)))) []
with_query below d bytes part q is can = then d bytes (query_text d q) [] part.these (λ ws. wanted_words d q.wanted (name_word q.table (where_words q.test ws))) (part.is (query_text d q ++ [])) (query_says below d q is can)

pub view_back : Below → (d : Dialect) (v : List ℕ) (w : Wanted) (table : List ℕ) (test : Option Test) (replace : Bool) → IsReadObject d v → is_wanted w ≡ true → EachItem IsReadName (wanted_names w) → IsReadObject d table → is_where test ≡ true
    → statement_in d (text_of d (CreateView v (record { wanted = w; table = table; test = test }) replace)) ≡ Some (CreateView v (record { wanted = w; table = table; test = test }) replace)
unfolding text.words kind_of_word statement create create_view sees same_kind after expect ended
view_back below d v w table test false h is each one can =
    read_says d _ _ (λ ws. bare word.Create ∷ with_text word.View (folded d (codes "VIEW")) ∷ name_word v (bare word.As ∷ wanted_words d w (name_word table (where_words test ws))))
    (with_query below d _ (cl (oc (say.create_view below d) (named below d v)) (say.as_query below d)) (record { wanted = w; table = table; test = test }) is can)
    (rw (object_again d v (bare word.As ∷ wanted_words d w (name_word table (where_words test []))) h (as_first (wanted_words d w (name_word table (where_words test [])))), query_again d w table test is each one (where_again test can below)) refl)
view_back below d v w table test true h is each one can =
    read_says d _ _ (λ ws. bare word.Create ∷ bare word.Or ∷ with_text word.Replace (folded d (codes "REPLACE")) ∷ with_text word.View (folded d (codes "VIEW")) ∷ name_word v (bare word.As ∷ wanted_words d w (name_word table (where_words test ws))))
    (with_query below d _ (cl (oc (say.create_or_replace_view below d) (named below d v)) (say.as_query below d)) (record { wanted = w; table = table; test = test }) is can)
    (rw (object_again d v (bare word.As ∷ wanted_words d w (name_word table (where_words test []))) h (as_first (wanted_words d w (name_word table (where_words test [])))), query_again d w table test is each one (where_again test can below)) refl)

-- CREATE SEQUENCE

abbrev number_said : Below → (d : Dialect) (n : ℤ) → is_literal (constant.Int n) ≡ true → Closed d (whole_text n)
number_said below d n is = record { these = λ ws. with_text word.Number (whole_text n) ∷ ws; is = λ rest stop. number_says below.go_on d (whole_text n) rest (whole_number_text n is) stop }

no_zero : (n : ℤ) → not (int_eq n (pos 0)) ≡ true → int_eq n (pos 0) ≡ false
no_zero n h = by (int_eq n (pos 0)) h
  where
    by : (b : Bool) → not b ≡ true → b ≡ false
    by true e = absurd cc
    by false e = refl

pub sequence_back : Below → (s : List ℕ) (start size : ℤ) → IsReadObject Postgresql s → is_literal (constant.Int start) ≡ true → is_literal (constant.Int size) ≡ true → not (int_eq size (pos 0)) ≡ true
    → statement_in Postgresql (text_of Postgresql (CreateSequence s start size)) ≡ Some (CreateSequence s start size)
unfolding text.words kind_of_word statement create create_sequence step whole literal sees same_kind after expect ended
sequence_back below s start size h a b c =
    read_back Postgresql (CreateSequence s start size) _
    (oc (cl (oc (cl (oc (say.create_sequence below Postgresql) (named below Postgresql s)) (say.start_with below Postgresql)) (number_said below Postgresql start a)) (say.increment_by below Postgresql)) (number_said below Postgresql size b))
    (rw (object_again Postgresql s (with_text word.Start (folded Postgresql (codes "START")) ∷ with_text word.With (folded Postgresql (codes "WITH")) ∷ with_text word.Number (whole_text start) ∷ with_text word.Increment (folded Postgresql (codes "INCREMENT")) ∷ with_text word.By (folded Postgresql (codes "BY")) ∷ with_text word.Number (whole_text size) ∷ []) h refl, whole_number start a, whole_number size b, no_zero size c) refl)
