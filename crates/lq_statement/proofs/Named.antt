-- Statements of names alone are read from their texts.
use Rattle.std.proofs.Common.{◌≡◌, ℕ, List, [], ◌∷◌, ◌++◌, Some, None, refl}
use Rattle.std.specs.Prelude.{codes}
use Rattle.lq_base.specs.Name.{beside, text_of}
use Rattle.lq_base.specs.declared.dialect.Dialect.{Dialect}
use Rattle.lq_base.specs.declared.dialect.Dialect.TheVariants.{Postgresql, Mysql}
use Rattle.lq_model.specs.TestText as text
use Rattle.lq_model.specs.TestText.{name_text}
use Rattle.lq_model.specs.SqlAlter.{alter, alter_column, alter_sequence, alter_table, alter_view, drop_part, new_name, rename_column, rename_part, rename_table_to, set_part, unset_part, drop_index, drop_object, rename_table}
use Rattle.lq_model.specs.SqlParser.{after, ended, expect, same_kind, sees}
use Rattle.lq_model.specs.SqlPart.{name}
use Rattle.lq_model.specs.SqlStatement.{statement}
use Rattle.lq_model.specs.SqlText.{statement_in}
use Rattle.lq_model.specs.SqlWord.{bare, folded, kind_of_word, with_text}
use Rattle.lq_model.specs.StatementText as statement_text
use Rattle.lq_model.specs.declared.phrase.Phrase.TheVariants as phrase
use Rattle.lq_model.specs.declared.statement.Statement.TheVariants.{DropColumn, DropConstraint, DropDefault, DropForeignKey, DropIndex, DropNotNull, DropPrimaryKey, DropSequence, DropTable, DropUnique, DropView, RenameColumn, RenameSequence, RenameTable, RenameView, SetNotNull}
use Rattle.lq_model.specs.declared.word.WordKind.TheVariants as word
use Rattle.lq_model.specs.declared.word.Word.{Word}
use Rattle.lq_parse.proofs.Objects.{IsReadName, IsReadObject, name_fact, name_read, name_word, object_again}
use Rattle.lq_parse.proofs.Spoken.{Below}
use Rattle.lq_statement.proofs.Phrases as say
use Rattle.lq_statement.proofs.Said.{Closed, cl, ct, oc}
use Rattle.lq_statement.proofs.Whole.{named, quoted, read_back}

-- `ALTER TABLE q` and `ALTER TABLE q ALTER COLUMN q`

abbrev pub of_table : Below → (d : Dialect) (t : List ℕ) → Closed d (text.words phrase.AlterTable ++ name_text d t)
of_table below d t = oc (say.alter_table below d) (named below d t)

abbrev pub of_column : Below → (d : Dialect) (t n : List ℕ) → Closed d (text.words phrase.AlterTable ++ name_text d t ++ text.words phrase.AlterColumn ++ name_text d n)
of_column below d t n = oc (cl (of_table below d t) (say.alter_column below d)) (named below d n)

-- what is written of a new name is its text, and it is read beside the old one
abbrev pub IsReadNew : List ℕ → List ℕ → Type 0
IsReadNew old to = IsReadName (text_of to) × (beside old (text_of to) ≡ to)

new_read : (old text to : List ℕ) (rest : List Word) → IsReadName text → beside old text ≡ to → new_name old (bare word.To ∷ with_text word.Quoted text ∷ rest) ≡ Some (to, rest)
unfolding new_name expect sees same_kind name
new_read old text to rest h e = rw (h.1, h.0, e) refl

-- tables

pub drop_table_back : Below → (d : Dialect) (t : List ℕ) → IsReadObject d t → statement_in d (statement_text.text_of d (DropTable t)) ≡ Some (DropTable t)
unfolding text.words kind_of_word statement drop_object sees same_kind after expect ended
drop_table_back below d t h = read_back d (DropTable t) _ (oc (say.drop_table below d) (named below d t)) (rw (object_again d t [] h refl) refl)

pub rename_table_back : Below → (d : Dialect) (t to : List ℕ) → IsReadObject d t → IsReadNew t to → statement_in d (statement_text.text_of d (RenameTable t to)) ≡ Some (RenameTable t to)
unfolding text.words kind_of_word statement alter alter_table rename_part rename_table rename_table_to sees same_kind after expect ended
rename_table_back below Postgresql t to h g =
    read_back Postgresql (RenameTable t to) _ (oc (cl (of_table below Postgresql t) (say.rename_to below Postgresql)) (quoted below Postgresql (text_of to)))
    (rw (object_again Postgresql t (with_text word.Rename (folded Postgresql (codes "RENAME")) ∷ bare word.To ∷ with_text word.Quoted (text_of to) ∷ []) h refl, new_read t (text_of to) to [] g.0 g.1) refl)
rename_table_back below Mysql t to h g =
    read_back Mysql (RenameTable t to) _ (oc (cl (oc (say.rename_table below Mysql) (named below Mysql t)) (say.to below Mysql)) (quoted below Mysql (text_of to)))
    (rw (name_read t (bare word.To ∷ with_text word.Quoted (text_of to) ∷ []) (name_fact t h), new_read t (text_of to) to [] g.0 g.1) refl)

-- columns

pub drop_column_back : Below → (d : Dialect) (t n : List ℕ) → IsReadObject d t → IsReadName n → statement_in d (statement_text.text_of d (DropColumn t n)) ≡ Some (DropColumn t n)
unfolding text.words kind_of_word statement alter alter_table drop_part sees same_kind after expect ended
drop_column_back below d t n h g =
    read_back d (DropColumn t n) _ (oc (cl (of_table below d t) (say.drop_column below d)) (named below d n))
    (rw (object_again d t (bare word.Drop ∷ bare word.Column ∷ name_word n []) h refl, name_read n [] g) refl)

pub rename_column_back : Below → (d : Dialect) (t n to : List ℕ) → IsReadObject d t → IsReadName n → IsReadName to → statement_in d (statement_text.text_of d (RenameColumn t n to)) ≡ Some (RenameColumn t n to)
unfolding text.words kind_of_word statement alter alter_table rename_part rename_column sees same_kind after expect ended
rename_column_back below d t n to h g k =
    read_back d (RenameColumn t n to) _ (oc (cl (oc (cl (of_table below d t) (say.rename_column below d)) (named below d n)) (say.to below d)) (named below d to))
    (rw (object_again d t (with_text word.Rename (folded d (codes "RENAME")) ∷ bare word.Column ∷ name_word n (bare word.To ∷ name_word to [])) h refl, name_read n (bare word.To ∷ name_word to []) g, name_read to [] k) refl)

pub set_not_null_back : Below → (t n : List ℕ) → IsReadObject Postgresql t → IsReadName n → statement_in Postgresql (statement_text.text_of Postgresql (SetNotNull t n)) ≡ Some (SetNotNull t n)
unfolding text.words kind_of_word statement alter alter_table alter_column set_part sees same_kind after expect ended
set_not_null_back below t n h g =
    read_back Postgresql (SetNotNull t n) _ (ct (of_column below Postgresql t n) (say.set_not_null below Postgresql))
    (rw (object_again Postgresql t (bare word.Alter ∷ bare word.Column ∷ name_word n (bare word.Set ∷ bare word.Not ∷ bare word.Null ∷ [])) h refl, name_read n (bare word.Set ∷ bare word.Not ∷ bare word.Null ∷ []) g) refl)

pub drop_not_null_back : Below → (t n : List ℕ) → IsReadObject Postgresql t → IsReadName n → statement_in Postgresql (statement_text.text_of Postgresql (DropNotNull t n)) ≡ Some (DropNotNull t n)
unfolding text.words kind_of_word statement alter alter_table alter_column unset_part sees same_kind after expect ended
drop_not_null_back below t n h g =
    read_back Postgresql (DropNotNull t n) _ (ct (of_column below Postgresql t n) (say.drop_not_null below Postgresql))
    (rw (object_again Postgresql t (bare word.Alter ∷ bare word.Column ∷ name_word n (bare word.Drop ∷ bare word.Not ∷ bare word.Null ∷ [])) h refl, name_read n (bare word.Drop ∷ bare word.Not ∷ bare word.Null ∷ []) g) refl)

pub drop_default_back : Below → (d : Dialect) (t n : List ℕ) → IsReadObject d t → IsReadName n → statement_in d (statement_text.text_of d (DropDefault t n)) ≡ Some (DropDefault t n)
unfolding text.words kind_of_word statement alter alter_table alter_column unset_part sees same_kind after expect ended
drop_default_back below Postgresql t n h g =
    read_back Postgresql (DropDefault t n) _ (ct (of_column below Postgresql t n) (say.drop_default below Postgresql))
    (rw (object_again Postgresql t (bare word.Alter ∷ bare word.Column ∷ name_word n (bare word.Drop ∷ bare word.Default ∷ [])) h refl, name_read n (bare word.Drop ∷ bare word.Default ∷ []) g) refl)
drop_default_back below Mysql t n h g =
    read_back Mysql (DropDefault t n) _ (ct (of_column below Mysql t n) (say.drop_default below Mysql))
    (rw (object_again Mysql t (bare word.Alter ∷ bare word.Column ∷ name_word n (bare word.Drop ∷ bare word.Default ∷ [])) h refl, name_read n (bare word.Drop ∷ bare word.Default ∷ []) g) refl)

-- constraints

pub drop_constraint_back : Below → (t n : List ℕ) → IsReadObject Postgresql t → IsReadName n → statement_in Postgresql (statement_text.text_of Postgresql (DropConstraint t n)) ≡ Some (DropConstraint t n)
unfolding text.words kind_of_word statement alter alter_table drop_part sees same_kind after expect ended
drop_constraint_back below t n h g =
    read_back Postgresql (DropConstraint t n) _ (oc (cl (of_table below Postgresql t) (say.drop_constraint below Postgresql)) (named below Postgresql n))
    (rw (object_again Postgresql t (bare word.Drop ∷ bare word.Constraint ∷ name_word n []) h refl, name_read n [] g) refl)

pub drop_primary_key_back : Below → (t : List ℕ) → IsReadObject Mysql t → statement_in Mysql (statement_text.text_of Mysql (DropPrimaryKey t)) ≡ Some (DropPrimaryKey t)
unfolding text.words kind_of_word statement alter alter_table drop_part sees same_kind after expect ended
drop_primary_key_back below t h =
    read_back Mysql (DropPrimaryKey t) _ (ct (of_table below Mysql t) (say.drop_primary_key below Mysql))
    (rw (object_again Mysql t (bare word.Drop ∷ bare word.Primary ∷ with_text word.Key (folded Mysql (codes "KEY")) ∷ []) h refl) refl)

pub drop_unique_back : Below → (t n : List ℕ) → IsReadObject Mysql t → IsReadName n → statement_in Mysql (statement_text.text_of Mysql (DropUnique t n)) ≡ Some (DropUnique t n)
unfolding text.words kind_of_word statement alter alter_table drop_part sees same_kind after expect ended
drop_unique_back below t n h g =
    read_back Mysql (DropUnique t n) _ (oc (cl (of_table below Mysql t) (say.drop_unique below Mysql)) (named below Mysql n))
    (rw (object_again Mysql t (bare word.Drop ∷ with_text word.Index (folded Mysql (codes "INDEX")) ∷ name_word n []) h refl, name_read n [] g) refl)

pub drop_foreign_key_back : Below → (t n : List ℕ) → IsReadObject Mysql t → IsReadName n → statement_in Mysql (statement_text.text_of Mysql (DropForeignKey t n)) ≡ Some (DropForeignKey t n)
unfolding text.words kind_of_word statement alter alter_table drop_part sees same_kind after expect ended
drop_foreign_key_back below t n h g =
    read_back Mysql (DropForeignKey t n) _ (oc (cl (of_table below Mysql t) (say.drop_foreign_key below Mysql)) (named below Mysql n))
    (rw (object_again Mysql t (bare word.Drop ∷ bare word.Foreign ∷ with_text word.Key (folded Mysql (codes "KEY")) ∷ name_word n []) h refl, name_read n [] g) refl)

-- indexes, views and sequences

pub drop_index_back : Below → (n : List ℕ) → IsReadObject Postgresql n → statement_in Postgresql (statement_text.text_of Postgresql (DropIndex n None)) ≡ Some (DropIndex n None)
unfolding text.words kind_of_word statement drop_object drop_index sees same_kind after expect ended
drop_index_back below n h = read_back Postgresql (DropIndex n None) _ (oc (say.drop_index below Postgresql) (named below Postgresql n)) (rw (object_again Postgresql n [] h refl) refl)

pub drop_index_on_back : Below → (n t : List ℕ) → IsReadName n → IsReadName t → statement_in Mysql (statement_text.text_of Mysql (DropIndex n (Some t))) ≡ Some (DropIndex n (Some t))
unfolding text.words kind_of_word statement drop_object drop_index sees same_kind after expect ended
drop_index_on_back below n t h g =
    read_back Mysql (DropIndex n (Some t)) _ (oc (cl (oc (say.drop_index below Mysql) (named below Mysql n)) (say.on below Mysql)) (named below Mysql t))
    (rw (name_read n (bare word.On ∷ name_word t []) h, name_read t [] g) refl)

pub drop_view_back : Below → (d : Dialect) (v : List ℕ) → IsReadObject d v → statement_in d (statement_text.text_of d (DropView v)) ≡ Some (DropView v)
unfolding text.words kind_of_word statement drop_object sees same_kind after expect ended
drop_view_back below d v h = read_back d (DropView v) _ (oc (say.drop_view below d) (named below d v)) (rw (object_again d v [] h refl) refl)

pub rename_view_back : Below → (v to : List ℕ) → IsReadObject Postgresql v → IsReadNew v to → statement_in Postgresql (statement_text.text_of Postgresql (RenameView v to)) ≡ Some (RenameView v to)
unfolding text.words kind_of_word statement alter alter_view sees same_kind after expect ended
rename_view_back below v to h g =
    read_back Postgresql (RenameView v to) _ (oc (cl (oc (say.alter_view below Postgresql) (named below Postgresql v)) (say.rename_to below Postgresql)) (quoted below Postgresql (text_of to)))
    (rw (object_again Postgresql v (with_text word.Rename (folded Postgresql (codes "RENAME")) ∷ bare word.To ∷ with_text word.Quoted (text_of to) ∷ []) h refl, new_read v (text_of to) to [] g.0 g.1) refl)

pub drop_sequence_back : Below → (s : List ℕ) → IsReadObject Postgresql s → statement_in Postgresql (statement_text.text_of Postgresql (DropSequence s)) ≡ Some (DropSequence s)
unfolding text.words kind_of_word statement drop_object sees same_kind after expect ended
drop_sequence_back below s h = read_back Postgresql (DropSequence s) _ (oc (say.drop_sequence below Postgresql) (named below Postgresql s)) (rw (object_again Postgresql s [] h refl) refl)

pub rename_sequence_back : Below → (s to : List ℕ) → IsReadObject Postgresql s → IsReadNew s to → statement_in Postgresql (statement_text.text_of Postgresql (RenameSequence s to)) ≡ Some (RenameSequence s to)
unfolding text.words kind_of_word statement alter alter_sequence sees same_kind after expect ended
rename_sequence_back below s to h g =
    read_back Postgresql (RenameSequence s to) _ (oc (cl (oc (say.alter_sequence below Postgresql) (named below Postgresql s)) (say.rename_to below Postgresql)) (quoted below Postgresql (text_of to)))
    (rw (object_again Postgresql s (with_text word.Rename (folded Postgresql (codes "RENAME")) ∷ bare word.To ∷ with_text word.Quoted (text_of to) ∷ []) h refl, new_read s (text_of to) to [] g.0 g.1) refl)
