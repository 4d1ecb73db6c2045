-- What ALTER gives is a statement of the dialect.
use Rattle.std.proofs.Common.{◌≡◌, ℕ, true, false, ◌&&◌, if◌then◌else◌, List}
use Rattle.std.proofs.lemmas.Bool.{and_from}
use Rattle.lq_base.specs.Laws.{NumberOfSpells}
use Rattle.lq_base.proofs.NameLemmas.{beside_named, is_name_key_name, parts_of_name}
use Rattle.lq_base.specs.Name.{beside, is_beside, is_name, is_object, text_of}
use Rattle.lq_base.specs.declared.dialect.Dialect.{Dialect}
use Rattle.lq_base.specs.declared.dialect.Dialect.TheVariants.{Postgresql, Mysql}
use Rattle.lq_model.specs.SqlAlter.{add, add_column, add_constraint, alter, alter_by, alter_column, alter_column_by, alter_sequence, alter_table, alter_table_by, alter_view, constraint_added, drop_part, drop_part_by, modify, new_name, rename_column, rename_part, rename_table_to, set_by, set_part, unset_by, unset_part, rename_table}
use Rattle.lq_model.specs.SqlTable.{added_column}
use Rattle.lq_model.specs.SqlConstraint.{begins_constraint, table_constraint}
use Rattle.lq_model.specs.SqlParser.{eat, expect, peek, skip}
use Rattle.lq_model.specs.SqlPart.{column_kind, literal, name, object}
use Rattle.lq_model.specs.declared.statement.Statement.TheVariants.{AddColumn, DropColumn, DropConstraint, DropDefault, DropForeignKey, DropNotNull, DropPrimaryKey, DropUnique, Modify, RenameColumn, RenameSequence, RenameTable, RenameView, SetDefault, SetNotNull}
use Rattle.lq_model.specs.declared.table_item.TableConstraint.{TableConstraint}
use Rattle.lq_model.specs.declared.table_item.TableConstraint.TheVariants as constraint
use Rattle.lq_model.specs.declared.word.WordKind.{WordKind}
use Rattle.lq_model.specs.declared.word.WordKind.TheVariants as word
use Rattle.lq_parse.proofs.CanWrite.{literals}
use Rattle.lq_parse.proofs.Makes.{IsLiteralText, IsNameText, IsObjectText, Makes, makes_after, makes_if, makes_pure, makes_refuse, makes_then, name_makes, object_makes}
use Rattle.lq_statement.proofs.ColumnMakes.{IsDef, added_makes}
use Rattle.lq_statement.proofs.ConstraintMakes.{IsConstraint, constraint_makes}
use Rattle.lq_statement.proofs.KindMakes.{IsKind, kind_makes}
use Rattle.lq_statement.proofs.Parts.{Is, join}
use Rattle.lq_base.proofs.BesideLemmas.{is_beside_beside}

-- what an object is renamed to
abbrev IsNewText : Dialect → List ℕ → List ℕ → Type 0
IsNewText d old to = (is_object d to ≡ true) × (is_beside old to ≡ true)

new_is : (d : Dialect) (old to : List ℕ) → IsObjectText d old → IsNameText to → IsNewText d old (beside old to)
new_is Postgresql old to h g = (beside_named old to h g, is_beside_beside old to h g)
new_is Mysql old to h g = (rw (parts_of_name old h) g, is_beside_beside old to (is_name_key_name old h) g)

new_text_is : (d : Dialect) (old to : List ℕ) → IsObjectText d old → IsNameText to → IsNewText d old (beside old (text_of to))
new_text_is d old to h g = rw (parts_of_name to g) (new_is d old to h g)

new_makes : (d : Dialect) (old : List ℕ) → IsObjectText d old → Makes (IsNewText d old) (new_name old)
unfolding new_name
new_makes d old h =
    makes_after (IsNewText d old) (expect word.To) _ (λ a. makes_then IsNameText (IsNewText d old) name _ name_makes (λ to g.
    makes_pure (IsNewText d old) (beside old (text_of to)) (new_text_is d old to h g)))

-- two names

two : (d : Dialect) (t n : List ℕ) → IsObjectText d t → IsNameText n → (is_object d t && is_name n) ≡ true
two d t n h g = and_from (is_object d t) (is_name n) h g

-- ADD

added_is : (d : Dialect) (t : List ℕ) (it : TableConstraint) → IsObjectText d t → IsConstraint d it → Is d (constraint_added t it)
added_is d t (constraint.Key k) h g = join h g
added_is d t (constraint.Unique u) h g = join h g
added_is d t (constraint.Foreign f) h g = join h g

add_makes : NumberOfSpells → (d : Dialect) (t : List ℕ) → IsObjectText d t → Makes (Is d) (add d t)
unfolding add add_column add_constraint
add_makes spells d t h =
    makes_after (Is d) peek _ (λ found. makes_if (Is d) (begins_constraint found) _ _
    (makes_then (IsConstraint d) (Is d) (table_constraint d t) _ (constraint_makes d t) (λ it g. makes_pure (Is d) (constraint_added t it) (added_is d t it h g)))
    (makes_after (Is d) (eat word.Column) _ (λ a. makes_then IsDef (Is d) (added_column d) _ (added_makes spells d) (λ column g. makes_pure (Is d) (AddColumn t column) (join h g)))))

-- DROP

drop_part_makes : (d : Dialect) (t : List ℕ) → IsObjectText d t → Makes (Is d) (drop_part d t)
unfolding drop_part
drop_part_makes d t h = makes_after (Is d) peek (drop_part_by d t) (by d h)
  where
    by : (d : Dialect) → IsObjectText d t → (k : WordKind) → Makes (Is d) (drop_part_by d t k)
    by d h word.Column = makes_after (Is d) skip _ (λ a. makes_then IsNameText (Is d) name _ name_makes (λ n g. makes_pure (Is d) (DropColumn t n) (two d t n h g)))
    by Postgresql h word.Constraint = makes_after (Is Postgresql) skip _ (λ a. makes_then IsNameText (Is Postgresql) name _ name_makes (λ n g. makes_pure (Is Postgresql) (DropConstraint t n) (two Postgresql t n h g)))
    by Mysql h word.Primary = makes_after (Is Mysql) skip _ (λ a. makes_after (Is Mysql) (expect word.Key) _ (λ b. makes_pure (Is Mysql) (DropPrimaryKey t) h))
    by Mysql h word.Index = makes_after (Is Mysql) skip _ (λ a. makes_then IsNameText (Is Mysql) name _ name_makes (λ n g. makes_pure (Is Mysql) (DropUnique t n) (two Mysql t n h g)))
    by Mysql h word.Foreign = makes_after (Is Mysql) skip _ (λ a. makes_after (Is Mysql) (expect word.Key) _ (λ b. makes_then IsNameText (Is Mysql) name _ name_makes (λ n g. makes_pure (Is Mysql) (DropForeignKey t n) (two Mysql t n h g))))
    by d h _ = makes_refuse (Is d)

-- ALTER COLUMN

set_makes : NumberOfSpells → (d : Dialect) (t n : List ℕ) → IsObjectText d t → IsNameText n → Makes (Is d) (set_part d t n)
unfolding set_part
set_makes spells d t n h g = makes_after (Is d) peek (set_by d t n) (by d h)
  where
    by : (d : Dialect) → IsObjectText d t → (k : WordKind) → Makes (Is d) (set_by d t n k)
    by Postgresql h word.Not = makes_after (Is Postgresql) skip _ (λ a. makes_after (Is Postgresql) (expect word.Null) _ (λ b. makes_pure (Is Postgresql) (SetNotNull t n) (two Postgresql t n h g)))
    by d h word.Default = makes_after (Is d) skip _ (λ a. makes_then IsLiteralText (Is d) literal _ (literals spells) (λ l k. makes_pure (Is d) (SetDefault t n l) (join h (join g k))))
    by d h _ = makes_refuse (Is d)

unset_makes : (d : Dialect) (t n : List ℕ) → IsObjectText d t → IsNameText n → Makes (Is d) (unset_part d t n)
unfolding unset_part
unset_makes d t n h g = makes_after (Is d) peek (unset_by d t n) (by d h)
  where
    by : (d : Dialect) → IsObjectText d t → (k : WordKind) → Makes (Is d) (unset_by d t n k)
    by Postgresql h word.Not = makes_after (Is Postgresql) skip _ (λ a. makes_after (Is Postgresql) (expect word.Null) _ (λ b. makes_pure (Is Postgresql) (DropNotNull t n) (two Postgresql t n h g)))
    by d h word.Default = makes_after (Is d) skip _ (λ a. makes_pure (Is d) (DropDefault t n) (two d t n h g))
    by d h _ = makes_refuse (Is d)

alter_column_makes : NumberOfSpells → (d : Dialect) (t : List ℕ) → IsObjectText d t → Makes (Is d) (alter_column d t)
unfolding alter_column
alter_column_makes spells d t h =
    makes_after (Is d) (expect word.Column) _ (λ a. makes_then IsNameText (Is d) name _ name_makes (λ n g. makes_after (Is d) peek (alter_column_by d t n) (by n g)))
  where
    by : (n : List ℕ) → IsNameText n → (k : WordKind) → Makes (Is d) (alter_column_by d t n k)
    by n g word.Set = makes_after (Is d) skip _ (λ a. set_makes spells d t n h g)
    by n g word.Drop = makes_after (Is d) skip _ (λ a. unset_makes d t n h g)
    by n g _ = makes_refuse (Is d)

-- RENAME

pub rename_table_makes : (d : Dialect) (t : List ℕ) → IsObjectText d t → Makes (Is d) (rename_table_to t)
unfolding rename_table_to
rename_table_makes d t h = makes_then (IsNewText d t) (Is d) (new_name t) _ (new_makes d t h) (λ to g. makes_pure (Is d) (RenameTable t to) (join h (join g.0 g.1)))

rename_makes : (d : Dialect) (t : List ℕ) → IsObjectText d t → Makes (Is d) (rename_part t)
unfolding rename_part rename_column
rename_makes d t h =
    makes_after (Is d) (eat word.Column) _ (λ column. makes_if (Is d) column _ _
    (makes_then IsNameText (Is d) name _ name_makes (λ n g. makes_after (Is d) (expect word.To) _ (λ a. makes_then IsNameText (Is d) name _ name_makes (λ to k. makes_pure (Is d) (RenameColumn t n to) (join h (join g k))))))
    (rename_table_makes d t h))

pub rename_table_statement : Makes (Is Mysql) rename_table
unfolding rename_table
rename_table_statement = makes_after (Is Mysql) (expect word.Table) _ (λ a. makes_then IsNameText (Is Mysql) name _ name_makes (λ t h. rename_table_makes Mysql t h))

-- MODIFY

modify_makes : (t : List ℕ) → IsNameText t → Makes (Is Mysql) (modify t)
unfolding modify
modify_makes t h =
    makes_then IsNameText (Is Mysql) name _ name_makes (λ n g. makes_then IsKind (Is Mysql) column_kind _ kind_makes (λ k is. makes_after (Is Mysql) (eat word.Not) _ (λ required. makes_after (Is Mysql) (expect word.Null) _ (λ a.
    makes_pure (Is Mysql) (Modify t n k (if required then false else true)) (and_from (is_name t) _ h (and_from (is_name n) _ g is))))))

alter_table_makes : NumberOfSpells → (d : Dialect) → Makes (Is d) (alter_table d)
unfolding alter_table
alter_table_makes spells d =
    makes_then (IsObjectText d) (Is d) (object d) _ (object_makes d) (λ t h. makes_after (Is d) peek (alter_table_by d t) (by d t h))
  where
    by : (d : Dialect) (t : List ℕ) → IsObjectText d t → (k : WordKind) → Makes (Is d) (alter_table_by d t k)
    by d t h word.Add = makes_after (Is d) skip _ (λ a. add_makes spells d t h)
    by d t h word.Alter = makes_after (Is d) skip _ (λ a. alter_column_makes spells d t h)
    by d t h word.Drop = makes_after (Is d) skip _ (λ a. drop_part_makes d t h)
    by d t h word.Rename = makes_after (Is d) skip _ (λ a. rename_makes d t h)
    by Mysql t h word.Modify = makes_after (Is Mysql) skip _ (λ a. modify_makes t h)
    by d t h _ = makes_refuse (Is d)

view_makes : Makes (Is Postgresql) (alter_view Postgresql)
unfolding alter_view
view_makes = makes_then (IsObjectText Postgresql) (Is Postgresql) (object Postgresql) _ (object_makes Postgresql) (λ v h. makes_after (Is Postgresql) (expect word.Rename) _ (λ a. makes_then (IsNewText Postgresql v) (Is Postgresql) (new_name v) _ (new_makes Postgresql v h) (λ to g. makes_pure (Is Postgresql) (RenameView v to) (join h (join g.0 g.1)))))

sequence_makes : Makes (Is Postgresql) (alter_sequence Postgresql)
unfolding alter_sequence
sequence_makes = makes_then (IsObjectText Postgresql) (Is Postgresql) (object Postgresql) _ (object_makes Postgresql) (λ s h. makes_after (Is Postgresql) (expect word.Rename) _ (λ a. makes_then (IsNewText Postgresql s) (Is Postgresql) (new_name s) _ (new_makes Postgresql s h) (λ to g. makes_pure (Is Postgresql) (RenameSequence s to) (join h (join g.0 g.1)))))

pub alter_makes : NumberOfSpells → (d : Dialect) → Makes (Is d) (alter d)
unfolding alter
alter_makes spells d = makes_after (Is d) peek (alter_by d) (by d)
  where
    by : (d : Dialect) (k : WordKind) → Makes (Is d) (alter_by d k)
    by d word.Table = makes_after (Is d) skip _ (λ a. alter_table_makes spells d)
    by Postgresql word.View = makes_after (Is Postgresql) skip _ (λ a. view_makes)
    by Postgresql word.Sequence = makes_after (Is Postgresql) skip _ (λ a. sequence_makes)
    by d _ = makes_refuse (Is d)
