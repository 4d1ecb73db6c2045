-- What ALTER reads is the same where names have left out their quotes.
use Rattle.std.proofs.Common.{◌≡◌, true, false, if◌then◌else◌, List, None, refl}
use Rattle.lq_base.specs.Name.{beside, text_of}
use Rattle.lq_base.specs.declared.dialect.Dialect.{Dialect}
use Rattle.lq_base.specs.declared.dialect.Dialect.TheVariants.{Postgresql, Mysql}
use Rattle.lq_base.specs.declared.name.Name.{Name}
use Rattle.lq_model.specs.SqlAlter.{add, add_column, add_constraint, alter, alter_by, alter_column, alter_column_by, alter_sequence, alter_table, alter_table_by, alter_view, constraint_added, drop_part, drop_part_by, modify, new_name, rename_column, rename_part, rename_table_to, set_by, set_part, unset_by, unset_part}
use Rattle.lq_model.specs.SqlTable.{added_column}
use Rattle.lq_model.specs.SqlConstraint.{begins_constraint, table_constraint}
use Rattle.lq_model.specs.SqlParser.{eat, expect, skip}
use Rattle.lq_model.specs.SqlPart.{column_kind, literal, name, object}
use Rattle.lq_model.specs.declared.statement.Statement.TheVariants.{AddColumn, DropColumn, DropConstraint, DropDefault, DropForeignKey, DropNotNull, DropPrimaryKey, DropUnique, Modify, RenameColumn, RenameSequence, RenameTable, RenameView, SetDefault, SetNotNull}
use Rattle.lq_model.specs.declared.word.Word.{Word}
use Rattle.lq_model.specs.declared.word.WordKind.{WordKind}
use Rattle.lq_model.specs.declared.word.WordKind.TheVariants as word
use Rattle.lq_spelling.proofs.QuoteParts.{Blind, blind_along, blind_by, blind_eat, blind_expect, blind_if, blind_pure, blind_refuse, blind_skip, blind_so, blind_test, blind_then, stays_pure}
use Rattle.lq_spelling.proofs.QuoteTables.{blind_added, blind_constraint, no_constraint}
use Rattle.lq_spelling.proofs.QuoteTests.{blind_kind, blind_literal, blind_name, blind_object}

blind_new : (old : Name) → Blind false (new_name old)
unfolding new_name
blind_new old = blind_then false (expect word.To) _ (blind_expect word.To refl) (λ a. blind_then false name _ blind_name (λ to. blind_pure false (beside old (text_of to))))

blind_add : (d : Dialect) (table : Name) → Blind true (add d table)
unfolding add add_constraint add_column
blind_add d table =
    blind_test true begins_constraint _ _ no_constraint
    (blind_then true (table_constraint d table) _ (blind_constraint d table) (λ found. blind_pure true (constraint_added table found)))
    (blind_then true (eat word.Column) _ (blind_eat word.Column refl) (λ a. blind_along true (added_column d) _ (blind_added d) (λ column. blind_pure true (AddColumn table column)) (λ column. stays_pure (AddColumn table column))))

blind_drop_part : (d : Dialect) (table : Name) → Blind false (drop_part d table)
unfolding drop_part
blind_drop_part d table = blind_by false (drop_part_by d table) (by d) (none d)
  where
    by : (d : Dialect) (k : WordKind) → Blind false (drop_part_by d table k)
    by d word.Column = blind_then false skip _ blind_skip (λ a. blind_then false name _ blind_name (λ n. blind_pure false (DropColumn table n)))
    by Postgresql word.Constraint = blind_then false skip _ blind_skip (λ a. blind_then false name _ blind_name (λ n. blind_pure false (DropConstraint table n)))
    by Mysql word.Primary = blind_then false skip _ blind_skip (λ a. blind_then false (expect word.Key) _ (blind_expect word.Key refl) (λ b. blind_pure false (DropPrimaryKey table)))
    by Mysql word.Index = blind_then false skip _ blind_skip (λ a. blind_then false name _ blind_name (λ n. blind_pure false (DropUnique table n)))
    by Mysql word.Foreign = blind_then false skip _ blind_skip (λ a. blind_then false (expect word.Key) _ (blind_expect word.Key refl) (λ b. blind_then false name _ blind_name (λ n. blind_pure false (DropForeignKey table n))))
    by d _ = blind_refuse false

    none : (d : Dialect) (i : List Word) → drop_part_by d table word.Quoted i ≡ None
    none Postgresql i = refl
    none Mysql i = refl

blind_set : (d : Dialect) (table column : Name) → Blind false (set_part d table column)
unfolding set_part
blind_set d table column = blind_by false (set_by d table column) (by d) (none d)
  where
    by : (d : Dialect) (k : WordKind) → Blind false (set_by d table column k)
    by Postgresql word.Not = blind_then false skip _ blind_skip (λ a. blind_then false (expect word.Null) _ (blind_expect word.Null refl) (λ b. blind_pure false (SetNotNull table column)))
    by d word.Default = blind_then false skip _ blind_skip (λ a. blind_then false literal _ blind_literal (λ value. blind_pure false (SetDefault table column value)))
    by d _ = blind_refuse false

    none : (d : Dialect) (i : List Word) → set_by d table column word.Quoted i ≡ None
    none Postgresql i = refl
    none Mysql i = refl

blind_unset : (d : Dialect) (table column : Name) → Blind false (unset_part d table column)
unfolding unset_part
blind_unset d table column = blind_by false (unset_by d table column) (by d) (none d)
  where
    by : (d : Dialect) (k : WordKind) → Blind false (unset_by d table column k)
    by Postgresql word.Not = blind_then false skip _ blind_skip (λ a. blind_then false (expect word.Null) _ (blind_expect word.Null refl) (λ b. blind_pure false (DropNotNull table column)))
    by d word.Default = blind_then false skip _ blind_skip (λ a. blind_pure false (DropDefault table column))
    by d _ = blind_refuse false

    none : (d : Dialect) (i : List Word) → unset_by d table column word.Quoted i ≡ None
    none Postgresql i = refl
    none Mysql i = refl

blind_alter_column : (d : Dialect) (table : Name) → Blind false (alter_column d table)
unfolding alter_column
blind_alter_column d table =
    blind_then false (expect word.Column) _ (blind_expect word.Column refl) (λ a. blind_then false name _ blind_name (λ column. blind_by false (alter_column_by d table column) (by column) (λ i. refl)))
  where
    by : (column : Name) (k : WordKind) → Blind false (alter_column_by d table column k)
    by column word.Set = blind_then false skip _ blind_skip (λ a. blind_set d table column)
    by column word.Drop = blind_then false skip _ blind_skip (λ a. blind_unset d table column)
    by column _ = blind_refuse false

pub blind_rename_to : (table : Name) → Blind false (rename_table_to table)
unfolding rename_table_to
blind_rename_to table = blind_then false (new_name table) _ (blind_new table) (λ to. blind_pure false (RenameTable table to))

blind_rename : (table : Name) → Blind false (rename_part table)
unfolding rename_part rename_column
blind_rename table =
    blind_then false (eat word.Column) _ (blind_eat word.Column refl) (λ column. blind_if false column _ _
    (blind_then false name _ blind_name (λ column. blind_then false (expect word.To) _ (blind_expect word.To refl) (λ a. blind_then false name _ blind_name (λ to. blind_pure false (RenameColumn table column to)))))
    (blind_rename_to table))

blind_modify : (table : Name) → Blind false (modify table)
unfolding modify
blind_modify table =
    blind_then false name _ blind_name (λ column. blind_then false column_kind _ blind_kind (λ of. blind_then false (eat word.Not) _ (blind_eat word.Not refl) (λ required.
    blind_then false (expect word.Null) _ (blind_expect word.Null refl) (λ a. blind_pure false (Modify table column of (if required then false else true))))))

blind_alter_table : (d : Dialect) → Blind true (alter_table d)
unfolding alter_table
blind_alter_table d = blind_then true (object d) _ (blind_object d) (λ table. blind_by true (alter_table_by d table) (by d table) (none d table))
  where
    by : (d : Dialect) (table : Name) (k : WordKind) → Blind true (alter_table_by d table k)
    by d table word.Add = blind_then true skip _ blind_skip (λ a. blind_add d table)
    by d table word.Alter = blind_then true skip _ blind_skip (λ a. blind_so true (alter_column d table) (blind_alter_column d table))
    by d table word.Drop = blind_then true skip _ blind_skip (λ a. blind_so true (drop_part d table) (blind_drop_part d table))
    by d table word.Rename = blind_then true skip _ blind_skip (λ a. blind_so true (rename_part table) (blind_rename table))
    by Mysql table word.Modify = blind_then true skip _ blind_skip (λ a. blind_so true (modify table) (blind_modify table))
    by d table _ = blind_refuse true

    none : (d : Dialect) (table : Name) (i : List Word) → alter_table_by d table word.Quoted i ≡ None
    none Postgresql table i = refl
    none Mysql table i = refl

blind_alter_view : (d : Dialect) → Blind false (alter_view d)
unfolding alter_view
blind_alter_view d = blind_then false (object d) _ (blind_object d) (λ view. blind_then false (expect word.Rename) _ (blind_expect word.Rename refl) (λ a. blind_then false (new_name view) _ (blind_new view) (λ to. blind_pure false (RenameView view to))))

blind_alter_sequence : (d : Dialect) → Blind false (alter_sequence d)
unfolding alter_sequence
blind_alter_sequence d = blind_then false (object d) _ (blind_object d) (λ s. blind_then false (expect word.Rename) _ (blind_expect word.Rename refl) (λ a. blind_then false (new_name s) _ (blind_new s) (λ to. blind_pure false (RenameSequence s to))))

pub blind_alter : (d : Dialect) → Blind true (alter d)
unfolding alter
blind_alter d = blind_by true (alter_by d) (by d) (none d)
  where
    by : (d : Dialect) (k : WordKind) → Blind true (alter_by d k)
    by d word.Table = blind_then true skip _ blind_skip (λ a. blind_alter_table d)
    by Postgresql word.View = blind_then true skip _ blind_skip (λ a. blind_so true (alter_view Postgresql) (blind_alter_view Postgresql))
    by Postgresql word.Sequence = blind_then true skip _ blind_skip (λ a. blind_so true (alter_sequence Postgresql) (blind_alter_sequence Postgresql))
    by d _ = blind_refuse true

    none : (d : Dialect) (i : List Word) → alter_by d word.Quoted i ≡ None
    none Postgresql i = refl
    none Mysql i = refl
