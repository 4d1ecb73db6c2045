-- The canonical text of each statement.
use Rattle.std.specs.Prelude.{Bool, List, None, Option, Some, [], false, if◌then◌else◌, map, not, true, ℕ, ◌++◌, ◌∷◌}
use Rattle.lq_base.specs.Kind.{kind_text}
use Rattle.lq_base.specs.Name as name
use Rattle.lq_base.specs.Number.{whole_text}
use Rattle.lq_base.specs.declared.dialect.Dialect.{Dialect}
use Rattle.lq_base.specs.declared.dialect.Dialect.TheVariants.{Mysql, Postgresql}
use Rattle.lq_base.specs.declared.literal.Literal.{Literal}
use Rattle.lq_model.specs.TestText.{after_commas, listed, literal_text, name_text, names_text, query_text, quoted_text, where_text, words}
use Rattle.lq_model.specs.declared.column.ColumnDef.{ColumnDef}
use Rattle.lq_model.specs.declared.constraint.ForeignKey.{ForeignKey}
use Rattle.lq_model.specs.declared.constraint.Key.{Key}
use Rattle.lq_model.specs.declared.constraint.Unique.{Unique}
use Rattle.lq_model.specs.declared.phrase.Phrase.{Phrase}
use Rattle.lq_model.specs.declared.phrase.Phrase.TheVariants as phrase
use Rattle.lq_model.specs.declared.statement.Statement.{Statement}
use Rattle.lq_model.specs.declared.statement.Statement.TheVariants.{AddColumn, AddForeignKey, AddPrimaryKey, AddUnique, CreateIndex, CreateSequence, CreateTable, CreateView, Delete, DropColumn, DropConstraint, DropDefault, DropForeignKey, DropIndex, DropNotNull, DropPrimaryKey, DropSequence, DropTable, DropUnique, DropView, Insert, Modify, RenameColumn, RenameSequence, RenameTable, RenameView, SetDefault, SetNotNull, Update}

-- the words, where they are wanted
abbrev pub words_if : Bool → Phrase → List ℕ
words_if true p = words p
words_if false p = []

abbrev pub numbering : Dialect → Phrase
numbering Postgresql = phrase.Identity
numbering Mysql = phrase.AutoIncrement

abbrev pub default_text : Dialect → Option Literal → List ℕ
default_text d None = []
default_text d (Some l) = words phrase.Default ++ literal_text d l

unfoldable pub column_text : Dialect → ColumnDef → List ℕ
column_text d c =
    name_text d c.name ++ words phrase.Blank ++ kind_text d c.kind
    ++ words_if c.numbered (numbering d) ++ words_if (not c.nullable) phrase.NotNull ++ default_text d c.default

-- in mysql a primary key has no name of its own
unfoldable pub key_text : Dialect → Key → List ℕ
key_text Postgresql k = words phrase.Constraint ++ name_text Postgresql k.name ++ words phrase.Blank ++ words phrase.PrimaryKey ++ names_text Postgresql k.columns ++ words phrase.Close
key_text Mysql k = words phrase.PrimaryKey ++ names_text Mysql k.columns ++ words phrase.Close

unfoldable pub unique_text : Dialect → Unique → List ℕ
unique_text d u = words phrase.Constraint ++ name_text d u.name ++ words phrase.Unique ++ names_text d u.columns ++ words phrase.Close

abbrev pub targets_text : Dialect → ForeignKey → List ℕ
targets_text d f = words phrase.References ++ name_text d f.table ++ words phrase.OpenNext ++ names_text d f.targets ++ words phrase.Close

unfoldable pub foreign_text : Dialect → ForeignKey → List ℕ
foreign_text d f =
    (words phrase.Constraint ++ name_text d f.name ++ words phrase.ForeignKey ++ names_text d f.columns)
    ++ targets_text d f ++ words_if f.cascade phrase.OnDeleteCascade

abbrev pub key_in_table : Dialect → Option Key → List ℕ
key_in_table d None = []
key_in_table d (Some k) = words phrase.Comma ++ key_text d k

-- a table's columns, of which there is one at least, then its constraints
abbrev pub table_text : Dialect → List ColumnDef → Option Key → List Unique → List ForeignKey → List ℕ
table_text d columns key uniques foreign =
    listed (map (column_text d) columns) ++ key_in_table d key
    ++ after_commas (map (unique_text d) uniques) ++ after_commas (map (foreign_text d) foreign)

abbrev pub create_index : Bool → Phrase
create_index unique = if unique then phrase.CreateUniqueIndex else phrase.CreateIndex

abbrev pub create_view : Bool → Phrase
create_view replace = if replace then phrase.CreateOrReplaceView else phrase.CreateView

abbrev pub null_allowed : Bool → Phrase
null_allowed nullable = if nullable then phrase.Nullable else phrase.NotNull

-- an insertion without columns has values for all of them in order
abbrev pub columns_text : Dialect → List (List ℕ) → List ℕ
columns_text d [] = []
columns_text d (name ∷ names) = words phrase.OpenNext ++ names_text d (name ∷ names) ++ words phrase.Close

abbrev pub set_text : Dialect → List ℕ × Literal → List ℕ
set_text d set = name_text d set.0 ++ words phrase.Equal ++ literal_text d set.1

-- `ALTER TABLE q`
abbrev pub alter_table : Dialect → List ℕ → List ℕ
alter_table d table = words phrase.AlterTable ++ name_text d table

-- `ALTER TABLE q ALTER COLUMN q`
abbrev pub alter_column : Dialect → List ℕ → List ℕ → List ℕ
alter_column d table column = alter_table d table ++ words phrase.AlterColumn ++ name_text d column

-- what is renamed stays in its schema, which its new name does not state
abbrev pub to_text : Dialect → List ℕ → List ℕ
to_text d to = quoted_text d (name.text_of to)

-- the statement as `print` writes it; a statement that the dialect does not have is written as in the other one
abbrev pub text_of : Dialect → Statement → List ℕ
text_of d (CreateTable t columns key uniques foreign) = words phrase.CreateTable ++ name_text d t ++ words phrase.OpenNext ++ table_text d columns key uniques foreign ++ words phrase.Close
text_of d (DropTable t) = words phrase.DropTable ++ name_text d t
text_of Postgresql (RenameTable t to) = alter_table Postgresql t ++ words phrase.RenameTo ++ to_text Postgresql to
text_of Mysql (RenameTable t to) = words phrase.RenameTable ++ name_text Mysql t ++ words phrase.To ++ to_text Mysql to
text_of d (AddColumn t column) = alter_table d t ++ words phrase.AddColumn ++ column_text d column
text_of d (DropColumn t column) = alter_table d t ++ words phrase.DropColumn ++ name_text d column
text_of d (RenameColumn t column to) = alter_table d t ++ words phrase.RenameColumn ++ name_text d column ++ words phrase.To ++ name_text d to
text_of d (SetNotNull t column) = alter_column d t column ++ words phrase.SetNotNull
text_of d (DropNotNull t column) = alter_column d t column ++ words phrase.DropNotNull
text_of d (Modify t column kind nullable) = alter_table d t ++ words phrase.Modify ++ name_text d column ++ words phrase.Blank ++ kind_text d kind ++ words (null_allowed nullable)
text_of d (SetDefault t column value) = alter_column d t column ++ words phrase.SetDefault ++ literal_text d value
text_of d (DropDefault t column) = alter_column d t column ++ words phrase.DropDefault
text_of d (AddPrimaryKey t key) = alter_table d t ++ words phrase.Add ++ key_text d key
text_of d (AddUnique t unique) = alter_table d t ++ words phrase.Add ++ unique_text d unique
text_of d (AddForeignKey t foreign) = alter_table d t ++ words phrase.Add ++ foreign_text d foreign
text_of d (DropConstraint t name) = alter_table d t ++ words phrase.DropConstraint ++ name_text d name
text_of d (DropPrimaryKey t) = alter_table d t ++ words phrase.DropPrimaryKey
text_of d (DropUnique t name) = alter_table d t ++ words phrase.DropUnique ++ name_text d name
text_of d (DropForeignKey t name) = alter_table d t ++ words phrase.DropForeignKey ++ name_text d name
text_of d (CreateIndex t index) = words (create_index index.unique) ++ name_text d index.name ++ words phrase.On ++ name_text d t ++ words phrase.OpenNext ++ names_text d index.columns ++ words phrase.Close
text_of Mysql (DropIndex name (Some t)) = words phrase.DropIndex ++ name_text Mysql name ++ words phrase.On ++ name_text Mysql t
text_of d (DropIndex name t) = words phrase.DropIndex ++ name_text d name
text_of d (CreateView view query replace) = words (create_view replace) ++ name_text d view ++ words phrase.As ++ query_text d query
text_of d (DropView view) = words phrase.DropView ++ name_text d view
text_of d (RenameView view to) = words phrase.AlterView ++ name_text d view ++ words phrase.RenameTo ++ to_text d to
text_of d (CreateSequence name start step) = words phrase.CreateSequence ++ name_text d name ++ words phrase.StartWith ++ whole_text start ++ words phrase.IncrementBy ++ whole_text step
text_of d (DropSequence name) = words phrase.DropSequence ++ name_text d name
text_of d (RenameSequence name to) = words phrase.AlterSequence ++ name_text d name ++ words phrase.RenameTo ++ to_text d to
text_of d (Insert t columns values) = words phrase.InsertInto ++ name_text d t ++ columns_text d columns ++ words phrase.Values ++ listed (map (literal_text d) values) ++ words phrase.Close
text_of d (Update t sets test) = words phrase.Update ++ name_text d t ++ words phrase.Set ++ listed (map (set_text d) sets) ++ where_text d test
text_of d (Delete t test) = words phrase.DeleteFrom ++ name_text d t ++ where_text d test
