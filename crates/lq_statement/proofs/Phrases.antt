-- The words of each phrase.
use Rattle.std.proofs.Common.{[], ◌∷◌, ◌++◌, ◌∙◌, refl}
use Rattle.std.specs.Prelude.{codes}
use Rattle.lq_base.specs.declared.dialect.Dialect.{Dialect}
use Rattle.lq_model.specs.TestText as text
use Rattle.lq_model.specs.SqlWord.{bare, folded, kind_of_word, with_text, words}
use Rattle.lq_model.specs.declared.phrase.Phrase.TheVariants as phrase
use Rattle.lq_model.specs.declared.word.WordKind.TheVariants as word
use Rattle.lq_parse.proofs.Fronts.{blank_says}
use Rattle.lq_parse.proofs.Lists.{comma_says}
use Rattle.lq_parse.proofs.Spoken.{Below, close_says, open_says, op_says, then}
use Rattle.lq_statement.proofs.Said.{Lead, Open, Tail, lead_says, same_words, spaced_says, tail_says}
use Rattle.lq_model.specs.declared.test.Op.TheVariants as op

-- ends with a blank

abbrev pub create_table : Below → (d : Dialect) → Open d (text.words phrase.CreateTable)
unfolding text.words kind_of_word
create_table below d = record { these = λ ws. bare word.Create ∷ bare word.Table ∷ ws; is = λ rest. spaced_says below.go_on d (codes "CREATE" ∷ codes "TABLE" ∷ []) rest refl }

abbrev pub drop_table : Below → (d : Dialect) → Open d (text.words phrase.DropTable)
unfolding text.words kind_of_word
drop_table below d = record { these = λ ws. bare word.Drop ∷ bare word.Table ∷ ws; is = λ rest. spaced_says below.go_on d (codes "DROP" ∷ codes "TABLE" ∷ []) rest refl }

abbrev pub alter_table : Below → (d : Dialect) → Open d (text.words phrase.AlterTable)
unfolding text.words kind_of_word
alter_table below d = record { these = λ ws. bare word.Alter ∷ bare word.Table ∷ ws; is = λ rest. spaced_says below.go_on d (codes "ALTER" ∷ codes "TABLE" ∷ []) rest refl }

abbrev pub rename_table : Below → (d : Dialect) → Open d (text.words phrase.RenameTable)
unfolding text.words kind_of_word
rename_table below d = record { these = λ ws. with_text word.Rename (folded d (codes "RENAME")) ∷ bare word.Table ∷ ws; is = λ rest. spaced_says below.go_on d (codes "RENAME" ∷ codes "TABLE" ∷ []) rest refl }

abbrev pub create_index : Below → (d : Dialect) → Open d (text.words phrase.CreateIndex)
unfolding text.words kind_of_word
create_index below d = record { these = λ ws. bare word.Create ∷ with_text word.Index (folded d (codes "INDEX")) ∷ ws; is = λ rest. spaced_says below.go_on d (codes "CREATE" ∷ codes "INDEX" ∷ []) rest refl }

abbrev pub create_unique_index : Below → (d : Dialect) → Open d (text.words phrase.CreateUniqueIndex)
unfolding text.words kind_of_word
create_unique_index below d = record { these = λ ws. bare word.Create ∷ bare word.Unique ∷ with_text word.Index (folded d (codes "INDEX")) ∷ ws; is = λ rest. spaced_says below.go_on d (codes "CREATE" ∷ codes "UNIQUE" ∷ codes "INDEX" ∷ []) rest refl }

abbrev pub drop_index : Below → (d : Dialect) → Open d (text.words phrase.DropIndex)
unfolding text.words kind_of_word
drop_index below d = record { these = λ ws. bare word.Drop ∷ with_text word.Index (folded d (codes "INDEX")) ∷ ws; is = λ rest. spaced_says below.go_on d (codes "DROP" ∷ codes "INDEX" ∷ []) rest refl }

abbrev pub create_view : Below → (d : Dialect) → Open d (text.words phrase.CreateView)
unfolding text.words kind_of_word
create_view below d = record { these = λ ws. bare word.Create ∷ with_text word.View (folded d (codes "VIEW")) ∷ ws; is = λ rest. spaced_says below.go_on d (codes "CREATE" ∷ codes "VIEW" ∷ []) rest refl }

abbrev pub create_or_replace_view : Below → (d : Dialect) → Open d (text.words phrase.CreateOrReplaceView)
unfolding text.words kind_of_word
create_or_replace_view below d = record { these = λ ws. bare word.Create ∷ bare word.Or ∷ with_text word.Replace (folded d (codes "REPLACE")) ∷ with_text word.View (folded d (codes "VIEW")) ∷ ws; is = λ rest. spaced_says below.go_on d (codes "CREATE" ∷ codes "OR" ∷ codes "REPLACE" ∷ codes "VIEW" ∷ []) rest refl }

abbrev pub drop_view : Below → (d : Dialect) → Open d (text.words phrase.DropView)
unfolding text.words kind_of_word
drop_view below d = record { these = λ ws. bare word.Drop ∷ with_text word.View (folded d (codes "VIEW")) ∷ ws; is = λ rest. spaced_says below.go_on d (codes "DROP" ∷ codes "VIEW" ∷ []) rest refl }

abbrev pub alter_view : Below → (d : Dialect) → Open d (text.words phrase.AlterView)
unfolding text.words kind_of_word
alter_view below d = record { these = λ ws. bare word.Alter ∷ with_text word.View (folded d (codes "VIEW")) ∷ ws; is = λ rest. spaced_says below.go_on d (codes "ALTER" ∷ codes "VIEW" ∷ []) rest refl }

abbrev pub create_sequence : Below → (d : Dialect) → Open d (text.words phrase.CreateSequence)
unfolding text.words kind_of_word
create_sequence below d = record { these = λ ws. bare word.Create ∷ with_text word.Sequence (folded d (codes "SEQUENCE")) ∷ ws; is = λ rest. spaced_says below.go_on d (codes "CREATE" ∷ codes "SEQUENCE" ∷ []) rest refl }

abbrev pub drop_sequence : Below → (d : Dialect) → Open d (text.words phrase.DropSequence)
unfolding text.words kind_of_word
drop_sequence below d = record { these = λ ws. bare word.Drop ∷ with_text word.Sequence (folded d (codes "SEQUENCE")) ∷ ws; is = λ rest. spaced_says below.go_on d (codes "DROP" ∷ codes "SEQUENCE" ∷ []) rest refl }

abbrev pub alter_sequence : Below → (d : Dialect) → Open d (text.words phrase.AlterSequence)
unfolding text.words kind_of_word
alter_sequence below d = record { these = λ ws. bare word.Alter ∷ with_text word.Sequence (folded d (codes "SEQUENCE")) ∷ ws; is = λ rest. spaced_says below.go_on d (codes "ALTER" ∷ codes "SEQUENCE" ∷ []) rest refl }

abbrev pub insert_into : Below → (d : Dialect) → Open d (text.words phrase.InsertInto)
unfolding text.words kind_of_word
insert_into below d = record { these = λ ws. bare word.Insert ∷ bare word.Into ∷ ws; is = λ rest. spaced_says below.go_on d (codes "INSERT" ∷ codes "INTO" ∷ []) rest refl }

abbrev pub update : Below → (d : Dialect) → Open d (text.words phrase.Update)
unfolding text.words kind_of_word
update below d = record { these = λ ws. bare word.Update ∷ ws; is = λ rest. spaced_says below.go_on d (codes "UPDATE" ∷ []) rest refl }

abbrev pub delete_from : Below → (d : Dialect) → Open d (text.words phrase.DeleteFrom)
unfolding text.words kind_of_word
delete_from below d = record { these = λ ws. bare word.Delete ∷ bare word.From ∷ ws; is = λ rest. spaced_says below.go_on d (codes "DELETE" ∷ codes "FROM" ∷ []) rest refl }

abbrev pub constraint : Below → (d : Dialect) → Open d (text.words phrase.Constraint)
unfolding text.words kind_of_word
constraint below d = record { these = λ ws. bare word.Constraint ∷ ws; is = λ rest. spaced_says below.go_on d (codes "CONSTRAINT" ∷ []) rest refl }

-- begins with one too

abbrev pub rename_to : Below → (d : Dialect) → Lead d (text.words phrase.RenameTo)
unfolding text.words kind_of_word
rename_to below d = record { these = λ ws. with_text word.Rename (folded d (codes "RENAME")) ∷ bare word.To ∷ ws; is = λ rest. lead_says below.go_on d (codes "RENAME" ∷ codes "TO" ∷ []) rest refl; stops = λ rest. refl }

abbrev pub to : Below → (d : Dialect) → Lead d (text.words phrase.To)
unfolding text.words kind_of_word
to below d = record { these = λ ws. bare word.To ∷ ws; is = λ rest. lead_says below.go_on d (codes "TO" ∷ []) rest refl; stops = λ rest. refl }

abbrev pub add_column : Below → (d : Dialect) → Lead d (text.words phrase.AddColumn)
unfolding text.words kind_of_word
add_column below d = record { these = λ ws. bare word.Add ∷ bare word.Column ∷ ws; is = λ rest. lead_says below.go_on d (codes "ADD" ∷ codes "COLUMN" ∷ []) rest refl; stops = λ rest. refl }

abbrev pub drop_column : Below → (d : Dialect) → Lead d (text.words phrase.DropColumn)
unfolding text.words kind_of_word
drop_column below d = record { these = λ ws. bare word.Drop ∷ bare word.Column ∷ ws; is = λ rest. lead_says below.go_on d (codes "DROP" ∷ codes "COLUMN" ∷ []) rest refl; stops = λ rest. refl }

abbrev pub rename_column : Below → (d : Dialect) → Lead d (text.words phrase.RenameColumn)
unfolding text.words kind_of_word
rename_column below d = record { these = λ ws. with_text word.Rename (folded d (codes "RENAME")) ∷ bare word.Column ∷ ws; is = λ rest. lead_says below.go_on d (codes "RENAME" ∷ codes "COLUMN" ∷ []) rest refl; stops = λ rest. refl }

abbrev pub alter_column : Below → (d : Dialect) → Lead d (text.words phrase.AlterColumn)
unfolding text.words kind_of_word
alter_column below d = record { these = λ ws. bare word.Alter ∷ bare word.Column ∷ ws; is = λ rest. lead_says below.go_on d (codes "ALTER" ∷ codes "COLUMN" ∷ []) rest refl; stops = λ rest. refl }

abbrev pub modify : Below → (d : Dialect) → Lead d (text.words phrase.Modify)
unfolding text.words kind_of_word
modify below d = record { these = λ ws. with_text word.Modify (folded d (codes "MODIFY")) ∷ ws; is = λ rest. lead_says below.go_on d (codes "MODIFY" ∷ []) rest refl; stops = λ rest. refl }

abbrev pub set_default : Below → (d : Dialect) → Lead d (text.words phrase.SetDefault)
unfolding text.words kind_of_word
set_default below d = record { these = λ ws. bare word.Set ∷ bare word.Default ∷ ws; is = λ rest. lead_says below.go_on d (codes "SET" ∷ codes "DEFAULT" ∷ []) rest refl; stops = λ rest. refl }

abbrev pub add : Below → (d : Dialect) → Lead d (text.words phrase.Add)
unfolding text.words kind_of_word
add below d = record { these = λ ws. bare word.Add ∷ ws; is = λ rest. lead_says below.go_on d (codes "ADD" ∷ []) rest refl; stops = λ rest. refl }

abbrev pub drop_constraint : Below → (d : Dialect) → Lead d (text.words phrase.DropConstraint)
unfolding text.words kind_of_word
drop_constraint below d = record { these = λ ws. bare word.Drop ∷ bare word.Constraint ∷ ws; is = λ rest. lead_says below.go_on d (codes "DROP" ∷ codes "CONSTRAINT" ∷ []) rest refl; stops = λ rest. refl }

abbrev pub drop_unique : Below → (d : Dialect) → Lead d (text.words phrase.DropUnique)
unfolding text.words kind_of_word
drop_unique below d = record { these = λ ws. bare word.Drop ∷ with_text word.Index (folded d (codes "INDEX")) ∷ ws; is = λ rest. lead_says below.go_on d (codes "DROP" ∷ codes "INDEX" ∷ []) rest refl; stops = λ rest. refl }

abbrev pub drop_foreign_key : Below → (d : Dialect) → Lead d (text.words phrase.DropForeignKey)
unfolding text.words kind_of_word
drop_foreign_key below d = record { these = λ ws. bare word.Drop ∷ bare word.Foreign ∷ with_text word.Key (folded d (codes "KEY")) ∷ ws; is = λ rest. lead_says below.go_on d (codes "DROP" ∷ codes "FOREIGN" ∷ codes "KEY" ∷ []) rest refl; stops = λ rest. refl }

abbrev pub on : Below → (d : Dialect) → Lead d (text.words phrase.On)
unfolding text.words kind_of_word
on below d = record { these = λ ws. bare word.On ∷ ws; is = λ rest. lead_says below.go_on d (codes "ON" ∷ []) rest refl; stops = λ rest. refl }

abbrev pub as_query : Below → (d : Dialect) → Lead d (text.words phrase.As)
unfolding text.words kind_of_word
as_query below d = record { these = λ ws. bare word.As ∷ ws; is = λ rest. lead_says below.go_on d (codes "AS" ∷ []) rest refl; stops = λ rest. refl }

abbrev pub start_with : Below → (d : Dialect) → Lead d (text.words phrase.StartWith)
unfolding text.words kind_of_word
start_with below d = record { these = λ ws. with_text word.Start (folded d (codes "START")) ∷ with_text word.With (folded d (codes "WITH")) ∷ ws; is = λ rest. lead_says below.go_on d (codes "START" ∷ codes "WITH" ∷ []) rest refl; stops = λ rest. refl }

abbrev pub increment_by : Below → (d : Dialect) → Lead d (text.words phrase.IncrementBy)
unfolding text.words kind_of_word
increment_by below d = record { these = λ ws. with_text word.Increment (folded d (codes "INCREMENT")) ∷ with_text word.By (folded d (codes "BY")) ∷ ws; is = λ rest. lead_says below.go_on d (codes "INCREMENT" ∷ codes "BY" ∷ []) rest refl; stops = λ rest. refl }

abbrev pub set : Below → (d : Dialect) → Lead d (text.words phrase.Set)
unfolding text.words kind_of_word
set below d = record { these = λ ws. bare word.Set ∷ ws; is = λ rest. lead_says below.go_on d (codes "SET" ∷ []) rest refl; stops = λ rest. refl }

abbrev pub default : Below → (d : Dialect) → Lead d (text.words phrase.Default)
unfolding text.words kind_of_word
default below d = record { these = λ ws. bare word.Default ∷ ws; is = λ rest. lead_says below.go_on d (codes "DEFAULT" ∷ []) rest refl; stops = λ rest. refl }

abbrev pub where_lead : Below → (d : Dialect) → Lead d (text.words phrase.Where)
unfolding text.words kind_of_word
where_lead below d = record { these = λ ws. bare word.Where ∷ ws; is = λ rest. lead_says below.go_on d (codes "WHERE" ∷ []) rest refl; stops = λ rest. refl }

-- ends with a word

abbrev pub set_not_null : Below → (d : Dialect) → Tail d (text.words phrase.SetNotNull)
unfolding text.words kind_of_word
set_not_null below d = record { these = λ ws. bare word.Set ∷ bare word.Not ∷ bare word.Null ∷ ws; is = λ rest stop. tail_says below.go_on d (codes "SET" ∷ codes "NOT" ∷ []) 78 (codes "ULL") rest refl refl stop; stops = λ rest stop. refl }

abbrev pub drop_not_null : Below → (d : Dialect) → Tail d (text.words phrase.DropNotNull)
unfolding text.words kind_of_word
drop_not_null below d = record { these = λ ws. bare word.Drop ∷ bare word.Not ∷ bare word.Null ∷ ws; is = λ rest stop. tail_says below.go_on d (codes "DROP" ∷ codes "NOT" ∷ []) 78 (codes "ULL") rest refl refl stop; stops = λ rest stop. refl }

abbrev pub drop_default : Below → (d : Dialect) → Tail d (text.words phrase.DropDefault)
unfolding text.words kind_of_word
drop_default below d = record { these = λ ws. bare word.Drop ∷ bare word.Default ∷ ws; is = λ rest stop. tail_says below.go_on d (codes "DROP" ∷ []) 68 (codes "EFAULT") rest refl refl stop; stops = λ rest stop. refl }

abbrev pub drop_primary_key : Below → (d : Dialect) → Tail d (text.words phrase.DropPrimaryKey)
unfolding text.words kind_of_word
drop_primary_key below d = record { these = λ ws. bare word.Drop ∷ bare word.Primary ∷ with_text word.Key (folded d (codes "KEY")) ∷ ws; is = λ rest stop. tail_says below.go_on d (codes "DROP" ∷ codes "PRIMARY" ∷ []) 75 (codes "EY") rest refl refl stop; stops = λ rest stop. refl }

abbrev pub identity : Below → (d : Dialect) → Tail d (text.words phrase.Identity)
unfolding text.words kind_of_word
identity below d = record { these = λ ws. with_text word.Generated (folded d (codes "GENERATED")) ∷ with_text word.By (folded d (codes "BY")) ∷ bare word.Default ∷ bare word.As ∷ with_text word.Identity (folded d (codes "IDENTITY")) ∷ ws; is = λ rest stop. tail_says below.go_on d (codes "GENERATED" ∷ codes "BY" ∷ codes "DEFAULT" ∷ codes "AS" ∷ []) 73 (codes "DENTITY") rest refl refl stop; stops = λ rest stop. refl }

abbrev pub auto_increment : Below → (d : Dialect) → Tail d (text.words phrase.AutoIncrement)
unfolding text.words kind_of_word
auto_increment below d = record { these = λ ws. with_text word.AutoIncrement (folded d (codes "AUTO_INCREMENT")) ∷ ws; is = λ rest stop. tail_says below.go_on d ([]) 65 (codes "UTO_INCREMENT") rest refl refl stop; stops = λ rest stop. refl }

abbrev pub not_null : Below → (d : Dialect) → Tail d (text.words phrase.NotNull)
unfolding text.words kind_of_word
not_null below d = record { these = λ ws. bare word.Not ∷ bare word.Null ∷ ws; is = λ rest stop. tail_says below.go_on d (codes "NOT" ∷ []) 78 (codes "ULL") rest refl refl stop; stops = λ rest stop. refl }

abbrev pub nullable : Below → (d : Dialect) → Tail d (text.words phrase.Nullable)
unfolding text.words kind_of_word
nullable below d = record { these = λ ws. bare word.Null ∷ ws; is = λ rest stop. tail_says below.go_on d ([]) 78 (codes "ULL") rest refl refl stop; stops = λ rest stop. refl }

abbrev pub on_delete_cascade : Below → (d : Dialect) → Tail d (text.words phrase.OnDeleteCascade)
unfolding text.words kind_of_word
on_delete_cascade below d = record { these = λ ws. bare word.On ∷ bare word.Delete ∷ with_text word.Cascade (folded d (codes "CASCADE")) ∷ ws; is = λ rest stop. tail_says below.go_on d (codes "ON" ∷ codes "DELETE" ∷ []) 67 (codes "ASCADE") rest refl refl stop; stops = λ rest stop. refl }

-- with a parenthesis or a comma

abbrev pub open_next : Below → (d : Dialect) → Lead d (text.words phrase.OpenNext)
unfolding text.words
open_next below d = record { these = λ ws. bare word.Open ∷ ws; is = λ rest. blank_says below.go_on d (text.words phrase.Open ++ rest) ∙ open_says below d rest; stops = λ rest. refl }

abbrev pub close : Below → (d : Dialect) → Lead d (text.words phrase.Close)
unfolding text.words
close below d = record { these = λ ws. bare word.Close ∷ ws; is = λ rest. close_says below d rest; stops = λ rest. refl }

abbrev pub comma : Below → (d : Dialect) → Lead d (text.words phrase.Comma)
unfolding text.words
comma below d = record { these = λ ws. bare word.Comma ∷ ws; is = λ rest. comma_says below d rest; stops = λ rest. refl }

abbrev pub blank : Below → (d : Dialect) → Lead d (text.words phrase.Blank)
unfolding text.words
blank below d = record { these = λ ws. ws; is = λ rest. blank_says below.go_on d rest ∙ same_words (words d rest); stops = λ rest. refl }

abbrev pub equal : Below → (d : Dialect) → Lead d (text.words phrase.Equal)
unfolding text.words
equal below d = record { these = λ ws. bare word.Equal ∷ ws; is = λ rest. op_says below d op.Eq rest; stops = λ rest. refl }

abbrev pub primary_key : Below → (d : Dialect) → Open d (text.words phrase.PrimaryKey)
unfolding text.words kind_of_word
primary_key below d = record { these = λ ws. bare word.Primary ∷ with_text word.Key (folded d (codes "KEY")) ∷ bare word.Open ∷ ws; is = λ rest. then d (codes "PRIMARY KEY ") (text.words phrase.Open) rest (λ ws. bare word.Primary ∷ with_text word.Key (folded d (codes "KEY")) ∷ ws) (λ ws. bare word.Open ∷ ws) (spaced_says below.go_on d (codes "PRIMARY" ∷ codes "KEY" ∷ []) (text.words phrase.Open ++ rest) refl) (open_says below d rest) }

abbrev pub values : Below → (d : Dialect) → Lead d (text.words phrase.Values)
unfolding text.words kind_of_word
values below d = record { these = λ ws. bare word.Values ∷ bare word.Open ∷ ws; is = λ rest. then d (codes " VALUES ") (text.words phrase.Open) rest (λ ws. bare word.Values ∷ ws) (λ ws. bare word.Open ∷ ws) (lead_says below.go_on d (codes "VALUES" ∷ []) (text.words phrase.Open ++ rest) refl) (open_says below d rest); stops = λ rest. refl }

abbrev pub unique : Below → (d : Dialect) → Lead d (text.words phrase.Unique)
unfolding text.words kind_of_word
unique below d = record { these = λ ws. bare word.Unique ∷ bare word.Open ∷ ws; is = λ rest. then d (codes " UNIQUE ") (text.words phrase.Open) rest (λ ws. bare word.Unique ∷ ws) (λ ws. bare word.Open ∷ ws) (lead_says below.go_on d (codes "UNIQUE" ∷ []) (text.words phrase.Open ++ rest) refl) (open_says below d rest); stops = λ rest. refl }

abbrev pub foreign_key : Below → (d : Dialect) → Lead d (text.words phrase.ForeignKey)
unfolding text.words kind_of_word
foreign_key below d = record { these = λ ws. bare word.Foreign ∷ with_text word.Key (folded d (codes "KEY")) ∷ bare word.Open ∷ ws; is = λ rest. then d (codes " FOREIGN KEY ") (text.words phrase.Open) rest (λ ws. bare word.Foreign ∷ with_text word.Key (folded d (codes "KEY")) ∷ ws) (λ ws. bare word.Open ∷ ws) (lead_says below.go_on d (codes "FOREIGN" ∷ codes "KEY" ∷ []) (text.words phrase.Open ++ rest) refl) (open_says below d rest); stops = λ rest. refl }

abbrev pub references : Below → (d : Dialect) → Lead d (text.words phrase.References)
unfolding text.words kind_of_word
references below d = record { these = λ ws. bare word.Close ∷ bare word.References ∷ ws; is = λ rest. then d (text.words phrase.Close) (codes " REFERENCES ") rest (λ ws. bare word.Close ∷ ws) (λ ws. bare word.References ∷ ws) (close_says below d (codes " REFERENCES " ++ rest)) (lead_says below.go_on d (codes "REFERENCES" ∷ []) rest refl); stops = λ rest. refl }
