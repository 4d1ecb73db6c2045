-- That a part of any change is taken back.
use Rattle.std.specs.Prelude.{List, None, Ok, Option, Some, [], ◌≡◌}
use Rattle.laws_partial.proofs.AddColumn as add_column
use Rattle.laws_partial.proofs.AddNotNull as add_not_null
use Rattle.laws_partial.proofs.Singles as singles
use Rattle.lq_any.specs.AnyChange.{gives, inverse, is_for, is_fresh}
use Rattle.lq_any.specs.declared.any_change.AnyChange.{AnyChange}
use Rattle.lq_any.specs.declared.any_change.AnyChange.TheVariants.{AddColumn, AddDefaultValue, AddForeignKeyConstraint, AddNotNullConstraint, AddPrimaryKey, AddUniqueConstraint, CreateIndex, CreateSequence, CreateTable, CreateView, Delete, DropColumn, DropDefaultValue, DropForeignKeyConstraint, DropIndex, DropNotNullConstraint, DropPrimaryKey, DropSequence, DropTable, DropUniqueConstraint, DropView, Empty, Insert, LoadData, RenameColumn, RenameSequence, RenameTable, RenameView, Sql, TagDatabase, Update}
use Rattle.lq_model.specs.declared.statement.Statement.{Statement}
use Rattle.lq_reverse.proofs.Parts.{no_part}
use Rattle.lq_reverse.specs.Back.{PartsBack}

-- what has no inverse is not taken back
none_there : {A : Type 0} {ss : List Statement} → (let o : Option (List Statement) = None in o) ≡ Some ss → A
none_there h = Prim.cc

pub parts : PartsBack is_for gives is_fresh inverse
parts d (CreateTable x) c p undoing first rest right sound new taken are ran = singles.parts.0 d x c p undoing first rest right sound new taken are ran
parts d (DropTable x) c p undoing first rest right sound new taken are ran = none_there taken
parts d (RenameTable x) c p undoing first rest right sound new taken are ran = singles.parts.1 d x c p undoing first rest right sound new taken are ran
parts d (AddColumn x) c p undoing first rest right sound new taken are ran = add_column.parts d x c p undoing first rest right sound new taken are ran
parts d (DropColumn x) c p undoing first rest right sound new taken are ran = none_there taken
parts d (RenameColumn x) c p undoing first rest right sound new taken are ran = singles.parts.2 d x c p undoing first rest right sound new taken are ran
parts d (AddPrimaryKey x) c p undoing first rest right sound new taken are ran = singles.parts.5 d x c p undoing first rest right sound new taken are ran
parts d (DropPrimaryKey x) c p undoing first rest right sound new taken are ran = none_there taken
parts d (AddForeignKeyConstraint x) c p undoing first rest right sound new taken are ran = singles.parts.7 d x c p undoing first rest right sound new taken are ran
parts d (DropForeignKeyConstraint x) c p undoing first rest right sound new taken are ran = none_there taken
parts d (AddUniqueConstraint x) c p undoing first rest right sound new taken are ran = singles.parts.6 d x c p undoing first rest right sound new taken are ran
parts d (DropUniqueConstraint x) c p undoing first rest right sound new taken are ran = none_there taken
parts d (AddNotNullConstraint x) c p undoing first rest right sound new taken are ran = add_not_null.parts d x c p undoing first rest right sound new taken are ran
parts d (DropNotNullConstraint x) c p undoing first rest right sound new taken are ran = singles.parts.3 d x c p undoing first rest right sound new taken are ran
parts d (AddDefaultValue x) c p undoing first rest right sound new taken are ran = singles.parts.4 d x c p undoing first rest right sound new taken are ran
parts d (DropDefaultValue x) c p undoing first rest right sound new taken are ran = none_there taken
parts d (CreateIndex x) c p undoing first rest right sound new taken are ran = singles.parts.8 d x c p undoing first rest right sound new taken are ran
parts d (DropIndex x) c p undoing first rest right sound new taken are ran = none_there taken
parts d (CreateView x) c p undoing first rest right sound new taken are ran = singles.parts.9 d x c p undoing first rest right sound new taken are ran
parts d (DropView x) c p undoing first rest right sound new taken are ran = none_there taken
parts d (RenameView x) c p undoing first rest right sound new taken are ran = singles.parts.10 d x c p undoing first rest right sound new taken are ran
parts d (CreateSequence x) c p undoing first rest right sound new taken are ran = singles.parts.11 d x c p undoing first rest right sound new taken are ran
parts d (DropSequence x) c p undoing first rest right sound new taken are ran = none_there taken
parts d (RenameSequence x) c p undoing first rest right sound new taken are ran = singles.parts.12 d x c p undoing first rest right sound new taken are ran
parts d (Insert x) c p undoing first rest right sound new taken are ran = none_there taken
parts d (Update x) c p undoing first rest right sound new taken are ran = none_there taken
parts d (Delete x) c p undoing first rest right sound new taken are ran = none_there taken
parts d (LoadData x) c p undoing first rest right sound new taken are ran = none_there taken
parts d (Sql x) c p undoing first rest right sound new taken are ran = none_there taken
parts d (TagDatabase x) c p undoing first rest right sound new taken are ran = no_part d first rest c p are ran
parts d (Empty x) c p undoing first rest right sound new taken are ran = no_part d first rest c p are ran
