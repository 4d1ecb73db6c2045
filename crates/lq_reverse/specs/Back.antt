-- What takes a statement back: one statement for each that a change with an inverse gives, none for UPDATE.
use Rattle.std.specs.Option.{option_to_list}
use Rattle.std.specs.Prelude.{Bool, List, None, Ok, Option, Some, [], not, true, ◌++◌, ◌∷◌, ◌≡◌}
use Rattle.lq_base.specs.Name.{beside}
use Rattle.lq_base.specs.declared.dialect.Dialect.{Dialect}
use Rattle.lq_base.specs.declared.dialect.Dialect.TheVariants.{Mysql, Postgresql}
use Rattle.lq_model.specs.Catalogue.{Catalogue}
use Rattle.lq_model.specs.Sound.{IsSound}
use Rattle.lq_model.specs.Step.{run}
use Rattle.lq_model.specs.declared.caller.By.TheVariants.{User}
use Rattle.lq_model.specs.declared.statement.Statement.{Statement}
use Rattle.lq_model.specs.declared.statement.Statement.TheVariants.{AddColumn, AddForeignKey, AddPrimaryKey, AddUnique, CreateIndex, CreateSequence, CreateTable, CreateView, DropColumn, DropConstraint, DropDefault, DropForeignKey, DropIndex, DropNotNull, DropPrimaryKey, DropSequence, DropTable, DropUnique, DropView, Modify, RenameColumn, RenameSequence, RenameTable, RenameView, SetDefault, SetNotNull}

abbrev pub back : Dialect → Statement → Option Statement
back d (CreateTable t defs key uniques foreign) = Some (DropTable t)
back d (CreateView v q replace) = Some (DropView v)
back d (CreateSequence s start size) = Some (DropSequence s)
back d (AddColumn t def) = Some (DropColumn t def.name)
back d (RenameTable a b) = Some (RenameTable b a)
back d (RenameColumn t a b) = Some (RenameColumn t b a)
back d (RenameView a b) = Some (RenameView b a)
back d (RenameSequence a b) = Some (RenameSequence b a)
back d (SetNotNull t n) = Some (DropNotNull t n)
back d (DropNotNull t n) = Some (SetNotNull t n)
back d (Modify t n k nullable) = Some (Modify t n k (not nullable))
back d (SetDefault t n l) = Some (DropDefault t n)
back Postgresql (CreateIndex t i) = Some (DropIndex (beside t i.name) None)
back Mysql (CreateIndex t i) = Some (DropIndex i.name (Some t))
back Postgresql (AddPrimaryKey t k) = Some (DropConstraint t k.name)
back Mysql (AddPrimaryKey t k) = Some (DropPrimaryKey t)
back Postgresql (AddUnique t u) = Some (DropConstraint t u.name)
back Mysql (AddUnique t u) = Some (DropUnique t u.name)
back Postgresql (AddForeignKey t f) = Some (DropConstraint t f.name)
back Mysql (AddForeignKey t f) = Some (DropForeignKey t f.name)
back d s = None

-- of statements in order: the last first
abbrev pub backs : Dialect → List Statement → List Statement
backs d [] = []
backs d (s ∷ ss) = backs d ss ++ option_to_list (back d s)

-- However many of its first statements ran on a catalogue on which the change is fresh: what takes each of them back, the last first, gives the catalogue back.
abbrev pub PartsBack : {Key : Type 0} → (Dialect → Key → Bool) → (Dialect → Key → List Statement) → (Dialect → Key → Catalogue → Bool) → (Dialect → Key → Option (List Statement)) → Type 0
PartsBack {Key} is_for gives fresh inverse =
    (d : Dialect) (x : Key) (c p : Catalogue) (undoing first rest : List Statement) → is_for d x ≡ true → IsSound d c → fresh d x c ≡ true → inverse d x ≡ Some undoing
    → gives d x ≡ first ++ rest → run User d first c ≡ Ok p → run User d (backs d first) p ≡ Ok c
