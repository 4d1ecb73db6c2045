-- Worked examples: something else needs what a statement changes. Each ground stands alone, beside the same statement where nothing needs it.
use Rattle.std.specs.List.{flat_map}
use Rattle.std.specs.Prelude.{List, None, Option, Some, [], codes, false, map, pos, refl, true, ◌++◌, ◌∷◌}
use Rattle.lq_base.specs.Value.{into_kind, is_value_of}
use Rattle.lq_base.specs.declared.dialect.Dialect.TheVariants.{Mysql, Postgresql}
use Rattle.lq_base.specs.declared.kind.Kind.TheVariants as kind
use Rattle.lq_base.specs.declared.literal.Literal.{Literal}
use Rattle.lq_base.specs.declared.literal.Literal.TheVariants as literal
use Rattle.lq_base.specs.declared.name.Name.{Name}
use Rattle.lq_base.specs.declared.reason.Reason.TheVariants.{Depends}
use Rattle.lq_model.specs.Catalogue.{Catalogue}
use Rattle.lq_model.specs.Plan.{decide}
use Rattle.lq_model.specs.declared.caller.By.TheVariants.{User}
use Rattle.lq_model.specs.declared.constraint.ForeignKey.{ForeignKey}
use Rattle.lq_model.specs.declared.constraint.Key.{Key}
use Rattle.lq_model.specs.declared.constraint.Unique.{Unique}
use Rattle.lq_model.specs.declared.index.Index.{Index}
use Rattle.lq_model.specs.declared.query.Wanted.TheVariants as wanted
use Rattle.lq_model.specs.declared.statement.Statement.{Statement}
use Rattle.lq_model.specs.declared.statement.Statement.TheVariants.{AddColumn, CreateTable, Delete, DropColumn, DropConstraint, DropDefault, DropNotNull, DropPrimaryKey, DropTable, Modify, RenameColumn, RenameTable, SetDefault, SetNotNull}
use Rattle.lq_model.specs.declared.test.Operand.TheVariants as operand
use Rattle.lq_model.specs.declared.test.Test.{IsNull}
use Rattle.lq_model.proofs.ExampleWorld.{another, at, child, children, code, def, foreign_to, id, index_on, key_on, none, number, numbered_def, parent, parents, unique_on, up, view, world_of}
use Rattle.lq_model.proofs.Matrix.Tables.{Are, fresh, of_tables, plain, query_of, table}

-- columns `id`, `code` and `at`, where alone this key, these unique constraints, foreign keys and indexes may need one
abbrev bound : Option Key → List Unique → List ForeignKey → List Index → Catalogue
bound key uniques foreign indexes = of_tables ((another, table (plain id kind.Int ∷ plain code kind.Int ∷ plain at kind.Int ∷ []) key uniques foreign indexes []) ∷ (parent, parents []) ∷ [])

-- SELECT id FROM new WHERE code IS NULL
abbrev looked_at : Catalogue
looked_at = record (bound None [] [] []) { views = (view, record { query = query_of (wanted.Columns (id ∷ [])) another (Some (IsNull (operand.Column code))); columns = id ∷ [] }) ∷ [] }

-- what changes a column so that a view of it would not stand
abbrev unsettles : Name → List Statement
unsettles n = DropColumn another n ∷ RenameColumn another n up ∷ []

abbrev widens : Name → List Statement
widens n = Modify another n kind.BigInt true ∷ []

-- a view needs its table, the columns that it lists, and those of its test
pub views_need :
    Are (Some Depends) User Postgresql looked_at (DropTable another ∷ RenameTable another fresh ∷ unsettles id ++ unsettles code)
    × Are (Some Depends) User Mysql looked_at (DropTable another ∷ RenameTable another fresh ∷ unsettles id ++ unsettles code ++ widens id ++ widens code)
    × Are None User Postgresql looked_at (DropTable parent ∷ RenameTable parent fresh ∷ RenameTable view fresh ∷ unsettles at)
    × Are None User Mysql looked_at (DropTable parent ∷ RenameTable parent fresh ∷ unsettles at ++ widens at ++ Modify another id kind.Int false ∷ Modify another code kind.Int true ∷ [])
    × Are None User Postgresql looked_at (SetNotNull another id ∷ DropNotNull another id ∷ SetDefault another id literal.Null ∷ DropDefault another id ∷ Delete another None ∷ [])
unfolding decide into_kind is_value_of
views_need = (refl, refl, refl, refl, refl)

-- a table that another one's foreign key targets stays, one that its own does goes, and so does one whose foreign keys target others
abbrev to_itself : Catalogue
to_itself = bound (Some (key_on (codes "pk") (id ∷ []))) [] (foreign_to (codes "fk") (code ∷ []) another (id ∷ []) false ∷ []) []

pub foreign_keys_need_their_table :
    Are (Some Depends) User Postgresql (bound None [] (foreign_to (codes "fk") (code ∷ []) parent (id ∷ []) false ∷ []) []) (DropTable parent ∷ [])
    × Are (Some Depends) User Mysql (bound None [] (foreign_to (codes "fk") (code ∷ []) parent (id ∷ []) true ∷ []) []) (DropTable parent ∷ [])
    × Are None User Postgresql (bound None [] (foreign_to (codes "fk") (code ∷ []) parent (id ∷ []) false ∷ []) []) (DropTable another ∷ RenameTable parent fresh ∷ [])
    × Are None User Postgresql to_itself (DropTable another ∷ [])
    × Are None User Mysql to_itself (DropTable another ∷ [])
unfolding decide
foreign_keys_need_their_table = (refl, refl, refl, refl, refl)

-- a key, a unique constraint, an index and a foreign key need each of their columns: `id` and `code` are in one, `at` is in none
abbrev ColumnsStay : Catalogue → Type 0
ColumnsStay c =
    Are (Some Depends) User Postgresql c (DropColumn another id ∷ DropColumn another code ∷ [])
    × Are (Some Depends) User Mysql c (DropColumn another id ∷ DropColumn another code ∷ [])
    × Are None User Postgresql c (DropColumn another at ∷ [])
    × Are None User Mysql c (DropColumn another at ∷ [])

-- parents with a key of two columns
abbrev two_targets : Catalogue
two_targets = of_tables ((another, table (plain id kind.Int ∷ plain code kind.Int ∷ plain at kind.Int ∷ []) None [] (foreign_to (codes "fk") (id ∷ code ∷ []) parent (up ∷ none ∷ []) false ∷ []) [] [])
    ∷ (parent, table (plain up kind.Int ∷ plain none kind.Int ∷ []) (Some (key_on (codes "pk") (up ∷ none ∷ []))) [] [] [] []) ∷ [])

pub columns_are_bound :
    ColumnsStay (bound (Some (key_on (codes "pk") (id ∷ code ∷ []))) [] [] [])
    × ColumnsStay (bound None (unique_on (codes "uq") (id ∷ code ∷ []) ∷ []) [] [])
    × ColumnsStay (bound None [] [] (index_on (codes "ix") (id ∷ code ∷ []) false ∷ []))
    × ColumnsStay (bound None [] [] (index_on (codes "ix") (id ∷ code ∷ []) true ∷ []))
    × ColumnsStay two_targets
    × Are (Some Depends) User Postgresql two_targets (DropColumn parent up ∷ DropColumn parent none ∷ [])
unfolding decide
columns_are_bound = ((refl, refl, refl, refl), (refl, refl, refl, refl), (refl, refl, refl, refl), (refl, refl, refl, refl), (refl, refl, refl, refl), refl)

-- a table's only column
pub only_column :
    Are (Some Depends) User Postgresql (of_tables ((another, table (plain id kind.Int ∷ []) None [] [] [] []) ∷ [])) (DropColumn another id ∷ [])
    × Are None User Postgresql (of_tables ((another, table (plain id kind.Int ∷ plain code kind.Int ∷ []) None [] [] [] []) ∷ [])) (DropColumn another id ∷ DropColumn another code ∷ [])
unfolding decide
only_column = (refl, refl)

-- a key's columns stay NOT NULL, those of a unique constraint, an index or a foreign key need not
pub keys_are_not_null :
    Are (Some Depends) User Postgresql (bound (Some (key_on (codes "pk") (id ∷ code ∷ []))) [] [] []) (DropNotNull another id ∷ DropNotNull another code ∷ [])
    × Are (Some Depends) User Mysql (bound (Some (key_on (codes "PRIMARY") (id ∷ code ∷ []))) [] [] []) (Modify another id kind.Int true ∷ Modify another code kind.Int true ∷ [])
    × Are None User Postgresql (bound (Some (key_on (codes "pk") (id ∷ code ∷ []))) [] [] []) (DropNotNull another at ∷ SetNotNull another id ∷ [])
    × Are None User Mysql (bound (Some (key_on (codes "PRIMARY") (id ∷ code ∷ []))) [] [] []) (Modify another at kind.Int true ∷ Modify another id kind.BigInt false ∷ [])
    × Are None User Postgresql (bound None (unique_on (codes "uq") (id ∷ []) ∷ []) (foreign_to (codes "fk") (code ∷ []) parent (id ∷ []) false ∷ []) (index_on (codes "ix") (at ∷ []) true ∷ [])) (map (DropNotNull another) (id ∷ code ∷ at ∷ []))
    × Are None User Mysql (bound None (unique_on (codes "uq") (id ∷ []) ∷ []) (foreign_to (codes "fk") (code ∷ []) parent (id ∷ []) false ∷ []) (index_on (codes "ix") (at ∷ []) true ∷ [])) (map (λ n. Modify another n kind.Int true) (id ∷ code ∷ at ∷ []))
unfolding decide is_value_of
keys_are_not_null = (refl, refl, refl, refl, refl, refl)

-- the kind of a column that a foreign key names on either side stays; another length or scale is another kind
abbrev sized : Catalogue
sized = of_tables ((another, table (plain id (kind.Varchar 10) ∷ plain code (kind.Decimal 5 2) ∷ []) None [] (foreign_to (codes "f") (id ∷ code ∷ []) parent (at ∷ up ∷ []) false ∷ []) [] [])
    ∷ (parent, table (plain at (kind.Varchar 10) ∷ plain up (kind.Decimal 5 2) ∷ []) None (unique_on (codes "u") (at ∷ up ∷ []) ∷ []) [] [] []) ∷ [])

pub foreign_keys_need_kinds :
    Are (Some Depends) User Mysql two_targets (flat_map (λ k. Modify another id k true ∷ Modify another code k true ∷ Modify parent up k false ∷ Modify parent none k false ∷ []) (kind.BigInt ∷ kind.Text ∷ []))
    × Are None User Mysql two_targets (Modify another id kind.Int false ∷ Modify another code kind.Int true ∷ Modify another at kind.BigInt true ∷ Modify parent up kind.Int false ∷ Modify parent none kind.Int false ∷ [])
    × Are (Some Depends) User Mysql sized (Modify another id (kind.Varchar 20) true ∷ Modify another id kind.Text true ∷ Modify another code (kind.Decimal 6 2) true ∷ Modify parent at (kind.Varchar 20) true ∷ Modify parent up (kind.Decimal 5 3) true ∷ [])
    × Are None User Mysql sized (Modify another id (kind.Varchar 10) false ∷ Modify another code (kind.Decimal 5 2) true ∷ Modify parent at (kind.Varchar 10) true ∷ Modify parent up (kind.Decimal 5 2) true ∷ [])
unfolding decide is_value_of
foreign_keys_need_kinds = (refl, refl, refl, refl)

-- a numbered column: no default is set, it is made with none, as the only column of the key that is made with it, and its key stays
abbrev numbered_with : Option Literal → Option Key → Statement
numbered_with default key = CreateTable fresh (numbered_def id kind.Int default ∷ def code kind.Int None ∷ []) key (unique_on (codes "u") (id ∷ []) ∷ []) []

abbrev numbering : List Statement
numbering =
    SetDefault child id (number (pos 1))
    ∷ SetDefault child id literal.Null
    ∷ AddColumn parent (numbered_def up kind.Int None)
    ∷ AddColumn parent (numbered_def up kind.Int (Some (number (pos 1))))
    ∷ numbered_with (Some (number (pos 1))) (Some (key_on (codes "k") (id ∷ [])))
    ∷ numbered_with (Some literal.Null) (Some (key_on (codes "k") (id ∷ [])))
    ∷ numbered_with None None
    ∷ numbered_with None (Some (key_on (codes "k") (code ∷ [])))
    ∷ numbered_with None (Some (key_on (codes "k") (id ∷ code ∷ [])))
    ∷ CreateTable fresh (numbered_def id kind.Int None ∷ numbered_def code kind.Int None ∷ []) (Some (key_on (codes "k") (id ∷ []))) [] []
    ∷ []

abbrev unnumbered : List Statement
unnumbered = DropDefault child id ∷ SetDefault child up (number (pos 1)) ∷ numbered_with None (Some (key_on (codes "k") (id ∷ []))) ∷ []

abbrev small : Catalogue
small = world_of (children [] 1 false (codes "pk_child")) (parents [])

pub numbered_columns :
    Are (Some Depends) User Postgresql small (DropConstraint child (codes "pk_child") ∷ numbering)
    × Are (Some Depends) User Mysql small (DropPrimaryKey child ∷ numbering)
    × Are None User Postgresql small (DropConstraint child (codes "fk_up") ∷ unnumbered)
    × Are None User Mysql small (Modify child id kind.Int false ∷ unnumbered)
unfolding decide into_kind is_value_of
numbered_columns = (refl, refl, refl, refl)
