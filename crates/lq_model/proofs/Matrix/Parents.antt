-- Worked examples: rows without their parent, in the named table and in others, and too many rows.
use Rattle.std.specs.Prelude.{Bool, List, None, Some, [], codes, false, pos, refl, replicate, true, ℕ, ◌∷◌}
use Rattle.lq_base.specs.Value.{into_kind}
use Rattle.lq_base.specs.declared.dialect.Dialect.TheVariants.{Mysql, Postgresql}
use Rattle.lq_base.specs.declared.kind.Kind.TheVariants as kind
use Rattle.lq_base.specs.declared.literal.Literal.TheVariants as literal
use Rattle.lq_base.specs.declared.reason.Reason.TheVariants.{HasChildren, NoParent, NullFound, TooManyRows}
use Rattle.lq_base.specs.declared.value.Value.{Value}
use Rattle.lq_base.specs.declared.value.Value.TheVariants as value
use Rattle.lq_model.specs.Catalogue.{Catalogue}
use Rattle.lq_model.specs.Plan.{decide}
use Rattle.lq_model.specs.declared.caller.By.TheVariants.{User}
use Rattle.lq_model.specs.declared.constraint.ForeignKey.{ForeignKey}
use Rattle.lq_model.specs.declared.statement.Statement.{Statement}
use Rattle.lq_model.specs.declared.statement.Statement.TheVariants.{AddForeignKey, Delete, Insert, Update}
use Rattle.lq_model.proofs.ExampleWorld.{another, code, column, foreign_to, id, key_on, number, parent, up, where_id}
use Rattle.lq_model.proofs.Matrix.Tables.{Are, of_tables, plain, table}

abbrev one : Value
one = value.Int (pos 1)

abbrev two : Value
two = value.Int (pos 2)

-- parents (1, 1) and (1, 2) by the key of `id` and `code`, and a table with these foreign keys and rows of `id`, `code`
abbrev pairs : List ForeignKey → List (List Value) → Catalogue
pairs foreign rows = of_tables (
    (another, table (plain id kind.Int ∷ plain code kind.Int ∷ []) None [] foreign [] rows)
    ∷ (parent, table (column id kind.Int false None false ∷ column code kind.Int false None false ∷ []) (Some (key_on (codes "PRIMARY") (id ∷ code ∷ []))) [] [] [] ((one ∷ one ∷ []) ∷ (one ∷ two ∷ []) ∷ []))
    ∷ [])

abbrev to_pairs : Bool → ForeignKey
to_pairs cascade = foreign_to (codes "fk") (id ∷ code ∷ []) parent (id ∷ code ∷ []) cascade

abbrev adds : List Statement
adds = AddForeignKey another (to_pairs false) ∷ AddForeignKey another (to_pairs true) ∷ []

abbrev pair : Value → Value → List Value
pair x y = x ∷ y ∷ []

-- a row has a parent where all its columns are equal; with one null it needs none
pub parents_found :
    Are (Some NoParent) User Postgresql (pairs [] (pair one one ∷ pair two one ∷ [])) adds
    × Are (Some NoParent) User Mysql (pairs [] (pair one one ∷ pair two one ∷ [])) adds
    × Are None User Postgresql (pairs [] (pair one one ∷ pair one two ∷ pair one two ∷ pair value.Null two ∷ pair two value.Null ∷ pair value.Null value.Null ∷ [])) adds
    × Are (Some NoParent) User Postgresql (pairs (to_pairs false ∷ []) (pair one one ∷ [])) (Insert another [] (number (pos 2) ∷ number (pos 1) ∷ []) ∷ Update another ((id, number (pos 2)) ∷ []) None ∷ [])
    × Are (Some NoParent) User Mysql (pairs (to_pairs true ∷ []) (pair one one ∷ [])) (Insert another [] (number (pos 2) ∷ number (pos 1) ∷ []) ∷ Update another ((id, number (pos 2)) ∷ []) None ∷ [])
    × Are None User Postgresql (pairs (to_pairs false ∷ []) (pair one one ∷ [])) (Insert another [] (number (pos 1) ∷ number (pos 2) ∷ []) ∷ Insert another [] (literal.Null ∷ number (pos 9) ∷ []) ∷ Update another ((id, literal.Null) ∷ (code, number (pos 9)) ∷ []) None ∷ Update another ((id, number (pos 2)) ∷ []) (where_id (pos 9)) ∷ [])
unfolding decide into_kind
parents_found = (refl, refl, refl, refl, refl, refl)

-- the rows of another table: an update takes no rows along, whatever the foreign key says, a deletion those that go with their parent
abbrev moves : Statement
moves = Update parent ((id, number (pos 9)) ∷ []) None

pub children_found :
    Are (Some HasChildren) User Postgresql (pairs (to_pairs false ∷ []) (pair one one ∷ [])) (moves ∷ Delete parent None ∷ [])
    × Are (Some HasChildren) User Mysql (pairs (to_pairs false ∷ []) (pair one one ∷ [])) (moves ∷ Delete parent None ∷ [])
    × Are (Some HasChildren) User Postgresql (pairs (to_pairs true ∷ []) (pair one one ∷ [])) (moves ∷ [])
    × Are None User Postgresql (pairs (to_pairs true ∷ []) (pair one one ∷ [])) (Delete parent None ∷ [])
    × Are None User Postgresql (pairs (to_pairs false ∷ []) (pair one value.Null ∷ [])) (moves ∷ Delete parent None ∷ [])
    × Are None User Postgresql (pairs (to_pairs false ∷ []) (pair one one ∷ [])) (Update parent ((id, number (pos 1)) ∷ []) None ∷ Delete parent (where_id (pos 9)) ∷ Delete another None ∷ [])
unfolding decide into_kind
children_found = (refl, refl, refl, refl, refl, refl)

-- a table whose rows have their parent in it: 1 is its own, 2 has 1, 3 has 2
abbrev tree : Bool → Catalogue
tree cascade = of_tables ((
  another,
  table (column id kind.Int false None false ∷ plain up kind.Int ∷ []) (Some (key_on (codes "PRIMARY") (id ∷ []))) [] (foreign_to (codes "fk") (up ∷ []) another (id ∷ []) cascade ∷ []) []
      (pair one one ∷ pair two one ∷ pair (value.Int (pos 3)) two ∷ []),
) ∷ [])

-- all is looked at after the whole statement; after a deletion a row of the same table without its parent is a child that is left, after an update it is a row without parent
pub tree_changed :
    Are None User Postgresql (tree false) (Insert another [] (number (pos 4) ∷ number (pos 4) ∷ []) ∷ Update another ((up, number (pos 3)) ∷ []) None ∷ Delete another None ∷ Delete another (where_id (pos 3)) ∷ [])
    × Are (Some NoParent) User Postgresql (tree false) (Insert another [] (number (pos 4) ∷ number (pos 5) ∷ []) ∷ Update another ((up, number (pos 5)) ∷ []) (where_id (pos 1)) ∷ Update another ((id, number (pos 5)) ∷ []) (where_id (pos 2)) ∷ [])
    × Are (Some HasChildren) User Postgresql (tree false) (Delete another (where_id (pos 1)) ∷ Delete another (where_id (pos 2)) ∷ [])
    × Are (Some HasChildren) User Mysql (tree false) (Delete another (where_id (pos 2)) ∷ [])
    × Are None User Postgresql (tree true) (Delete another (where_id (pos 1)) ∷ Delete another (where_id (pos 2)) ∷ [])
unfolding decide into_kind
tree_changed = (refl, refl, refl, refl, refl)

-- 100,000 rows that need no parent, and one that has none or holds a null: this is told before the number of rows
abbrev full : ℕ → Bool → Catalogue
full n nullable = of_tables (
    (another, table (column id kind.Int nullable None false ∷ plain up kind.Int ∷ []) None [] (foreign_to (codes "fk") (up ∷ []) parent (id ∷ []) false ∷ []) [] (replicate n (pair one value.Null)))
    ∷ (parent, table (column id kind.Int false None false ∷ []) (Some (key_on (codes "PRIMARY") (id ∷ []))) [] [] [] [])
    ∷ [])

pub too_many_rows_last :
    Are (Some TooManyRows) User Mysql (full 100000 true) (Insert another [] (literal.Null ∷ literal.Null ∷ []) ∷ [])
    × Are None User Mysql (full 99999 true) (Insert another [] (literal.Null ∷ literal.Null ∷ []) ∷ [])
    × Are (Some NoParent) User Postgresql (full 100000 true) (Insert another [] (literal.Null ∷ number (pos 1) ∷ []) ∷ [])
    × Are (Some NullFound) User Postgresql (full 100000 false) (Insert another [] (literal.Null ∷ literal.Null ∷ []) ∷ [])
unfolding decide into_kind
too_many_rows_last = (refl, refl, refl, refl)
