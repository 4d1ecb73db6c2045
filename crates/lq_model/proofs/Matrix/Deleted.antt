-- Worked examples: the whole catalogue after a deletion, and how many rows of the named table went.
use Rattle.std.specs.Prelude.{Bool, List, None, Some, [], codes, false, pos, refl, true, ℤ, ◌∷◌}
use Rattle.lq_base.specs.Value.{into_kind}
use Rattle.lq_base.specs.declared.dialect.Dialect.TheVariants.{Mysql, Postgresql}
use Rattle.lq_base.specs.declared.kind.Kind.TheVariants as kind
use Rattle.lq_base.specs.declared.name.Name.{Name}
use Rattle.lq_base.specs.declared.reason.Reason.TheVariants.{HasChildren}
use Rattle.lq_base.specs.declared.value.Value.{Value}
use Rattle.lq_base.specs.declared.value.Value.TheVariants as value
use Rattle.lq_model.specs.Catalogue.{Catalogue, Table}
use Rattle.lq_model.specs.Plan.{decide}
use Rattle.lq_model.specs.declared.statement.Statement.TheVariants.{Delete}
use Rattle.lq_model.specs.declared.test.Op.TheVariants.{Gt}
use Rattle.lq_model.specs.declared.test.Operand.TheVariants as operand
use Rattle.lq_model.specs.declared.test.Test.{Compare}
use Rattle.lq_model.proofs.ExampleWorld.{another, child, column, foreign_to, id, key_on, number, parent, up, where_id}
use Rattle.lq_model.proofs.Matrix.Tables.{Are, Gives, of_tables, plain, table}
use Rattle.lq_model.specs.declared.caller.By.TheVariants.{User}

-- rows of an `id` and what `up` is, null where there is none
abbrev over : ℤ → ℤ → List Value
over n p = value.Int n ∷ value.Int p ∷ []

abbrev root : ℤ → List Value
root n = value.Int n ∷ value.Null ∷ []

-- a table keyed by `id`, whose `up` targets the `id` of that table
abbrev under : Name → Bool → List (List Value) → Table
under target cascade rows = table (column id kind.Int false None false ∷ plain up kind.Int ∷ []) (Some (key_on (codes "PRIMARY") (id ∷ []))) [] (foreign_to (codes "fk") (up ∷ []) target (id ∷ []) cascade ∷ []) [] rows

-- rows that the test takes; one for which it is unknown stays
pub deleted :
    Gives Postgresql (of_tables ((another, under another false (root (pos 1) ∷ root (pos 2) ∷ over (pos 3) (pos 2) ∷ [])) ∷ [])) (Delete another (Some (Compare Gt (operand.Column up) (operand.Literal (number (pos 1))))))
    (of_tables ((another, under another false (root (pos 1) ∷ root (pos 2) ∷ [])) ∷ [])) 1
    × Gives Mysql (of_tables ((another, under another false (root (pos 1) ∷ over (pos 2) (pos 1) ∷ [])) ∷ [])) (Delete another None) (of_tables ((another, under another false []) ∷ [])) 2
    × Gives Postgresql (of_tables ((another, under another false (root (pos 1) ∷ [])) ∷ [])) (Delete another (where_id (pos 9))) (of_tables ((another, under another false (root (pos 1) ∷ [])) ∷ [])) 0
unfolding decide into_kind
deleted = (refl, refl, refl)

-- three tables, each under the next by the order of their names: a row of the last takes along those of the first in two rounds
abbrev chain : Bool → Bool → List (List Value) → List (List Value) → List (List Value) → Catalogue
chain first second xs ys zs = of_tables ((child, under another first xs) ∷ (another, under parent second ys) ∷ (parent, under parent false zs) ∷ [])

abbrev full_chain : Bool → Bool → Catalogue
full_chain first second = chain first second
    (over (pos 1) (pos 1) ∷ over (pos 2) (pos 2) ∷ root (pos 3) ∷ over (pos 4) (pos 1) ∷ [])
    (over (pos 1) (pos 1) ∷ over (pos 2) (pos 2) ∷ root (pos 3) ∷ [])
    (root (pos 1) ∷ root (pos 2) ∷ [])

pub cascades_of_two_rounds :
    Gives Postgresql (full_chain true true) (Delete parent (where_id (pos 1))) (chain true true (over (pos 2) (pos 2) ∷ root (pos 3) ∷ []) (over (pos 2) (pos 2) ∷ root (pos 3) ∷ []) (root (pos 2) ∷ [])) 1
    × Gives Mysql (full_chain true true) (Delete parent None) (chain true true (root (pos 3) ∷ []) (root (pos 3) ∷ []) []) 2
    × Gives Postgresql (full_chain true false) (Delete another (where_id (pos 2))) (chain true false (over (pos 1) (pos 1) ∷ root (pos 3) ∷ over (pos 4) (pos 1) ∷ []) (over (pos 1) (pos 1) ∷ root (pos 3) ∷ []) (root (pos 1) ∷ root (pos 2) ∷ [])) 1
    × Are (Some HasChildren) User Postgresql (full_chain false true) (Delete parent (where_id (pos 1)) ∷ Delete parent None ∷ [])
    × Are (Some HasChildren) User Postgresql (full_chain true false) (Delete parent (where_id (pos 1)) ∷ [])
unfolding decide into_kind
cascades_of_two_rounds = (refl, refl, refl, refl, refl)

-- the count takes in the rows of the named table that went by a cascade: along its own rows, and round through another table
abbrev line : List (List Value) → Catalogue
line rows = of_tables ((another, under another true rows) ∷ [])

abbrev circle : List (List Value) → List (List Value) → Catalogue
circle xs ys = of_tables ((another, under parent true xs) ∷ (parent, under another true ys) ∷ [])

pub cascades_counted :
    Gives Postgresql (line (over (pos 3) (pos 2) ∷ root (pos 1) ∷ over (pos 4) (pos 3) ∷ over (pos 2) (pos 1) ∷ root (pos 5) ∷ [])) (Delete another (where_id (pos 1))) (line (root (pos 5) ∷ [])) 4
    × Gives Postgresql (line (over (pos 1) (pos 2) ∷ over (pos 2) (pos 1) ∷ over (pos 3) (pos 3) ∷ [])) (Delete another (where_id (pos 1))) (line (over (pos 3) (pos 3) ∷ [])) 2
    × Gives Postgresql (circle (root (pos 1) ∷ over (pos 2) (pos 1) ∷ root (pos 3) ∷ []) (over (pos 1) (pos 1) ∷ over (pos 2) (pos 3) ∷ [])) (Delete another (where_id (pos 1))) (circle (root (pos 3) ∷ []) (over (pos 2) (pos 3) ∷ [])) 2
unfolding decide into_kind
cascades_counted = (refl, refl, refl)

-- a row with two foreign keys goes where one cascades and has lost its parent, although the other has one; where the other does not cascade and has lost its parent, it goes nevertheless
abbrev two_parents_of : Bool → Bool → List (List Value) → List (List Value) → Catalogue
two_parents_of first second xs zs = of_tables (
    (another, table (plain id kind.Int ∷ plain up kind.Int ∷ []) None [] (foreign_to (codes "f") (id ∷ []) parent (id ∷ []) first ∷ foreign_to (codes "g") (up ∷ []) parent (id ∷ []) second ∷ []) [] xs)
    ∷ (parent, under parent false zs)
    ∷ [])

pub one_of_two_cascades :
    Gives Postgresql (two_parents_of true false (over (pos 1) (pos 2) ∷ over (pos 2) (pos 2) ∷ []) (root (pos 1) ∷ root (pos 2) ∷ [])) (Delete parent (where_id (pos 1))) (two_parents_of true false (over (pos 2) (pos 2) ∷ []) (root (pos 2) ∷ [])) 1
    × Gives Postgresql (two_parents_of true false (over (pos 1) (pos 1) ∷ over (pos 2) (pos 2) ∷ []) (root (pos 1) ∷ root (pos 2) ∷ [])) (Delete parent (where_id (pos 1))) (two_parents_of true false (over (pos 2) (pos 2) ∷ []) (root (pos 2) ∷ [])) 1
    × Are (Some HasChildren) User Postgresql (two_parents_of true false (over (pos 1) (pos 2) ∷ over (pos 2) (pos 2) ∷ []) (root (pos 1) ∷ root (pos 2) ∷ [])) (Delete parent (where_id (pos 2)) ∷ [])
unfolding decide into_kind
one_of_two_cascades = (refl, refl, refl)
