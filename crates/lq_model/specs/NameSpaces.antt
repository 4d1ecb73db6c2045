-- The spaces of names. Under PostgreSQL the tables, views, sequences, indexes, keys and unique constraints of each schema share one, where what is inside a table counts in the table's schema, and the constraints of one table differ too. Under MySQL tables and views share one, foreign keys share one, and the indexes and unique constraints of one table share one.
use Rattle.std.specs.List.{flat_map, list_any}
use Rattle.std.specs.Prelude.{Bool, List, codes, cond, false, map, nat_le, ℕ, ◌&&◌, ◌++◌, ◌+◌, ◌||◌, ◌≤◌}
use Rattle.lq_base.specs.Name.{beside, is_named}
use Rattle.lq_base.specs.declared.dialect.Dialect.{Dialect}
use Rattle.lq_base.specs.declared.dialect.Dialect.TheVariants.{Mysql, Postgresql}
use Rattle.lq_base.specs.declared.name.Name.{Name}
use Rattle.lq_model.specs.Catalogue.{Catalogue, Table, constraint_names, foreign_names, index_names, inner_names, is_in, placed, repeats, times}
use Rattle.lq_model.specs.declared.caller.By.{By}
use Rattle.lq_model.specs.declared.caller.By.TheVariants.{Program, User}

-- the names of all tables, views and sequences
abbrev pub object_names : Catalogue → List Name
object_names c = map (λ e. e.0) c.tables ++ (map (λ e. e.0) c.views ++ map (λ e. e.0) c.sequences)

-- the names of the key, the unique constraints and the indexes of a table, where they count
abbrev pub names_inside : Name × Table → List Name
names_inside e = placed e.0 (inner_names e.1)

-- the names in PostgreSQL's shared spaces, each with its schema
abbrev pub shared_names : Catalogue → List Name
shared_names c = object_names c ++ flat_map names_inside c.tables

-- the names of all foreign keys
abbrev pub all_foreign_names : Catalogue → List Name
all_foreign_names c = flat_map (λ e. foreign_names e.1) c.tables

-- whether a table, view or sequence may not have the name
abbrev pub is_taken : Dialect → Name → Catalogue → Bool
is_taken Postgresql n c = is_in n (shared_names c)
is_taken Mysql n c = is_in n (object_names c)

-- whether the key of a table may not have the name: under MySQL each table's is named PRIMARY
abbrev pub key_taken : Dialect → Name → Table → Name → Catalogue → Bool
key_taken Postgresql t it n c = is_in (beside t n) (shared_names c) || is_in n (constraint_names it)
key_taken Mysql t it n c = false

-- whether a unique constraint of a table may not have the name
abbrev pub unique_taken : Dialect → Name → Table → Name → Catalogue → Bool
unique_taken Postgresql t it n c = is_in (beside t n) (shared_names c) || is_in n (constraint_names it)
unique_taken Mysql t it n c = is_in n (index_names it)

-- whether a foreign key of a table may not have the name
abbrev pub foreign_taken : Dialect → Table → Name → Catalogue → Bool
foreign_taken Postgresql it n c = is_in n (constraint_names it)
foreign_taken Mysql it n c = is_in n (all_foreign_names c)

-- whether an index of a table may not have the name
abbrev pub index_taken : Dialect → Name → Table → Name → Catalogue → Bool
index_taken Postgresql t it n c = is_in (beside t n) (shared_names c)
index_taken Mysql t it n c = is_in n (index_names it)

-- whether the constraints of a new table may not have their names beside each other and beside what is there
abbrev pub are_clashing : Dialect → Name → Table → Catalogue → Bool
are_clashing Postgresql t it c = repeats (constraint_names it) || list_any (λ n. is_named t n || is_in n (shared_names c)) (placed t (inner_names it))
are_clashing Mysql t it c = repeats (index_names it) || (repeats (foreign_names it) || list_any (λ n. is_in n (all_foreign_names c)) (foreign_names it))

-- names differ in their spaces
abbrev pub AreApart : Dialect → Catalogue → Type 0
AreApart Postgresql c = ((n : Name) → times n (shared_names c) ≤ 1)
AreApart Mysql c = ((n : Name) → times n (object_names c) ≤ 1) × ((n : Name) → times n (all_foreign_names c) ≤ 1)

-- and in those of one table
abbrev pub AreApartWithin : Dialect → Table → Type 0
AreApartWithin Postgresql it = (n : Name) → times n (constraint_names it) ≤ 1
AreApartWithin Mysql it = (n : Name) → times n (index_names it) ≤ 1

-- What a user's statement may not name: the tables that track what ran.

-- a byte of A to Z as its lower-case letter
abbrev pub lower : ℕ → ℕ
lower b = cond (nat_le 65 b && nat_le b 90) (b + 32) b

-- databasechangelog or databasechangeloglock, in any case
abbrev pub is_tracking : Name → Bool
is_tracking n = is_named (map lower n) (codes "databasechangelog") || is_named (map lower n) (codes "databasechangeloglock")

-- whether a user may not run what has these names as those of tables, views, sequences, indexes and constraints
abbrev pub is_reserved : By → List Name → Bool
is_reserved User ns = list_any is_tracking ns
is_reserved Program ns = false

abbrev pub lock_key : Name
lock_key = codes "pk_DATABASECHANGELOGLOCK"

-- whether a user's statement makes, or takes away by a renaming, the name of the lock table's key in PostgreSQL's one space: for a user it is always taken
abbrev pub takes_lock_key : By → Dialect → List Name → Bool
takes_lock_key User Postgresql ns = is_in lock_key ns
takes_lock_key User Mysql ns = false
takes_lock_key Program d ns = false
