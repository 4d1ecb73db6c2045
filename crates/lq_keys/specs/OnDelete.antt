-- What is gone where a foreign key or an index is dropped: under PostgreSQL the table's constraint of that name, of whichever sort, and the index of that name, on whichever table of its schema.
use Rattle.std.specs.Option.{option_and_then}
use Rattle.std.specs.Prelude.{Bool, List, None, Option, Some, [], codes, false, if◌then◌else◌, map, true, ℕ, ◌∷◌}
use Rattle.std.specs.Str.{bytes_eq}
use Rattle.lq_base.specs.Name.{beside, is_name}
use Rattle.lq_base.specs.declared.dialect.Dialect.{Dialect}
use Rattle.lq_base.specs.declared.dialect.Dialect.TheVariants.{Mysql, Postgresql}
use Rattle.lq_base.specs.declared.name.Name.{Name}
use Rattle.lq_keys.specs.declared.index_column.IndexColumn.{IndexColumn}
use Rattle.lq_keys.specs.declared.on_delete.OnDelete.{OnDelete}
use Rattle.lq_keys.specs.declared.on_delete.OnDelete.TheVariants.{Cascade, NoAction, Restrict}
use Rattle.lq_model.specs.Catalogue.{Catalogue, Table, the_table, with_table}
use Rattle.lq_model.specs.Changes.{text}
use Rattle.lq_model.specs.Constraints.{without_constraint, without_foreign, without_index, without_index_in}
use Rattle.lq_model.specs.TakesBack.{Row}
use Rattle.lq_tree.specs.Given.{a_name}
use Rattle.lq_tree.specs.Keys.{Keys, fields, map_with, required, ◌⊛◌}
use Rattle.lq_tree.specs.Look.{Taken, or_bad, text_of}

abbrev pub foreign_dropped : Dialect → Name → Table → Table
foreign_dropped Postgresql n it = without_constraint n it
foreign_dropped Mysql n it = without_foreign n it

abbrev pub index_dropped : Dialect → Name → Name → Catalogue → Catalogue
index_dropped Postgresql n t c = record c { tables = map (λ e. (e.0, without_index_in (beside t n) e.0 e.1)) c.tables }
index_dropped Mysql n t c = with_table c t (without_index n (the_table c t))

-- What a foreign key states of the deletion of the row that a row targets.

abbrev pub words : OnDelete → List ℕ
words NoAction = codes "NO ACTION"
words Restrict = codes "RESTRICT"
words Cascade = codes "CASCADE"

abbrev pub on_delete_of : List ℕ → Option OnDelete
on_delete_of t =
    if bytes_eq t (words NoAction) then Some NoAction else
    if bytes_eq t (words Restrict) then Some Restrict else
    if bytes_eq t (words Cascade) then Some Cascade else None

-- one of these texts
abbrev pub an_on_delete : Taken OnDelete
an_on_delete n = or_bad (option_and_then on_delete_of (text_of n))

-- deleting the target's row deletes the row too
abbrev pub cascades : Option OnDelete → Bool
cascades None = false
cascades (Some NoAction) = false
cascades (Some Restrict) = false
cascades (Some Cascade) = true

-- A column of an index.

abbrev pub keys : Keys IndexColumn
keys = fields (λ name. record { name = name }) ⊛ required (codes "name") a_name

unfoldable pub index_column : Taken IndexColumn
index_column = map_with (codes "remarks" ∷ []) keys

-- its name is a name
abbrev pub is_column : IndexColumn → Bool
is_column column = is_name column.name

abbrev pub names_of : List IndexColumn → List Name
names_of columns = map (λ column. column.name) columns

abbrev pub rows : IndexColumn → List Row
rows column = (codes "name", Some (text column.name)) ∷ []
