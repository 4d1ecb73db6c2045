-- What a statement would do, and what is asked of its result.
use Rattle.std.specs.List.{filter, list_any}
use Rattle.std.specs.Prelude.{Bool, Err, List, Ok, Result, [], cond, false, length, map, nat_le, not, ℕ, ◌&&◌, ◌++◌, ◌||◌, ◌∷◌, ◌≡◌}
use Rattle.lq_base.specs.declared.name.Name.{Name}
use Rattle.lq_base.specs.declared.reason.Reason.{Reason}
use Rattle.lq_base.specs.declared.reason.Reason.TheVariants as reason
use Rattle.lq_base.specs.declared.value.Value.{Value}
use Rattle.lq_model.specs.Catalogue.{Catalogue, Table, has_bad_null, has_equals, is_in, is_null, picked, same_names, same_values, target_lists, the_table}
use Rattle.lq_model.specs.declared.column.Column.{Column}
use Rattle.lq_model.specs.declared.constraint.ForeignKey.{ForeignKey}

-- The first of several reasons that applies.

-- the reason of the first test that holds, and else the value
abbrev pub unless : {A : Type 0} → List (Bool × Reason) → A → Result A Reason
unless [] x = Ok x
unless (c ∷ cs) x = cond c.0 (Err c.1) (unless cs x)

-- no test holds
abbrev pub NoneHolds : List (Bool × Reason) → Type 0
NoneHolds [] = Unit {0}
NoneHolds (c ∷ cs) = (c.0 ≡ false) × NoneHolds cs

-- What is asked of the result of a whole statement.

-- at most so many rows in a table
abbrev pub most_rows : ℕ
most_rows = 100000

abbrev pub table_has_null : Table → Bool
table_has_null it = list_any (has_bad_null it.columns) it.rows

-- the columns of the key, of each unique constraint and of each unique index
abbrev pub unique_lists : Table → List (List Name)
unique_lists it = target_lists it ++ map (λ i. i.columns) (filter (λ i. i.unique) it.indexes)

abbrev pub table_has_twins : Table → Bool
table_has_twins it = list_any (λ ns. has_equals (map (picked it.columns ns) it.rows)) (unique_lists it)

abbrev pub is_full : Table → Bool
is_full it = not (nat_le (length it.rows) most_rows)

-- whether a foreign key's targets are, in order, neither the key nor a unique constraint of their table
abbrev pub misses_target : Catalogue → ForeignKey → Bool
misses_target c f = not (list_any (same_names f.targets) (target_lists (the_table c f.table)))

-- whether a row has no parent: one with a null needs none
abbrev pub lacks_parent : Catalogue → List Column → ForeignKey → List Value → Bool
lacks_parent c cs f row =
    let own = picked cs f.columns row in
    let target = the_table c f.table in
    not (list_any is_null own) && not (list_any (λ r. same_values own (picked target.columns f.targets r)) target.rows)

abbrev pub has_orphan : Catalogue → Table → Bool
has_orphan c it = list_any (λ f. list_any (lacks_parent c it.columns f) it.rows) it.foreign

-- a null in a NOT NULL column
abbrev pub has_null : Catalogue → Bool
has_null c = list_any (λ e. table_has_null e.1) c.tables

-- two rows equal in a key, a unique constraint or a unique index
abbrev pub has_twins : Catalogue → Bool
has_twins c = list_any (λ e. table_has_twins e.1) c.tables

-- a foreign key whose targets are neither a key nor a unique constraint
abbrev pub is_loose : Catalogue → Bool
is_loose c = list_any (λ e. list_any (misses_target c) e.1.foreign) c.tables

-- a row without its parent
abbrev pub has_orphans : Catalogue → Bool
has_orphans c = list_any (λ e. has_orphan c e.1) c.tables

-- a table with too many rows
abbrev pub is_overfull : Catalogue → Bool
is_overfull c = list_any (λ e. is_full e.1) c.tables

-- What a statement would do, and what is against it.

pub record Plan : Type 0 where
  -- a user's statement names a tracking table
  pub reserved : Bool
  -- something that it names as there is not there
  pub missing : Bool
  -- a name that it makes is taken or made twice, a column is named twice in a list, or a key would be a second one
  pub exists : Bool
  -- something else needs what it changes
  pub depends : Bool
  -- kinds or numbers of columns differ
  pub wrong : Bool
  -- a value is out of its kind
  pub wide : Bool
  -- the tables whose rows without a parent are its own fault
  pub named : List Name
  -- the catalogue after it
  pub result : Catalogue
  -- how many rows it changes
  pub count : ℕ

-- nothing is against it, and it changes nothing
abbrev pub unopposed : Catalogue → Plan
unopposed c = record { reserved = false; missing = false; exists = false; depends = false; wrong = false; wide = false; named = []; result = c; count = 0 }

-- a row of these tables without its parent
abbrev pub lacks_parents : List Name → Catalogue → Bool
lacks_parents ns c = list_any (λ e. is_in e.0 ns && has_orphan c e.1) c.tables

-- a row of other tables without its parent
abbrev pub leaves_children : List Name → Catalogue → Bool
leaves_children ns c = list_any (λ e. not (is_in e.0 ns) && has_orphan c e.1) c.tables

-- what is against it, the first reason first; what the result is tested for counts after what the statement says
abbrev pub against : Plan → List (Bool × Reason)
against p =
    (p.reserved, reason.Reserved)
    ∷ (p.missing, reason.Missing)
    ∷ (p.exists, reason.Exists)
    ∷ (p.depends || is_loose p.result, reason.Depends)
    ∷ (p.wrong, reason.WrongKind)
    ∷ (p.wide, reason.TooWide)
    ∷ (has_null p.result, reason.NullFound)
    ∷ (has_twins p.result, reason.Duplicate)
    ∷ (lacks_parents p.named p.result, reason.NoParent)
    ∷ (leaves_children p.named p.result, reason.HasChildren)
    ∷ (is_overfull p.result, reason.TooManyRows)
    ∷ []

-- the catalogue after it and the count, or the first reason
unfoldable pub decide : Plan → Result (Catalogue × ℕ) Reason
decide p = unless (against p) (p.result, p.count)

-- When a table's row is equal to a new one where rows have to differ.

-- a row is equal to the new one in these columns
abbrev pub is_twin_in : List Column → List (List Value) → List Value → List Name → Bool
is_twin_in cs rows row ns = list_any (λ r. same_values (picked cs ns r) (picked cs ns row)) rows

-- a row of the table is equal to the new one in a key, a unique constraint or a unique index
abbrev pub is_twin : Table → List Value → Bool
is_twin it row = list_any (is_twin_in it.columns it.rows row) (unique_lists it)
