-- What a condition tells of a catalogue that stands for a database is told by the users' objects.
use mathlib.Core.Path.{fun_ext}
use Rattle.std.proofs.Common.{ap, refl, sym, ◌∙◌}
use Rattle.std.specs.List.{find}
use Rattle.std.specs.Ordering.{int_eq}
use Rattle.std.specs.Prelude.{Bool, Err, List, None, Ok, Option, Result, Some, false, if◌then◌else◌, is_some, length, not, option_and_then, option_map, pos, true, ℕ, ◌&&◌, ◌==◌, ◌≡◌}
use Rattle.lq_base.specs.Name.{is_named}
use Rattle.lq_base.specs.declared.dialect.Dialect.{Dialect}
use Rattle.lq_base.specs.declared.name.Name.{Name}
use Rattle.lq_base.specs.declared.reason.Reason.{Reason}
use Rattle.lq_base.specs.declared.reason.Reason.TheVariants.{Missing}
use Rattle.lq_base.specs.declared.tracking.Tracked.{Tracked}
use Rattle.lq_beside.proofs.Asked.{queries_see}
use Rattle.lq_beside.proofs.Stands.{users_are}
use Rattle.lq_beside.proofs.Tests.{table_same}
use Rattle.lq_beside.proofs.Words.{free_name}
use Rattle.lq_beside.specs.Beside.{is_tracker, users}
use Rattle.lq_cond.specs.Told.{count_of, has, is_answered, key_named, tells, together, told}
use Rattle.lq_cond.specs.declared.cond.Cond.{Cond, fold-Cond}
use Rattle.lq_cond.specs.declared.condition.Condition.{Condition}
use Rattle.lq_cond.specs.declared.condition.Condition.TheVariants.{ChangeSetExecuted, ColumnExists, Dbms, ForeignKeyConstraintExists, IndexExists, PrimaryKeyExists, RowCount, SequenceExists, SqlCheck, TableExists, TableIsEmpty, UniqueConstraintExists, ViewExists}
use Rattle.lq_model.specs.Catalogue.{Catalogue, Table, table_of}
use Rattle.lq_model.specs.Views.{answer}
use Rattle.lq_model.specs.NameSpaces.{is_tracking}
use Rattle.lq_model.specs.declared.caller.By.TheVariants.{User}
use Rattle.lq_model.specs.declared.column.Column.{Column}
use Rattle.lq_model.specs.declared.constraint.ForeignKey.{ForeignKey}
use Rattle.lq_model.specs.declared.constraint.Key.{Key}
use Rattle.lq_model.specs.declared.constraint.Unique.{Unique}
use Rattle.lq_model.specs.declared.index.Index.{Index}
use Rattle.lq_model.specs.declared.query.Query.{Query}
use Rattle.lq_sets.specs.Counting.{ConditionsSee, Suffice}
use Rattle.lq_track.specs.Database.{Database}
use Rattle.lq_verdicts.specs.Verdict.{map_told}

abbrev as_told : Bool → Result Bool Reason
as_told b = Ok b

-- something of a table that is no tracking table
has_if : {A : Type 0} (t : Name) (b : Bool) (x y : Option A) → is_tracking t ≡ b → (is_tracker t ≡ false → x ≡ y) → (not b && is_some x) ≡ (not b && is_some y)
has_if t true x y is same = refl
has_if t false x y is same = ap is_some (same (free_name t is))

has_same : {A : Type 0} (t : Name) (x y : Option A) → (is_tracker t ≡ false → x ≡ y) → has t x ≡ has t y
has_same t x y same = has_if t (is_tracking t) x y refl same

abbrev counted : Bool → Option Table → Result ℕ Reason
counted b o = if b then Err Missing else elim (option_map (λ (it : Table). length it.rows) o) [ None ↦ Err Missing | Some count ↦ Ok count ]

abbrev key_in : Option Table → Option Key
key_in o = option_and_then (λ (it : Table). it.key) o

module _ (c : Catalogue) where
  table_seen : {A : Type 0} (look : Table → Option A) (t : Name) → has t (option_and_then look (table_of (users c) t)) ≡ has t (option_and_then look (table_of c t))
  table_seen look t = has_same t (option_and_then look (table_of (users c) t)) (option_and_then look (table_of c t)) (λ free. ap (option_and_then look) (table_same c t free))

  count_if : (t : Name) (b : Bool) → is_tracking t ≡ b → counted b (table_of (users c) t) ≡ counted b (table_of c t)
  count_if t true is = refl
  count_if t false is = ap (counted false) (table_same c t (free_name t is))

  count_same : (t : Name) → count_of (users c) t ≡ count_of c t
  count_same t = count_if t (is_tracking t) refl

  module _ (d : Dialect) (rows : List Tracked) (queries : (q : Query) → answer User q (users c) ≡ answer User q c) where
    tells_same : (one : Condition) → tells d (users c) rows one ≡ tells d c rows one
    tells_same (Dbms names) = refl
    tells_same (TableExists t) = ap as_told (has_same t (table_of (users c) t) (table_of c t) (table_same c t))
    tells_same (ViewExists v) = refl
    tells_same (ColumnExists t n) = ap as_told (table_seen (λ (it : Table). find (λ (column : Column). is_named n column.name) it.columns) t)
    tells_same (SequenceExists s) = refl
    tells_same (IndexExists t n) = ap as_told (table_seen (λ (it : Table). find (λ (index : Index). is_named n index.name) it.indexes) t)
    tells_same (UniqueConstraintExists t n) = ap as_told (table_seen (λ (it : Table). find (λ (unique : Unique). is_named n unique.name) it.uniques) t)
    tells_same (ForeignKeyConstraintExists t n) = ap as_told (table_seen (λ (it : Table). find (λ (foreign : ForeignKey). is_named n foreign.name) it.foreign) t)
    tells_same (PrimaryKeyExists t n) = ap as_told (has_same t (key_named n (key_in (table_of (users c) t))) (key_named n (key_in (table_of c t))) (λ free. ap (λ o. key_named n (key_in o)) (table_same c t free)))
    tells_same (ChangeSetExecuted id author file) = refl
    tells_same (SqlCheck text query) = ap (is_answered text) (queries query)
    tells_same (RowCount t expected) = ap (map_told (λ (count : ℕ). int_eq (pos count) expected)) (count_same t)
    tells_same (TableIsEmpty t) = ap (map_told (λ (count : ℕ). count == 0)) (count_same t)

    told_same : (asked : Cond) → told d asked (users c) rows ≡ told d asked c rows
    told_same asked = ap (λ (f : Condition → Result Bool Reason). fold-Cond (Result Bool Reason) (together f) asked) (fun_ext tells_same)

pub conditions_see : ConditionsSee
conditions_see d asked rows c database stands =
    sym (ap (λ u. told d asked u rows) (users_are d c database stands)
    ∙ told_same c d rows (λ q. sym (ap (answer User q) (users_are d c database stands)) ∙ queries_see d q c database stands) asked)

-- the rows of a database tell what it tells
pub rows_suffice : (d : Dialect) (asked : Cond) (rows : List Tracked) (database : Database) → database.rows ≡ rows → Suffice d asked database rows
rows_suffice d asked rows database same = ap (told d asked database.users) same
