-- What is made of a sound catalogue, statement after statement: its sequences, its tables as CREATE TABLE makes them, what they get then, and its views.
use Rattle.std.specs.List.{flat_map, list_any}
use Rattle.std.specs.Prelude.{Bool, List, None, Ok, Option, Some, [], cond, false, map, ◌++◌, ◌∷◌, ◌≡◌}
use Rattle.lq_base.specs.declared.dialect.Dialect.{Dialect}
use Rattle.lq_base.specs.declared.name.Name.{Name}
use Rattle.lq_model.specs.Catalogue.{Catalogue, Sequence, Table, View, placed}
use Rattle.lq_model.specs.NameSpaces.{is_reserved, takes_lock_key}
use Rattle.lq_model.specs.Sound.{IsSound}
use Rattle.lq_model.specs.Step.{run}
use Rattle.lq_model.specs.declared.caller.By.TheVariants.{User}
use Rattle.lq_model.specs.declared.column.Column.{Column}
use Rattle.lq_model.specs.declared.constraint.ForeignKey.{ForeignKey}
use Rattle.lq_model.specs.declared.constraint.Key.{Key}
use Rattle.lq_model.specs.declared.constraint.Unique.{Unique}
use Rattle.lq_model.specs.declared.index.Index.{Index}
use Rattle.lq_model.specs.declared.statement.Statement.{Statement}
use Rattle.lq_model.specs.declared.statement.Statement.TheVariants.{AddForeignKey, AddPrimaryKey, AddUnique, CreateIndex, CreateSequence, CreateView}

-- the key that CREATE TABLE makes: that of a numbered column
abbrev pub own_key : Table → Option Key
own_key it = cond (list_any (λ (c : Column). c.numbered) it.columns) it.key None

-- a table with its columns and these
abbrev pub filled : Table → Option Key → List Unique → List Index → List ForeignKey → Table
filled it key us xs fs = record { columns = it.columns; key = key; uniques = us; foreign = fs; indexes = xs; next = 1; rows = [] }

-- as it is made, with all but its foreign keys, and with all that it has but its rows
abbrev pub made : Table → Table
made it = filled it (own_key it) [] [] []

abbrev pub keyed : Table → Table
keyed it = filled it it.key it.uniques it.indexes []

abbrev pub full : Table → Table
full it = filled it it.key it.uniques it.indexes it.foreign

abbrev pub on : (Table → Table) → Name × Table → Name × Table
on F e = (e.0, F e.1)

-- the sequences of a catalogue, its tables so, and these views
abbrev pub with_tables_as : (Table → Table) → Catalogue → List (Name × View) → Catalogue
with_tables_as F c vs = record { tables = map (on F) c.tables; views = vs; sequences = c.sequences }

abbrev pub makes_sequence : Name × Sequence → Statement
makes_sequence s = CreateSequence s.0 s.1.start s.1.step

abbrev pub makes_view : Name × View → Statement
makes_view v = CreateView v.0 v.1.query false

-- the statement for the key, unless createTable made it

abbrev pub key_statements : Name → Option Key → List Statement
key_statements t None = []
key_statements t (Some k) = AddPrimaryKey t k ∷ []

abbrev pub has_number : Table → Bool
has_number it = list_any (λ (c : Column). c.numbered) it.columns

abbrev pub key_added : Name × Table → List Statement
key_added e = cond (has_number e.1) [] (key_statements e.0 e.1.key)

abbrev pub filling : Name × Table → List Statement
filling e = key_added e ++ (map (λ u. AddUnique e.0 u) e.1.uniques ++ map (λ x. CreateIndex e.0 x) e.1.indexes)

abbrev pub aims : Name × Table → List Statement
aims e = map (λ f. AddForeignKey e.0 f) e.1.foreign

-- no name that a table's things have is reserved, nor the lock table's key

abbrev pub IsFreeName : Dialect → Name → Name → Type 0
IsFreeName d t n = (is_reserved User (t ∷ n ∷ []) ≡ false) × (takes_lock_key User d (placed t (n ∷ [])) ≡ false)

pub record AreFree (d : Dialect) (e : Name × Table) : Type 0 where
  pub key : (k : Key) → e.1.key ≡ Some k → IsFreeName d e.0 k.name
  pub uniques : (us : List Unique) (u : Unique) (rest : List Unique) → e.1.uniques ≡ us ++ u ∷ rest → IsFreeName d e.0 u.name
  pub indexes : (xs : List Index) (x : Index) (rest : List Index) → e.1.indexes ≡ xs ++ x ∷ rest → IsFreeName d e.0 x.name
  pub foreign : (fs : List ForeignKey) (f : ForeignKey) (rest : List ForeignKey) → e.1.foreign ≡ fs ++ f ∷ rest → is_reserved User (e.0 ∷ f.name ∷ f.table ∷ []) ≡ false

-- each of these, whatever stands before and behind it
abbrev pub Each : (Name × Table → Type 0) → List (Name × Table) → Type 0
Each P all = (done : List (Name × Table)) (e : Name × Table) (more : List (Name × Table)) → all ≡ done ++ e ∷ more → P e

abbrev pub FreeSequences : Dialect → List (Name × Sequence) → Type 0
FreeSequences d all = (ss : List (Name × Sequence)) (s : Name × Sequence) (more : List (Name × Sequence)) → all ≡ ss ++ s ∷ more
    → (is_reserved User (s.0 ∷ []) ≡ false) × (takes_lock_key User d (s.0 ∷ []) ≡ false)

abbrev pub FreeViews : Dialect → List (Name × View) → Type 0
FreeViews d all = (vs : List (Name × View)) (v : Name × View) (more : List (Name × View)) → all ≡ vs ++ v ∷ more
    → (is_reserved User (v.0 ∷ v.1.query.table ∷ []) ≡ false) × (takes_lock_key User d (v.0 ∷ []) ≡ false)

-- ---- what is said

abbrev nothing_but : List (Name × Sequence) → Catalogue
nothing_but ss = record { tables = []; views = []; sequences = ss }

-- sequences come first
abbrev pub SequencesAreMade : Type 0
SequencesAreMade = (d : Dialect) (c : Catalogue) → IsSound d c → FreeSequences d c.sequences → run User d (map makes_sequence c.sequences) (nothing_but []) ≡ Ok (nothing_but c.sequences)

-- tables as they are made get their keys, unique constraints and indexes
abbrev pub TablesAreFilled : Type 0
TablesAreFilled = (d : Dialect) (c : Catalogue) → IsSound d c → Each (AreFree d) c.tables → run User d (flat_map filling c.tables) (with_tables_as made c []) ≡ Ok (with_tables_as keyed c [])

-- foreign keys come when all tables have their keys and unique constraints
abbrev pub ForeignKeysAreAdded : Type 0
ForeignKeysAreAdded = (d : Dialect) (c : Catalogue) → IsSound d c → Each (AreFree d) c.tables → run User d (flat_map aims c.tables) (with_tables_as keyed c []) ≡ Ok (with_tables_as full c [])

-- views come when all tables stand
abbrev pub ViewsAreMade : Type 0
ViewsAreMade = (d : Dialect) (c : Catalogue) → IsSound d c → FreeViews d c.views → run User d (map makes_view c.views) (with_tables_as full c []) ≡ Ok (with_tables_as full c c.views)
