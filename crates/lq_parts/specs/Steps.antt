-- What the record of changes of the tables, the newest first, stands for.
use Rattle.std.specs.List.{insert, remove}
use Rattle.std.specs.Prelude.{List, None, Some, [], length, slice_get, suc, zero, ℕ, ⊤, ◌<◌, ◌∷◌, ◌≤◌}
use Rattle.lq_base.specs.declared.name.Name.{Name}
use Rattle.lq_chain.specs.History.{marked, undone_to}
use Rattle.lq_model.specs.Catalogue.{Table}
use Rattle.lq_parts.specs.Taken.{IsOrdered, values_by}
use Rattle.lq_parts.specs.declared.step.Step.{Step}
use Rattle.lq_parts.specs.declared.step.Step.TheVariants.{Put, Renamed, Rows, Shaped, Taken}
use Rattle.lq_rows.specs.Stored.{Stored, reshaped, rows_of, with_rows}

abbrev pub Entries : Type 0
Entries = List (Name × Stored)

-- the item at a place changed
abbrev pub edit_at : {A : Type 0} → ℕ → (A → A) → List A → List A
edit_at n f [] = []
edit_at zero f (x ∷ xs) = f x ∷ xs
edit_at (suc n) f (x ∷ xs) = x ∷ edit_at n f xs

-- the entry at a place goes to another, under another name
abbrev pub moved : ℕ → ℕ → Name → Entries → Entries
moved from to name es = elim (slice_get es from) [ Some e ↦ insert (remove es from) to (name, e.1) | None ↦ es ]

-- the entries before a change
abbrev pub before : Step → Entries → Entries
before (Put at) es = remove es at
before (Taken at name held) es = insert es at (name, held)
before (Renamed at to name) es = moved at to name es
before (Shaped at shape) es = edit_at at (λ e. (e.0, reshaped shape e.1)) es
before (Rows at mark next) es = edit_at at (λ e. (e.0, with_rows (undone_to (rows_of e.1) mark) next e.1)) es

-- the tables that the entries are
abbrev pub tables_of : Entries → List (Name × Table)
tables_of es = values_by (λ held. held.now) es

-- the tables before each change
abbrev pub past_tables : Entries → List Step → List (List (Name × Table))
past_tables es [] = []
past_tables es (s ∷ ss) = tables_of (before s es) ∷ past_tables (before s es) ss

-- so many changes of the rows at a place are there to be undone
abbrev pub HasMark : ℕ → ℕ → Entries → Type 0
HasMark at mark es = elim (slice_get es at) [ Some e ↦ mark ≤ marked (rows_of e.1) | None ↦ ⊤ ]

-- the change has its place
abbrev pub HasPlace : Step → Entries → Type 0
HasPlace (Put at) es = at < length es
HasPlace (Taken at name held) es = at ≤ length es
HasPlace (Renamed at from name) es = (at < length es) × (from < length es)
HasPlace (Shaped at shape) es = at < length es
HasPlace (Rows at mark next) es = (at < length es) × HasMark at mark es

-- each change can be undone, with room for the entries before it, and gives entries in order
abbrev pub CanUndo : ℕ → Entries → List Step → Type 0
CanUndo room es [] = ⊤
CanUndo room es (s ∷ ss) = HasPlace s es × (length (before s es) ≤ room) × IsOrdered (before s es) × CanUndo room (before s es) ss
