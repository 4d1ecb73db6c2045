-- Rows that are popped go behind those of a table.
use Rattle.std.proofs.Common.{◌≡◌, ◌++◌, ◌∷◌, ℕ, List, Option, [], reverse, refl, sym, ◌∙◌, ap}
use Rattle.std.proofs.lemmas.List.{reverse-reverse}
use Rattle.lq_base.specs.declared.value.Value.{Value}
use Rattle.lq_chain.specs.History.{changed}
use Rattle.lq_model.specs.Catalogue.{Table}
use Rattle.lq_model.specs.declared.column.Column.{Column}
use Rattle.lq_model.specs.declared.constraint.ForeignKey.{ForeignKey}
use Rattle.lq_model.specs.declared.constraint.Key.{Key}
use Rattle.lq_model.specs.declared.constraint.Unique.{Unique}
use Rattle.lq_model.specs.declared.index.Index.{Index}
use Rattle.lq_rows.specs.Stored.{Stored, rows_of, shape_of, table_as, with_rows}
use Rattle.lq_rows.specs.declared.shape.Shape.{Shape}
use Rattle.lq_filled.proofs.Behind.{all_moved, one_moved}

-- a table with a row more, and the next number of the call
abbrev pub with_row : Stored → List Value → ℕ → Stored
with_row was row next = with_rows (changed (rows_of was) (was.now.rows ++ row ∷ [])) next was

pub row_next : (was is : Stored) (row : List Value) (next : ℕ) → is ≡ with_row was row next → is.now.next ≡ next
row_next was is row next put = ap (λ (s : Stored). s.now.next) put

pub row_moved : (was is : Stored) (left old : List (List Value)) (row : List Value) (next : ℕ) (goal : Table)
    → old ≡ left ++ row ∷ [] → is ≡ with_row was row next
    → table_as (shape_of was.now) next (was.now.rows ++ reverse old) ≡ goal
    → table_as (shape_of is.now) next (is.now.rows ++ reverse left) ≡ goal
row_moved was is left old row next goal popped put all =
    ap (λ (s : Stored). table_as (shape_of s.now) next (s.now.rows ++ reverse left)) put
    ∙ ap (λ (l : List (List Value)). table_as (shape_of was.now) next l) (one_moved was.now.rows (was.now.rows ++ row ∷ []) left old row popped refl)
    ∙ all

pub rows_moved : (now goal : Table) (left : List (List Value)) (next : ℕ) → left ≡ [] → now.next ≡ next
    → table_as (shape_of now) next (now.rows ++ reverse left) ≡ goal → now ≡ goal
rows_moved now goal left next is same all =
    ap (λ (n : ℕ). table_as (shape_of now) n now.rows) same
    ∙ ap (λ (l : List (List Value)). table_as (shape_of now) next l) (sym (all_moved now.rows left is))
    ∙ all

-- what a table is taken apart into makes it again
abbrev pub TableParts : Type 0
TableParts = (List Column × Option Key × List Unique × List ForeignKey × List Index) × ℕ × List (List Value)

abbrev pub shape_in : TableParts → Shape
shape_in p = record { columns = p.0.0; key = p.0.1; uniques = p.0.2; foreign = p.0.3; indexes = p.0.4 }

pub table_again : (t : Table) (p : TableParts) (rows : List (List Value)) → p ≡ ((t.columns, t.key, t.uniques, t.foreign, t.indexes), t.next, t.rows)
    → rows ≡ reverse p.2 → table_as (shape_in p) p.1 (reverse rows) ≡ t
table_again t p rows is turned =
    ap (λ (l : List (List Value)). table_as (shape_in p) p.1 (reverse l)) turned
    ∙ ap (λ (q : TableParts). table_as (shape_in q) q.1 (reverse (reverse q.2))) is
    ∙ ap (λ (l : List (List Value)). table_as (shape_of t) t.next l) (reverse-reverse t.rows)
