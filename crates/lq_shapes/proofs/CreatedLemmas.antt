-- Lemmas on what a new table is made of.
use Rattle.std.proofs.Common.{Bool, List, ap, cond, false, map, refl, sym, ◌++◌, ◌∙◌, ◌≡◌, ◌||◌}
use Rattle.std.specs.List.{list_any}
use Rattle.std.specs.Prelude.{None, Option, Some}
use Rattle.lq_base.specs.declared.name.Name.{Name}
use Rattle.lq_model.specs.Tables.{key_column}
use Rattle.lq_model.specs.Catalogue.{is_in, column_lists, key_list, target_lists}
use Rattle.lq_model.specs.declared.column.Column.{Column}
use Rattle.lq_model.specs.declared.constraint.ForeignKey.{ForeignKey}
use Rattle.lq_model.specs.declared.constraint.Key.{Key}
use Rattle.lq_model.specs.declared.constraint.Unique.{Unique}
use Rattle.lq_model.proofs.Lists.{any-append, any-map, append-nil}
use Rattle.lq_shapes.specs.Created.{IsKeyed, key_columns, made, IsColumn}
use Rattle.lq_shapes.specs.declared.stated.NewColumn.{NewColumn}
use Rattle.lq_shapes.proofs.ShownLemmas.{or_false}
use Rattle.lq_model.specs.Kinds.{column_of}
use Rattle.lq_model.specs.declared.column.ColumnDef.{ColumnDef}

-- the columns of the key are NOT NULL
pub keyed_is : (key : Option Key) (c : Column) → cond (is_in c.name (key_columns key)) (record c { nullable = false }) c ≡ key_column key c
keyed_is None c = refl
keyed_is (Some k) c = ap (λ b. cond b (record c { nullable = false }) c) (sym (or_false (is_in c.name k.columns)))

-- the key and the unique constraints, list by list
pub targets_are : (p : List Name → Bool) (keys : List Key) (us : List Unique) → list_any p (map (λ k. k.columns) keys ++ map (λ u. u.columns) us) ≡ (list_any (λ k. p k.columns) keys || list_any (λ u. p u.columns) us)
targets_are p keys us =
    any-append p (map (λ (k : Key). k.columns) keys) (map (λ (u : Unique). u.columns) us)
    ∙ ap (λ b. b || list_any p (map (λ (u : Unique). u.columns) us)) (any-map p (λ (k : Key). k.columns) keys)
    ∙ ap (λ b. list_any (λ (k : Key). p k.columns) keys || b) (any-map p (λ (u : Unique). u.columns) us)

-- a new table has no indexes
pub lists_are : (p : List Name → Bool) (cs : List Column) (key : Option Key) (us : List Unique) (fs : List ForeignKey) → list_any p (column_lists (made cs key us fs)) ≡ (list_any (λ k. p k.columns) (key_list key) || list_any (λ u. p u.columns) us)
lists_are p cs key us fs = ap (list_any p) (append-nil (target_lists (made cs key us fs))) ∙ targets_are p (key_list key) us

pub without_key : (d : ColumnDef) (new : NewColumn) (key : Option Key) → key ≡ None → IsColumn d new → IsKeyed key d new
without_key d new key none is = record { column = is.column ∙ ap (λ k. key_column k (column_of d)) (sym none); wrong = is.wrong; wide = is.wide }

pub with_key : (d : ColumnDef) (new : NewColumn) (key : Option Key) (names : List Name) (column : Column) → names ≡ key_columns key → IsColumn d new → column ≡ cond (is_in new.column.name names) (record new.column { nullable = false }) new.column
    → IsKeyed key d (record { column = column; is_wrong = new.is_wrong; is_wide = new.is_wide })
with_key d new key names column are is made = record {
  column = made ∙ ap (λ ns. cond (is_in new.column.name ns) (record new.column { nullable = false }) new.column) are ∙ keyed_is key new.column ∙ ap (key_column key) is.column;
  wrong = is.wrong;
  wide = is.wide;
}
