-- Catalogues in which each name is the key of one.
use Rattle.std.specs.List.{AllByRecursion, list_all}
use Rattle.std.specs.Prelude.{Bool, List, true, ◌&&◌, ◌≡◌}
use Rattle.lq_base.specs.Name.{is_name_key}
use Rattle.lq_base.specs.declared.name.Name.{Name}
use Rattle.lq_model.specs.Catalogue.{Catalogue, Sequence, Table, View, key_list}
use Rattle.lq_model.specs.declared.column.Column.{Column}
use Rattle.lq_model.specs.declared.constraint.ForeignKey.{ForeignKey}
use Rattle.lq_model.specs.declared.constraint.Key.{Key}
use Rattle.lq_model.specs.declared.constraint.Unique.{Unique}
use Rattle.lq_model.specs.declared.index.Index.{Index}

abbrev pub are_names : List Name → Bool
are_names ns = list_all is_name_key ns

-- those in a foreign key
abbrev pub has_names : ForeignKey → Bool
has_names f = (is_name_key f.name && is_name_key f.table) && (are_names f.columns && are_names f.targets)

-- a table, and each name that stands in it
pub record TableHasNames (e : Name × Table) : Type 0 where
  pub table : is_name_key e.0 ≡ true
  pub columns : list_all (λ (c : Column). is_name_key c.name) e.1.columns ≡ true
  pub key : list_all (λ (k : Key). is_name_key k.name && are_names k.columns) (key_list e.1.key) ≡ true
  pub uniques : list_all (λ (u : Unique). is_name_key u.name && are_names u.columns) e.1.uniques ≡ true
  pub indexes : list_all (λ (x : Index). is_name_key x.name && are_names x.columns) e.1.indexes ≡ true
  pub foreign : list_all has_names e.1.foreign ≡ true

-- all of it
pub record HasNames (c : Catalogue) : Type 0 where
  pub tables : AllByRecursion TableHasNames c.tables
  pub views : list_all (λ (v : Name × View). is_name_key v.0) c.views ≡ true
  pub sequences : list_all (λ (s : Name × Sequence). is_name_key s.0) c.sequences ≡ true
