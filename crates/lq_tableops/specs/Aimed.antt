-- What is asked of the foreign keys of a new table.
use Rattle.std.specs.List.{list_any}
use Rattle.std.specs.Prelude.{Bool, List, not, ◌||◌, ◌≡◌}
use Rattle.lq_base.specs.declared.name.Name.{Name}
use Rattle.lq_decide.specs.Faults.{misses_new}
use Rattle.lq_model.specs.Catalogue.{Catalogue, Table, column_missing, same_names, target_lists, with_new}
use Rattle.lq_model.specs.Kinds.{kinds_at, kinds_differ, same_kinds}
use Rattle.lq_model.specs.Tables.{target_missing}
use Rattle.lq_model.specs.declared.constraint.ForeignKey.{ForeignKey}
use Rattle.lq_tableops.specs.declared.aims.Aim.{Aim}

-- what is against a foreign key of a table, by its target
pub record AimsAt (gone : Bool) (it target : Table) (f : ForeignKey) (aim : Aim) : Type 0 where
  pub missing : aim.missing ≡ (gone || column_missing target f.targets)
  pub loose : aim.loose ≡ not (list_any (same_names f.targets) (target_lists target))
  pub differ : aim.differ ≡ not (same_kinds (kinds_at it f.columns) (kinds_at target f.targets))

-- what is against a foreign key of the new table t, as the plan has it
pub record IsAim (t : Name) (it : Table) (c : Catalogue) (f : ForeignKey) (aim : Aim) : Type 0 where
  pub missing : aim.missing ≡ target_missing (with_new c t it) f
  pub loose : aim.loose ≡ misses_new t it c f
  pub differ : aim.differ ≡ kinds_differ (with_new c t it) it f

-- what is against one of these foreign keys
pub record AreAims (t : Name) (it : Table) (c : Catalogue) (fs : List ForeignKey) (aim : Aim) : Type 0 where
  pub missing : aim.missing ≡ list_any (target_missing (with_new c t it)) fs
  pub loose : aim.loose ≡ list_any (misses_new t it c) fs
  pub differ : aim.differ ≡ list_any (kinds_differ (with_new c t it) it) fs
