-- Lemmas on the foreign keys of a new table.
use Rattle.std.proofs.Common.{Bool, ap, cond, false, not, refl, sym, true, ◌∙◌, ◌≡◌, ◌||◌}
use Rattle.std.specs.List.{list_any}
use Rattle.std.specs.Option.{unwrap_or}
use Rattle.std.specs.Prelude.{Option, Some, is_none}
use Rattle.lq_base.specs.Name.{is_named}
use Rattle.lq_base.specs.declared.name.Name.{Name}
use Rattle.lq_model.specs.Catalogue.{Catalogue, Table, no_table, table_of, the_table, with_new, same_names, column_missing, target_lists}
use Rattle.lq_model.specs.Kinds.{kinds_at, same_kinds}
use Rattle.lq_model.specs.declared.constraint.ForeignKey.{ForeignKey}
use Rattle.lq_model.proofs.Maps.{lookup-insert_entry}
use Rattle.lq_shapes.proofs.ShownLemmas.{either_way}
use Rattle.lq_tableops.specs.Aimed.{AimsAt, IsAim}
use Rattle.lq_tableops.specs.declared.aims.Aim.{Aim}

-- a table by its name, where the new one is there
the_aimed : (c : Catalogue) (t : Name) (it : Table) (k : Name) → table_of (with_new c t it) k ≡ cond (is_named t k) (Some it) (table_of c k)
the_aimed c t it k = lookup-insert_entry c.tables t it k ∙ ap (λ b. cond b (Some it) (table_of c k)) (either_way k t)

by_option : (t : Name) (it : Table) (c : Catalogue) (f : ForeignKey) (o : Option Table) (gone : Bool) (target : Table) (aim : Aim) → table_of (with_new c t it) f.table ≡ o → is_none o ≡ gone → unwrap_or o no_table ≡ target
    → cond (is_named t f.table) it (the_table c f.table) ≡ target → AimsAt gone it target f aim → IsAim t it c f aim
by_option t it c f o gone target aim stands none is new at = record {
  missing = at.missing ∙ ap (λ b. b || column_missing target f.targets) (sym none ∙ ap is_none (sym stands)) ∙ ap (λ x. is_none (table_of (with_new c t it) f.table) || column_missing x f.targets) (sym is ∙ ap (λ x. unwrap_or x no_table) (sym stands));
  loose = at.loose ∙ ap (λ x. not (list_any (same_names f.targets) (target_lists x))) (sym new);
  differ = at.differ ∙ ap (λ x. not (same_kinds (kinds_at it f.columns) (kinds_at x f.targets))) (sym is ∙ ap (λ x. unwrap_or x no_table) (sym stands));
}

-- a foreign key that targets its own table
pub within : (t : Name) (it : Table) (c : Catalogue) (f : ForeignKey) (aim : Aim) → is_named t f.table ≡ true → AimsAt false it it f aim → IsAim t it c f aim
within t it c f aim own at = by_option t it c f (Some it) false it aim (the_aimed c t it f.table ∙ ap (λ b. cond b (Some it) (table_of c f.table)) own) refl refl (ap (λ b. cond b it (the_table c f.table)) own) at

-- and one that targets another
pub beside : (t : Name) (it : Table) (c : Catalogue) (f : ForeignKey) (aim : Aim) → is_named t f.table ≡ false → AimsAt (is_none (table_of c f.table)) it (the_table c f.table) f aim → IsAim t it c f aim
beside t it c f aim other at = by_option t it c f (table_of c f.table) (is_none (table_of c f.table)) (the_table c f.table) aim (the_aimed c t it f.table ∙ ap (λ b. cond b (Some it) (table_of c f.table)) other) refl refl (ap (λ b. cond b it (the_table c f.table)) other) at
