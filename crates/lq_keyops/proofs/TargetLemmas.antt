-- What foreign keys lose.
use Rattle.std.proofs.Common.{Bool, List, ap, cond, false, not, sym, true, ◌&&◌, ◌||◌, ◌∙◌, ◌≡◌}
use Rattle.std.specs.List.{list_any}
use Rattle.std.specs.Prelude.{map}
use Rattle.lq_base.specs.Name.{is_named}
use Rattle.lq_base.specs.declared.name.Name.{Name}
use Rattle.lq_decide.specs.Faults.{loses_target}
use Rattle.lq_model.specs.Catalogue.{Catalogue, Table, same_names, key_list, target_lists}
use Rattle.lq_model.specs.declared.constraint.ForeignKey.{ForeignKey}
use Rattle.lq_model.specs.declared.constraint.Key.{Key}
use Rattle.lq_model.specs.declared.constraint.Unique.{Unique}
use Rattle.lq_model.proofs.Lists.{any-append, any-map, any_less, any_same}
use Rattle.lq_model.specs.Tables.{is_targeted, targets_table}
use Rattle.lq_rows.specs.Stored.{with_shape}
use Rattle.lq_rows.specs.declared.shape.Shape.{Shape}
use Rattle.lq_keyops.specs.Targets.{aims_in_vain, any_aims_in_vain, is_target}

-- what may be targeted, as a list of lists
pub lists_are : (it : Table) (ns : List Name) → list_any (same_names ns) (target_lists it) ≡ (list_any (λ k. same_names ns k.columns) (key_list it.key) || list_any (λ u. same_names ns u.columns) it.uniques)
lists_are it ns =
    any-append (same_names ns) (map (λ (k : Key). k.columns) (key_list it.key)) (map (λ (u : Unique). u.columns) it.uniques)
    ∙ ap (λ b. b || list_any (same_names ns) (map (λ (u : Unique). u.columns) it.uniques)) (any-map (same_names ns) (λ (k : Key). k.columns) (key_list it.key))
    ∙ ap (λ b. list_any (λ k. same_names ns k.columns) (key_list it.key) || b) (any-map (same_names ns) (λ (u : Unique). u.columns) it.uniques)

target_is : (shape : Shape) (it : Table) (ns : List Name) → list_any (same_names ns) (target_lists (with_shape shape it)) ≡ is_target shape ns
target_is shape it ns = lists_are (with_shape shape it) ns

pub loses_is : (t : Name) (shape : Shape) (it : Table) (c : Catalogue) → list_any (λ e. any_aims_in_vain t shape e.0 e.1.foreign) c.tables ≡ loses_target t (with_shape shape it) c
loses_is t shape it c = any_same (λ e. any_aims_in_vain t shape e.0 e.1.foreign) (λ e. list_any (λ f. is_named t f.table && not (list_any (same_names f.targets) (target_lists (with_shape shape it)))) (cond (is_named t e.0) (with_shape shape it) e.1).foreign) c.tables (λ e. each (is_named t e.0) e.1) where
  same : (fs : List ForeignKey) → list_any (aims_in_vain t shape) fs ≡ list_any (λ f. is_named t f.table && not (list_any (same_names f.targets) (target_lists (with_shape shape it)))) fs
  same fs = any_same (aims_in_vain t shape) (λ f. is_named t f.table && not (list_any (same_names f.targets) (target_lists (with_shape shape it)))) fs (λ f. ap (λ b. is_named t f.table && not b) (sym (target_is shape it f.targets)))

  each : (b : Bool) (o : Table) → list_any (aims_in_vain t shape) (cond b shape.foreign o.foreign) ≡ list_any (λ f. is_named t f.table && not (list_any (same_names f.targets) (target_lists (with_shape shape it)))) (cond b (with_shape shape it) o).foreign
  each true o = same shape.foreign
  each false o = same o.foreign

-- where no other table's foreign key targets the table, only its own may lose their targets
pub own_lose : (t : Name) (shape : Shape) (c : Catalogue) → is_targeted c t ≡ false → list_any (aims_in_vain t shape) shape.foreign ≡ false → list_any (λ e. any_aims_in_vain t shape e.0 e.1.foreign) c.tables ≡ false
own_lose t shape c untargeted none = any_less (λ e. any_aims_in_vain t shape e.0 e.1.foreign) (λ e. not (is_named t e.0) && targets_table t e.1) c.tables (λ e. each (is_named t e.0) e.1) untargeted where
  vain : (f : ForeignKey) → is_named t f.table ≡ false → aims_in_vain t shape f ≡ false
  vain f other = ap (λ b. b && not (is_target shape f.targets)) other

  each : (b : Bool) (o : Table) → (not b && targets_table t o) ≡ false → list_any (aims_in_vain t shape) (cond b shape.foreign o.foreign) ≡ false
  each true o at = none
  each false o at = any_less (aims_in_vain t shape) (λ f. is_named t f.table) o.foreign vain at
