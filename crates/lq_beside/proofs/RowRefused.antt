-- A row that does not go into the table of rows: its place has more than 31 bits, or the table is full.
use Rattle.std.proofs.Common.{ap, sym, ◌∙◌}
use Rattle.std.specs.List.{list_any}
use Rattle.std.specs.Map.{lookup}
use Rattle.std.specs.Option.{unwrap_or}
use Rattle.std.specs.Prelude.{Err, List, Option, Some, [], cond, false, is_none, length, map, not, refl, true, ◌&&◌, ◌==◌, ◌||◌, ◌∷◌, ◌≡◌}
use Rattle.lq_base.specs.Name.{is_named}
use Rattle.lq_base.specs.declared.dialect.Dialect.{Dialect}
use Rattle.lq_base.specs.declared.literal.Literal.{Literal}
use Rattle.lq_base.specs.declared.name.Name.{Name}
use Rattle.lq_base.specs.declared.reason.Reason.TheVariants.{TooManyRows, TooWide}
use Rattle.lq_model.proofs.Decide.{IsFree, IsSettled}
use Rattle.lq_model.proofs.Kept.{lookup_other}
use Rattle.lq_model.proofs.Lists.{and_no_right, any_less, any_same, or_false, or_left, true_false}
use Rattle.lq_model.proofs.Maps.{any_none-set_value, lookup-set_value, not_some, some_same}
use Rattle.lq_model.specs.Catalogue.{Catalogue, Table, no_table, table_of, the_table, with_table, is_in, repeats, same_names, column_missing, target_lists}
use Rattle.lq_model.specs.Comparison.{compares_wrongly}
use Rattle.lq_model.specs.Rows.{insert, row_of, stated, with_row, edited, set_value_of, update}
use Rattle.lq_model.specs.Kinds.{is_wide, is_wrong}
use Rattle.lq_model.specs.Plan.{Plan, decide, has_null, has_orphan, has_orphans, has_twins, is_full, is_loose, is_overfull, lacks_parent, misses_target, table_has_null, table_has_twins}
use Rattle.lq_model.specs.Step.{step}
use Rattle.lq_model.specs.Truth.{names_in}
use Rattle.lq_model.specs.declared.caller.By.TheVariants.{Program}
use Rattle.lq_model.specs.declared.constraint.ForeignKey.{ForeignKey}
use Rattle.lq_model.specs.declared.statement.Statement.TheVariants.{Insert, Update}
use Rattle.lq_model.specs.declared.test.Test.{Test}
use Rattle.lq_track.specs.Log.{log_table}
use Rattle.lq_beside.specs.Beside.{IsBeside, is_tracker, targets_tracker}
use Rattle.lq_beside.proofs.Parts.{any_alike}
use Rattle.lq_beside.proofs.Tests.{none_in}

-- what a settled catalogue keeps when the table of rows is another, whatever its rows
module _ (d : Dialect) (ts : List (Name × Table)) (c : Catalogue) (so : IsBeside d ts c) (settled : IsSettled c) (new : Table) (plain : new.foreign ≡ []) where
  abbrev after : Catalogue
  after = with_table c log_table new

  target_same : (f : ForeignKey) → is_tracker f.table ≡ false → the_table after f.table ≡ the_table c f.table
  target_same f free = ap (λ o. unwrap_or o no_table) (lookup_other log_table f.table new c.tables (or_left (is_named log_table f.table) _ free))

  pub still_aimed : is_loose after ≡ false
  still_aimed = any_none-set_value (is_named log_table) (λ e. list_any (misses_target after) e.1.foreign) c.tables new
      (any_alike (λ e. targets_tracker e.1) (λ e. list_any (misses_target after) e.1.foreign) (λ e. list_any (misses_target c) e.1.foreign) c.tables
      (λ e none. any_alike (λ (f : ForeignKey). is_tracker f.table) (misses_target after) (misses_target c) e.1.foreign (λ f free. ap (λ (it : Table). not (list_any (same_names f.targets) (target_lists it))) (target_same f free)) none) so.aimed ∙ settled.aimed)
      (λ k p. none_in (misses_target after) new.foreign plain)

  orphan_kept : (it : Table) → targets_tracker it ≡ false → has_orphan after it ≡ has_orphan c it
  orphan_kept it none = any_alike (λ (f : ForeignKey). is_tracker f.table) (λ f. list_any (lacks_parent after it.columns f) it.rows) (λ f. list_any (lacks_parent c it.columns f) it.rows) it.foreign
      (λ f free. any_same _ _ it.rows (λ row. rw (target_same f free) refl)) none

  still_parents : has_orphans after ≡ false
  still_parents = any_none-set_value (is_named log_table) (λ e. has_orphan after e.1) c.tables new
      (any_alike (λ e. targets_tracker e.1) (λ e. has_orphan after e.1) (λ e. has_orphan c e.1) c.tables (λ e none. orphan_kept e.1 none) so.aimed ∙ settled.parents)
      (λ k p. none_in (λ f. list_any (lacks_parent after new.columns f) new.rows) new.foreign plain)

  still_null : table_has_null new ≡ false → has_null after ≡ false
  still_null h = any_none-set_value (is_named log_table) (λ e. table_has_null e.1) c.tables new settled.no_null (λ k p. h)

  still_twins : table_has_twins new ≡ false → has_twins after ≡ false
  still_twins h = any_none-set_value (is_named log_table) (λ e. table_has_twins e.1) c.tables new settled.no_twins (λ k p. h)

  -- the only thing against it is that the table is full
  pub refused_full : (p : Plan) → p.result ≡ after → IsFree p → table_has_null new ≡ false → table_has_twins new ≡ false → is_overfull after ≡ true → decide p ≡ Err TooManyRows
  unfolding decide
  refused_full p is free null twins full =
      rw (
        is,
        free.reserved,
        free.missing,
        free.exists,
        free.depends,
        free.wrong,
        free.wide,
        still_aimed,
        still_null null,
        still_twins twins,
        any_less (λ (e : Name × Table). is_in e.0 p.named && has_orphan after e.1) (λ e. has_orphan after e.1) after.tables (λ e none. and_no_right (is_in e.0 p.named) _ none) still_parents,
        any_less (λ (e : Name × Table). not (is_in e.0 p.named) && has_orphan after e.1) (λ e. has_orphan after e.1) after.tables (λ e none. and_no_right (not (is_in e.0 p.named)) _ none) still_parents,
        full,
      ) refl

-- a value is too wide, and nothing counts before that
pub refused_wide : (p : Plan) → p.reserved ≡ false → p.missing ≡ false → p.exists ≡ false → p.depends ≡ false → is_loose p.result ≡ false → p.wrong ≡ false → p.wide ≡ true → decide p ≡ Err TooWide
unfolding decide
refused_wide p a b x dep loose wrong wide = rw (a, b, x, dep, loose, wrong, wide) refl

-- the table is full
pub full_there : (es : List (Name × Table)) (t : Name) (it : Table) → lookup (is_named t) es ≡ Some it → is_full it ≡ true → list_any (λ (e : Name × Table). is_full e.1) es ≡ true
full_there [] t it there full = not_some (sym there)
full_there (e ∷ es) t it there full = elim (is_full e.1) as (λ b. is_full e.1 ≡ b → (b || list_any (λ (x : Name × Table). is_full x.1) es) ≡ true) [
  | true ↦ λ is. refl
  | false ↦ λ is. elim (is_named t e.0) as (λ b. cond b (Some e.1) (lookup (is_named t) es) ≡ Some it → list_any (λ (x : Name × Table). is_full x.1) es ≡ true) [
    | true ↦ λ q. true_false (ap is_full (some_same q) ∙ full) is
    | false ↦ λ q. full_there es t it q full
  ] there
] refl

module _ (d : Dialect) (ts : List (Name × Table)) (c : Catalogue) (so : IsBeside d ts c) (settled : IsSettled c) (it : Table) (there : table_of c log_table ≡ Some it) (plain : it.foreign ≡ []) where
  it_is : the_table c log_table ≡ it
  it_is = ap (λ o. unwrap_or o no_table) there

  module _ (sets : List (Name × Literal)) (test : Option Test)
      (missing : (column_missing it (map (λ s. s.0) sets) || column_missing it (names_in test)) ≡ false) (exists : repeats (map (λ s. s.0) sets) ≡ false)
      (wrong : (list_any (λ s. is_wrong (set_value_of it.columns s)) sets || compares_wrongly it.columns test) ≡ false) (wide : list_any (λ s. is_wide (set_value_of it.columns s)) sets ≡ true) where
    update_plan : Plan
    update_plan = update Program d log_table sets test c

    pub update_wide : step Program d (Update log_table sets test) c ≡ Err TooWide
    unfolding update_plan
    update_wide = refused_wide update_plan refl
        (or_false _ _ (ap is_none there) (ap (λ x. column_missing x (map (λ s. s.0) sets) || column_missing x (names_in test)) it_is ∙ missing)) exists refl
        (ap (λ x. is_loose (with_table c log_table (edited sets test x))) it_is ∙ still_aimed d ts c so settled (edited sets test it) plain)
        (ap (λ (x : Table). list_any (λ s. is_wrong (set_value_of x.columns s)) sets || compares_wrongly x.columns test) it_is ∙ wrong)
        (ap (λ (x : Table). list_any (λ s. is_wide (set_value_of x.columns s)) sets) it_is ∙ wide)

  module _ (ns : List Name) (ls : List Literal) (missing : column_missing it ns ≡ false) (exists : repeats ns ≡ false) (wrong : (not (length (stated it ns) == length ls) || list_any is_wrong (row_of (stated it ns) ls it)) ≡ false) where
    insert_plan : Plan
    insert_plan = insert Program d log_table ns ls c

    pub insert_wide : list_any is_wide (row_of (stated it ns) ls it) ≡ true → step Program d (Insert log_table ns ls) c ≡ Err TooWide
    unfolding insert_plan
    insert_wide wide = refused_wide insert_plan refl (or_false _ _ (ap is_none there) (ap (λ x. column_missing x ns) it_is ∙ missing)) exists refl
        (ap (λ x. is_loose (with_table c log_table (with_row d (stated x ns) ls x))) it_is ∙ still_aimed d ts c so settled (with_row d (stated it ns) ls it) plain)
        (ap (λ (x : Table). not (length (stated x ns) == length ls) || list_any is_wrong (row_of (stated x ns) ls x)) it_is ∙ wrong)
        (ap (λ (x : Table). list_any is_wide (row_of (stated x ns) ls x)) it_is ∙ wide)

    pub insert_full : (new : Table) → with_row d (stated it ns) ls it ≡ new → new.foreign ≡ [] → list_any is_wide (row_of (stated it ns) ls it) ≡ false → table_has_null new ≡ false → table_has_twins new ≡ false → is_full new ≡ true → step Program d (Insert log_table ns ls) c ≡ Err TooManyRows
    unfolding insert_plan
    insert_full new is none narrow null twins full = refused_full d ts c so settled new none insert_plan
        (ap (λ x. with_table c log_table (with_row d (stated x ns) ls x)) it_is ∙ ap (with_table c log_table) is)
        (record {
          reserved = refl;
          missing = or_false _ _ (ap is_none there) (ap (λ x. column_missing x ns) it_is ∙ missing);
          exists = exists;
          depends = refl;
          wrong = ap (λ (x : Table). not (length (stated x ns) == length ls) || list_any is_wrong (row_of (stated x ns) ls x)) it_is ∙ wrong;
          wide = ap (λ (x : Table). list_any is_wide (row_of (stated x ns) ls x)) it_is ∙ narrow;
        })
        null twins (full_there (with_table c log_table new).tables log_table new (lookup-set_value (is_named log_table) c.tables it new there) full)
