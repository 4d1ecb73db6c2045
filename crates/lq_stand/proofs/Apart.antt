-- Objects of users that stand apart from the tracking tables leave their names free, and target and show none of them.
use Rattle.std.proofs.Common.{ap, sym, ◌∙◌}
use Rattle.std.specs.List.{list_any}
use Rattle.std.specs.Prelude.{Bool, List, false, map, not, refl, true, ◌&&◌, ◌++◌, ◌||◌, ◌≡◌}
use Rattle.lq_base.specs.Name.{is_elsewhere, is_named}
use Rattle.lq_base.specs.declared.dialect.Dialect.{Dialect}
use Rattle.lq_base.specs.declared.dialect.Dialect.TheVariants.{Mysql, Postgresql}
use Rattle.lq_base.specs.declared.name.Name.{Name}
use Rattle.lq_model.proofs.Absent.{any-flat_map}
use Rattle.lq_model.proofs.Lists.{and_no_right, any-append, any-map, any_less, or_false, or_left, or_right, same_name, true_false}
use Rattle.lq_model.proofs.PublicNames.{none_placed}
use Rattle.lq_model.specs.Catalogue.{Catalogue, Table, View, is_in, foreign_names, inner_names}
use Rattle.lq_model.specs.NameSpaces.{is_taken, names_inside, object_names, shared_names, is_tracking}
use Rattle.lq_model.specs.Tables.{targets_table}
use Rattle.lq_model.specs.declared.constraint.ForeignKey.{ForeignKey}
use Rattle.lq_track.specs.Lock.{lock_key_name, lock_table}
use Rattle.lq_track.specs.Log.{log_table}
use Rattle.lq_turns.specs.Schedule.{own_names}
use Rattle.lq_beside.specs.Beside.{is_tracker, targets_tracker}
use Rattle.lq_beside.proofs.Words.{free_name}
use Rattle.lq_store.specs.Journal.{names_tracking, names_within, takes_key}

-- a name that passes a test is none that fails it
unlike : (p : Name → Bool) (n m : Name) → p n ≡ true → p m ≡ false → is_named n m ≡ false
unlike p n m passes fails = by (is_named n m) refl where
  by : (b : Bool) → is_named n m ≡ b → b ≡ false
  by true is = true_false (ap p (sym (same_name n m is)) ∙ passes) fails
  by false is = refl

-- what targets no tracking table targets none of that name
pub untargeted : (t : Name) (es : List (Name × Table)) → is_tracker t ≡ true → list_any (λ e. targets_tracker e.1) es ≡ false → list_any (λ (e : Name × Table). not (is_named t e.0) && targets_table t e.1) es ≡ false
untargeted t es tracker none = any_less _ (λ (e : Name × Table). targets_tracker e.1) es
    (λ e free. and_no_right (not (is_named t e.0)) _ (any_less (λ (f : ForeignKey). is_named t f.table) (λ f. is_tracker f.table) e.1.foreign (λ f other. unlike is_tracker t f.table tracker other) free)) none

module _ (u : Catalogue) (none : names_tracking u ≡ false) where
  objects : list_any is_tracking (object_names u) ≡ false
  objects = or_left (list_any is_tracking (object_names u)) _ none

  rest : (list_any (λ (e : Name × Table). list_any is_tracking (names_within e.1)) u.tables || list_any (λ (e : Name × View). is_tracking e.1.query.table) u.views) ≡ false
  rest = or_right (list_any is_tracking (object_names u)) _ none

  tables : list_any (λ (e : Name × Table). list_any is_tracking (names_within e.1)) u.tables ≡ false
  tables = or_left _ _ rest

  abbrev targets : Table → List Name
  targets it = map (λ (f : ForeignKey). f.table) it.foreign

  parts : (it : Table) → (list_any is_tracking (inner_names it) || list_any is_tracking (foreign_names it ++ targets it)) ≡ list_any is_tracking (names_within it)
  parts it = sym (any-append is_tracking (inner_names it) (foreign_names it ++ targets it))

  inner : list_any (λ (e : Name × Table). list_any is_tracking (inner_names e.1)) u.tables ≡ false
  inner = any_less _ (λ (e : Name × Table). list_any is_tracking (names_within e.1)) u.tables (λ e h. or_left _ _ (parts e.1 ∙ h)) tables

  aims_at_none : (it : Table) → list_any is_tracking (names_within it) ≡ false → targets_tracker it ≡ false
  aims_at_none it h = any_less (λ (f : ForeignKey). is_tracker f.table) (λ f. is_tracking f.table) it.foreign (λ f other. free_name f.table other)
      (sym (any-map is_tracking (λ (f : ForeignKey). f.table) it.foreign)
      ∙ or_right (list_any is_tracking (foreign_names it)) _ (sym (any-append is_tracking (foreign_names it) (targets it)) ∙ or_right (list_any is_tracking (inner_names it)) _ (parts it ∙ h)))

  pub none_aimed : list_any (λ (e : Name × Table). targets_tracker e.1) u.tables ≡ false
  none_aimed = any_less _ (λ (e : Name × Table). list_any is_tracking (names_within e.1)) u.tables (λ e h. aims_at_none e.1 h) tables

  pub unviewed : (t : Name) → is_tracker t ≡ true → list_any (λ (e : Name × View). is_named t e.1.query.table) u.views ≡ false
  unviewed t tracker = any_less _ (λ (e : Name × View). is_tracking e.1.query.table) u.views (λ e h. unlike is_tracker t e.1.query.table tracker (free_name e.1.query.table h))
      (or_right (list_any (λ (e : Name × Table). list_any is_tracking (names_within e.1)) u.tables) _ rest)

  module _ (n : Name) (tracking : is_tracking n ≡ true) where
    no_object : is_in n (object_names u) ≡ false
    no_object = any_less (is_named n) is_tracking (object_names u) (λ m other. unlike is_tracking n m tracking other) objects

    not_shared : is_elsewhere n ≡ false → is_in n (shared_names u) ≡ false
    not_shared free = any-append (is_named n) (object_names u) _ ∙ or_false _ _ no_object
        (any-flat_map (is_named n) names_inside u.tables
        ∙ any_less _ (λ (e : Name × Table). list_any is_tracking (inner_names e.1)) u.tables (λ e h. none_placed n e.0 (inner_names e.1) free (any_less (is_named n) is_tracking (inner_names e.1) (λ m other. unlike is_tracking n m tracking other) h)) inner)

  pub names_free : (d : Dialect) → takes_key d u ≡ false → list_any (λ n. is_taken d n u) (own_names d) ≡ false
  unfolding log_table lock_table lock_key_name
  names_free Postgresql key = or_false _ _ (not_shared log_table refl refl) (or_false _ _ (not_shared lock_table refl refl) (or_false _ _ key refl))
  names_free Mysql key = or_false _ _ (no_object log_table refl) (or_false _ _ (no_object lock_table refl) refl)
