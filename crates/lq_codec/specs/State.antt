-- The limits of what is written that no type sets.
use Rattle.std.specs.FinMap.Entries.{is_sorted}
use Rattle.std.specs.List.{list_all, list_any}
use Rattle.std.specs.Ordering.{int_eq}
use Rattle.std.specs.Prelude.{Bool, List, None, Option, Some, false, if◌then◌else◌, nat_lt, not, pos, true, ℕ, ◌&&◌}
use Rattle.lq_base.specs.Kind.{is_kind}
use Rattle.lq_base.specs.Name.{is_elsewhere, name_cmp}
use Rattle.lq_base.specs.declared.dialect.Dialect.{Dialect}
use Rattle.lq_base.specs.declared.dialect.Dialect.TheVariants.{Mysql, Postgresql}
use Rattle.lq_base.specs.declared.name.Name.{Name}
use Rattle.lq_codec.specs.Tables.{catalogue_of}
use Rattle.lq_model.specs.Catalogue.{Catalogue, Table, column_lists, column_names, constraint_names, index_names, is_empty, key_list, own_names as all_names, repeats, row_fits}
use Rattle.lq_model.specs.Comparison.{levels}
use Rattle.lq_model.specs.NameSpaces.{all_foreign_names, object_names, shared_names}
use Rattle.lq_model.specs.Plan.{has_null, has_orphans, has_twins, is_loose, is_overfull}
use Rattle.lq_model.specs.Sound.{are_columns, default_fits, is_key_name, is_not_null, is_numbered_well, is_unlike, is_view, may_have, may_name}
use Rattle.lq_model.specs.declared.query.Query.{Query}
use Rattle.lq_model.specs.declared.test.Test.{Test}

-- what holds where a test answers true
abbrev pub OnTrue : Bool → Type 0 → Type 0
OnTrue true P = P
OnTrue false P = Unit {0}

-- no limit
abbrev pub free : {A : Type 0} → A → Bool
free a = true

abbrev pub if_any : {A : Type 0} → (A → Bool) → Option A → Bool
if_any p None = true
if_any p (Some a) = p a

abbrev pub if_both : {A B : Type 0} → (A → Bool) → (B → Bool) → A × B → Bool
if_both p q pair = p pair.0 && q pair.1

-- fewer than so many levels
abbrev pub is_below_level : ℕ → Test → Bool
is_below_level n t = nat_lt (levels t) n

-- a test of at most 64 levels
abbrev pub has_levels : Query → Bool
has_levels q = if_any (is_below_level 65) q.test

-- Soundness as a test.

-- the names of one table that have to differ
abbrev pub own_names : Dialect → Table → List Name
own_names Postgresql it = constraint_names it
own_names Mysql it = index_names it

-- its columns and its rows, and then its lists and names
abbrev pub has_sound_columns : Table → Bool
has_sound_columns it =
    not (is_empty it.columns)
    && (not (repeats (column_names it))
    && (list_all (λ c. is_kind c.kind) it.columns
    && (list_all (row_fits it.columns) it.rows && list_all default_fits it.columns)))

abbrev pub are_lists : Table → Bool
are_lists it =
    list_all (are_columns it) (column_lists it)
    && list_all (λ f. are_columns it f.columns) it.foreign

-- its key
abbrev pub is_key_well : Dialect → Table → Bool
is_key_well d it =
    list_all (λ k. list_all (is_not_null it) k.columns) (key_list it.key)
    && list_all (λ k. is_key_name d k.name) (key_list it.key)

abbrev pub has_sound_lists : Dialect → Table → Bool
has_sound_lists d it =
    are_lists it
    && (is_key_well d it
    && (list_all (is_numbered_well it) it.columns
    && (not (repeats (own_names d it)) && not (list_any is_elsewhere (all_names it)))))

abbrev pub is_sound_table : Dialect → Table → Bool
is_sound_table d it = has_sound_columns it && has_sound_lists d it

-- names differ in their spaces
abbrev pub are_apart : Dialect → Catalogue → Bool
are_apart Postgresql c = not (repeats (shared_names c))
are_apart Mysql c = not (repeats (object_names c)) && not (repeats (all_foreign_names c))

abbrev pub are_in_order : Catalogue → Bool
are_in_order c =
    is_sorted name_cmp c.tables
    && (is_sorted name_cmp c.views && is_sorted name_cmp c.sequences)

abbrev pub has_sound_rows : Catalogue → Bool
has_sound_rows c =
    not (has_null c)
    && (not (has_twins c)
    && (not (is_loose c)
    && (not (is_unlike c) && (not (has_orphans c) && not (is_overfull c)))))

abbrev pub has_sound_objects : Dialect → Catalogue → Bool
has_sound_objects d c =
    list_all (λ e. is_sound_table d e.1) c.tables
    && (list_all (λ e. is_view c e.1) c.views
    && (are_apart d c
    && (may_name d (object_names c)
    && (not (list_any (λ e. int_eq e.1.step (pos 0)) c.sequences) && may_have d c.sequences))))

abbrev pub is_sound : Dialect → Catalogue → Bool
is_sound d c = are_in_order c && (has_sound_objects d c && has_sound_rows c)

-- The state of a database that bytes are of.

abbrev pub if_sound : Dialect → Option Catalogue → Option Catalogue
if_sound d None = None
if_sound d (Some c) = if is_sound d c then Some c else None

-- the sound catalogue whose bytes these are
unfoldable pub state_of : Dialect → List ℕ → Option Catalogue
state_of d bytes = if_sound d (catalogue_of bytes)
