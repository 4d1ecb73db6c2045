-- Each sound catalogue keeps to what can be written and read back.
use Rattle.std.proofs.Common.{◌≡◌, ◌≤◌, ◌&&◌, ◌∷◌, arith, nat_le, nat_lt, ℕ, suc, Bool, true, false, not, is_some, List, [], length, Option, None, Some, refl, ◌∙◌, ap, subst}
use Rattle.std.proofs.lemmas.Bool.{eq-eqb, leb-true}
use Rattle.std.proofs.lemmas.Bool.Decides.{nat_tests}
use Rattle.std.specs.List.{list_all, list_any}
use Rattle.lq_base.specs.Kind.{is_kind}
use Rattle.lq_base.specs.Value.{is_value_of}
use Rattle.lq_base.specs.declared.dialect.Dialect.{Dialect}
use Rattle.lq_base.specs.declared.name.Name.{Name}
use Rattle.lq_base.specs.declared.value.Value.{Value}
use Rattle.lq_model.specs.Catalogue.{Catalogue, Table, View, table_of, the_table, is_empty, is_in, repeats, same_names, row_fits, column_names}
use Rattle.lq_model.specs.Comparison.{compares_wrongly, is_literal, is_spelled, levels, test_literals}
use Rattle.lq_model.specs.Plan.{is_full}
use Rattle.lq_model.specs.Sound.{IsSound, are_columns, default_fits, is_view, wanted_names}
use Rattle.lq_model.specs.Truth.{names_in}
use Rattle.lq_model.specs.declared.column.Column.{Column}
use Rattle.lq_model.specs.declared.test.Test.{Test}
use Rattle.lq_model.proofs.Lists.{and_left, and_right, and_true, or_left, or_right}
use Rattle.lq_codec.specs.Tables.{bytes_of, can_be_written, has_some}
use Rattle.lq_codec.specs.State.{OnTrue, free, if_any, if_both, is_below_level, are_in_order, has_sound_columns, has_sound_lists, has_sound_objects, has_sound_rows, is_sound_table, state_of}
use Rattle.laws_codec.proofs.Read.{states_are_read}
use Rattle.laws_codec.proofs.SoundLemmas.{sound_test}
use Rattle.lq_state.specs.Shaped.{has_width, is_shaped, is_shaped_view, is_shaped_whole}

some_if : {A : Type 0} (xs : List A) → not (is_empty xs) ≡ true → has_some xs ≡ true
some_if [] is = absurd (cc is)
some_if (x ∷ xs) is = refl

same_length : (cs : List Column) (row : List Value) → row_fits cs row ≡ true → length row ≡ length cs
same_length [] [] is = refl
same_length [] (v ∷ vs) is = absurd (cc is)
same_length (c ∷ cs) [] is = absurd (cc is)
same_length (c ∷ cs) (v ∷ vs) is = ap (λ (n : ℕ). suc n) (same_length cs vs (and_right (is_value_of c.kind v) (row_fits cs vs) is))

same_width : (cs : List Column) (row : List Value) → row_fits cs row ≡ true → has_width cs row ≡ true
same_width cs row is = eq-eqb (length row) (length cs) (same_length cs row is)

all_wide : (cs : List Column) (rows : List (List Value)) → list_all (row_fits cs) rows ≡ true → list_all (has_width cs) rows ≡ true
all_wide cs [] is = refl
all_wide cs (row ∷ rows) is =
    and_true (has_width cs row) (list_all (has_width cs) rows)
    (same_width cs row (and_left (row_fits cs row) (list_all (row_fits cs) rows) is))
    (all_wide cs rows (and_right (row_fits cs row) (list_all (row_fits cs) rows) is))

below_next : (n most : ℕ) → nat_le n most ≡ true → nat_lt n (suc most) ≡ true
below_next n most is = let le : n ≤ most = leb-true n most is in grind (arith, nat_tests, le)

not_over : (b : Bool) → not b ≡ false → b ≡ true
not_over true is = refl
not_over false is = absurd (cc is)

few_rows : (t : Table) → is_full t ≡ false → nat_lt (length t.rows) 100_001 ≡ true
few_rows t is = below_next (length t.rows) 100_000 (not_over (nat_le (length t.rows) 100_000) is)

table_shaped : (d : Dialect) (t : Table) → is_sound_table d t ≡ true → is_full t ≡ false → is_shaped t ≡ true
table_shaped d t sound few =
    let some = not (is_empty t.columns) in
    let differ = not (repeats (column_names t)) in
    let kinds = list_all (λ (c : Column). is_kind c.kind) t.columns in
    let rows = list_all (row_fits t.columns) t.rows in
    let defaults = list_all default_fits t.columns in
    let own : some && (differ && (kinds && (rows && defaults))) ≡ true = and_left (has_sound_columns t) (has_sound_lists d t) sound in
    let others = and_right differ (kinds && (rows && defaults)) (and_right some (differ && (kinds && (rows && defaults))) own) in
    let fit = and_left rows defaults (and_right kinds (rows && defaults) others) in
    and_true (has_some t.columns) (nat_lt (length t.rows) 100_001 && list_all (has_width t.columns) t.rows)
    (some_if t.columns (and_left some (differ && (kinds && (rows && defaults))) own))
    (and_true (nat_lt (length t.rows) 100_001) (list_all (has_width t.columns) t.rows) (few_rows t few) (all_wide t.columns t.rows fit))

tables_shaped : (d : Dialect) (es : List (Name × Table)) → list_all (λ e. is_sound_table d e.1) es ≡ true → list_any (λ e. is_full e.1) es ≡ false → list_all (if_both free is_shaped) es ≡ true
tables_shaped d [] sound few = refl
tables_shaped d (e ∷ es) sound few =
    and_true (is_shaped e.1) (list_all (if_both free is_shaped) es)
    (table_shaped d e.1 (and_left (is_sound_table d e.1) (list_all (λ e. is_sound_table d e.1) es) sound) (or_left (is_full e.1) (list_any (λ e. is_full e.1) es) few))
    (tables_shaped d es (and_right (is_sound_table d e.1) (list_all (λ e. is_sound_table d e.1) es) sound) (or_right (is_full e.1) (list_any (λ e. is_full e.1) es) few))

few_levels : (o : Option Test) → is_spelled o ≡ true → if_any (is_below_level 65) o ≡ true
few_levels None is = refl
few_levels (Some t) is = below_next (levels t) 64 (and_left (nat_le (levels t) 64) (list_all is_literal (test_literals t)) is)

view_shaped : (c : Catalogue) (v : View) → is_view c v ≡ true → is_shaped_view v ≡ true
view_shaped c v is =
    let it = the_table c v.query.table in
    let there = is_some (table_of c v.query.table) in
    let lists = are_columns it v.columns in
    let named = list_all (λ (n : Name). is_in n (column_names it)) (names_in v.query.test) in
    let same = same_names (wanted_names v.query.wanted) v.columns in
    let spelled = is_spelled v.query.test in
    let right = not (compares_wrongly it.columns v.query.test) in
    let all : there && (lists && (named && (same && (spelled && right)))) ≡ true = is in
    let second = and_right there (lists && (named && (same && (spelled && right)))) all in
    let third = and_right lists (named && (same && (spelled && right))) second in
    let last = and_right same (spelled && right) (and_right named (same && (spelled && right)) third) in
    few_levels v.query.test (and_left spelled right last)

views_shaped : (c : Catalogue) (es : List (Name × View)) → list_all (λ e. is_view c e.1) es ≡ true → list_all (if_both free is_shaped_view) es ≡ true
views_shaped c [] is = refl
views_shaped c (e ∷ es) is =
    and_true (is_shaped_view e.1) (list_all (if_both free is_shaped_view) es)
    (view_shaped c e.1 (and_left (is_view c e.1) (list_all (λ e. is_view c e.1) es) is))
    (views_shaped c es (and_right (is_view c e.1) (list_all (λ e. is_view c e.1) es) is))

pub sound_shaped : (d : Dialect) (c : Catalogue) → IsSound d c → is_shaped_whole c ≡ true
sound_shaped d c sound =
    let tables = list_all (λ (e : Name × Table). is_sound_table d e.1) c.tables in
    let tested = and_right (are_in_order c) (has_sound_objects d c && has_sound_rows c) (sound_test d c sound) in
    let objects = and_left (has_sound_objects d c) (has_sound_rows c) tested in
    and_true (list_all (if_both free is_shaped) c.tables) (list_all (if_both free is_shaped_view) c.views)
    (tables_shaped d c.tables (and_left tables _ objects) sound.small)
    (views_shaped c c.views sound.views)

-- so its bytes are read as the state that it is
pub reads_back : (d : Dialect) (c : Catalogue) (bytes : List ℕ) → IsSound d c → OnTrue (is_shaped_whole c) (can_be_written c ≡ true) → bytes ≡ bytes_of c → state_of d bytes ≡ Some c
reads_back d c bytes sound fits is =
    ap (state_of d) is
    ∙ states_are_read d c sound (subst (λ (b : Bool). OnTrue b (can_be_written c ≡ true)) (sound_shaped d c sound) fits)
