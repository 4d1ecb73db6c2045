-- A place in run order is the value of a column of 32-bit numbers, so it has 31 bits.
use Rattle.std.proofs.Common.{arith, rules, subst, tests}
use Rattle.std.specs.List.{list_all}
use Rattle.std.specs.Prelude.{List, None, Option, Some, [], max, nat_le, pos, refl, true, ℕ, ◌∷◌, ◌≡◌, ◌≤◌}
use Rattle.lq_base.specs.Number.{char_count}
use Rattle.lq_base.specs.Moment.{is_moment}
use Rattle.lq_base.specs.Value.{is_int32, is_value_of}
use Rattle.lq_base.specs.declared.tracking.Tracked.{Tracked}
use Rattle.lq_model.proofs.Lists.{and_left, and_right, and_true}
use Rattle.lq_model.proofs.Maps.{some_same}
use Rattle.lq_model.specs.Catalogue.{Table, table_of, row_fits}
use Rattle.lq_track.specs.Database.{rows_from}
use Rattle.lq_track.specs.Log.{log_column, log_order, log_table}
use Rattle.lq_turns.specs.Settle.{greatest}
use Rattle.lq_beside.proofs.AsMade.{log_columns, log_row, log_rows}
use Rattle.lq_beside.proofs.Stands.{log_made_so, rows_read}
use Rattle.lq_stand.specs.Stays.{PlacesAreSmall}
use Rattle.lq_stand.proofs.Clean.{all_placed}

-- the fifth column's value
place_fits : (row : Tracked) → row_fits log_columns (log_row row) ≡ true → nat_le row.order 2147483647 ≡ true
unfolding log_column log_order is_value_of
place_fits row h = and_left (is_int32 (pos row.order)) _ (and_right (is_moment row.date) _ (and_right (nat_le (char_count row.filename) 255) _ (and_right (nat_le (char_count row.author) 255) _ (and_right (nat_le (char_count row.id) 255) _ h))))

places_fit : (rows : List Tracked) → list_all (row_fits log_columns) (log_rows rows) ≡ true → list_all (λ (r : Tracked). nat_le r.order 2147483647) rows ≡ true
places_fit [] h = refl
places_fit (row ∷ rows) h = and_true _ _ (place_fits row (and_left (row_fits log_columns (log_row row)) _ h)) (places_fit rows (and_right (row_fits log_columns (log_row row)) _ h))

both_within : (a b n : ℕ) → nat_le a n ≡ true → b ≤ n → max a b ≤ n
both_within a b n h more = let here : a ≤ n = search (rules, tests) in omega (arith, here, more)

greatest_within : (n : ℕ) (rows : List Tracked) → list_all (λ (r : Tracked). nat_le r.order n) rows ≡ true → greatest rows ≤ n
greatest_within n [] h = omega arith
greatest_within n (row ∷ rows) h = both_within row.order (greatest rows) n (and_left (nat_le row.order n) _ h) (greatest_within n rows (and_right (nat_le row.order n) _ h))

pub places_are_small : PlacesAreSmall
places_are_small d c database sound stands = by (table_of c log_table) refl (rows_read d c database stands) where
  by : (o : Option Table) → table_of c log_table ≡ o → rows_from o ≡ Some database.rows → greatest database.rows ≤ 2147483647
  by None there_is read = subst (λ (rs : List Tracked). greatest rs ≤ 2147483647) (some_same read) (omega arith)
  by (Some it) there_is read =
      let made = log_made_so it database.rows read in
      let fit = subst (λ (x : Table). list_all (row_fits x.columns) x.rows ≡ true) made.1 (sound.tables log_table it there_is).rows in
      greatest_within 2147483647 database.rows (subst (λ (rs : List Tracked). list_all (λ (r : Tracked). nat_le r.order 2147483647) rs ≡ true) made.2 (all_placed (λ (r : Tracked). nat_le r.order 2147483647) made.0 (places_fit made.0 fit)))
