-- A row that goes in, or runs again, is told by its statement; and so is that it is refused.
use Rattle.std.proofs.Common.{ap, arith, rules, subst, sym, tests, ◌∙◌}
use Rattle.std.specs.List.{list_all, list_any}
use Rattle.std.specs.Prelude.{Bool, Err, List, Ok, Result, Some, [], cond, false, if◌then◌else◌, length, map, max, nat_le, nat_lt, not, refl, suc, true, ℕ, ◌+◌, ◌++◌, ◌==◌, ◌||◌, ◌∷◌, ◌≡◌, ◌≤◌}
use Rattle.std.proofs.lemmas.List.{length-append}
use Rattle.lq_base.specs.Name.{exec_text}
use Rattle.lq_base.specs.declared.dialect.Dialect.{Dialect}
use Rattle.lq_base.specs.declared.identity.Identity.{Identity}
use Rattle.lq_base.specs.declared.literal.Literal.{Literal}
use Rattle.lq_base.specs.declared.name.Name.{Name}
use Rattle.lq_base.specs.declared.reason.Reason.{Reason}
use Rattle.lq_base.specs.declared.reason.Reason.TheVariants.{TooManyRows, TooWide}
use Rattle.lq_base.specs.declared.tracking.Tracked.{Tracked}
use Rattle.lq_base.specs.declared.value.Value.{Value}
use Rattle.lq_base.specs.declared.value.Value.TheVariants as value
use Rattle.lq_model.proofs.Decide.{IsSettled}
use Rattle.lq_model.proofs.Lists.{all_one_more, and_left, and_right, and_true, map_append_one, or_false}
use Rattle.lq_model.specs.Catalogue.{Catalogue, table_of, with_table, repeats, column_missing}
use Rattle.lq_model.specs.Rows.{row_of, stated, with_row, set_all, set_value_of}
use Rattle.lq_model.specs.Kinds.{is_wide, is_wrong, value_in}
use Rattle.lq_model.specs.Step.{step}
use Rattle.lq_model.specs.declared.caller.By.TheVariants.{Program}
use Rattle.lq_track.specs.Database.{Database, in_run_order, placed}
use Rattle.lq_track.specs.Log.{again_order, identity_of, log_column, log_name, log_order, log_set, log_table, log_value}
use Rattle.lq_track.specs.Statements.{row_again, row_inserted, row_test}
use Rattle.lq_turns.specs.Deed.{contents_of, with_contents, done, has_place, if_accepted, is_of, others, renewed, theirs}
use Rattle.lq_turns.specs.Schedule.{Agrees, StandsFor, fits_rows, is_short, is_stamped}
use Rattle.lq_turns.specs.declared.deed.Deed.TheVariants.{Rows}
use Rattle.lq_turns.specs.declared.deed.OnRows.TheVariants.{Inserted, Renewed}
use Rattle.lq_turns.specs.Settle.{greatest}
use Rattle.lq_beside.proofs.AsMade.{log_at, log_columns, log_row, log_rows, text_value}
use Rattle.lq_beside.proofs.Program.{inserts, updates}
use Rattle.lq_beside.proofs.RowDeeds.{IsStored, after_settled, after_stands, changed, compared, edited_rows, few_stored, is_stored, names_there}
use Rattle.lq_beside.proofs.RowRefused.{insert_full, insert_wide, update_wide}
use Rattle.lq_beside.proofs.RowValues.{GoesIn, IsStamped, order_goes, place_in, short_goes, stamped}
use Rattle.lq_beside.proofs.RunOrder.{all_ran, as_many, filter_ran, last_added, placed_all}
use Rattle.lq_beside.proofs.Settled.{settled_beside}
use Rattle.lq_beside.proofs.Stands.{beside_of, both_there, no_bad_nulls, rows_length, users_sound}

-- places

below : (a b n : ℕ) → nat_lt (max a b) n ≡ true → nat_lt a n ≡ true
below a b n h = let less : max a b + 1 ≤ n = search (rules, tests) in let is : a + 1 ≤ n = omega (arith, less) in search (rules, tests)

below_rest : (a b n : ℕ) → nat_lt (max a b) n ≡ true → nat_lt b n ≡ true
below_rest a b n h = let less : max a b + 1 ≤ n = search (rules, tests) in let is : b + 1 ≤ n = omega (arith, less) in search (rules, tests)

above_nothing : (a n : ℕ) → nat_lt a n ≡ true → nat_lt 0 n ≡ true
above_nothing a n h = let less : a + 1 ≤ n = search (rules, tests) in let is : 0 + 1 ≤ n = omega (arith, less) in search (rules, tests)

all_below : (rows : List Tracked) (n : ℕ) → nat_lt (greatest rows) n ≡ true → list_all (λ r. nat_lt r.order n) rows ≡ true
all_below [] n h = refl
all_below (r ∷ rows) n h = and_true _ _ (below r.order (greatest rows) n h) (all_below rows n (below_rest r.order (greatest rows) n h))

room : (n : ℕ) → nat_lt n 100000 ≡ true → nat_le (n + 1) 100000 ≡ true
room n h = search (rules, tests)

no_room : (n : ℕ) → nat_lt n 100000 ≡ false → nat_le (n + 1) 100000 ≡ false
no_room n h = search (rules, tests)

one_more : (rows : List Tracked) (row : Tracked) → length (rows ++ row ∷ []) ≡ length rows + 1
one_more rows row = length-append rows (row ∷ [])

-- the values of a row

abbrev names : List Name
names = map log_name log_order

abbrev literals : Tracked → List Literal
literals row = map (log_value row) log_order

goes : {x y : Result Value Reason} {xs ys : List (Result Value Reason)} → x ≡ y → xs ≡ ys → x ∷ xs ≡ y ∷ ys
goes {x = x} {y = y} {xs = xs} one more = ap (λ z. z ∷ xs) one ∙ ap (λ zs. y ∷ zs) more

abbrev results : Bool → Tracked → List (Result Value Reason)
results b row =
    Ok (value.Text row.id) ∷ Ok (value.Text row.author) ∷ Ok (value.Text row.filename) ∷ Ok (value.Moment row.date) ∷ place_in b row.order ∷ Ok (value.Text (exec_text row.exec))
    ∷ Ok (text_value row.md5sum) ∷ Ok (value.Text row.description) ∷ Ok (value.Text row.comments) ∷ Ok (text_value row.tag)
    ∷ Ok (value.Text row.tool) ∷ Ok (value.Text row.contexts) ∷ Ok (value.Text row.labels) ∷ Ok (value.Text row.deployment) ∷ []

module _ (row : Tracked) (next : ℕ) (rows : List (List Value)) (fits : GoesIn row) where
  values : row_of (stated (log_at next rows) names) (literals row) (log_at next rows) ≡ results (has_place row) row
  unfolding log_column log_order log_value
  values =
      goes fits.id (goes fits.author (goes fits.filename (goes fits.stamp.date (goes (order_goes row.order) (goes fits.stamp.exec (goes fits.stamp.md5sum
      (goes fits.description (goes fits.comments (goes fits.tag (goes fits.tool (goes fits.contexts (goes fits.labels (goes fits.stamp.deployment refl)))))))))))))

  values_if : (b : Bool) → has_place row ≡ b → row_of (stated (log_at next rows) names) (literals row) (log_at next rows) ≡ results b row
  values_if b is = values ∙ ap (λ x. results x row) is

  added : (d : Dialect) → has_place row ≡ true → with_row d (stated (log_at next rows) names) (literals row) (log_at next rows) ≡ log_at next (rows ++ log_row row ∷ [])
  unfolding log_column log_order
  added d is = ap (λ vs. log_at next (rows ++ map value_in vs ∷ [])) (values_if true is)

  columns_there : column_missing (log_at next rows) names ≡ false
  unfolding log_column log_order
  columns_there = refl

  named_once : repeats names ≡ false
  unfolding log_column log_order
  named_once = refl

  none_wrong : (b : Bool) → has_place row ≡ b → (not (length (stated (log_at next rows) names) == length (literals row)) || list_any is_wrong (row_of (stated (log_at next rows) names) (literals row) (log_at next rows))) ≡ false
  unfolding log_column log_order
  none_wrong true is = or_false _ _ refl (ap (list_any is_wrong) (values_if true is))
  none_wrong false is = or_false _ _ refl (ap (list_any is_wrong) (values_if false is))

  none_wide : has_place row ≡ true → list_any is_wide (row_of (stated (log_at next rows) names) (literals row) (log_at next rows)) ≡ false
  none_wide is = ap (list_any is_wide) (values_if true is)

  place_wide : has_place row ≡ false → list_any is_wide (row_of (stated (log_at next rows) names) (literals row) (log_at next rows)) ≡ true
  place_wide is = ap (list_any is_wide) (values_if false is)

module _ (d : Dialect) (c : Catalogue) (database : Database) (stands : StandsFor d c database) (has : database.has_log ≡ true) where
  c_settled : IsSettled c
  c_settled = settled_beside d (both_there (table_of c log_table) _) c (beside_of d c database stands) (users_sound d c database stands)

  -- what a deed on the rows makes of the database
  abbrev told : Result (List Tracked) Reason → Result Database Reason
  told r = if_accepted (with_contents database) (if_accepted (λ rows. record (contents_of database) { rows = rows }) r)

  abbrev inserted_if : Bool → Bool → Tracked → Result (List Tracked) Reason
  inserted_if a b row = if a then (if b then Ok (database.rows ++ row ∷ []) else Err TooManyRows) else Err TooWide

  module _ (row : Tracked) (fits : GoesIn row) (last : nat_lt (greatest database.rows) row.order ≡ true) (so : IsStored d c database stands has) where
    abbrev more : List Tracked
    more = so.stored ++ row ∷ []

    more_placed : list_all (λ r. nat_lt 0 r.order) more ≡ true
    more_placed = all_one_more (λ r. nat_lt 0 r.order) so.stored row so.placed (above_nothing (greatest database.rows) row.order last)

    stored_below : list_all (λ r. nat_lt r.order row.order) so.stored ≡ true
    stored_below = all_ran (λ r. nat_lt r.order row.order) so.stored (ap (list_all (λ r. nat_lt r.order row.order)) so.ran ∙ all_below database.rows row.order last)

    more_ran : in_run_order more ≡ database.rows ++ row ∷ []
    more_ran = last_added row so.stored stored_below ∙ ap (λ rs. rs ++ row ∷ []) so.ran

    as_many_more : length more ≡ length database.rows + 1
    as_many_more = one_more so.stored row ∙ ap (λ n. n + 1) (sym (as_many so.stored) ∙ ap (λ (rs : List Tracked). length rs) so.ran)

    with_it : has_place row ≡ true → with_row d (stated (log_at so.next (log_rows so.stored)) names) (literals row) (log_at so.next (log_rows so.stored)) ≡ log_at so.next (log_rows more)
    with_it is = added row so.next (log_rows so.stored) fits d is ∙ ap (log_at so.next) (sym (map_append_one log_row so.stored row))

    by : (a b : Bool) → has_place row ≡ a → nat_lt (length database.rows) 100000 ≡ b → Agrees d (told (inserted_if a b row)) (step Program d (row_inserted row) c)
    by false b place few = subst (Agrees d (Err TooWide)) (sym (insert_wide d _ c (beside_of d c database stands) c_settled (log_at so.next (log_rows so.stored)) so.there refl names (literals row)
        (columns_there row so.next (log_rows so.stored) fits) (named_once row so.next (log_rows so.stored) fits) (none_wrong row so.next (log_rows so.stored) fits false place) (place_wide row so.next (log_rows so.stored) fits place))) refl
    by true false place few = subst (Agrees d (Err TooManyRows)) (sym (insert_full d _ c (beside_of d c database stands) c_settled (log_at so.next (log_rows so.stored)) so.there refl names (literals row)
        (columns_there row so.next (log_rows so.stored) fits) (named_once row so.next (log_rows so.stored) fits) (none_wrong row so.next (log_rows so.stored) fits true place)
        (log_at so.next (log_rows more)) (with_it place) refl (none_wide row so.next (log_rows so.stored) fits place) (no_bad_nulls more) refl
        (ap (λ n. not (nat_le n 100000)) (rows_length more ∙ as_many_more) ∙ ap not (no_room (length database.rows) few)))) refl
    by true true place few =
        let fine : nat_le (length more) 100000 ≡ true = ap (λ n. nat_le n 100000) as_many_more ∙ room (length database.rows) few in
        let ran = inserts d c log_table (log_at so.next (log_rows so.stored)) (log_at so.next (log_rows more)) so.there (after_settled d c database stands has so more more_placed fine) names (literals row)
        (record {
          is = with_it place;
          missing = columns_there row so.next (log_rows so.stored) fits;
          exists = named_once row so.next (log_rows so.stored) fits;
          wrong = none_wrong row so.next (log_rows so.stored) fits true place;
          wide = none_wide row so.next (log_rows so.stored) fits place;
        }) in
        subst (Agrees d (Ok (record database { rows = database.rows ++ row ∷ [] }))) (sym ran.1)
        (subst (λ rs. StandsFor d (with_table c log_table (log_at so.next (log_rows more))) (record database { rows = rs })) more_ran (after_stands d c database stands has so more more_placed fine))

  pub inserted_told : (row : Tracked) → fits_rows (Inserted row) database.rows ≡ true → Agrees d (done d (Rows (Inserted row)) database) (step Program d (row_inserted row) c)
  inserted_told row fit = by row (short_goes row (and_left (is_short row) _ fit)) (and_right (is_short row) _ fit) (is_stored d c database stands has) (has_place row) (nat_lt (length database.rows) 100000) refl refl

-- a row that runs again goes behind all others

not_after : (a b : ℕ) → nat_lt a b ≡ true → nat_lt b a ≡ false
not_after a b h = search (rules, tests)

placed_last : (x : Tracked) (rs : List Tracked) → list_all (λ r. nat_lt r.order x.order) rs ≡ true → placed x rs ≡ rs ++ x ∷ []
placed_last x [] h = refl
placed_last x (r ∷ rs) h = ap (λ b. cond b (x ∷ r ∷ rs) (r ∷ placed x rs)) (not_after r.order x.order (and_left (nat_lt r.order x.order) _ h)) ∙ ap (λ xs. r ∷ xs) (placed_last x rs (and_right (nat_lt r.order x.order) _ h))

placed_front : (r : Tracked) (xs ys : List Tracked) → list_all (λ y. nat_lt r.order y.order) ys ≡ true → placed r (xs ++ ys) ≡ placed r xs ++ ys
placed_front r [] [] h = refl
placed_front r [] (y ∷ ys) h = ap (λ b. cond b (r ∷ y ∷ ys) (y ∷ placed r ys)) (and_left (nat_lt r.order y.order) _ h)
placed_front r (x ∷ xs) ys h = elim (nat_lt r.order x.order) as (λ b. cond b (r ∷ x ∷ xs ++ ys) (x ∷ placed r (xs ++ ys)) ≡ cond b (r ∷ x ∷ xs) (x ∷ placed r xs) ++ ys) [
  | true ↦ refl
  | false ↦ ap (λ zs. x ∷ zs) (placed_front r xs ys h)
]

some_list : {A : Type 0} (y : A) (ys : List A) → y ∷ ys ≡ [] → ⊥
some_list y ys e = Prim.cc

no_rows : (rs : List Tracked) → nat_le (suc (length rs)) 1 ≡ true → rs ≡ []
no_rows [] h = refl
no_rows (r ∷ rs) h = absurd (omega (arith, few)) where
  few : suc (suc (length rs)) ≤ 1
  few = search (rules, tests)

module _ (row : Tracked) where
  abbrev pub of : Identity
  of = identity_of row

  abbrev pub again : Tracked → Tracked
  again r = changed of (renewed row) r

  none_changed : (rs : List Tracked) → theirs of rs ≡ [] → map again rs ≡ rs
  none_changed [] h = refl
  none_changed (r ∷ rs) h = elim (is_of of r) as (λ b. cond b (r ∷ theirs of rs) (theirs of rs) ≡ [] → cond b (renewed row r) r ∷ map again rs ≡ r ∷ rs) [
    | true ↦ λ q. absurd (some_list r (theirs of rs) q)
    | false ↦ λ q. ap (λ xs. r ∷ xs) (none_changed rs q)
  ] h

  all_others : (rs : List Tracked) → theirs of rs ≡ [] → others of rs ≡ rs
  all_others [] h = refl
  all_others (r ∷ rs) h = elim (is_of of r) as (λ b. cond b (r ∷ theirs of rs) (theirs of rs) ≡ [] → cond (not b) (r ∷ others of rs) (others of rs) ≡ r ∷ rs) [
    | true ↦ λ q. absurd (some_list r (theirs of rs) q)
    | false ↦ λ q. ap (λ xs. r ∷ xs) (all_others rs q)
  ] h

  all_later : (n : ℕ) (rs : List Tracked) → nat_lt n row.order ≡ true → list_all (λ y. nat_lt n y.order) (map (renewed row) rs) ≡ true
  all_later n [] h = refl
  all_later n (r ∷ rs) h = and_true _ _ h (all_later n rs h)

  below_ran : (rs : List Tracked) → list_all (λ r. nat_lt r.order row.order) rs ≡ true → list_all (λ r. nat_lt r.order row.order) (in_run_order rs) ≡ true
  below_ran [] h = refl
  below_ran (r ∷ rs) h = placed_all (λ x. nat_lt x.order row.order) r (in_run_order rs) (and_left (nat_lt r.order row.order) _ h) (below_ran rs (and_right (nat_lt r.order row.order) _ h))

  again_ran : (rs : List Tracked) → list_all (λ r. nat_lt r.order row.order) rs ≡ true → nat_le (length (theirs of rs)) 1 ≡ true
      → in_run_order (map again rs) ≡ others of (in_run_order rs) ++ map (renewed row) (theirs of (in_run_order rs))
  again_ran [] h one = refl
  again_ran (r ∷ rs) h one = by (λ few. again_ran rs (and_right (nat_lt r.order row.order) _ h) few) (is_of of r) refl one where
    low : nat_lt r.order row.order ≡ true
    low = and_left (nat_lt r.order row.order) _ h

    more : list_all (λ x. nat_lt x.order row.order) rs ≡ true
    more = and_right (nat_lt r.order row.order) _ h

    by : (nat_le (length (theirs of rs)) 1 ≡ true → in_run_order (map again rs) ≡ others of (in_run_order rs) ++ map (renewed row) (theirs of (in_run_order rs))) → (b : Bool) → is_of of r ≡ b → nat_le (length (cond b (r ∷ theirs of rs) (theirs of rs))) 1 ≡ true → in_run_order (map again (r ∷ rs)) ≡ others of (in_run_order (r ∷ rs)) ++ map (renewed row) (theirs of (in_run_order (r ∷ rs)))
    by rest true is few =
        let none : theirs of rs ≡ [] = no_rows (theirs of rs) few in
        ap (λ b. placed (cond b (renewed row r) r) (in_run_order (map again rs))) is
        ∙ ap (λ xs. placed (renewed row r) (in_run_order xs)) (none_changed rs none)
        ∙ placed_last (renewed row r) (in_run_order rs) (below_ran rs more)
        ∙ ap (λ xs. xs ++ renewed row r ∷ []) (sym (sym (filter_ran (λ x. not (is_of of x)) (r ∷ rs)) ∙ ap (λ b. in_run_order (cond (not b) (r ∷ others of rs) (others of rs))) is ∙ ap in_run_order (all_others rs none)))
        ∙ ap (λ xs. others of (in_run_order (r ∷ rs)) ++ map (renewed row) xs) (sym (sym (filter_ran (is_of of) (r ∷ rs)) ∙ ap (λ b. in_run_order (cond b (r ∷ theirs of rs) (theirs of rs))) is ∙ ap (λ xs. in_run_order (r ∷ xs)) none))
    by rest false is few =
        ap (λ b. placed (cond b (renewed row r) r) (in_run_order (map again rs))) is
        ∙ ap (placed r) (rest few)
        ∙ placed_front r (others of (in_run_order rs)) (map (renewed row) (theirs of (in_run_order rs))) (all_later r.order (theirs of (in_run_order rs)) low)
        ∙ ap (λ xs. xs ++ map (renewed row) (theirs of (in_run_order rs))) (ap (placed r) (sym (filter_ran (λ x. not (is_of of x)) rs)) ∙ sym (sym (filter_ran (λ x. not (is_of of x)) (r ∷ rs)) ∙ ap (λ b. in_run_order (cond (not b) (r ∷ others of rs) (others of rs))) is))
        ∙ ap (λ xs. others of (in_run_order (r ∷ rs)) ++ map (renewed row) xs) (sym (filter_ran (is_of of) rs) ∙ sym (sym (filter_ran (is_of of) (r ∷ rs)) ∙ ap (λ b. in_run_order (cond b (r ∷ theirs of rs) (theirs of rs))) is))

  abbrev sets : List (Name × Literal)
  sets = map (log_set row) again_order

  module _ (stamp : IsStamped row) where
    set_row : has_place row ≡ true → (r : Tracked) → set_all sets log_columns (log_row r) ≡ log_row (renewed row r)
    unfolding log_column log_order again_order log_value
    set_row is r = rw (stamp.date, order_goes row.order ∙ ap (λ b. place_in b row.order) is, stamp.exec, stamp.md5sum, stamp.deployment) refl

    sets_there : (next : ℕ) (rows : List (List Value)) → column_missing (log_at next rows) (map (λ s. s.0) sets) ≡ false
    unfolding log_column log_order again_order
    sets_there next rows = refl

    set_once : repeats (map (λ s. s.0) sets) ≡ false
    unfolding log_column again_order
    set_once = refl

    sets_wrong : (b : Bool) → has_place row ≡ b → list_any (λ s. is_wrong (set_value_of log_columns s)) sets ≡ false
    unfolding log_column log_order again_order log_value
    sets_wrong true is = rw (stamp.date, order_goes row.order ∙ ap (λ b. place_in b row.order) is, stamp.exec, stamp.md5sum, stamp.deployment) refl
    sets_wrong false is = rw (stamp.date, order_goes row.order ∙ ap (λ b. place_in b row.order) is, stamp.exec, stamp.md5sum, stamp.deployment) refl

    sets_wide : (b : Bool) → has_place row ≡ b → list_any (λ s. is_wide (set_value_of log_columns s)) sets ≡ not b
    unfolding log_column log_order again_order log_value
    sets_wide true is = rw (stamp.date, order_goes row.order ∙ ap (λ b. place_in b row.order) is, stamp.exec, stamp.md5sum, stamp.deployment) refl
    sets_wide false is = rw (stamp.date, order_goes row.order ∙ ap (λ b. place_in b row.order) is) refl

all_renewed : (row : Tracked) (rs : List Tracked) → nat_lt 0 row.order ≡ true → list_all (λ r. nat_lt 0 r.order) rs ≡ true → list_all (λ r. nat_lt 0 r.order) (map (again row) rs) ≡ true
all_renewed row [] h all = refl
all_renewed row (r ∷ rs) h all = and_true _ _ (one (is_of (identity_of row) r)) (all_renewed row rs h (and_right (nat_lt 0 r.order) _ all)) where
  one : (b : Bool) → nat_lt 0 (let x : Tracked = cond b (renewed row r) r in x).order ≡ true
  one true = h
  one false = and_left (nat_lt 0 r.order) _ all

again_length : (row : Tracked) (rs : List Tracked) → length (map (again row) rs) ≡ length rs
again_length row [] = refl
again_length row (r ∷ rs) = ap suc (again_length row rs)

module _ (d : Dialect) (c : Catalogue) (database : Database) (stands : StandsFor d c database) (has : database.has_log ≡ true) where
  module _ (row : Tracked) (stamp : IsStamped row) (last : nat_lt (greatest database.rows) row.order ≡ true) (only : nat_le (length (theirs (identity_of row) database.rows)) 1 ≡ true) (so : IsStored d c database stands has) where
    abbrev rows' : List Tracked
    rows' = map (again row) so.stored

    below_it : list_all (λ r. nat_lt r.order row.order) so.stored ≡ true
    below_it = all_ran (λ r. nat_lt r.order row.order) so.stored (ap (list_all (λ r. nat_lt r.order row.order)) so.ran ∙ all_below database.rows row.order last)

    only_one : nat_le (length (theirs (identity_of row) so.stored)) 1 ≡ true
    only_one = ap (λ n. nat_le n 1) (sym (as_many (theirs (identity_of row) so.stored)) ∙ ap (λ (rs : List Tracked). length rs) (filter_ran (is_of (identity_of row)) so.stored ∙ ap (theirs (identity_of row)) so.ran)) ∙ only

    ran_again : in_run_order rows' ≡ others (identity_of row) database.rows ++ map (renewed row) (theirs (identity_of row) database.rows)
    ran_again = again_ran row so.stored below_it only_one ∙ ap (λ rs. others (identity_of row) rs ++ map (renewed row) (theirs (identity_of row) rs)) so.ran

    renewed_if : (a : Bool) → has_place row ≡ a
        → Agrees d (told d c database stands has (if a then Ok (others (identity_of row) database.rows ++ map (renewed row) (theirs (identity_of row) database.rows)) else Err TooWide)) (step Program d (row_again row) c)
    renewed_if false place = subst (Agrees d (Err TooWide)) (sym (update_wide d _ c (beside_of d c database stands) (c_settled d c database stands has) (log_at so.next (log_rows so.stored)) so.there refl (sets row) (Some (row_test (identity_of row)))
        (or_false _ _ (sets_there row stamp so.next (log_rows so.stored)) (names_there (identity_of row) so.next (log_rows so.stored))) (set_once row stamp)
        (or_false _ _ (sets_wrong row stamp false place) (compared (identity_of row))) (sets_wide row stamp false place))) refl
    renewed_if true place =
        let placed' = all_renewed row so.stored (above_nothing (greatest database.rows) row.order last) so.placed in
        let fine : nat_le (length rows') 100000 ≡ true = ap (λ n. nat_le n 100000) (again_length row so.stored) ∙ few_stored d c database stands has so in
        let ran = updates d c log_table (log_at so.next (log_rows so.stored)) (log_at so.next (log_rows rows')) so.there (after_settled d c database stands has so rows' placed' fine) (sets row) (Some (row_test (identity_of row)))
        (record {
          is = ap (log_at so.next) (edited_rows (identity_of row) (sets row) (renewed row) (set_row row stamp place) so.stored);
          missing = or_false _ _ (sets_there row stamp so.next (log_rows so.stored)) (names_there (identity_of row) so.next (log_rows so.stored));
          exists = set_once row stamp;
          wrong = or_false _ _ (sets_wrong row stamp true place) (compared (identity_of row));
          wide = sets_wide row stamp true place;
        }) in
        subst (Agrees d (Ok (record database { rows = others (identity_of row) database.rows ++ map (renewed row) (theirs (identity_of row) database.rows) }))) (sym ran.1)
        (subst (λ rs. StandsFor d (with_table c log_table (log_at so.next (log_rows rows'))) (record database { rows = rs })) ran_again (after_stands d c database stands has so rows' placed' fine))

  pub renewed_told : (row : Tracked) → fits_rows (Renewed row) database.rows ≡ true → Agrees d (done d (Rows (Renewed row)) database) (step Program d (row_again row) c)
  renewed_told row fit = renewed_if row (stamped row (and_left (is_stamped row) _ fit)) (and_left (nat_lt (greatest database.rows) row.order) _ (and_right (is_stamped row) _ fit))
      (and_right (nat_lt (greatest database.rows) row.order) _ (and_right (is_stamped row) _ fit)) (is_stored d c database stands has) (has_place row) refl
