-- The program's deeds on the table of rows are told by their statements.
use Rattle.std.proofs.Common.{ap, arith, rules, subst, sym, tests, ◌∙◌}
use Rattle.std.specs.List.{filter, list_all, list_any}
use Rattle.std.specs.Option.{unwrap_or}
use Rattle.std.specs.Prelude.{Bool, List, None, Ok, Option, Some, [], cond, false, is_none, is_ok, is_some, length, map, nat_le, nat_lt, not, refl, suc, true, zero, ℕ, ◌&&◌, ◌++◌, ◌∷◌, ◌≡◌, ◌≤◌}
use Rattle.lq_base.specs.Name.{is_named}
use Rattle.lq_base.specs.Value.{into_kind}
use Rattle.lq_base.specs.declared.dialect.Dialect.{Dialect}
use Rattle.lq_base.specs.declared.identity.Identity.{Identity}
use Rattle.lq_base.specs.declared.kind.Kind.TheVariants as kind
use Rattle.lq_base.specs.declared.literal.Literal.{Literal}
use Rattle.lq_base.specs.declared.literal.Literal.TheVariants as literal
use Rattle.lq_base.specs.declared.name.Name.{Name}
use Rattle.lq_base.specs.declared.tracking.Tracked.{Tracked}
use Rattle.lq_base.specs.declared.value.Value.{Value}
use Rattle.lq_base.specs.declared.value.Value.TheVariants as value
use Rattle.lq_model.proofs.Decide.{IsFree, IsSettled, settles}
use Rattle.lq_model.proofs.Kept.{lookup_other}
use Rattle.lq_model.proofs.Lists.{and_left, and_no_right, and_right, and_true, any_less, filter_kept, map_kept, none_all, or_false, or_left, or_right, true_false}
use Rattle.lq_model.proofs.Maps.{lookup-set_value}
use Rattle.lq_model.specs.Catalogue.{Catalogue, Table, no_table, table_of, the_table, with_table, column_missing}
use Rattle.lq_model.specs.Comparison.{Dates, Texts, compares_wrongly, go_together, kinds_agree, sort_of_literal}
use Rattle.lq_model.specs.Rows.{cascaded, delete, is_lost, row_count, without_lost, without_lost_in, without_taken, set_all}
use Rattle.lq_model.specs.Plan.{Plan, has_orphan, has_orphans, lacks_parent}
use Rattle.lq_model.specs.Sound.{IsSound}
use Rattle.lq_model.specs.Step.{step}
use Rattle.lq_model.specs.Truth.{both_true, is_true, names_in, takes, test_names, truth, truth_of_and}
use Rattle.lq_model.specs.declared.caller.By.TheVariants.{Program}
use Rattle.lq_model.specs.declared.column.Column.{Column}
use Rattle.lq_model.specs.declared.statement.Statement.TheVariants.{Update}
use Rattle.lq_model.specs.declared.test.Test.{And, Test}
use Rattle.lq_track.specs.Database.{Database, in_run_order, placed, rows_from}
use Rattle.lq_track.specs.Lock.{lock_table}
use Rattle.lq_track.specs.Log.{log_column, log_name, log_order, log_table}
use Rattle.lq_track.specs.Statements.{log_holds, row_deleted, row_test, sum_filled, sums_cleared, tag_set}
use Rattle.lq_track.specs.declared.log_column.LogColumn.TheVariants as log
use Rattle.lq_turns.specs.declared.deed.Deed.TheVariants.{Rows}
use Rattle.lq_turns.specs.declared.deed.OnRows.TheVariants.{Cleared, Deleted, Filled, Tagged}
use Rattle.lq_turns.specs.Deed.{done, is_of, others, without_sum}
use Rattle.lq_turns.specs.Schedule.{Agrees, StandsFor, fits_rows}
use Rattle.lq_beside.specs.Beside.{IsBeside, is_harmless, users}
use Rattle.lq_beside.proofs.AsMade.{log_at, log_columns, log_row, log_rows}
use Rattle.lq_beside.proofs.Program.{Edits, database_is, read_as, set_tracker, set_users_same, stands_with, updates}
use Rattle.lq_beside.proofs.RowValues.{read_back, text_goes}
use Rattle.lq_beside.proofs.RunOrder.{as_many, filter_ran}
use Rattle.lq_beside.proofs.Settled.{settled_beside}
use Rattle.lq_beside.proofs.Stands.{beside_of, both_there, lock_read, log_harmless, log_made_so, rows_read, users_sound}
use Rattle.lq_beside.proofs.TablesRead.{not_is}
use Rattle.lq_beside.proofs.TakesNone.{log_tracker}

-- a cascade takes no row where each has its parent

turned_over : {A B : Type 0} (q : A → B → Bool) (fs : List A) (rs : List B) → list_any (λ f. list_any (q f) rs) fs ≡ false → list_any (λ r. list_any (λ f. q f r) fs) rs ≡ false
turned_over q fs [] h = refl
turned_over q fs (r ∷ rs) h =
    or_false _ _ (any_less (λ f. q f r) (λ f. list_any (q f) (r ∷ rs)) fs (λ f k. or_left (q f r) _ k) h)
    (turned_over q fs rs (any_less (λ f. list_any (q f) rs) (λ f. list_any (q f) (r ∷ rs)) fs (λ f k. or_right (q f r) _ k) h))

module _ (c : Catalogue) where
  none_lost : (it : Table) → has_orphan c it ≡ false → list_any (is_lost c it) it.rows ≡ false
  none_lost it h = any_less (is_lost c it) (λ r. list_any (λ f. lacks_parent c it.columns f r) it.foreign) it.rows
      (λ r k. any_less _ (λ f. lacks_parent c it.columns f r) it.foreign (λ f none. and_no_right f.cascade _ none) k) (turned_over (lacks_parent c it.columns) it.foreign it.rows h)

  stays : (it : Table) → has_orphan c it ≡ false → without_lost_in c it ≡ it
  stays it h = ap (λ rs. record it { rows = rs }) (filter_kept (λ r. not (is_lost c it r)) it.rows (any_less _ (is_lost c it) it.rows (λ r none. ap (λ b. not (not b)) none) (none_lost it h)))

  all_stay : has_orphans c ≡ false → without_lost c ≡ c
  all_stay h = ap (λ es. record c { tables = es })
      (map_kept (λ (e : Name × Table). (e.0, without_lost_in c e.1)) (λ (e : Name × Table). not (has_orphan c e.1)) c.tables (λ e k. ap (λ it. (e.0, it)) (stays e.1 (not_is (has_orphan c e.1) k))) (none_all (λ (e : Name × Table). has_orphan c e.1) c.tables h))

cascade_none : (n : ℕ) (c : Catalogue) → has_orphans c ≡ false → cascaded n c ≡ c
cascade_none zero c h = refl
cascade_none (suc n) c h = ap (cascaded n) (all_stay c h) ∙ cascade_none n c h

-- the test takes the rows of the identity

both : (a b c : Bool) → is_true (both_true (both_true (Some a) (Some b)) (Some c)) ≡ (c && (a && b))
both true true true = refl
both true true false = refl
both true false true = refl
both true false false = refl
both false b true = refl
both false b false = refl

names_of_and : (a b : Test) → test_names (And a b) ≡ test_names a ++ test_names b
unfolding Rattle.lq_model.specs.declared.test.Test.TheBlock.hidden-the_row-Test-0 denote.Hole.Carrier.hidden
names_of_and a b = refl

kinds_of_and : (cs : List Column) (a b : Test) → kinds_agree cs (And a b) ≡ (kinds_agree cs a && kinds_agree cs b)
unfolding Rattle.lq_model.specs.declared.test.Test.TheBlock.hidden-the_row-Test-0 denote.Hole.Carrier.hidden
kinds_of_and cs a b = refl

with_text : (text : List ℕ) → go_together Texts (sort_of_literal (literal.Text text)) ≡ true
with_text text = elim (is_ok (into_kind (literal.Text text) kind.Moment)) as (λ b. go_together Texts (cond b Dates Texts) ≡ true) [ true ↦ refl | false ↦ refl ]

module _ (of : Identity) where
  abbrev by_id : Test
  by_id = log_holds log.Id of.id

  abbrev by_author : Test
  by_author = log_holds log.Author of.author

  abbrev by_file : Test
  by_file = log_holds log.Filename of.file

  abbrev pub test : Option Test
  test = Some (row_test of)

  pub takes_it : (r : Tracked) → takes test log_columns (log_row r) ≡ is_of of r
  unfolding log_column log_order
  takes_it r =
      ap is_true (truth_of_and log_columns (log_row r) (And by_id by_author) by_file ∙ ap (λ o. both_true o (truth log_columns (log_row r) by_file)) (truth_of_and log_columns (log_row r) by_id by_author))
      ∙ both (is_named r.id of.id) (is_named r.author of.author) (is_named r.filename of.file)

  pub names_there : (next : ℕ) (rows : List (List Value)) → column_missing (log_at next rows) (names_in test) ≡ false
  unfolding log_column log_order
  names_there next rows = ap (column_missing (log_at next rows)) (names_of_and (And by_id by_author) by_file ∙ ap (λ ns. ns ++ test_names by_file) (names_of_and by_id by_author))

  pub compared : compares_wrongly log_columns test ≡ false
  unfolding log_column log_order
  compared = ap not (kinds_of_and log_columns (And by_id by_author) by_file
      ∙ and_true _ _ (kinds_of_and log_columns by_id by_author ∙ and_true _ _ (with_text of.id) (with_text of.author)) (with_text of.file))

  others_left : (rows : List Tracked) → filter (λ r. not (takes test log_columns r)) (log_rows rows) ≡ log_rows (others of rows)
  others_left [] = refl
  others_left (r ∷ rows) = ap (λ b. cond (not b) (log_row r ∷ filter (λ x. not (takes test log_columns x)) (log_rows rows)) (filter (λ x. not (takes test log_columns x)) (log_rows rows))) (takes_it r) ∙ at (is_of of r) (others_left rows) where
    at : (b : Bool) → filter (λ x. not (takes test log_columns x)) (log_rows rows) ≡ log_rows (others of rows) → cond (not b) (log_row r ∷ filter (λ x. not (takes test log_columns x)) (log_rows rows)) (filter (λ x. not (takes test log_columns x)) (log_rows rows)) ≡ log_rows (cond (not b) (r ∷ others of rows) (others of rows))
    at true more = more
    at false more = ap (λ vs. log_row r ∷ vs) more

  -- the rows of the identity are changed in their places
  abbrev pub changed : (Tracked → Tracked) → Tracked → Tracked
  changed f r = cond (is_of of r) (f r) r

  pub edited_rows : (sets : List (Name × Literal)) (f : Tracked → Tracked) → ((r : Tracked) → set_all sets log_columns (log_row r) ≡ log_row (f r)) → (rows : List Tracked) → map (λ r. cond (takes test log_columns r) (set_all sets log_columns r) r) (log_rows rows) ≡ log_rows (map (changed f) rows)
  edited_rows sets f is [] = refl
  edited_rows sets f is (r ∷ rows) = ap (λ vs. cond (takes test log_columns (log_row r)) (set_all sets log_columns (log_row r)) (log_row r) ∷ vs) (edited_rows sets f is rows)
      ∙ ap (λ v. v ∷ log_rows (map (changed f) rows)) (ap (λ b. cond b (set_all sets log_columns (log_row r)) (log_row r)) (takes_it r) ∙ one (is_of of r)) where
        one : (b : Bool) → cond b (set_all sets log_columns (log_row r)) (log_row r) ≡ log_row (cond b (f r) r)
        one true = is r
        one false = refl

-- without a test every row is changed in its place
every_row : (sets : List (Name × Literal)) (f : Tracked → Tracked) → ((r : Tracked) → set_all sets log_columns (log_row r) ≡ log_row (f r)) → (rows : List Tracked) → map (λ r. cond (takes None log_columns r) (set_all sets log_columns r) r) (log_rows rows) ≡ log_rows (map f rows)
every_row sets f is [] = refl
every_row sets f is (r ∷ rows) = ap (λ vs. set_all sets log_columns (log_row r) ∷ vs) (every_row sets f is rows) ∙ ap (λ v. v ∷ log_rows (map f rows)) (is r)

-- rows that keep their places
same_place : (f : Tracked → Tracked) → ((r : Tracked) → (f r).order ≡ r.order) → (r : Tracked) (rs : List Tracked) → placed (f r) (map f rs) ≡ map f (placed r rs)
same_place f same r [] = refl
same_place f same r (s ∷ rs) = ap (λ n. cond (nat_lt n (f s).order) (f r ∷ f s ∷ map f rs) (f s ∷ placed (f r) (map f rs))) (same r) ∙ ap (λ n. cond (nat_lt r.order n) (f r ∷ f s ∷ map f rs) (f s ∷ placed (f r) (map f rs))) (same s)
    ∙ elim (nat_lt r.order s.order) as (λ b. cond b (f r ∷ f s ∷ map f rs) (f s ∷ placed (f r) (map f rs)) ≡ map f (cond b (r ∷ s ∷ rs) (s ∷ placed r rs))) [
      | true ↦ refl
      | false ↦ ap (λ xs. f s ∷ xs) (same_place f same r rs)
    ]

map_ran : (f : Tracked → Tracked) → ((r : Tracked) → (f r).order ≡ r.order) → (rs : List Tracked) → in_run_order (map f rs) ≡ map f (in_run_order rs)
map_ran f same [] = refl
map_ran f same (r ∷ rs) = ap (placed (f r)) (map_ran f same rs) ∙ same_place f same r (in_run_order rs)

all_mapped : (f : Tracked → Tracked) → ((r : Tracked) → (f r).order ≡ r.order) → (rs : List Tracked) → list_all (λ r. nat_lt 0 r.order) rs ≡ true → list_all (λ r. nat_lt 0 r.order) (map f rs) ≡ true
all_mapped f same [] h = refl
all_mapped f same (r ∷ rs) h = and_true _ _ (ap (nat_lt 0) (same r) ∙ and_left (nat_lt 0 r.order) _ h) (all_mapped f same rs (and_right (nat_lt 0 r.order) _ h))

all_filtered : (p q : Tracked → Bool) (rs : List Tracked) → list_all p rs ≡ true → list_all p (filter q rs) ≡ true
all_filtered p q [] h = refl
all_filtered p q (r ∷ rs) h = elim (q r) as (λ b. list_all p (cond b (r ∷ filter q rs) (filter q rs)) ≡ true) [
  | true ↦ and_true _ _ (and_left (p r) _ h) (all_filtered p q rs (and_right (p r) _ h))
  | false ↦ all_filtered p q rs (and_right (p r) _ h)
]

map_length : (f : Tracked → Tracked) (rs : List Tracked) → length (map f rs) ≡ length rs
map_length f [] = refl
map_length f (r ∷ rs) = ap suc (map_length f rs)

filter_length : (p : Tracked → Bool) (rs : List Tracked) → length (filter p rs) ≤ length rs
filter_length p [] = omega arith
filter_length p (r ∷ rs) = elim (p r) as (λ b. length (cond b (r ∷ filter p rs) (filter p rs)) ≤ length (r ∷ rs)) [
  | true ↦ omega (arith, filter_length p rs)
  | false ↦ omega (arith, filter_length p rs)
]

still_few : (m n : ℕ) → m ≤ n → nat_le n 100000 ≡ true → nat_le m 100000 ≡ true
still_few m n less h = search (rules, tests)

swap_log : (d : Dialect) (it : Table) (o : Option Table) → list_all (λ (e : Name × Table). is_harmless d e.1) (both_there (Some it) o) ≡ true → (new : Table) → is_harmless d new ≡ true → list_all (λ (e : Name × Table). is_harmless d e.1) (both_there (Some new) o) ≡ true
swap_log d it o h new fine = and_true _ _ fine (and_right (is_harmless d it) _ h)

log_apart : is_named log_table lock_table ≡ false
unfolding lock_table log_table
log_apart = refl

module _ (d : Dialect) (c : Catalogue) (database : Database) (stands : StandsFor d c database) (has : database.has_log ≡ true) where
  abbrev pub log' : Option Table
  log' = table_of c log_table

  abbrev pub lock' : Option Table
  lock' = table_of c lock_table

  has_log_is : database.has_log ≡ is_some log'
  has_log_is = ap (λ (x : Database). x.has_log) (database_is d c database stands)

  pub record IsStored : Type 0 where
    pub next : ℕ
    pub stored : List Tracked
    pub there : log' ≡ Some (log_at next (log_rows stored))
    pub ran : in_run_order stored ≡ database.rows
    pub placed : list_all (λ r. nat_lt 0 r.order) stored ≡ true

  pub is_stored : IsStored
  is_stored = at log' refl where
    at : (o : Option Table) → log' ≡ o → IsStored
    at None is = true_false refl (sym has ∙ has_log_is ∙ ap is_some is)
    at (Some it) is =
        let made = log_made_so it database.rows (ap rows_from (sym is) ∙ rows_read d c database stands) in
        record { next = it.next; stored = made.0; there = is ∙ ap (λ x. Some x) made.1; ran = made.2; placed = made.3 }

  -- other rows in the table
  module _ (so : IsStored) (rows : List Tracked) (placed : list_all (λ r. nat_lt 0 r.order) rows ≡ true) (few : nat_le (length rows) 100000 ≡ true) where
    abbrev pub old : Table
    old = log_at so.next (log_rows so.stored)

    abbrev pub new : Table
    new = log_at so.next (log_rows rows)

    pub beside_old : IsBeside d (both_there (Some old) lock') c
    beside_old = subst (λ o. IsBeside d (both_there o lock') c) so.there (beside_of d c database stands)

    after_beside : IsBeside d (both_there (Some new) lock') (with_table c log_table new)
    after_beside = set_tracker d (both_there (Some old) lock') c beside_old log_table new log_tracker refl (Some new) lock'
        (lookup-set_value (is_named log_table) c.tables old new so.there) (lookup_other log_table lock_table new c.tables log_apart)
        (swap_log d old lock' beside_old.harmless new (log_harmless d so.next rows few))

    after_users : users (with_table c log_table new) ≡ users c
    after_users = set_users_same d (both_there (Some old) lock') c beside_old log_table new log_tracker refl

    pub after_settled : IsSettled (with_table c log_table new)
    after_settled = settled_beside d (both_there (Some new) lock') (with_table c log_table new) after_beside (subst (IsSound d) (sym after_users) (users_sound d c database stands))

    pub after_stands : StandsFor d (with_table c log_table new) (record database { rows = in_run_order rows })
    after_stands = subst (λ x. StandsFor d (with_table c log_table new) x)
        (ap (λ (o : Option Table). record (read_as d c database stands o lock' (in_run_order rows) database.lock) { has_log = true }) (sym so.there)
        ∙ ap (λ b. record (read_as d c database stands log' lock' (in_run_order rows) database.lock) { has_log = b }) (sym has ∙ has_log_is) ∙ ap (λ (x : Database). record x { rows = in_run_order rows }) (sym (database_is d c database stands)))
        (stands_with d c database stands (with_table c log_table new) (Some new) lock' (in_run_order rows) database.lock after_beside after_users (read_back so.next rows placed) (lock_read d c database stands) (ap (λ n. nat_le n 100000) (as_many rows) ∙ few))

  pub few_stored : (so : IsStored) → nat_le (length so.stored) 100000 ≡ true
  few_stored so = ap (λ n. nat_le n 100000) (sym (as_many so.stored) ∙ ap (λ (rs : List Tracked). length rs) so.ran) ∙ stands.few

  -- DELETE
  module _ (of : Identity) (so : IsStored) where
    abbrev left : List Tracked
    left = others of so.stored

    left_placed : list_all (λ r. nat_lt 0 r.order) left ≡ true
    left_placed = all_filtered (λ r. nat_lt 0 r.order) (λ r. not (is_of of r)) so.stored so.placed

    left_few : nat_le (length left) 100000 ≡ true
    left_few = still_few (length left) (length so.stored) (filter_length (λ r. not (is_of of r)) so.stored) (few_stored so)

    delete_plan : Plan
    delete_plan = delete Program d log_table (Some (row_test of)) c

    log_is : the_table c log_table ≡ log_at so.next (log_rows so.stored)
    log_is = ap (λ o. unwrap_or o no_table) so.there

    delete_result : delete_plan.result ≡ with_table c log_table (log_at so.next (log_rows left))
    unfolding delete_plan
    delete_result =
        ap (λ (it : Table). cascaded (row_count c) (with_table c log_table (without_taken (Some (row_test of)) it))) log_is
        ∙ ap (λ vs. cascaded (row_count c) (with_table c log_table (log_at so.next vs))) (others_left of so.stored)
        ∙ cascade_none (row_count c) (with_table c log_table (log_at so.next (log_rows left))) (after_settled so left left_placed left_few).parents

    delete_free : IsFree delete_plan
    unfolding delete_plan
    delete_free = record {
      reserved = refl;
      missing = or_false _ _ (ap is_none so.there) (ap (λ (it : Table). column_missing it (names_in (Some (row_test of)))) log_is ∙ names_there of so.next (log_rows so.stored));
      exists = refl;
      depends = refl;
      wrong = ap (λ (it : Table). compares_wrongly it.columns (Some (row_test of))) log_is ∙ compared of;
      wide = refl;
    }

    delete_run : step Program d (row_deleted of) c ≡ Ok (with_table c log_table (log_at so.next (log_rows left)), delete_plan.count)
    unfolding delete_plan
    delete_run = settles delete_plan (subst IsSettled (sym delete_result) (after_settled so left left_placed left_few)) delete_free ∙ ap (λ e. Ok (e, delete_plan.count)) delete_result

    delete_told : Agrees d (done d (Rows (Deleted of)) database) (step Program d (row_deleted of) c)
    delete_told = subst (Agrees d (Ok (record database { rows = others of database.rows }))) (sym delete_run)
        (subst (λ rs. StandsFor d (with_table c log_table (log_at so.next (log_rows left))) (record database { rows = rs })) (filter_ran (λ r. not (is_of of r)) so.stored ∙ ap (others of) so.ran) (after_stands so left left_placed left_few))

  pub deleted_told : (of : Identity) → Agrees d (done d (Rows (Deleted of)) database) (step Program d (row_deleted of) c)
  deleted_told of = delete_told of is_stored

  -- UPDATE of rows that keep their places
  module _ (sets : List (Name × Literal)) (test : Option Test) (f : Tracked → Tracked) (keeps : (r : Tracked) → (f r).order ≡ r.order) (so : IsStored)
      (edits : Edits sets test (log_at so.next (log_rows so.stored)) (log_at so.next (log_rows (map f so.stored)))) where
    edits_told : Agrees d (Ok (record database { rows = map f database.rows })) (step Program d (Update log_table sets test) c)
    edits_told =
        let rows = map f so.stored in
        let fine = all_mapped f keeps so.stored so.placed in
        let few : nat_le (length rows) 100000 ≡ true = ap (λ n. nat_le n 100000) (map_length f so.stored) ∙ few_stored so in
        let ran = updates d c log_table (log_at so.next (log_rows so.stored)) (log_at so.next (log_rows rows)) so.there (after_settled so rows fine few) sets test edits in
        subst (Agrees d (Ok (record database { rows = map f database.rows }))) (sym ran.1)
        (subst (λ rs. StandsFor d (with_table c log_table (log_at so.next (log_rows rows))) (record database { rows = rs })) (map_ran f keeps so.stored ∙ ap (map f) so.ran) (after_stands so rows fine few))

  -- UPDATE of a text in its column, in the rows of the identity
  module _ (of : Identity) (sets : List (Name × Literal)) (f : Tracked → Tracked) (keeps : (r : Tracked) → (f r).order ≡ r.order) (so : IsStored)
      (edits : Edits sets (Some (row_test of)) (log_at so.next (log_rows so.stored)) (log_at so.next (log_rows (map (changed of f) so.stored)))) where
    keeps_place : (r : Tracked) → (changed of f r).order ≡ r.order
    keeps_place r = elim (is_of of r) as (λ b. (let x : Tracked = cond b (f r) r in x).order ≡ r.order) [ true ↦ keeps r | false ↦ refl ]

    set_told : Agrees d (Ok (record database { rows = map (changed of f) database.rows })) (step Program d (Update log_table sets (Some (row_test of))) c)
    set_told = edits_told sets (Some (row_test of)) (changed of f) keeps_place so edits

  tag_edits : (of : Identity) (tag : List ℕ) → into_kind (literal.Text tag) (kind.Varchar 255) ≡ Ok (value.Text tag) → (so : IsStored) → Edits ((log_name log.Tag, literal.Text tag) ∷ []) (Some (row_test of)) (log_at so.next (log_rows so.stored)) (log_at so.next (log_rows (map (changed of (λ r. record r { tag = Some tag })) so.stored)))
  unfolding log_column log_order
  tag_edits of tag goes so = record {
    is = ap (log_at so.next) (edited_rows of ((log_name log.Tag, literal.Text tag) ∷ []) (λ r. record r { tag = Some tag }) (λ r. rw (goes) refl) so.stored);
    missing = or_false _ _ refl (names_there of so.next (log_rows so.stored));
    exists = refl;
    wrong = or_false _ _ (rw (goes) refl) (compared of);
    wide = rw (goes) refl;
  }

  sum_edits : (of : Identity) (sum : List ℕ) → into_kind (literal.Text sum) (kind.Varchar 35) ≡ Ok (value.Text sum) → (so : IsStored) → Edits ((log_name log.Md5Sum, literal.Text sum) ∷ []) (Some (row_test of)) (log_at so.next (log_rows so.stored)) (log_at so.next (log_rows (map (changed of (λ r. record r { md5sum = Some sum })) so.stored)))
  unfolding log_column log_order
  sum_edits of sum goes so = record {
    is = ap (log_at so.next) (edited_rows of ((log_name log.Md5Sum, literal.Text sum) ∷ []) (λ r. record r { md5sum = Some sum }) (λ r. rw (goes) refl) so.stored);
    missing = or_false _ _ refl (names_there of so.next (log_rows so.stored));
    exists = refl;
    wrong = or_false _ _ (rw (goes) refl) (compared of);
    wide = rw (goes) refl;
  }

  pub tagged_told : (of : Identity) (tag : List ℕ) → fits_rows (Tagged of tag) database.rows ≡ true → Agrees d (done d (Rows (Tagged of tag)) database) (step Program d (tag_set of tag) c)
  tagged_told of tag fit = set_told of ((log_name log.Tag, literal.Text tag) ∷ []) (λ r. record r { tag = Some tag }) (λ r. refl) is_stored (tag_edits of tag (text_goes tag 255 fit) is_stored)

  pub filled_told : (of : Identity) (sum : List ℕ) → fits_rows (Filled of sum) database.rows ≡ true → Agrees d (done d (Rows (Filled of sum)) database) (step Program d (sum_filled of sum) c)
  filled_told of sum fit = set_told of ((log_name log.Md5Sum, literal.Text sum) ∷ []) (λ r. record r { md5sum = Some sum }) (λ r. refl) is_stored (sum_edits of sum (text_goes sum 35 fit) is_stored)

  sums_edits : (so : IsStored) → Edits ((log_name log.Md5Sum, literal.Null) ∷ []) None (log_at so.next (log_rows so.stored)) (log_at so.next (log_rows (map without_sum so.stored)))
  unfolding log_column log_order into_kind
  sums_edits so = record {
    is = ap (log_at so.next) (every_row ((log_name log.Md5Sum, literal.Null) ∷ []) without_sum (λ r. refl) so.stored);
    missing = refl;
    exists = refl;
    wrong = refl;
    wide = refl;
  }

  pub cleared_told : Agrees d (done d (Rows Cleared) database) (step Program d sums_cleared c)
  cleared_told = edits_told ((log_name log.Md5Sum, literal.Null) ∷ []) None without_sum (λ r. refl) is_stored (sums_edits is_stored)
