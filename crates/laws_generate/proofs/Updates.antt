-- An update with a generated changelog of a database without objects and rows: each changeset runs, and the last leaves the catalogue without its rows.
use Rattle.std.proofs.Common.{arith, ap, refl, tests, ◌∙◌, ◌<◌}
use Rattle.std.specs.List.{AllByRecursion, flat_map}
use Rattle.std.specs.Prelude.{Bool, Err, List, None, Ok, Option, Result, Some, [], codes, false, if◌then◌else◌, length, map, max, nat_le, nat_lt, true, ℕ, ◌&&◌, ◌+◌, ◌++◌, ◌∷◌, ◌≡◌, ◌≤◌}
use Rattle.std.proofs.lemmas.Bool.Decides.{nat_tests}
use Rattle.lq_base.specs.Name.{is_named}
use Rattle.lq_base.specs.declared.dialect.Dialect.{Dialect}
use Rattle.lq_base.specs.declared.identity.Identity.{Identity}
use Rattle.lq_base.specs.declared.reason.Reason.{Reason}
use Rattle.lq_base.specs.declared.reason.Reason.TheVariants.{TooManyRows, TooWide}
use Rattle.lq_base.specs.declared.run.Did.TheVariants as did
use Rattle.lq_base.specs.declared.tracking.Exec.TheVariants as exec
use Rattle.lq_base.specs.declared.tracking.Tracked.{Tracked}
use Rattle.lq_expr.specs.declared.options.Options.{Options}
use Rattle.lq_any.specs.declared.any_change.AnyChange.{AnyChange}
use Rattle.lq_kinds.specs.declared.change_set.ChangeSet.{ChangeSet}
use Rattle.lq_model.proofs.Lists.{and_no_right, other_way}
use Rattle.lq_model.specs.Catalogue.{Catalogue, no_objects}
use Rattle.lq_seen.specs.View.{any_meaning, view, view_log, views}
use Rattle.lq_track.specs.Database.{same_identity}
use Rattle.lq_track.specs.Log.{identity_of}
use Rattle.lq_tree.specs.Items.{is_empty}
use Rattle.lq_turns.proofs.RowsFound.{inserted_apart}
use Rattle.lq_turns.specs.Deed.{Contents, rows_after}
use Rattle.lq_turns.specs.Set.{Set, row_at}
use Rattle.lq_turns.specs.Settle.{Settled, all_settled, by_own, greatest, happens, own_choice, row_for, settle, tested, unless_stopped, updated}
use Rattle.lq_turns.specs.declared.choice.Choice.{Choice}
use Rattle.lq_turns.specs.declared.choice.Choice.TheVariants.{Runs}
use Rattle.lq_turns.specs.declared.choice.What.TheVariants.{New}
use Rattle.lq_turns.specs.declared.deed.OnRows.TheVariants.{Inserted}
use Rattle.laws_made.specs.CreatedAs.{of_aims, of_filling, of_sequence, of_table, of_view}
use Rattle.laws_generate.proofs.Settled.{nothing_asked, set_settles}
use Rattle.laws_generate.specs.Again.{SetsRun, UpdatesNew, new_database, change_sets, five_changes, generated_changelog, generated_set, without_rows}

abbrev Named : Type 0
Named = List ℕ × List AnyChange

-- a row behind others has the next place

greatest_behind : (rows : List Tracked) (row : Tracked) → greatest (rows ++ row ∷ []) ≡ max (greatest rows) row.order
greatest_behind [] row = omega arith
greatest_behind (r ∷ rows) row = ap (max r.order) (greatest_behind rows row) ∙ omega arith

greatest_after : (rows : List Tracked) (row : Tracked) → row.order ≡ greatest rows + 1 → greatest (rows ++ row ∷ []) ≡ greatest rows + 1
greatest_after rows row place = greatest_behind rows row ∙ omega (arith, place)

longer : {A : Type 0} (xs : List A) (x : A) → length (xs ++ x ∷ []) ≡ length xs + 1
longer [] x = refl
longer (y ∷ xs) x = let rest = longer xs x in omega arith

-- of each two changesets the ids differ
abbrev AreApart : List Named → Type 0
AreApart [] = Unit {0}
AreApart (s ∷ ss) = AllByRecursion (λ (t : Named). is_named s.0 t.0 ≡ false) ss × AreApart ss

module _ (options : Options) (reading : ℕ) (path author : List ℕ) where
  abbrev d : Dialect
  d = options.dialect

  abbrev one_of : Named → Identity
  one_of s = record { file = path; id = s.0; author = author }

  -- none of the rows is of one of them
  abbrev AreNew : List Named → List Tracked → Type 0
  AreNew [] rows = Unit {0}
  AreNew (s ∷ ss) rows = (row_at (one_of s) rows ≡ None) × AreNew ss rows

  others_apart : (s t : Named) → is_named s.0 t.0 ≡ false → same_identity (one_of s) (one_of t) ≡ false
  others_apart s t apart = and_no_right (is_named path path) (is_named s.0 t.0 && is_named author author) (ap (λ b. b && is_named author author) apart)

  still_new : (s : Named) (ss : List Named) (rows : List Tracked) (row : Tracked) → identity_of row ≡ one_of s
      → AllByRecursion (λ (t : Named). is_named s.0 t.0 ≡ false) ss → AreNew ss rows → AreNew ss (rows ++ row ∷ [])
  still_new s [] rows row is apart new = tt
  still_new s (t ∷ ss) rows row is apart new =
      (inserted_apart (one_of t) (one_of s) (others_apart t s (other_way s.0 t.0 apart.0)) rows row (ap (λ o. same_identity o (one_of t)) is ∙ others_apart s t apart.0) ∙ new.0, still_new s ss rows row is apart.1 new.1)

  abbrev all : List ChangeSet → Contents → Settled
  all xs c = all_settled d any_meaning reading (views options xs) c

  record RunsTo (xs : List ChangeSet) (c : Contents) (g : Catalogue) : Type 0 where
    users : (all xs c).contents.users ≡ g
    happened : (all xs c).happened ≡ map (λ (x : Set AnyChange). happens x did.Ran) (views options xs)
    warned : (all xs c).warned ≡ []
    fresh : (all xs c).not_fresh ≡ 0
    stop : (all xs c).stop ≡ None

  -- one changeset at its turn
  module _ (s : Named) (c : Contents) (m : Catalogue) (new : row_at (one_of s) c.rows ≡ None)
      (place : greatest c.rows + 1 ≤ 2147483647) (few : length c.rows < 100000) where
    abbrev x : Set AnyChange
    x = view options (generated_set path s.0 author s.1)

    abbrev row : Tracked
    row = row_for reading (greatest c.rows + 1) exec.Executed x

    abbrev now : Contents
    now = record { users = m; rows = c.rows ++ row ∷ [] }

    has_room : (nat_le (greatest c.rows + 1) 2147483647 ≡ true) × (nat_lt (length c.rows) 100000 ≡ true)
    has_room = (grind (arith, tests, nat_tests, place), grind (arith, tests, nat_tests, few))

    added : rows_after (Inserted row) c.rows ≡ Ok (c.rows ++ row ∷ [])
    added =
        ap (λ b. let r : Result (List Tracked) Reason = if b then (if nat_lt (length c.rows) 100000 then Ok (c.rows ++ row ∷ []) else Err TooManyRows) else Err TooWide in r) has_room.0
        ∙ ap (λ b. let r : Result (List Tracked) Reason = if b then Ok (c.rows ++ row ∷ []) else Err TooManyRows in r) has_room.1

    abbrev turn : Settled
    turn = record { contents = now; happened = happens x did.Ran ∷ []; warned = []; not_fresh = 0; stop = None }

    then_others : (xs : List ChangeSet) (g : Catalogue) → settle d any_meaning reading x c ≡ turn → RunsTo xs now g → RunsTo (generated_set path s.0 author s.1 ∷ xs) c g
    then_others xs g settles more =
        let whole : all (generated_set path s.0 author s.1 ∷ xs) c ≡ unless_stopped turn (all xs) = ap (λ t. unless_stopped t (all xs)) settles in
        record {
          users = ap (λ (t : Settled). t.contents.users) whole ∙ more.users;
          happened = ap (λ (t : Settled). t.happened) whole ∙ ap (λ hs. happens x did.Ran ∷ hs) more.happened;
          warned = ap (λ (t : Settled). t.warned) whole ∙ more.warned;
          fresh = ap (λ (t : Settled). t.not_fresh) whole ∙ none_more (all xs now).not_fresh more.fresh;
          stop = ap (λ (t : Settled). t.stop) whole ∙ more.stop;
        } where
          none_more : (n : ℕ) → n ≡ 0 → 0 + n ≡ 0
          none_more n h = omega (arith, h)

  all_run : (ss : List Named) (c : Contents) (g : Catalogue) → SetsRun d (change_sets path author ss) c.users g → AreNew ss c.rows → AreApart ss
      → greatest c.rows + length ss ≤ 2147483647 → length c.rows + length ss ≤ 100000 → RunsTo (change_sets path author ss) c g
  all_run [] c g run new apart places few = record { users = run; happened = refl; warned = refl; fresh = refl; stop = refl }
  all_run (s ∷ ss) c g run new apart places few = by (is_empty s.1) (λ c g run new places few. all_run ss c g run new apart.1 places few) run where
    ran : ((c : Contents) (g : Catalogue) → SetsRun d (change_sets path author ss) c.users g → AreNew ss c.rows → greatest c.rows + length ss ≤ 2147483647 → length c.rows + length ss ≤ 100000 → RunsTo (change_sets path author ss) c g)
        → SetsRun d (generated_set path s.0 author s.1 ∷ change_sets path author ss) c.users g → RunsTo (generated_set path s.0 author s.1 ∷ change_sets path author ss) c g
    ran rest steps =
        let place : greatest c.rows + 1 ≤ 2147483647 = omega (arith, places) in
        let room : length c.rows < 100000 = omega (arith, few) in
        let m = steps.0 in
        let added_row = row s c m new.0 place room in
        let last = greatest_after c.rows added_row refl in
        let long = longer c.rows added_row in
        then_others s c m new.0 place room (change_sets path author ss) g
        (set_settles d options reading path s.0 author s.1 c m (c.rows ++ added_row ∷ []) new.0 steps.1.0 steps.1.1.0 (added s c m new.0 place room))
        (rest (now s c m new.0 place room) g steps.1.1.1 (still_new s ss c.rows added_row refl apart.0 new.1) (omega (arith, last, places)) (omega (arith, long, few)))

    by : (b : Bool)
        → ((c : Contents) (g : Catalogue) → SetsRun d (change_sets path author ss) c.users g → AreNew ss c.rows → greatest c.rows + length ss ≤ 2147483647 → length c.rows + length ss ≤ 100000 → RunsTo (change_sets path author ss) c g)
        → SetsRun d (if b then change_sets path author ss else generated_set path s.0 author s.1 ∷ change_sets path author ss) c.users g
        → RunsTo (if b then change_sets path author ss else generated_set path s.0 author s.1 ∷ change_sets path author ss) c g
    by true rest steps = rest c g steps new.1 (omega (arith, places)) (omega (arith, few))
    by false rest steps = ran rest steps

  ids_apart : (a b c e f : List AnyChange) → AreApart ((codes "1", a) ∷ (codes "2", b) ∷ (codes "3", c) ∷ (codes "4", e) ∷ (codes "5", f) ∷ [])
  ids_apart a b c e f = ((refl, (refl, (refl, (refl, tt)))), ((refl, (refl, (refl, tt))), ((refl, (refl, tt)), ((refl, tt), (tt, tt)))))

  five_run : (c g : Catalogue) → SetsRun d (change_sets path author (five_changes d c)) no_objects g → RunsTo (change_sets path author (five_changes d c)) new_database g
  five_run c g run = all_run (five_changes d c) new_database g run (refl, (refl, (refl, (refl, (refl, tt))))) (ids_apart (map of_sequence c.sequences) (map (of_table d) c.tables) (flat_map (of_filling d) c.tables) (flat_map of_aims c.tables) (map (of_view d) c.views))
      (omega arith) (omega arith)

  -- the changelog's own condition asks nothing
  not_halted : (c : Catalogue) → updated d any_meaning reading (view_log options (generated_changelog d path author c)) new_database ≡ all (generated_changelog d path author c).sets new_database
  not_halted c = ap (λ (choice : Choice). by_own choice new_database (all (generated_changelog d path author c).sets new_database)) (own c) where
    own : (c : Catalogue) → own_choice (view_log options (generated_changelog d path author c)) new_database ≡ Runs New None
    own c = ap (tested New (view_log options (generated_changelog d path author c)).condition) (nothing_asked d no_objects [])

  pub updates_new : (c : Catalogue) → SetsRun d (generated_changelog d path author c).sets no_objects (without_rows c) → UpdatesNew options reading (generated_changelog d path author c) c
  updates_new c run =
      let ran = five_run c (without_rows c) run in
      let is = not_halted c in
      record {
        users = ap (λ (t : Settled). t.contents.users) is ∙ ran.users;
        happened = ap (λ (t : Settled). t.happened) is ∙ ran.happened;
        warned = ap (λ (t : Settled). t.warned) is ∙ ran.warned;
        fresh = ap (λ (t : Settled). t.not_fresh) is ∙ ran.fresh;
        stop = ap (λ (t : Settled). t.stop) is ∙ ran.stop;
      }
