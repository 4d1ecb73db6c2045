-- The scripts of commands as turns of their sources.
use Rattle.std.proofs.Common.{ap, refl, sym, ◌∙◌}
use Rattle.std.specs.List.{All, list_all, list_any}
use Rattle.std.specs.Prelude.{Bool, List, None, Ok, Option, Some, [], false, if◌then◌else◌, is_some, not, option_map, suc, true, ℕ, ◌&&◌, ◌++◌, ◌||◌, ◌∷◌, ◌≡◌, ◌≢◌, ◌≤◌}
use Rattle.lq_base.specs.declared.command.Target.{Target}
use Rattle.lq_base.specs.declared.dialect.Dialect.{Dialect}
use Rattle.lq_base.specs.declared.run.OnFail.TheVariants.{Continue}
use Rattle.lq_base.specs.declared.tracking.Tracked.{Tracked}
use Rattle.lq_beside.proofs.OtherFits.{rollback_fits, sync_fits}
use Rattle.lq_beside.proofs.UpdateFits.{update_fits}
use Rattle.lq_beside.specs.Replays.{HasTexts, is_deleted, is_return, calls_fit}
use Rattle.lq_any.specs.AnyChangeLaws.{does, restores, spelled}
use Rattle.lq_kinds.specs.ReadFor.{AreFor}
use Rattle.lq_any.specs.declared.any_change.AnyChange.{AnyChange}
use Rattle.lq_model.proofs.Lists.{and_left, and_right, and_true}
use Rattle.lq_model.specs.Sound.{IsSound}
use Rattle.lq_model.specs.Step.{is_statement}
use Rattle.lq_plan.specs.Told.{item_at, work_from}
use Rattle.lq_plan.specs.declared.turns.Item.{Item}
use Rattle.lq_commands.proofs.ViewsRead.{views_are_read}
use Rattle.lq_back.specs.Reversal.{goes_back, is_deletion, sync_calls}
use Rattle.lq_seen.specs.View.{any_meaning}
use Rattle.lq_track.specs.Database.{Database, has_twin_rows}
use Rattle.lq_turns.specs.Deed.{contents_of}
use Rattle.lq_turns.specs.Rest.{OfRows, OfSets}
use Rattle.lq_turns.specs.Script.{rollback_of, rows_kept, rows_undone, undo_turns, has_work, rows_to_sync, sync_of, update_calls, with_lock}
use Rattle.lq_turns.specs.Session.{session_on}
use Rattle.lq_turns.specs.Set.{Changelog, Condition, IsKept as Keeps, Set}
use Rattle.lq_turns.specs.Settle.{is_halt, own_choice, what}
use Rattle.lq_turns.specs.Turn.{made}
use Rattle.lq_turns.specs.declared.call.Call.{Call}
use Rattle.lq_turns.specs.declared.choice.What.{What}
use Rattle.lq_turns.specs.declared.deed.OnRows.{OnRows}
use Rattle.lq_turns.specs.declared.deed.OnRows.TheVariants.{Cleared, Deleted, Filled, Inserted, Renewed, Tagged}
use Rattle.lq_turns.specs.declared.stamp.Stamp.{Stamp}
use Rattle.lq_turns.specs.declared.turn.Turn.{Turn}
use Rattle.lq_commands.specs.Scripts.{log_in, rollback_script, rollback_to, sets_in, sets_script, sync_script, taking_back, update_script, turns_script}
use Rattle.lq_commands.specs.declared.given.Given.{Given}

pub kept : Keeps any_meaning
kept = record { spelled = spelled; does = does; restores = restores }

not_none : (item : Item) (items : List Item) → item ∷ items ≡ [] → ⊥
not_none item items h = Prim.cc

true_is : true ≡ false → ⊥
true_is h = Prim.cc

-- changesets without a turn

module _ (rows : List Tracked) where
  abbrev has_turn : Set AnyChange → Bool
  has_turn x = is_some (what x rows)

  no_turn : (n : ℕ) (w : Option What) (more : List Item) → item_at n w ++ more ≡ [] → (is_some w ≡ false) × (more ≡ [])
  no_turn n None more is = (refl, is)
  no_turn n (Some w) more is = absurd (not_none _ more is)

  pub no_work : (n : ℕ) (xs : List (Set AnyChange)) → work_from n xs rows ≡ [] → has_work xs rows ≡ false
  no_work n [] is = refl
  no_work n (x ∷ xs) is =
      let none = no_turn n (what x rows) (work_from (suc n) xs rows) is in
      ap (λ b. b || list_any has_turn xs) none.0 ∙ no_work (suc n) xs none.1

  some_turn : (n : ℕ) (w : Option What) (more : List Item) → (item_at n w ++ more ≡ [] → ⊥) → is_some w ≡ false → more ≡ [] → ⊥
  some_turn n None more some none is = some is
  some_turn n (Some w) more some none is = absurd (true_is none)

  pub some_work : (n : ℕ) (xs : List (Set AnyChange)) → (work_from n xs rows ≡ [] → ⊥) → has_work xs rows ≡ true
  some_work n [] some = absurd (some refl)
  some_work n (x ∷ xs) some = by (is_some (what x rows)) refl (λ none. some_work (suc n) xs (some_turn n (what x rows) (work_from (suc n) xs rows) some none)) where
    by : (b : Bool) → is_some (what x rows) ≡ b → (is_some (what x rows) ≡ false → list_any has_turn xs ≡ true) → (is_some (what x rows) || list_any has_turn xs) ≡ true
    by true is later = ap (λ b. b || list_any has_turn xs) is
    by false is later = ap (λ b. b || list_any has_turn xs) is ∙ later is

-- an update

module _ (given : Given) (database : Database) where
  abbrev d : Dialect
  d = given.options.dialect

  abbrev halts : Bool
  halts = is_halt (own_choice (log_in given) (contents_of database))

  abbrev in_turns : List Call
  in_turns = turns_script d any_meaning given.stamp (OfSets (sets_in given)) database

  pub no_sets : has_work (sets_in given) database.rows ≡ false → sets_script given database ≡ []
  no_sets none = ap (λ b. if b then in_turns else []) none

  pub sets_are : has_work (sets_in given) database.rows ≡ true → sets_script given database ≡ in_turns
  sets_are some = ap (λ b. if b then in_turns else []) some

  -- where the changelog's own condition is passed
  pub passed_script : halts ≡ false → sets_script given database ≡ update_script given database
  passed_script goes = by (has_work (sets_in given) database.rows) where
    by : (b : Bool) → (if b then in_turns else []) ≡ (if b && not halts then in_turns else [])
    by true = sym (ap (λ h. if not h then in_turns else []) goes)
    by false = refl

  -- the same changesets without a condition of their changelog
  abbrev passing : Condition
  passing = record { told = λ c. Ok true; on_fail = Continue; on_error = Continue }

  abbrev pub bare : Changelog AnyChange
  bare = record (log_in given) { condition = passing }

  pub sets_bare : sets_script given database ≡ update_calls d any_meaning given.stamp bare database
  sets_bare = by (has_work (sets_in given) database.rows) where
    by : (b : Bool) → (if b then in_turns else []) ≡ (if b && true then in_turns else [])
    by true = refl
    by false = refl

  pub sets_fit : IsSound d database.users → has_twin_rows database.rows ≡ false → given.stamp.reading ≤ 253402300799999 → AreFor d given.changelog → All HasTexts (sets_in given)
      → calls_fit d (sets_script given database) (session_on database) ≡ true
  sets_fit sound differ time read texts =
      ap (λ calls. calls_fit d calls (session_on database)) sets_bare
      ∙ update_fits any_meaning kept d given.stamp bare database sound differ time (views_are_read d given.options given.changelog read) texts

  pub update_may : IsSound d database.users → has_twin_rows database.rows ≡ false → given.stamp.reading ≤ 253402300799999 → AreFor d given.changelog → All HasTexts (sets_in given)
      → has_work (sets_in given) database.rows ≡ true → calls_fit d in_turns (session_on database) ≡ true
  update_may sound differ time read texts some = ap (λ calls. calls_fit d calls (session_on database)) (sym (sets_are some)) ∙ sets_fit sound differ time read texts

-- a rollback

module _ (d : Dialect) (stamp : Stamp) (database : Database) where
  pub rollback_is : (turns : List Turn) → turns ≢ [] → rollback_of d stamp turns database ≡ turns_script d any_meaning stamp (OfRows turns) database
  rollback_is [] some = absurd (some refl)
  rollback_is (turn ∷ turns) some = refl

deleted_too : (w : OnRows) → is_deletion w ≡ true → is_deleted w ≡ true
deleted_too (Deleted of) is = refl
deleted_too (Inserted row) is = is
deleted_too (Renewed row) is = is
deleted_too (Filled of sum) is = is
deleted_too (Tagged of tag) is = is
deleted_too Cleared is = is

pub return_too : (d : Dialect) (turns : List Turn) → list_all (goes_back d) turns ≡ true → list_all (is_return d) turns ≡ true
return_too d [] all = refl
return_too d (turn ∷ turns) all =
    let one = and_left (goes_back d turn) (list_all (goes_back d) turns) all in
    and_true (is_return d turn) _
    (and_true (list_all (is_statement d) turn.statements) _ (and_right (is_deletion turn.row) _ one) (deleted_too turn.row (and_left (is_deletion turn.row) _ one)))
    (return_too d turns (and_right (goes_back d turn) _ all))

pub rollback_may : (d : Dialect) (stamp : Stamp) (turns : List Turn) (database : Database) → stamp.reading ≤ 253402300799999 → list_all (goes_back d) turns ≡ true → turns ≢ []
    → calls_fit d (turns_script d any_meaning stamp (OfRows turns) database) (session_on database) ≡ true
rollback_may d stamp turns database time back some =
    ap (λ calls. calls_fit d calls (session_on database)) (sym (rollback_is d stamp database turns some)) ∙ rollback_fits d stamp turns database time (return_too d turns back)

none_some : {b : List Tracked} → (let o : Option (List Tracked) = None in o) ≡ Some b → ⊥
none_some h = Prim.cc

some_is : {a b : List Tracked} → (let o : Option (List Tracked) = Some a in o) ≡ Some b → a ≡ b
some_is h = Prim.cc

-- by the turns that take the rows back
pub taken_back : (given : Given) (undone : List Tracked) (turns : List Turn) (database : Database) → undo_turns given.options.dialect any_meaning (sets_in given) undone ≡ Some turns
    → taking_back given undone database ≡ rollback_of given.options.dialect given.stamp turns database
taken_back given undone turns database is = ap (λ o. elim o [ Some ts ↦ rollback_of given.options.dialect given.stamp ts database | None ↦ [] ]) is

-- to the rows that stay
pub goes_to : (given : Given) (target : Target) (database : Database) (undone : List Tracked) → option_map (λ stay. rows_undone stay database.rows) (rows_kept target database.rows) ≡ Some undone
    → rollback_script given target database ≡ taking_back given undone database
goes_to given target database undone is = by (rows_kept target database.rows) is where
  by : (o : Option ℕ) → option_map (λ stay. rows_undone stay database.rows) o ≡ Some undone → rollback_to given o database ≡ taking_back given undone database
  by None is = absurd (none_some is)
  by (Some stay) is = ap (λ rows. taking_back given rows database) (some_is is)

-- a changelog-sync

module _ (given : Given) (database : Database) where
  pub sync_is : rows_to_sync given.stamp.reading (sets_in given) database.rows ≢ []
      → sync_script given database ≡ with_lock given.stamp database (made given.options.dialect (sync_calls (rows_to_sync given.stamp.reading (sets_in given) database.rows)) (contents_of database))
  sync_is some = by (rows_to_sync given.stamp.reading (sets_in given) database.rows) some where
    by : (rows : List Tracked) → rows ≢ [] → sync_of given.options.dialect given.stamp rows database ≡ with_lock given.stamp database (made given.options.dialect (sync_calls rows) (contents_of database))
    by [] some = absurd (some refl)
    by (row ∷ rows) some = refl

  pub no_sync : rows_to_sync given.stamp.reading (sets_in given) database.rows ≡ [] → sync_script given database ≡ []
  no_sync none = ap (λ rows. sync_of given.options.dialect given.stamp rows database) none

  pub sync_may : given.stamp.reading ≤ 253402300799999 → All HasTexts (sets_in given) → calls_fit given.options.dialect (sync_script given database) (session_on database) ≡ true
  sync_may time texts = sync_fits AnyChange given.options.dialect given.stamp (log_in given) database time texts
