-- A user's deed is told by its statement.
use Rattle.std.proofs.Common.{ap, subst, sym, ◌∙◌}
use Rattle.std.specs.List.{list_any}
use Rattle.std.specs.Map.{lookup}
use Rattle.std.specs.Prelude.{Bool, Err, Ok, Option, Result, false, option_map, refl, true, ℕ, ◌||◌, ◌≡◌}
use Rattle.lq_base.specs.Name.{is_named}
use Rattle.lq_base.specs.declared.dialect.Dialect.{Dialect}
use Rattle.lq_base.specs.declared.name.Name.{Name}
use Rattle.lq_base.specs.declared.reason.Reason.{Reason}
use Rattle.lq_model.proofs.KeepsSound.{statement_keeps}
use Rattle.lq_model.proofs.Maps.{sorted_keys}
use Rattle.lq_model.specs.Catalogue.{Catalogue, Table, table_of}
use Rattle.lq_model.specs.NameSpaces.{is_taken}
use Rattle.lq_model.specs.Sound.{IsSound}
use Rattle.lq_model.specs.Step.{is_statement, step}
use Rattle.lq_model.specs.declared.caller.By.TheVariants.{User}
use Rattle.lq_model.specs.declared.statement.Statement.{Statement}
use Rattle.lq_track.specs.Database.{Database, users_of}
use Rattle.lq_track.specs.Lock.{lock_table}
use Rattle.lq_track.specs.Log.{log_table}
use Rattle.lq_turns.specs.Deed.{contents_of, with_contents, done, if_accepted, locked_after}
use Rattle.lq_turns.specs.declared.deed.Deed.TheVariants.{Users}
use Rattle.lq_turns.specs.Schedule.{Agrees, StandsFor, own_names}
use Rattle.lq_beside.specs.Beside.{IsBeside, SameAnswer, is_tracker, users}
use Rattle.lq_beside.proofs.Parts.{lookup_in}
use Rattle.lq_beside.proofs.Stands.{beside_of, both_there, database_from, log_there, lock_there, other_users, users_are, users_same}
use Rattle.lq_beside.proofs.Users.{users_beside}

-- a user's statement takes no name of the tracking tables
abbrev pub TakesNone : Dialect → Type 0
TakesNone d = (s : Statement) (u v : Catalogue) (n : ℕ) → is_statement d s ≡ true → IsSound d u → list_any (λ m. is_taken d m u) (own_names d) ≡ false → step User d s u ≡ Ok (v, n) → list_any (λ m. is_taken d m v) (own_names d) ≡ false

log_tracked : (k : Name) → is_named log_table k ≡ true → is_tracker k ≡ true
log_tracked k h = rw (h) refl

or_is : (a b : Bool) → b ≡ true → (a || b) ≡ true
or_is true b h = refl
or_is false b h = h

module _ (d : Dialect) (log lock : Option Table) (c : Catalogue) (so : IsBeside d (both_there log lock) c) where
  pub log_same : table_of c log_table ≡ log
  log_same = sym (lookup_in (is_named log_table) is_tracker log_tracked c.tables) ∙ ap (lookup (is_named log_table)) so.are ∙ log_there log lock

  pub lock_same : table_of c lock_table ≡ lock
  lock_same = sym (lookup_in (is_named lock_table) is_tracker (λ k h. or_is (is_named log_table k) _ h) c.tables) ∙ ap (lookup (is_named lock_table)) so.are ∙ lock_there log lock

module _ (d : Dialect) (takes : TakesNone d) (s : Statement) (c : Catalogue) (database : Database) (stands : StandsFor d c database) (fit : is_statement d s ≡ true) where
  abbrev log' : Option Table
  log' = table_of c log_table

  abbrev lock' : Option Table
  lock' = table_of c lock_table

  stands_after : (a b : Catalogue × ℕ) → step User d s database.users ≡ Ok a → a.0 ≡ users b.0 → IsBeside d (both_there log' lock') b.0 → StandsFor d b.0 (record database { users = a.0 })
  stands_after a b made same so = record {
    ordered = sorted_keys b.0.tables so.ordered;
    is = ap (λ x. database_from d (users_of b.0) x (table_of b.0 lock_table)) (log_same d log' lock' b.0 so) ∙ ap (λ x. database_from d (users_of b.0) log' x) (lock_same d log' lock' b.0 so)
        ∙ ap (λ u. database_from d u log' lock') (users_same b.0 so.ordered ∙ sym same)
        ∙ sym (other_users d (users_of c) a.0 log' lock') ∙ ap (option_map (λ (x : Database). record x { users = a.0 })) stands.is;
    sound = statement_keeps d s User database.users a.0 a.1 fit stands.sound made;
    names = takes s database.users a.0 a.1 fit stands.sound stands.names made;
    few = stands.few;
  }

  by : (a b : Result (Catalogue × ℕ) Reason) → step User d s database.users ≡ a → SameAnswer d (both_there log' lock') a b
      → Agrees d (if_accepted (with_contents (locked_after (Users s) database)) (if_accepted (λ (r : Catalogue × ℕ). record (contents_of database) { users = r.0 }) a)) b
  by (Ok a) (Ok b) made same = stands_after a b made same.0 same.2
  by (Err r) (Err q) made same = same
  by (Ok a) (Err q) made same = same
  by (Err r) (Ok b) made same = same

  pub users_tell : Agrees d (done d (Users s) database) (step User d s c)
  users_tell = by (step User d s database.users) (step User d s c) refl
      (subst (λ u. SameAnswer d (both_there log' lock') (step User d s u) (step User d s c)) (sym (users_are d c database stands)) (users_beside d s (both_there log' lock') c (beside_of d c database stands)))
