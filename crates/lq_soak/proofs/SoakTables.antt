-- The rows and the tables that a soak leaves are those of the database.
use Rattle.std.proofs.Common.{add-one, ap, refl, subst, sym, ◌∙◌}
use Rattle.std.specs.Map.{lookup, remove_entry}
use Rattle.std.specs.Prelude.{Bool, List, None, Option, Some, [], cond, false, if◌then◌else◌, is_some, length, option_map, suc, true, zero, ℕ, ◌+◌, ◌∷◌, ◌≡◌}
use Rattle.lq_base.specs.Name.{is_named}
use Rattle.lq_base.specs.declared.dialect.Dialect.{Dialect}
use Rattle.lq_base.specs.declared.name.Name.{Name}
use Rattle.lq_base.specs.declared.tracking.Tracked.{Tracked}
use Rattle.lq_model.proofs.Lists.{same_name}
use Rattle.lq_model.specs.Catalogue.{Catalogue, Table, table_of}
use Rattle.lq_run.specs.Commands.{HasDatabase}
use Rattle.lq_store.specs.Journal.{State, seen, seen_in}
use Rattle.lq_tell.specs.SoakLog.{table_name}
use Rattle.lq_track.specs.Lock.{lock_table}
use Rattle.lq_track.specs.Log.{log_table}
use Rattle.lq_turns.specs.Schedule.{StandsFor}
use Rattle.lq_soak.specs.Soaked.{IsLeft, tables_there}
use Rattle.lq_track.specs.Database.{Database, rows_of, users_of}
use Rattle.lq_jobs.proofs.Users.{rows_are, some_same, users_are}

-- what stands at another name stays
kept_lookup : {X : Type 0} (q a : Name) → is_named q a ≡ false → (es : List (Name × X)) → lookup (is_named q) (remove_entry (is_named a) es) ≡ lookup (is_named q) es
kept_lookup q a other [] = refl
kept_lookup {X} q a other (e ∷ es) = by (is_named a e.0) refl (kept_lookup q a other es) where
  by : (is : Bool) → is_named a e.0 ≡ is → lookup (is_named q) (remove_entry (is_named a) es) ≡ lookup (is_named q) es
      → lookup (is_named q) (cond is es (e ∷ remove_entry (is_named a) es)) ≡ cond (is_named q e.0) (Some e.1) (lookup (is_named q) es)
  by true so rest = ap (λ (b : Bool). cond b (Some e.1) (lookup (is_named q) es)) (sym (subst (λ (n : Name). is_named q n ≡ false) (same_name a e.0 so) other))
  by false so rest = ap (λ (o : Option X). cond (is_named q e.0) (Some e.1) o) rest

users_table : (c : Catalogue) (q : Name) → is_named q log_table ≡ false → is_named q lock_table ≡ false → table_of (users_of c) q ≡ table_of c q
users_table c q no_log no_lock = kept_lookup q lock_table no_lock (remove_entry (is_named log_table) c.tables) ∙ kept_lookup q log_table no_log c.tables

no_log : (place : ℕ) → is_named (table_name place) log_table ≡ false
unfolding log_table
no_log place = refl

no_lock : (place : ℕ) → is_named (table_name place) lock_table ≡ false
unfolding lock_table
no_lock place = refl

tables_users : (c : Catalogue) (sets : ℕ) → tables_there c sets ≡ tables_there (users_of c) sets
tables_users c zero = refl
tables_users c (suc n) =
    ap (λ (k : ℕ). k + (if is_some (table_of c (table_name (suc n))) then 1 else 0)) (tables_users c n)
    ∙ ap (λ (o : Option Table). tables_there (users_of c) n + (if is_some o then 1 else 0)) (sym (users_table c (table_name (suc n)) (no_log (suc n)) (no_lock (suc n))))

-- one table more, where it is there
pub one_more : (c : Catalogue) (place count one : ℕ) (is : Bool) → count ≡ tables_there c place → is ≡ is_some (table_of c (table_name (place + 1))) → one ≡ (if is then 1 else 0) → count + one ≡ tables_there c (place + 1)
one_more c place count one is counted is_so one_is =
    subst (λ (m : ℕ). is ≡ is_some (table_of c (table_name m)) → count + one ≡ tables_there c m) (sym (add-one place))
    (λ so. ap (λ (k : ℕ). k + one) counted ∙ ap (λ (k : ℕ). tables_there c place + k) (one_is ∙ ap (λ (b : Bool). if b then 1 else 0) so)) is_so

pub rows_counted : (o : Option (List Tracked)) (rows : List Tracked) (many : ℕ) → many ≡ length rows → o ≡ Some rows → (all : List Tracked) → o ≡ Some all → many ≡ length all
rows_counted o rows many counted is all so = counted ∙ ap length (some_same (sym is ∙ so))

stands_left : (d : Dialect) (c : Catalogue) (database : Database) → StandsFor d c database → (sets rows tables : ℕ) → ((all : List Tracked) → rows_of c ≡ Some all → rows ≡ length all) → tables ≡ tables_there c sets → IsLeft sets database rows tables
stands_left d c database stands sets rows tables counted there = record {
  rows_are = counted database.rows (rows_are d c database stands);
  tables_are = there ∙ tables_users c sets ∙ ap (λ (users : Catalogue). tables_there users sets) (users_are d c database stands);
}

-- what a session sees of a store without a transaction is its database
pub is_left : (d : Dialect) (session : ℕ) (x : State) (c : Catalogue) (database : Database) → HasDatabase d x database → c ≡ seen session x
    → (sets rows tables : ℕ) → ((all : List Tracked) → rows_of c ≡ Some all → rows ≡ length all) → tables ≡ tables_there c sets → IsLeft sets database rows tables
is_left d session x c database has sees =
    let same : c ≡ x.committed = sees ∙ ap (λ begun. seen_in session begun x.committed) has.shut in
    stands_left d c database (subst (λ (c : Catalogue). StandsFor d c database) (sym same) has.committed)
