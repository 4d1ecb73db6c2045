-- What comes of a condition.
use Rattle.std.proofs.Common.{ap, false, refl, sym, List, None, Option, Some, Ok, [], is_some, option_map, true, ◌≡◌, ◌∙◌}
use Rattle.std.specs.Option.{option_and_then}
use Rattle.lq_base.specs.declared.dialect.Dialect.{Dialect}
use Rattle.lq_base.specs.declared.run.OnFail.{OnFail}
use Rattle.lq_base.specs.declared.tracking.Lock.{Lock}
use Rattle.lq_base.specs.declared.tracking.Tracked.{Tracked}
use Rattle.lq_cond.proofs.ToldLemmas.{and_told}
use Rattle.lq_cond.specs.Told.{told}
use Rattle.lq_cond.specs.declared.cond.Cond.{Cond}
use Rattle.lq_cond.specs.declared.cond.Cond.TheVariants.{And}
use Rattle.lq_expr.specs.declared.options.Options.{Options}
use Rattle.lq_kinds.specs.declared.change_set.ChangeSet.{ChangeSet}
use Rattle.lq_model.specs.Catalogue.{Catalogue, table_of}
use Rattle.lq_sets.specs.Counting.{is_fill, unasked}
use Rattle.lq_seen.specs.View.{condition_of, view}
use Rattle.lq_track.specs.Database.{Database, has_rows, lock_of, rows_of, users_of}
use Rattle.lq_track.specs.Lock.{lock_table}
use Rattle.lq_track.specs.Log.{log_table}
use Rattle.lq_turns.specs.Deed.{Contents, contents_of}
use Rattle.lq_turns.specs.Schedule.{StandsFor}
use Rattle.lq_turns.specs.Set.{Set}
use Rattle.lq_turns.specs.Settle.{choice_of, tested}
use Rattle.lq_turns.specs.declared.choice.What.{What}
use Rattle.lq_turns.specs.declared.choice.What.TheVariants.{Again, Fill, New}

-- the dialect of the command's options
pub in_dialect : (what : What) (asked : Cond) (on_fail on_error : OnFail) (database : Database) (d e : Dialect) → e ≡ d
    → tested what (condition_of d asked on_fail on_error) (told d asked database.users database.rows) ≡ tested what (condition_of e asked on_fail on_error) (told e asked database.users database.rows)
in_dialect what asked on_fail on_error database d e same = ap (λ x. tested what (condition_of x asked on_fail on_error) (told x asked database.users database.rows)) (sym same)

-- a changeset at a turn in which its changes run
pub choice_so : {Key : Type 0} (x : Set Key) (c : Contents) (what : What) → is_fill what ≡ false → tested what x.condition (x.condition.told c) ≡ choice_of x c (Some what)
choice_so x c New runs = refl
choice_so x c Again runs = refl
choice_so x c Fill runs = absurd Prim.cc

-- a changeset without a precondition

nothing_asked : (options : Options) (x : ChangeSet) (database : Database) → x.cond ≡ And [] → told options.dialect x.cond database.users database.rows ≡ Ok true
nothing_asked options x database none = ap (λ asked. told options.dialect asked database.users database.rows) none ∙ and_told options.dialect database.users database.rows []

pub unasked_is : (options : Options) (x : ChangeSet) (database : Database) (what : What) → x.cond ≡ And [] → unasked what ≡ choice_of (view options x) (contents_of database) (Some what)
unasked_is options x database New none = ap (tested New (condition_of options.dialect x.cond x.on_fail x.on_error)) (sym (nothing_asked options x database none))
unasked_is options x database Again none = ap (tested Again (condition_of options.dialect x.cond x.on_fail x.on_error)) (sym (nothing_asked options x database none))
unasked_is options x database Fill none = refl

-- the rows of the database that is seen

none_some : {A B : Type 0} {b : B} → (let o : Option B = None in o) ≡ Some b → A
none_some e = Prim.cc

some_same : {A : Type 0} {a b : A} → (let o : Option A = Some a in o) ≡ Some b → a ≡ b
some_same e = Prim.cc

pub rows_are : (d : Dialect) (c : Catalogue) (database : Database) (rows : List Tracked) → rows_of c ≡ Some rows → StandsFor d c database → database.rows ≡ rows
rows_are d c database rows found stands = by (rows_of c) (lock_of d c) found stands.is where
  by : (seen : Option (List Tracked)) (lock : Option Lock) → seen ≡ Some rows
      → option_and_then (λ (these : List Tracked). option_map (λ (one : Lock). (let x : Database = record {
        users = users_of c;
        rows = these;
        lock = one;
        has_log = is_some (table_of c log_table);
        has_lock = is_some (table_of c lock_table);
        has_lock_row = has_rows (table_of c lock_table);
      } in x)) lock) seen ≡ Some database → database.rows ≡ rows
  by None lock at e = none_some e
  by (Some these) None at e = none_some e
  by (Some these) (Some one) at e = ap (λ (x : Database). x.rows) (sym (some_same e)) ∙ some_same at
