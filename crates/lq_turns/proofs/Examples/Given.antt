-- What the examples speak of: changes told by their statements, changesets, conditions, rows.
use Rattle.std.specs.Prelude.{Bool, List, None, Ok, Option, Result, Some, [], codes, false, map, pos, true, ℕ, ◌∷◌}
use Rattle.lq_base.specs.Name.{is_text}
use Rattle.lq_base.specs.declared.identity.Identity.{Identity}
use Rattle.lq_base.specs.declared.kind.Kind.TheVariants as kind
use Rattle.lq_base.specs.declared.literal.Literal.TheVariants as literal
use Rattle.lq_base.specs.declared.reason.Reason.{Reason}
use Rattle.lq_base.specs.declared.tracking.Exec.{Exec}
use Rattle.lq_base.specs.declared.tracking.Tracked.{Tracked}
use Rattle.lq_model.specs.Catalogue.{no_objects}
use Rattle.lq_model.specs.Step.{run}
use Rattle.lq_model.specs.declared.caller.By.TheVariants.{User}
use Rattle.lq_model.specs.declared.column.ColumnDef.{ColumnDef}
use Rattle.lq_model.specs.declared.statement.Statement.{Statement}
use Rattle.lq_model.specs.declared.statement.Statement.TheVariants.{CreateTable, DropTable, Insert}
use Rattle.lq_track.specs.Database.{Database}
use Rattle.lq_track.specs.Lock.{free}
use Rattle.lq_turns.specs.Deed.{Contents}
use Rattle.lq_turns.specs.Set.{Changelog, Condition, Meaning, Set, is_old_form, sum_by_form}
use Rattle.lq_base.specs.declared.run.OnFail.{OnFail}
use Rattle.lq_base.specs.declared.run.OnFail.TheVariants.{Halt}
use Rattle.lq_turns.specs.declared.stamp.Stamp.{Stamp}

-- a change: its statements, whether it is fresh, and what is generated to take it back
pub record Given : Type 0 where
  pub statements : List Statement
  pub is_fresh : Bool
  pub undoing : Option (List Statement)

abbrev pub meaning : Meaning Given
meaning = record {
  is_for = λ d x. true;
  gives = λ d x. x.statements;
  effect = λ d x c. run User d x.statements c;
  fresh = λ d x c. x.is_fresh;
  inverse = λ d x. x.undoing;
}

abbrev pub column : ColumnDef
column = record { name = codes "id"; kind = kind.Text; nullable = true; default = None; numbered = false }

abbrev pub table : List ℕ → Statement
table name = CreateTable name (column ∷ []) None [] []

abbrev pub row_into : List ℕ → Statement
row_into name = Insert name (codes "id" ∷ []) (literal.Text (codes "x") ∷ [])

-- makes a table
abbrev pub makes : List ℕ → Given
makes name = record { statements = table name ∷ []; is_fresh = true; undoing = Some (DropTable name ∷ []) }

abbrev pub stale : Given → Given
stale x = record x { is_fresh = false }

abbrev pub named : List ℕ → Identity
named id = record { file = codes "f"; id = id; author = codes "me" }

-- a condition that is told so everywhere
abbrev pub told_so : Result Bool Reason → OnFail → OnFail → Condition
told_so told on_fail on_error = record { told = λ c. told; on_fail = on_fail; on_error = on_error }

abbrev pub always : Condition
always = told_so (Ok true) Halt Halt

-- the sum of each changeset in the form of a stored one
abbrev pub new_like : List ℕ → List ℕ
new_like = sum_by_form (codes "P1:new") (codes "P2:new")

abbrev pub changeset : List ℕ → List Given → Set Given
changeset id changes = record {
  identity = named id;
  here = true;
  selected = true;
  changes = changes;
  rollback = None;
  condition = always;
  run_always = false;
  run_on_change = false;
  fail_on_error = true;
  in_transaction = true;
  sum = codes "P2:new";
  is_own_sum = λ stored. is_text stored (new_like stored);
  is_old_sum = is_old_form;
  sum_like = new_like;
  valid_sums = [];
  description = [];
  comments = [];
  tag = None;
  contexts = [];
  labels = [];
}

abbrev pub changelog : List (Set Given) → Changelog Given
changelog sets = record { condition = always; sets = sets }

abbrev pub stamp : Stamp
stamp = record { who = codes "ci"; reading = 1000 }

-- a row of the changeset, with its place, how it came and its sum
abbrev pub row : List ℕ → ℕ → Exec → Option (List ℕ) → Tracked
row id order exec sum = record {
  id = id;
  author = codes "me";
  filename = codes "f";
  date = pos order;
  order = order;
  exec = exec;
  md5sum = sum;
  description = codes "before";
  comments = [];
  tag = None;
  tool = codes "profile-1";
  contexts = [];
  labels = [];
  deployment = codes "0000000000";
}

abbrev pub nothing : Contents
nothing = record { users = no_objects; rows = [] }

-- a database whose tracking tables were made
abbrev pub made_on : Contents → Database
made_on c = record { users = c.users; rows = c.rows; lock = free; has_log = true; has_lock = true; has_lock_row = true }

abbrev pub with_rows : List Tracked → Contents
with_rows rows = record { users = no_objects; rows = rows }

-- of each row: its changeset's id, its place, how it came, and its sum
abbrev pub brief : List Tracked → List (List ℕ × ℕ × Exec × Option (List ℕ))
brief rows = map (λ (r : Tracked). (r.id, r.order, r.exec, r.md5sum)) rows

-- the names of the tables
abbrev pub tables_in : Contents → List (List ℕ)
tables_in c = map (λ t. t.0) c.users.tables
