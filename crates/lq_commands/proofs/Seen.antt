-- What is seen of a store that has a database.
use Rattle.std.proofs.Common.{ap, refl, subst, sym, ◌∙◌}
use Rattle.std.specs.Prelude.{Err, IfErr, IfSome, List, Ok, OnOk, Result, Some, [], ℕ, ◌++◌, ◌∷◌, ◌≡◌}
use Rattle.lq_base.proofs.ValueLemmas.{and_then_some}
use Rattle.lq_base.specs.declared.dialect.Dialect.{Dialect}
use Rattle.lq_base.specs.declared.tracking.Lock.{Lock}
use Rattle.lq_base.specs.declared.tracking.Tracked.{Tracked}
use Rattle.lq_beside.proofs.TablesRead.{map_some}
use Rattle.lq_model.specs.declared.fault.StoreFault.{StoreFault}
use Rattle.lq_run.specs.Commands.{HasDatabase, Leaves}
use Rattle.lq_run.specs.Left.{LeavesOnce}
use Rattle.lq_store.specs.Journal.{State, seen, seen_in}
use Rattle.lq_track.specs.Database.{Database, lock_of, rows_of}
use Rattle.lq_turns.specs.Schedule.{StandsFor}
use Rattle.lq_turns.specs.Script.{last_row}
use Rattle.lq_turns.specs.declared.call.Call.{Call}
use Rattle.lq_commands.proofs.Endings.{full_once}
use Rattle.lq_commands.specs.Refusals.{fault_status}
use Rattle.lq_commands.specs.Works.{OnIts, RestsFull}

module _ (d : Dialect) (number : ℕ) (x : State) (database : Database) (has : HasDatabase d x database) where
  pub seen_stands : StandsFor d (seen number x) database
  seen_stands = subst (λ o. StandsFor d (seen_in number o x.committed) database) (sym has.shut) has.committed

module _ (d : Dialect) (x : State) (database : Database) (has : HasDatabase d x database) where
  lock_there : lock_of d x.committed ≡ Some database.lock
  lock_there =
      let rows = and_then_some _ (rows_of x.committed) database has.committed.is in
      let l = map_some _ (lock_of d x.committed) database rows.2 in
      l.1 ∙ ap (λ (e : Database). Some e.lock) l.2

  pub lock_is : (lock : Lock) → IfSome (lock_of x.dialect x.committed) (λ meant. lock ≡ meant) → lock ≡ database.lock
  lock_is lock is = subst (λ o. IfSome o (λ meant. lock ≡ meant)) (ap (λ e. lock_of e x.committed) has.dialect ∙ lock_there) is

-- the last of rows
pub last_is : (front : List Tracked) (row : Tracked) → last_row (front ++ row ∷ []) ≡ Some row
last_is [] row = refl
last_is (first ∷ []) row = refl
last_is (first ∷ other ∷ more) row = last_is (other ∷ more) row

-- where a call met a fault
pub err_full : (d : Dialect) (calls : Database → List Call) (x y : State) (r : Result (Unit {0}) StoreFault) → ((database : Database) → HasDatabase d x database → LeavesOnce d (calls database) database x r y)
    → IfErr r (λ (why : StoreFault). OnIts d x (λ (database : Database). RestsFull d (calls database) database x (fault_status why) y))
err_full d calls x y (Ok u) leaves = tt
err_full d calls x y (Err why) leaves = λ database has. full_once d (calls database) database x y why (leaves database has)

-- where a call is done
pub ok_leaves : (d : Dialect) (calls : Database → List Call) (x y : State) (r : Result (Unit {0}) StoreFault) → ((database : Database) → HasDatabase d x database → LeavesOnce d (calls database) database x r y)
    → OnOk r ((database : Database) → HasDatabase d x database → Leaves d (calls database) database x y)
ok_leaves d calls x y (Ok u) leaves = leaves
ok_leaves d calls x y (Err fault) leaves = tt
