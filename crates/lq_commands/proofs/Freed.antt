-- A lock that is freed leaves the database ready, and what is refused then is what is refused of a print.
use Rattle.std.proofs.Common.{ap, arith, refl, subst, sym}
use Rattle.std.specs.Option.{option_or}
use Rattle.std.specs.Prelude.{Bool, Err, None, Ok, Option, Result, Some, [], false, if◌then◌else◌, true, ℕ, ◌∷◌, ◌≡◌, ◌≤◌}
use Rattle.lq_base.specs.declared.command.Command.TheVariants as command
use Rattle.lq_base.specs.declared.command.Target.{Target}
use Rattle.lq_base.specs.declared.dialect.Dialect.{Dialect}
use Rattle.lq_cli.specs.declared.line.Job.TheVariants.{RollbackSql, UpdateSql}
use Rattle.lq_model.specs.declared.fault.StoreFault.{StoreFault}
use Rattle.lq_model.specs.declared.fault.StoreFault.TheVariants.{Disk}
use Rattle.lq_run.specs.Commands.{HasDatabase, Leaves}
use Rattle.lq_seen.specs.Telling.{Account}
use Rattle.lq_stand.specs.Stays.{IsClean}
use Rattle.lq_store.specs.Calls.{CountsDisk}
use Rattle.lq_store.specs.Journal.{State}
use Rattle.lq_tell.specs.declared.done.Done.{Done}
use Rattle.lq_tell.specs.declared.status.Status.{Status}
use Rattle.lq_tell.specs.declared.status.Status.TheVariants as status
use Rattle.lq_track.specs.Database.{Database}
use Rattle.lq_turns.proofs.AtOnce.{release_leaves}
use Rattle.lq_turns.specs.Deed.{contents_of}
use Rattle.lq_turns.specs.Laws.{at_rest}
use Rattle.lq_turns.specs.Script.{rows_kept, closing, release_calls}
use Rattle.lq_turns.specs.Session.{left_by}
use Rattle.lq_turns.specs.Settle.{greatest}
use Rattle.lq_commands.proofs.Endings.{leaves_nothing}
use Rattle.lq_commands.specs.Outputs.{TellsJob}
use Rattle.lq_commands.specs.Refusals.{invalid, no_way_back, own_halt, print_rollback, print_update, refusal}
use Rattle.lq_commands.specs.Scripts.{rolled_to}
use Rattle.lq_commands.specs.Works.{EndsRollback, IsReady}
use Rattle.lq_commands.specs.declared.given.Given.{Given}

-- a lock that is free

pub leaves_free : (d : Dialect) (database : Database) (x : State) → HasDatabase d x database → database.lock.locked ≡ false → Leaves d (release_calls database) database x x
leaves_free d database x has free = subst (λ calls. Leaves d calls database x x) (sym (ap (λ b. if b then closing ∷ [] else []) free)) (leaves_nothing d database x has)

ok_err : (let r : Result (Unit {0}) StoreFault = Ok tt in r) ≡ Err Disk → ⊥
ok_err h = Prim.cc

no_less : (n : ℕ) → n ≤ n
no_less n = omega arith

pub nothing_failed : (n : ℕ) → CountsDisk {T = Unit {0}} (Ok tt) n n
nothing_failed n = record { later = no_less n; rose = λ is. absurd (ok_err is) }

-- one that is freed

module _ (d : Dialect) (database : Database) where
  abbrev pub freed : Database
  freed = left_by d (release_calls database) database

  -- the lock was freed, or was free
  is_freed : (P : Database → Type 0) → P (at_rest database (contents_of database)) → (database.lock.locked ≡ false → P database) → P freed
  is_freed P held free = by database.lock.locked refl where
    by : (b : Bool) → database.lock.locked ≡ b → P freed
    by true is = subst P (sym ((release_leaves d database).0 is)) held
    by false is = subst P (sym ((release_leaves d database).1 is)) (free is)

pub freed_ready : (d : Dialect) (x y : State) → ((database : Database) → HasDatabase d x database → Leaves d (release_calls database) database x y) → IsReady d x → IsReady d y
freed_ready d x y leaves at = record {
  database = freed d at.database;
  has = (leaves at.database at.has).database_is;
  clean = is_freed d at.database (IsClean d) at.clean (λ free. at.clean);
  small = is_freed d at.database (λ (e : Database). greatest e.rows ≤ 2147483647) at.small (λ free. at.small);
}

module _ (given : Given) (database : Database) where
  abbrev d : Dialect
  d = given.options.dialect

  pub update_freed : refusal command.Update given (freed d database) ≡ print_update given database
  update_freed = is_freed d database (λ e. refusal command.Update given e ≡ print_update given database) refl
      (λ free. ap (λ b. option_or (option_or (if b then Some (status.Locked database.lock) else None) (invalid given database.rows)) (own_halt given database)) free)

  pub rollback_freed : (target : Target) → refusal (command.Rollback target) given (freed d database) ≡ print_rollback given target database
  rollback_freed target = is_freed d database (λ e. refusal (command.Rollback target) given e ≡ print_rollback given target database) refl
      (λ free. ap (λ b. option_or (option_or (if b then Some (status.Locked database.lock) else None) (invalid given database.rows)) (no_way_back given target database.rows)) free)

  -- and what is told is the same
  pub update_tells : (r : Result Done Status) → TellsJob UpdateSql given (freed d database) r → TellsJob UpdateSql given database r
  update_tells r = is_freed d database (λ e. TellsJob UpdateSql given e r → TellsJob UpdateSql given database r) (λ tells. tells) (λ free tells. tells)

  rest_rolled : (o : Option ℕ) → rolled_to true given o (at_rest database (contents_of database)) ≡ rolled_to true given o database
  rest_rolled (Some stay) = refl
  rest_rolled None = refl

  rest_tells : (target : Target) (r : Result Done Status) → TellsJob (RollbackSql target) given (at_rest database (contents_of database)) r → TellsJob (RollbackSql target) given database r
  rest_tells target (Ok done) tells = subst (λ (account : Account). EndsRollback true account done) (rest_rolled (rows_kept target database.rows)) tells
  rest_tells target (Err s) tells = tt

  pub rollback_tells : (target : Target) (r : Result Done Status) → TellsJob (RollbackSql target) given (freed d database) r → TellsJob (RollbackSql target) given database r
  rollback_tells target r = is_freed d database (λ e. TellsJob (RollbackSql target) given e r → TellsJob (RollbackSql target) given database r) (rest_tells target r) (λ free tells. tells)
