-- How much room the calls had of a command that runs on a copy, of which a lock that is held is freed first.
use Rattle.std.proofs.Common.{inl, inr, refl, subst, sym}
use Rattle.std.specs.Prelude.{Bool, Err, IfOk, List, Ok, Result, [], false, if◌then◌else◌, true, ◌++◌, ◌∷◌, ◌≡◌}
use Rattle.lq_base.specs.declared.dialect.Dialect.{Dialect}
use Rattle.lq_base.specs.declared.dialect.Dialect.TheVariants.{Mysql, Postgresql}
use Rattle.lq_model.specs.declared.fault.StoreFault.{StoreFault}
use Rattle.lq_run.specs.Commands.{Leaves}
use Rattle.lq_store.specs.Journal.{State}
use Rattle.lq_tell.specs.declared.done.Done.{Done}
use Rattle.lq_tell.specs.declared.status.Status.{Status}
use Rattle.lq_track.specs.Database.{Database}
use Rattle.lq_turns.specs.Deed.{done}
use Rattle.lq_turns.specs.Script.{closing, release_calls}
use Rattle.lq_turns.specs.Session.{left_by}
use Rattle.lq_turns.specs.declared.call.Call.{Call}
use Rattle.lq_commands.proofs.Endings.{says_full}
use Rattle.lq_commands.proofs.Sequenced.{IsOver, both_told, first_told}
use Rattle.lq_commands.specs.Refusals.{fault_status}
use Rattle.lq_commands.specs.Works.{OnIts, RestsFull, TellsRoom, Works, is_finished}

-- the lock is freed, or was free

by_lock : (d : Dialect) (locked : Bool) (database : Database) → IsOver d (if locked then closing ∷ [] else []) database
by_lock Postgresql true database = (refl, inl refl)
by_lock Mysql true database = (refl, inl refl)
by_lock d false database = (refl, inr refl)

released : (d : Dialect) (database : Database) → IsOver d (release_calls database) database
released d database = by_lock d database.lock.locked database

module _ (d : Dialect) (script : Database → List Call) (x : State) where
  abbrev printed : Database → List Call
  printed database = release_calls database ++ script (left_by d (release_calls database) database)

  abbrev TellsPrinted : Result Done Status → Type 0
  TellsPrinted r = IfOk r (λ (done : Done). OnIts d x (λ (database : Database). TellsRoom d (printed database) database x done.status))

  -- it was freed, and the command ran
  pub ran_room : (y z : State) (r : Result Done Status) → OnIts d x (λ (database : Database). Leaves d (release_calls database) database x y) → OnIts d y (λ (database : Database). Works d (script database) database y r z) → TellsPrinted r
  ran_room y z (Ok done) leaves works = λ database has.
      let left = leaves database has in
      let ran = works (left_by d (release_calls database) database) left.database_is in
      both_told d (release_calls database) (script (left_by d (release_calls database) database)) database (released d database) x y left done.status (λ finished. (ran.0 finished).room) (says_full d (script (left_by d (release_calls database) database)) (left_by d (release_calls database) database) y z done.status ran.2)
  ran_room y z (Err s) leaves works = tt

  -- there was no room to free it
  pub freed_room : (y : State) (why : StoreFault) (r : Result Done Status) → IfOk r (λ (done : Done). is_finished done.status ≡ false) → IfOk r (λ (done : Done). done.status ≡ fault_status why)
      → OnIts d x (λ (database : Database). RestsFull d (release_calls database) database x (fault_status why) y) → TellsPrinted r
  freed_room y why (Ok done) unfinished same says = λ database has.
      first_told d (release_calls database) (script (left_by d (release_calls database) database)) database (released d database) x done.status unfinished
      (says_full d (release_calls database) database x y done.status (subst (λ (s : Status). RestsFull d (release_calls database) database x s y) (sym same) (says database has)))
  freed_room y why (Err s) unfinished same says = tt
