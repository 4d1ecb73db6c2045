-- What two runs tell together.
use Rattle.std.specs.Prelude.{Bool, IfOk, List, None, Option, Result, [], false, option_and_then, option_map, true, ℕ, ◌++◌, ◌≡◌}
use Rattle.lq_base.specs.declared.dialect.Dialect.{Dialect}
use Rattle.lq_back.specs.Bound.{first_bound}
use Rattle.lq_commands.specs.Refusals.{Answers}
use Rattle.lq_commands.specs.Rehearsal.{EndsRun, Run, rehearsal_script, rehearsed}
use Rattle.lq_commands.specs.Scripts.{log_in, sets_in, settled_in, update_script}
use Rattle.lq_commands.specs.Works.{CrashesIn, OnIts, Works}
use Rattle.lq_commands.specs.declared.given.Given.{Given}
use Rattle.lq_seen.specs.View.{any_meaning}
use Rattle.lq_store.specs.Journal.{Crashes, State}
use Rattle.lq_tell.specs.declared.done.Done.{Done}
use Rattle.lq_tell.specs.declared.status.Status.{Status}
use Rattle.lq_tell.specs.declared.status.Status.TheVariants as status
use Rattle.lq_track.specs.Database.{Database, SameDatabase}
use Rattle.lq_track.specs.Lock.{free}
use Rattle.lq_turns.specs.Deed.{contents_of}
use Rattle.lq_turns.specs.Faults.{faults}
use Rattle.lq_turns.specs.Laws.{AreKnown}
use Rattle.lq_turns.specs.Ran.{are_reversible}
use Rattle.lq_turns.specs.Session.{left_by}
use Rattle.lq_turns.specs.Settle.{is_halt, own_choice}
use Rattle.lq_turns.specs.Within.{are_first, runs_of}

abbrev pub is_done : Status → Bool
is_done status.Done = true
is_done s = false

-- one text behind the other, where both have one
abbrev pub both_texts : Option (List ℕ) → Option (List ℕ) → Option (List ℕ)
both_texts first more = option_and_then (λ (a : List ℕ). option_map (λ (b : List ℕ). a ++ b) more) first

-- A rehearsal that leaves what its update leaves.

module _ (given : Given) (database : Database) where
  -- The lock is free, the changelog goes with the rows, and each of its turns can be taken back. The update halts nowhere, each turn is a first one, and what ran since was fresh.
  pub record MayReturn : Type 0 where
    pub unlocked : database.lock ≡ free
    pub faultless : faults (sets_in given) database.rows ≡ []
    pub unbound : first_bound given.options.dialect (sets_in given) database.rows ≡ None
    pub goes : is_halt (own_choice (log_in given) (contents_of database)) ≡ false
    pub ends : (settled_in false given database).settled.stop ≡ None
    pub first : are_first given.options.dialect any_meaning given.stamp (sets_in given) (contents_of database) ≡ true
    pub reversible : are_reversible given.options.dialect any_meaning (runs_of given.options.dialect any_meaning given.stamp (sets_in given) (contents_of database)) database.users ≡ true
    pub known : AreKnown given.options.dialect any_meaning (sets_in given) (runs_of given.options.dialect any_meaning given.stamp (sets_in given) (contents_of database))

  -- none of its runs is stopped, and it leaves what the update alone leaves
  pub record Returned : Type 0 where
    pub ends : (rehearsed given database).stop ≡ None
    pub same : SameDatabase (left_by given.options.dialect (rehearsal_script given database) database) (left_by given.options.dialect (update_script given database) database)

-- What a run of a rehearsal does on a store.

-- on a store, by its state and by what a crash leaves of it
module _ {S : Type 0} (state : S → State) (crashes : S → Crashes) (d : Dialect) where
  -- a run that no check refuses makes its calls, to their end or to a stop, and tells of them
  pub record DidRun (run : Run) (before : S) (done : Result Done Status) (after : S) : Type 0 where
    pub answers : Answers None done
    pub works : OnIts d (state before) (λ database. Works d (run.calls database) database (state before) done (state after))
    pub any_moment : OnIts d (state before) (λ database. CrashesIn d (run.calls database) database (state before) (crashes before) (crashes after))
    pub tells : OnIts d (state before) (λ database. IfOk done (λ ended. EndsRun (run.told database) ended))
