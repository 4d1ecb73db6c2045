-- The writing calls of a command that runs alone.
use Rattle.std.specs.Prelude.{Bool, IfSome, List, None, Option, Some, [], false, if◌then◌else◌, is_some, true, ℕ, ◌++◌, ◌≡◌}
use Rattle.lq_base.specs.declared.command.Command.{Command}
use Rattle.lq_base.specs.declared.command.Command.TheVariants as command
use Rattle.lq_base.specs.declared.command.Target.{Target}
use Rattle.lq_base.specs.declared.dialect.Dialect.{Dialect}
use Rattle.lq_base.specs.declared.identity.Identity.{Identity}
use Rattle.lq_base.specs.declared.tracking.Tracked.{Tracked}
use Rattle.lq_beside.specs.Replays.{calls_fit}
use Rattle.lq_commands.specs.declared.given.Given.{Given}
use Rattle.lq_hand.specs.Way.{IsUnderWay, Way}
use Rattle.lq_any.specs.declared.any_change.AnyChange.{AnyChange}
use Rattle.lq_run.specs.declared.runner.End.{End}
use Rattle.lq_run.specs.declared.runner.End.TheVariants as end
use Rattle.lq_seen.specs.Telling.{Account, of_sets, of_turns}
use Rattle.lq_seen.specs.View.{any_meaning, view_log}
use Rattle.lq_seen.specs.declared.outcome.Halt.{Halt}
use Rattle.lq_track.specs.Database.{Database}
use Rattle.lq_turns.specs.Deed.{Contents, contents_of}
use Rattle.lq_turns.specs.Rest.{Turns, turns_calls}
use Rattle.lq_turns.specs.Script.{has_work, release_calls, rollback_of, rows_kept, rows_undone, sets_calls, sync_calls, tag_calls, undo_turns, update_calls, with_lock}
use Rattle.lq_turns.specs.Session.{left_by, session_on}
use Rattle.lq_turns.specs.Set.{Changelog, Meaning, Set}
use Rattle.lq_turns.specs.Settle.{is_halt, nothing_done, own_choice, updated}
use Rattle.lq_turns.specs.declared.call.Call.{Call}
use Rattle.lq_turns.specs.declared.stamp.Stamp.{Stamp}
use Rattle.lq_turns.specs.declared.stop.Refusal.{Refusal}
use Rattle.lq_turns.specs.declared.stop.Stop.{Stop}
use Rattle.lq_turns.specs.declared.stop.Stop.TheVariants.{Halted, Refused}

-- The commands that make one call at most.

abbrev pub is_at_once : Command → Bool
is_at_once command.Validate = true
is_at_once command.Status = true
is_at_once command.Update = false
is_at_once (command.Tag name) = true
is_at_once (command.Rollback target) = false
is_at_once command.Sync = false
is_at_once command.Release = true

-- The writing calls of a command that runs alone.

-- the changelog as the command sees it
abbrev pub log_in : Given → Changelog AnyChange
log_in given = view_log given.options given.changelog

abbrev pub sets_in : Given → List (Set AnyChange)
sets_in given = (log_in given).sets

abbrev pub update_script : Given → Database → List Call
update_script given database = update_calls given.options.dialect any_meaning given.stamp (log_in given) database

-- the calls of its changesets, where the changelog's own condition is passed
abbrev pub sets_script : Given → Database → List Call
sets_script given database =
    if has_work (sets_in given) database.rows
    then with_lock given.stamp database (sets_calls given.options.dialect any_meaning given.stamp (sets_in given) (contents_of database))
    else []

-- what its changesets settle, and what is printed of them
abbrev pub settled_in : Bool → Given → Database → Account
settled_in prints given database = of_sets prints given.options.dialect given.stamp.reading (sets_in given) (contents_of database)

-- the same of the whole update: where the changelog's own precondition halts it nothing runs
abbrev pub updated_in : Bool → Given → Database → Account
updated_in prints given database = record {
  settled = updated given.options.dialect any_meaning given.stamp.reading (log_in given) (contents_of database);
  printed = if is_halt (own_choice (log_in given) (contents_of database)) then [] else (settled_in prints given database).printed;
}

-- of a command that does nothing
abbrev pub nothing_told : Contents → Account
nothing_told c = record { settled = nothing_done c; printed = [] }

-- by the turns that take these rows back
abbrev pub taking_back : Given → List Tracked → Database → List Call
taking_back given undone database = elim (undo_turns given.options.dialect any_meaning (sets_in given) undone) [ Some turns ↦ rollback_of given.options.dialect given.stamp turns database | None ↦ [] ]

-- where so many rows stay
abbrev pub rollback_to : Given → Option ℕ → Database → List Call
rollback_to given (Some stay) database = taking_back given (rows_undone stay database.rows) database
rollback_to given None database = []

-- what that does, and what is printed of it
abbrev pub rolled_back : Bool → Given → List Tracked → Database → Account
rolled_back prints given undone database =
    elim (undo_turns given.options.dialect any_meaning (sets_in given) undone) [ Some turns ↦ of_turns prints given.options.dialect turns (contents_of database) | None ↦ nothing_told (contents_of database) ]

abbrev pub rolled_to : Bool → Given → Option ℕ → Database → Account
rolled_to prints given (Some stay) database = rolled_back prints given (rows_undone stay database.rows) database
rolled_to prints given None database = nothing_told (contents_of database)

abbrev pub rollback_script : Given → Target → Database → List Call
rollback_script given target database = rollback_to given (rows_kept target database.rows) database

abbrev pub sync_script : Given → Database → List Call
sync_script given database = sync_calls given.options.dialect given.stamp (log_in given) database

-- the tag that a command sets
abbrev pub tag_in : Command → Option (List ℕ)
tag_in (command.Tag name) = Some name
tag_in _ = None

-- what each command writes
abbrev pub script : Command → Given → Database → List Call
script command.Validate given database = []
script command.Status given database = []
script command.Update given database = update_script given database
script (command.Tag name) given database = tag_calls name database
script (command.Rollback target) given database = rollback_script given target database
script command.Sync given database = sync_script given database
script command.Release given database = release_calls database

-- where its statements are printed it runs on a copy, of which a lock that is held is freed first
abbrev pub printed_script : Command → Given → Database → List Call
printed_script c given database = release_calls database ++ script c given (left_by given.options.dialect (release_calls database) database)

-- How a run stops at a refused statement.

module _ {T Told : Type 0} (way : T → Dialect → Stamp → Told → Way) (d : Dialect) (stamp : Stamp) (told : Told) where
  -- at some place the source yielded to the refusal, where the command stops
  pub record Yielded (refusal : Refusal) : Type 0 where
    pub before : T
    pub contents : Contents
    pub yields : (way before d stamp told).yields false refusal contents

  abbrev pub IfYielded : Option Refusal → Type 0
  IfYielded None = Unit {0}
  IfYielded (Some refusal) = Yielded refusal

  -- so it did where a refusal is how the run ended
  abbrev pub YieldedAt : End → Type 0
  YieldedAt (end.Refused refusal) = Yielded refusal
  YieldedAt e = Unit {0}

-- the source's way, which at its end also tells to what it yielded
abbrev pub stopping_way : {T Told : Type 0} → (T → Dialect → Stamp → Told → Way) → T → Dialect → Stamp → Told → Way
stopping_way way source d stamp told = record {
  knows = (way source d stamp told).knows;
  awaits = (way source d stamp told).awaits;
  yields = (way source d stamp told).yields;
  tells = λ refused. (way source d stamp told).tells refused × IfYielded way d stamp told refused;
  lacks = IsUnderWay (way source d stamp told);
}

-- where a run halted, or a statement was refused, it is known of which changeset
abbrev pub NamesStop : End → Option Halt → Option Identity → Type 0
NamesStop end.Done halted of = IfSome halted (λ (halt : Halt). is_some halt.identity ≡ true)
NamesStop (end.Refused refusal) halted of = is_some of ≡ true
NamesStop e halted of = Unit {0}

-- the changeset of a refusal
abbrev pub refused_at : Option Stop → Option Identity
refused_at None = None
refused_at (Some (Halted place why)) = None
refused_at (Some (Refused of refusal)) = Some of

-- The way of a command whose one turn is in hand: it is on its way to having told of this refusal, or that there was none. A refusal after which the command goes on is not told.

abbrev pub YieldsOne : Option Refusal → Bool → Refusal → Type 0
YieldsOne told true refusal = told ≡ None
YieldsOne told false refusal = told ≡ Some refusal

abbrev pub one_way : Option Refusal → Way
one_way told = record { knows = λ c. told ≡ None; awaits = λ sees c. told ≡ None; yields = λ goes_on refusal c. YieldsOne told goes_on refusal; tells = λ refused. told ≡ refused; lacks = Unit {0} }

-- The calls of a command that takes the lock, makes the turns of a source, and frees the lock.

module _ {Key : Type 0} (d : Dialect) (m : Meaning Key) (stamp : Stamp) (turns : Turns Key) where
  abbrev pub turns_script : Database → List Call
  turns_script database = with_lock stamp database (turns_calls d m stamp turns (contents_of database))

  -- the source knows the contents, on its way to having told so much, and each deed fits what it is done to
  pub record MayTurn {Told : Type 0} (way : Told → Way) (database : Database) (told : Told) : Type 0 where
    pub known : (way told).knows (contents_of database)
    pub fits : calls_fit d (turns_script database) (session_on database) ≡ true
