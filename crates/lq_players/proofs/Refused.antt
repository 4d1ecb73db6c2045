-- A command that is refused comes to an answer alone; and of one that ends with its first step nothing is printed.
use Rattle.std.proofs.Common.{ap, refl, sym, ◌∙◌}
use Rattle.std.specs.Option.{option_map, option_or}
use Rattle.std.specs.Prelude.{Bool, List, None, Option, Some, [], false, if◌then◌else◌, ℕ, ◌∷◌, ◌≡◌}
use Rattle.lq_base.specs.declared.command.Command.TheVariants as command
use Rattle.lq_base.specs.declared.command.Command.{Command}
use Rattle.lq_base.specs.declared.dialect.Dialect.{Dialect}
use Rattle.lq_base.specs.declared.identity.Identity.{Identity}
use Rattle.lq_base.specs.declared.tracking.Tracked.{Tracked}
use Rattle.lq_expr.specs.declared.options.Options.{Options}
use Rattle.lq_any.specs.declared.any_change.AnyChange.{AnyChange}
use Rattle.lq_kinds.specs.declared.change_set.Changelog.{Changelog as Files}
use Rattle.lq_players.specs.AtOnce.{command_of}
use Rattle.lq_players.specs.Tasks.{if_halts, if_not, if_some, refuses, task_for, unreachable_by, untagged, work_of}
use Rattle.lq_players.specs.declared.at_once.OneStep.TheVariants as step
use Rattle.lq_players.specs.declared.at_once.OneStep.{OneStep}
use Rattle.lq_playing.specs.Answers.{answer_of, came, has_ended, is_failure, only}
use Rattle.lq_playing.specs.declared.came.Came.{Came}
use Rattle.lq_playing.specs.declared.came.Report.{Report}
use Rattle.lq_seen.specs.View.{any_meaning}
use Rattle.lq_track.specs.Database.{Database}
use Rattle.lq_turns.specs.Deed.{contents_of}
use Rattle.lq_turns.specs.Faults.{faults}
use Rattle.lq_turns.specs.Jobs.{Task}
use Rattle.lq_turns.specs.Script.{not_reversible, rows_kept, rows_undone}
use Rattle.lq_turns.specs.Set.{Changelog}
use Rattle.lq_turns.specs.Settle.{own_choice}
use Rattle.lq_turns.specs.declared.answer.Answer.TheVariants as answer
use Rattle.lq_turns.specs.declared.answer.Answer.{Answer}
use Rattle.lq_turns.specs.declared.choice.Choice.TheVariants as choice
use Rattle.lq_turns.specs.declared.choice.Choice.{Choice}
use Rattle.lq_turns.specs.declared.fault.Fault.{Fault}
use Rattle.lq_turns.specs.declared.stamp.Stamp.{Stamp}

none_some : {A X : Type 0} {a : A} → (let o : Option A = None in o) ≡ Some a → X
none_some h = Prim.cc

some_is : {A : Type 0} {a b : A} → (let o : Option A = Some a in o) ≡ Some b → a ≡ b
some_is h = Prim.cc

-- so early that nothing is done, and for no fault of the store
early : (a b : Answer) → (has_ended a ≡ false) × (is_failure a ≡ false) → Some a ≡ Some b → (has_ended b ≡ false) × (is_failure b ≡ false)
early a b is same = (sym (ap has_ended (some_is same)) ∙ is.0, sym (ap is_failure (some_is same)) ∙ is.1)

abbrev AreEarly : Option Answer → Type 0
AreEarly refusal = (a : Answer) → refusal ≡ Some a → (has_ended a ≡ false) × (is_failure a ≡ false)

either : (x y : Option Answer) → AreEarly x → AreEarly y → AreEarly (option_or x y)
either None y first second = second
either (Some a) y first second = first

by_faults : (found : List Fault) → AreEarly (if_some found)
by_faults [] a is = none_some is
by_faults (fault ∷ more) a is = early (answer.Invalid (fault ∷ more)) a (refl, refl) is

by_own : (own : Choice) → AreEarly (if_halts own)
by_own (choice.Halts why) a is = early (answer.Halted None why) a (refl, refl) is
by_own (choice.Runs what why) a is = none_some is
by_own choice.Passes a is = none_some is
by_own choice.Fills a is = none_some is
by_own choice.Skips a is = none_some is
by_own (choice.Marks what) a is = none_some is

by_ways : (of : Option Identity) → AreEarly (if_not of)
by_ways None a is = none_some is
by_ways (Some of) a is = early (answer.NotReversible of) a (refl, refl) is

by_target : (d : Dialect) (g : Changelog AnyChange) (stay : Option ℕ) (rows : List Tracked) → AreEarly (unreachable_by d g stay rows)
by_target d g None rows a is = early answer.NoTarget a (refl, refl) is
by_target d g (Some stay) rows a is = by_ways (not_reversible d any_meaning g.sets (rows_undone stay rows)) a is

by_rows : (rows : List Tracked) → AreEarly (untagged rows)
by_rows [] a is = early answer.NoTarget a (refl, refl) is
by_rows (row ∷ rows) a is = none_some is

pub refused_early : (d : Dialect) (task : Task AnyChange) (database : Database) → AreEarly (refuses d task database)
refused_early d task database = by task.command where
  by : (c : Command) → AreEarly (refuses d (record task { command = c }) database)
  by command.Validate = by_faults (faults task.changelog.sets database.rows)
  by command.Status = by_faults (faults task.changelog.sets database.rows)
  by command.Update = either (if_some (faults task.changelog.sets database.rows)) (if_halts (own_choice task.changelog (contents_of database))) (by_faults (faults task.changelog.sets database.rows)) (by_own (own_choice task.changelog (contents_of database)))
  by (command.Tag name) = by_rows database.rows
  by (command.Rollback target) =
      either (if_some (faults task.changelog.sets database.rows)) (unreachable_by d task.changelog (rows_kept target database.rows) database.rows) (by_faults (faults task.changelog.sets database.rows)) (by_target d task.changelog (rows_kept target database.rows) database.rows)
  by command.Sync = by_faults (faults task.changelog.sets database.rows)
  by command.Release = λ a is. none_some is

alone : (report : Report) (a : Answer) → has_ended a ≡ false → only a ≡ came report a
alone report a is = ap (λ (b : Bool). let it : Came = record { answer = a; report = if b then Some report else None } in it) (sym is)

pub refused_so : (prints : Bool) (d : Dialect) (task : Task AnyChange) (database : Database) (report : Report) (a : Answer) → refuses d task database ≡ Some a → (work_of prints d task).refuses database ≡ Some (came report a)
refused_so prints d task database report a is = ap (option_map only) is ∙ ap (λ (c : Came). let o : Option Came = Some c in o) (alone report a (refused_early d task database a is).0)

-- of a command that ends with its first step nothing is printed
pub at_once_prints : (prints : Bool) (d : Dialect) (what : OneStep) (options : Options) (g : Files) (stamp : Stamp) → work_of false d (task_for (command_of what) options g stamp) ≡ work_of prints d (task_for (command_of what) options g stamp)
at_once_prints prints d step.Validate options g stamp = refl
at_once_prints prints d step.Status options g stamp = refl
at_once_prints prints d (step.Tag name) options g stamp = refl
at_once_prints prints d step.Release options g stamp = refl

-- the answer in what it came to
pub its_answer : (report : Report) (o : Option Answer) → o ≡ option_map answer_of (option_map (came report) o)
its_answer report None = refl
its_answer report (Some a) = refl
