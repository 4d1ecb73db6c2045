-- The tags that the command lines of a drill's file set are short.
use Rattle.std.proofs.Common.{subst}
use Rattle.std.proofs.lemmas.List.Elements.{All-cons, All-nil}
use Rattle.std.specs.Int.{is_in_range}
use Rattle.std.specs.List.{All, list_any, position}
use Rattle.std.specs.Option.{option_map}
use Rattle.std.specs.Prelude.{Bool, IfSome, List, None, Option, Some, [], drop, false, if◌then◌else◌, length, take, true, ℕ, ◌+◌, ◌∷◌, ◌≡◌}
use Rattle.std.specs.Str.{is_utf8}
use Rattle.lq_base.specs.declared.command.Command.TheVariants as command
use Rattle.lq_base.specs.declared.dialect.Dialect.{Dialect}
use Rattle.lq_cli.specs.Line.{line_of}
use Rattle.lq_cli.specs.Options.{each}
use Rattle.lq_cli.specs.declared.line.Job.{Job}
use Rattle.lq_cli.specs.declared.line.Job.TheVariants.{Drill, History, RollbackSql, Run, Soak, UpdateCount, UpdateSql, UpdateTestingRollback, UpdateTo, Generate, ClearSums, UndoUnrecorded, Snapshot}
use Rattle.lq_cli.specs.declared.line.Line.{Line}
use Rattle.lq_lines.specs.File.{command_of, is_empty, is_run, only_run, url_word, with_url, words_in, both_of, cut_lines, is_steps, lines_in, lines_of, lines_with, steps_of}
use Rattle.lq_lines.specs.declared.lines.Lines.{Lines}
use Rattle.lq_players.specs.AtOnce.{HasShortTag}
use Rattle.lq_drills.proofs.ShortTag.{Any, HasShort, IsShortLine, any, if_holds, of_short, then_holds}
use Rattle.lq_jobs.specs.Drills.{command_in}

abbrev AreShort : Lines → Type 0
AreShort lines = All IsShortLine lines.lines

unless_holds : {A : Type 0} (P : A → Type 0) (b : Bool) (o : Option A) → IfSome o P → IfSome (if b then None else o) P
unless_holds P true o has = tt
unless_holds P false o has = has

command_short : (url text : List ℕ) → IfSome (command_of url text) IsShortLine
unfolding command_of
command_short url text =
    unless_holds IsShortLine (list_any is_empty (words_in text)) _
    (then_holds IsShortLine IsShortLine only_run (line_of (with_url url (words_in text))) (of_short (with_url url (words_in text))) (λ line short. if_holds IsShortLine (is_run line.job) (Some line) short))

with_first : (line : Line) (o : Option (List Line)) → IsShortLine line → IfSome o (All IsShortLine) → IfSome (option_map (λ more. line ∷ more) o) (All IsShortLine)
with_first line None short all = tt
with_first line (Some more) short all = All-cons IsShortLine line more short all

each_short : (url : List ℕ) (texts : List (List ℕ)) → IfSome (each (command_of url) texts) (All IsShortLine)
each_short url [] = All-nil IsShortLine
each_short url (text ∷ texts) = then_holds IsShortLine (All IsShortLine) _ (command_of url text) (command_short url text) (λ line short. with_first line (each (command_of url) texts) short (each_short url texts))

both_short : (url : List ℕ) (commands numbers : List (List ℕ)) → IfSome (both_of url commands numbers) AreShort
unfolding both_of
both_short url commands numbers =
    then_holds (All IsShortLine) AreShort _ (each (command_of url) commands) (each_short url commands) (λ lines short.
    then_holds Any AreShort _ (steps_of (length commands) numbers) (any (steps_of (length commands) numbers)) (λ steps u. short))

with_short : (url : List ℕ) (commands numbers : List (List ℕ)) → IfSome (lines_with url commands numbers) AreShort
unfolding lines_with
with_short url commands numbers = if_holds AreShort (is_in_range 1 64 (length commands)) (both_of url commands numbers) (both_short url commands numbers)

cut_short : (url : List ℕ) (lines : List (List ℕ)) → IfSome (cut_lines url lines) AreShort
unfolding cut_lines
cut_short url lines = then_holds Any AreShort _ (position is_steps lines) (any (position is_steps lines)) (λ place u. with_short url (take place lines) (drop (place + 1) lines))

all_short : (d : Dialect) (path file : List ℕ) → IfSome (lines_of d path file) AreShort
unfolding lines_of
all_short d path file = if_holds AreShort (is_utf8 file) (cut_lines (url_word d path) (lines_in file)) (cut_short (url_word d path) (lines_in file))

-- each command of it

tag_short : (job : Job) → HasShort job → HasShortTag (command_in job)
tag_short (Run command.Validate) short = tt
tag_short (Run command.Status) short = tt
tag_short (Run command.Update) short = tt
tag_short (Run (command.Tag tag)) short = short.0
tag_short (Run (command.Rollback target)) short = tt
tag_short (Run command.Sync) short = tt
tag_short (Run command.Release) short = tt
tag_short UpdateSql short = tt
tag_short (UpdateCount count) short = tt
tag_short (UpdateTo tag) short = tt
tag_short UpdateTestingRollback short = tt
tag_short ClearSums short = tt
tag_short History short = tt
tag_short (Generate author) short = tt
tag_short (RollbackSql target) short = tt
tag_short (Drill runs) short = tt
tag_short (Soak number sets) short = tt
tag_short UndoUnrecorded short = tt
tag_short Snapshot short = tt

pub lines_short : (d : Dialect) (path file : List ℕ) (lines : Lines) → lines_of d path file ≡ Some lines → All (λ (line : Line). HasShortTag (command_in line.job)) lines.lines
lines_short d path file lines is =
    let all = subst (λ o. IfSome o AreShort) is (all_short d path file) in
    λ k line less. tag_short _ (all k line less)
