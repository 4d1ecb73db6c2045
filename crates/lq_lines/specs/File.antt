-- The command lines of a drill's file: words with one space between, without `--url`.
use Rattle.std.specs.Int.{IsInRange, is_in_range}
use Rattle.std.specs.List.{flat_map, list_any, position, slice_split}
use Rattle.std.specs.Prelude.{All, Bool, Err, List, None, Ok, Option, Result, Some, [], codes, drop, false, filter, if◌then◌else◌, length, nat_le, not, take, true, ℕ, ◌++◌, ◌+◌, ◌==◌, ◌∷◌, ◌≡◌, ◌≤◌}
use Rattle.std.specs.Str.{bytes_eq, is_utf8}
use Rattle.lq_base.specs.Kind.{is_blank}
use Rattle.lq_base.specs.Name.{dialect_text}
use Rattle.lq_base.specs.declared.dialect.Dialect.{Dialect}
use Rattle.lq_cli.specs.Line.{line_of, ◌>>=◌}
use Rattle.lq_cli.specs.Options.{each, number_from}
use Rattle.lq_cli.specs.declared.line.Job.{Job}
use Rattle.lq_cli.specs.declared.line.Job.TheVariants.{Run}
use Rattle.lq_cli.specs.declared.line.Line.{Line}
use Rattle.lq_lines.specs.declared.fault.LinesFault.{LinesFault}
use Rattle.lq_lines.specs.declared.fault.LinesFault.TheVariants.{OutOfMemory, Usage}
use Rattle.lq_lines.specs.declared.lines.Lines.{Lines}

-- a text cut at each space
abbrev pub words_in : List ℕ → List (List ℕ)
words_in text = slice_split (λ byte. byte == 32) text

abbrev pub is_empty : List ℕ → Bool
is_empty word = length word == 0

-- the option that names the database
abbrev pub url_word : Dialect → List ℕ → List ℕ
url_word dialect path = codes "--url=" ++ dialect_text dialect ++ codes ":" ++ path

-- that option stands behind the command's name
abbrev pub with_url : List ℕ → List (List ℕ) → List (List ℕ)
with_url url [] = []
with_url url (name ∷ words) = name ∷ url ∷ words

-- a command that runs on the database: it prints no SQL and no history, updates by all of its changelog, writes no snapshot, and is no drill and no soak
abbrev pub is_run : Job → Bool
is_run (Run command) = true
is_run _ = false

abbrev pub only_run : Line → Option Line
only_run line = if is_run line.job then Some line else None

-- what a command line asks for; one with an empty word, or none, asks for nothing
unfoldable pub command_of : List ℕ → List ℕ → Option Line
command_of url text = if list_any is_empty (words_in text) then None else line_of (with_url url (words_in text)) >>= only_run

-- The numbers of a drill's file: each is one step of the command line with this number, counted from 1.

abbrev pub is_word : List ℕ → Bool
is_word part = not (length part == 0)

-- what stands between the blanks of a line
unfoldable pub numbers_in : List ℕ → List (List ℕ)
numbers_in line = filter is_word (slice_split is_blank line)

-- a number from 1 to the count of command lines, in decimal digits without a sign or a leading zero
unfoldable pub step_of : ℕ → List ℕ → Option ℕ
step_of count word = number_from 1 count word

abbrev pub at_most : ℕ → List ℕ → Option (List ℕ)
at_most most steps = if nat_le (length steps) most then Some steps else None

-- the numbers of all lines, in order
unfoldable pub steps_of : ℕ → List (List ℕ) → Option (List ℕ)
steps_of count lines = each (step_of count) (flat_map numbers_in lines) >>= at_most 1000000

-- The file of a drill: command lines, a line `steps`, and lines of numbers.

-- a text cut at each line feed; behind a last line feed stands an empty line
abbrev pub lines_in : List ℕ → List (List ℕ)
lines_in text = slice_split (λ byte. byte == 10) text

abbrev pub is_steps : List ℕ → Bool
is_steps line = bytes_eq line (codes "steps")

-- what the command lines ask for, and the numbers
unfoldable pub both_of : List ℕ → List (List ℕ) → List (List ℕ) → Option Lines
both_of url commands numbers = do
  lines ← each (command_of url) commands
  steps ← steps_of (length commands) numbers
  Some (record { lines = lines; steps = steps })

-- there are 1 to 64 command lines
unfoldable pub lines_with : List ℕ → List (List ℕ) → List (List ℕ) → Option Lines
lines_with url commands numbers = if is_in_range 1 64 (length commands) then both_of url commands numbers else None

-- the command lines stand before the first line `steps`, the numbers behind it
unfoldable pub cut_lines : List ℕ → List (List ℕ) → Option Lines
cut_lines url lines = do
  place ← position is_steps lines
  lines_with url (take place lines) (drop (place + 1) lines)

-- what the file gives for the database of this dialect and path
unfoldable pub lines_of : Dialect → List ℕ → List ℕ → Option Lines
lines_of dialect path file = if is_utf8 file then cut_lines (url_word dialect path) (lines_in file) else None

-- What holds of all that a file gives.

pub record HasForm (of : Lines) : Type 0 where
  -- 1 to 64 commands, each of which runs on the database
  pub few : IsInRange 1 64 (length of.lines)
  pub runs : All (λ line. is_run line.job ≡ true) of.lines
  -- at most 1,000,000 steps, each of one of the commands
  pub bounded : length of.steps ≤ 1000000
  pub numbered : All (IsInRange 1 (length of.lines)) of.steps

-- The answer of a reading, or want of memory.

abbrev pub Gives : {A : Type 0} → Option A → Result A LinesFault → Type 0
Gives meant (Ok a) = meant ≡ Some a
Gives meant (Err Usage) = meant ≡ None
Gives meant (Err OutOfMemory) = Unit {0}
