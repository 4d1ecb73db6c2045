-- The machine from line to line. What the code computes: it need not be believed.
use Rattle.std.specs.Prelude.{Err, List, None, Ok, Option, Result, Some, [], cond, if◌then◌else◌, map, nat_lt, option_and_then, option_map, ℕ, ◌+◌, ◌↔◌, ◌∷◌, ◌≡◌}
use Rattle.std.specs.Str.{IsUtf8, chars, is_utf8}
use denote.Ref.{Bor}
use Rattle.lq_tree.specs.declared.node.Node.{Node}
use Rattle.lq_yaml.specs.File.{IsRead, IsTooDeep, IsWrong, lines_of, most_levels}
use Rattle.lq_yaml.specs.Line.{line_tokens}
use Rattle.lq_yaml.specs.Machine.{Deep, deep, deep_run, deep_start, finish}
use Rattle.lq_yaml.specs.View.{place_of}
use Rattle.lq_yaml.specs.declared.builder.Builder.{Builder}
use Rattle.lq_yaml.specs.declared.fault.YamlFault.{YamlFault}
use Rattle.lq_yaml.specs.declared.fault.YamlFault.TheVariants.{Line, NotUtf8, OutOfMemory, TooDeep}
use Rattle.lq_yaml.specs.declared.mode.Mode.{Mode}
use Rattle.lq_yaml.specs.declared.mode.Mode.TheVariants.{Fresh}
use Rattle.lq_yaml.specs.declared.reading.Reader.{Reader}

pub record State : Type 0 where
  pub mode : Mode
  pub deep : Deep

abbrev pub state : Mode → Deep → State
state m d = record { mode = m; deep = d }

abbrev pub file_start : State
file_start = state Fresh deep_start

abbrev pub line_step : List ℕ → State → Option State
line_step l s = option_and_then (λ x. option_map (λ d. state x.1 d) (deep_run x.0 s.deep)) (line_tokens s.mode l)

abbrev pub run_lines : List (List ℕ) → State → Option State
run_lines [] s = Some s
run_lines (l ∷ ls) s = option_and_then (λ n. run_lines ls n) (line_step l s)

-- What a builder and a reader stand for.

abbrev pub deep_of : Builder → Deep
deep_of b = deep (place_of b.place) b.levels

abbrev pub state_of : Reader → State
state_of r = state r.mode (deep_of r.builder)

-- the lines of a file, as characters
abbrev pub shown_lines : List (Bor (List ℕ)) → List (List ℕ)
shown_lines ls = map (λ l. chars l.now) ls

-- The tree of a YAML file as a function of its bytes. What the code computes: that it is the tree which the lines lay out is the law `TreesAreLaidOut`.

-- at the end of the file, which is the line of that number
abbrev pub at_end : ℕ → Option Node → Result Node YamlFault
at_end n None = Err (Line n)
at_end n (Some node) = Ok node

-- after the line of that number
abbrev pub after_line : ℕ → (State → Result Node YamlFault) → Option State → Result Node YamlFault
after_line n more None = Err (Line n)
after_line n more (Some s) = cond (nat_lt most_levels s.deep.levels) (Err TooDeep) (more s)

-- the lines from that number on
abbrev pub lines_tree : ℕ → List (List ℕ) → State → Result Node YamlFault
lines_tree n [] s = at_end n (finish s.deep.at)
lines_tree n (l ∷ ls) s = after_line n (lines_tree (n + 1) ls) (line_step l s)

unfoldable pub text_tree : List (List ℕ) → Result Node YamlFault
text_tree ls = lines_tree 1 ls file_start

-- what the bytes are read as, were there memory enough
unfoldable pub yaml_tree : List ℕ → Result Node YamlFault
yaml_tree bytes = if is_utf8 bytes then text_tree (lines_of bytes) else Err NotUtf8

-- what is read of the bytes: the tree that the lines lay out, or the fault of the first wrong line
pub record IsYaml (bytes : List ℕ) (read : Result Node YamlFault) : Type 0 where
  pub tree : (node : Node) → (read ≡ Ok node) ↔ (IsUtf8 bytes × IsRead (lines_of bytes) node)
  pub not_utf8 : (read ≡ Err NotUtf8) ↔ ¬ (IsUtf8 bytes)
  pub line : (n : ℕ) → read ≡ Err (Line n) → IsWrong (lines_of bytes) n
  pub deep : read ≡ Err TooDeep → IsTooDeep (lines_of bytes)
  pub memory : read ≡ Err OutOfMemory → ⊥

abbrev pub TreesAreLaidOut : Type 0
TreesAreLaidOut = (bytes : List ℕ) → IsYaml bytes (yaml_tree bytes)
