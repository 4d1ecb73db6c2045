use Rattle.std.proofs.Common.{◌≡◌, ◌+◌, drop}
use Rattle.lq_yaml.specs.Yaml.{state_of, shown_lines, lines_tree, text_tree}
use Rattle.lq_yaml.proofs.reading.read_lines.Given as goal

abbrev pub invariant-loop-i : goal.invariant-loop-i
invariant-loop-i l = text_tree (shown_lines l.lines) ≡ lines_tree (l.i + 1) (shown_lines (drop l.i l.lines)) (state_of l.reader)
