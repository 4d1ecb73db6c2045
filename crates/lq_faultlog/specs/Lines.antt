-- The line of the log for each fault of a changelog.
use Rattle.std.specs.Prelude.{List, codes, ℕ}
use Rattle.lq_base.specs.declared.fault.KindFault.{KindFault}
use Rattle.lq_base.specs.declared.fault.KindFault.TheVariants as kind
use Rattle.lq_report.specs.Output.{dialect_fault_line, file_fault_line, fixed_line, key_fault_line, line_fault_line, no_file_line}
use Rattle.lq_report.specs.declared.fixed.FixedLine.TheVariants as fixed
use Rattle.lq_sources.specs.declared.fault.LoadFault.{LoadFault}
use Rattle.lq_sources.specs.declared.fault.LoadFault.TheVariants as load
use Rattle.lq_sources.specs.declared.fault.What.{What}
use Rattle.lq_sources.specs.declared.fault.What.TheVariants as what

-- a rule that does not hold at a place in the tree of the file at a path
abbrev pub rule_line : List ℕ → KindFault → List ℕ
rule_line path (kind.Missing place) = key_fault_line path place (codes "missing")
rule_line path (kind.Unknown place) = key_fault_line path place (codes "unknown")
rule_line path (kind.Bad place) = key_fault_line path place (codes "bad")
rule_line path (kind.NotFor place d) = dialect_fault_line path place d
rule_line path kind.OutOfMemory = fixed_line fixed.OutOfMemory

-- what is wrong in the file at a path
abbrev pub what_line : List ℕ → What → List ℕ
what_line path what.NotJson = file_fault_line path (codes "not JSON")
what_line path what.FloatNumber = file_fault_line path (codes "float number")
what_line path what.NotUtf8 = file_fault_line path (codes "not UTF-8")
what_line path what.TooDeep = file_fault_line path (codes "too deep")
what_line path what.NoHeader = file_fault_line path (codes "no header")
what_line path what.UnknownFormat = file_fault_line path (codes "unknown format")
what_line path what.BadPath = file_fault_line path (codes "bad path")
what_line path (what.Line line) = line_fault_line path line
what_line path (what.Key fault) = rule_line path fault

abbrev pub load_fault_line : LoadFault → List ℕ
load_fault_line load.Read = fixed_line fixed.ReadFault
load_fault_line (load.NoFile path) = no_file_line path
load_fault_line (load.Xml path) = file_fault_line path (codes "XML is not read")
load_fault_line (load.Fault path wrong) = what_line path wrong
load_fault_line (load.TooDeep path) = file_fault_line path (codes "includes too deep")
load_fault_line load.TooMany = fixed_line fixed.TooMany
load_fault_line (load.TooLong path) = file_fault_line path (codes "too long")
load_fault_line load.OutOfMemory = fixed_line fixed.OutOfMemory
