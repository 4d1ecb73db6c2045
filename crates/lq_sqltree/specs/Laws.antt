-- What the tree of a file's bytes is, said of its lines.
use Rattle.std.specs.Prelude.{Err, List, Ok, ℕ, ◌↔◌, ◌≡◌}
use Rattle.std.specs.Str.Lines.{lines}
use Rattle.lq_sqlfile.specs.File.{HasHeader, IsFile, IsWrong}
use Rattle.lq_sqlfile.specs.declared.file.SqlFile.{SqlFile}
use Rattle.lq_sqltree.specs.SqlTree.{sql_tree, tree_of}
use Rattle.lq_sqltree.specs.declared.fault.SqlTreeFault.TheVariants.{Line, NoHeader}
use Rattle.lq_tree.specs.declared.node.Node.{Node}

-- the lines are a file, and the tree is that of the file
abbrev pub IsTreeOf : List (List ℕ) → Node → Type 0
IsTreeOf lines node = (file : SqlFile) × IsFile lines file × (node ≡ tree_of file)

abbrev pub FilesAreTrees : Type 0
FilesAreTrees = (bytes : List ℕ) (node : Node) → (sql_tree bytes ≡ Ok node) ↔ IsTreeOf (lines bytes) node

abbrev pub HeadersAreMissed : Type 0
HeadersAreMissed = (bytes : List ℕ) → (sql_tree bytes ≡ Err NoHeader) ↔ ¬ (HasHeader (lines bytes))

abbrev pub LinesAreWrong : Type 0
LinesAreWrong = (bytes : List ℕ) (n : ℕ) → (sql_tree bytes ≡ Err (Line n)) ↔ IsWrong (lines bytes) n
