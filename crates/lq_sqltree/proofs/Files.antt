-- What the reader of files answers, as an equation, and what the trees of its answers are.
use Rattle.std.proofs.Common.{◌≡◌, ◌∙◌, ◌⊎◌, List, Option, Some, None, [], ◌∷◌, option_and_then, Result, Ok, Err, IfOk, ℕ, ap, inl, inr, refl, sym}
use Rattle.std.specs.Str.Lines.{lines}
use Rattle.lq_sqlfile.specs.Lines.{header}
use Rattle.lq_sqlfile.specs.File.{HasHeader, IsFile, IsWrong, file_behind, file_of, file_with, read_from, text_in}
use Rattle.lq_sqlfile.specs.View.{Gives}
use Rattle.lq_sqlfile.specs.declared.fault.SqlFault.{SqlFault}
use Rattle.lq_sqlfile.specs.declared.fault.SqlFault.TheVariants as sql
use Rattle.lq_sqlfile.specs.declared.file.SqlFile.{SqlFile}
use Rattle.lq_sqlfile.specs.declared.file.SqlSet.{SqlSet}
use Rattle.lq_sqlfile.proofs.WholeForms.{file_found, file_made, gives_wrong, headless, no_header, wrong_line}
use Rattle.lq_tree.specs.declared.node.Node.{Node}
use Rattle.lq_sqltree.specs.Laws.{IsTreeOf}
use Rattle.lq_sqltree.specs.SqlTree.{fault_of, sql_tree, tree_of, tree_or_fault}
use Rattle.lq_sqltree.specs.declared.fault.SqlTreeFault.{SqlTreeFault}
use Rattle.lq_sqltree.specs.declared.fault.SqlTreeFault.TheVariants.{Line, NoHeader, OutOfMemory}

-- ---- the reader's answer is that of the definition, or want of memory

gives_itself : (r : Result SqlFile SqlFault) → Gives r r
gives_itself (Ok file) = refl
gives_itself (Err sql.NoHeader) = refl
gives_itself (Err (sql.Line n)) = refl
gives_itself (Err sql.OutOfMemory) = tt

-- the definition knows no want of memory
never_with : (logical : Option (List ℕ)) (r : Result (List SqlSet) ℕ) → ¬ (file_with logical r ≡ Err sql.OutOfMemory)
never_with logical (Ok sets) is = absurd cc
never_with logical (Err n) is = absurd cc

never_behind : (rest : List (List ℕ)) (first : Option (Option (List ℕ))) → ¬ (file_behind rest first ≡ Err sql.OutOfMemory)
never_behind rest None is = absurd cc
never_behind rest (Some logical) is = never_with logical (read_from 2 rest None) is

never : (lines : List (List ℕ)) → ¬ (file_of lines ≡ Err sql.OutOfMemory)
never [] is = absurd cc
never (first ∷ rest) is = never_behind rest (option_and_then header (text_in first)) is

wrong_by : (lines : List (List ℕ)) (n : ℕ) → (file_of lines ≡ Err (sql.Line n)) ⊎ (file_of lines ≡ Err sql.OutOfMemory) → file_of lines ≡ Err (sql.Line n)
wrong_by lines n (inl is) = is
wrong_by lines n (inr is) = absurd (never lines is)

wrong_is : (lines : List (List ℕ)) (n : ℕ) → IsWrong lines n → file_of lines ≡ Err (sql.Line n)
wrong_is lines n wrong = wrong_by lines n (gives_wrong lines (file_of lines) n (gives_itself (file_of lines)) wrong)

pub file_is : (lines : List (List ℕ)) (r : Result SqlFile SqlFault) → IfOk r (λ file. IsFile lines file) → (r ≡ Err sql.NoHeader → ¬ (HasHeader lines))
    → ((n : ℕ) → r ≡ Err (sql.Line n) → IsWrong lines n) → (r ≡ Err sql.OutOfMemory) ⊎ (r ≡ file_of lines)
file_is lines (Ok file) made none wrong = inr (sym (file_found lines file made))
file_is lines (Err sql.NoHeader) made none wrong = inr (sym (headless lines (none refl)))
file_is lines (Err (sql.Line n)) made none wrong = inr (sym (wrong_is lines n (wrong n refl)))
file_is lines (Err sql.OutOfMemory) made none wrong = inl refl

-- ---- the trees of the definition's answers

tree_from : (r : Result SqlFile SqlFault) (node : Node) → tree_or_fault r ≡ Ok node → (file : SqlFile) × (r ≡ Ok file) × (node ≡ tree_of file)
tree_from (Ok file) node is = (file, refl, (let same : node ≡ tree_of file = cc in same))
tree_from (Err fault) node is = absurd cc

headless_from : (r : Result SqlFile SqlFault) → tree_or_fault r ≡ Err NoHeader → r ≡ Err sql.NoHeader
headless_from (Ok file) is = absurd cc
headless_from (Err sql.NoHeader) is = refl
headless_from (Err (sql.Line n)) is = absurd cc
headless_from (Err sql.OutOfMemory) is = absurd cc

wrong_from : (r : Result SqlFile SqlFault) (n : ℕ) → tree_or_fault r ≡ Err (Line n) → r ≡ Err (sql.Line n)
wrong_from (Ok file) n is = absurd cc
wrong_from (Err sql.NoHeader) n is = absurd cc
wrong_from (Err (sql.Line m)) n is = let same : m ≡ n = cc in ap (λ (k : ℕ). Err (sql.Line k)) same
wrong_from (Err sql.OutOfMemory) n is = absurd cc

pub trees_made : (bytes : List ℕ) (node : Node) → sql_tree bytes ≡ Ok node → IsTreeOf (lines bytes) node
unfolding sql_tree
trees_made bytes node is = let found = tree_from (file_of (lines bytes)) node is in (found.0, file_made (lines bytes) found.0 found.1, found.2)

pub trees_found : (bytes : List ℕ) (node : Node) → IsTreeOf (lines bytes) node → sql_tree bytes ≡ Ok node
unfolding sql_tree
trees_found bytes node (file, made, is) = ap tree_or_fault (file_found (lines bytes) file made) ∙ ap Ok (sym is)

pub headers_missed : (bytes : List ℕ) → sql_tree bytes ≡ Err NoHeader → ¬ (HasHeader (lines bytes))
unfolding sql_tree
headers_missed bytes is = no_header (lines bytes) (headless_from (file_of (lines bytes)) is)

pub headers_lacked : (bytes : List ℕ) → ¬ (HasHeader (lines bytes)) → sql_tree bytes ≡ Err NoHeader
unfolding sql_tree
headers_lacked bytes bad = ap tree_or_fault (headless (lines bytes) bad)

pub lines_told : (bytes : List ℕ) (n : ℕ) → sql_tree bytes ≡ Err (Line n) → IsWrong (lines bytes) n
unfolding sql_tree
lines_told bytes n is = wrong_line (lines bytes) n (wrong_from (file_of (lines bytes)) n is)

pub lines_wrong : (bytes : List ℕ) (n : ℕ) → IsWrong (lines bytes) n → sql_tree bytes ≡ Err (Line n)
unfolding sql_tree
lines_wrong bytes n wrong = ap tree_or_fault (wrong_is (lines bytes) n wrong)

-- ---- the call's answers

abbrev pub AnswersFile : List ℕ → Result SqlFile SqlFault → Type 0
AnswersFile bytes r = (r ≡ Err sql.OutOfMemory) ⊎ (r ≡ file_of (lines bytes))

abbrev pub AnswersTree : List ℕ → Result Node SqlTreeFault → Type 0
AnswersTree bytes r = (r ≡ Err OutOfMemory) ⊎ (r ≡ sql_tree bytes)

pub tree_read : (bytes : List ℕ) (file : SqlFile) (node : Node) → AnswersFile bytes (Ok file) → node ≡ tree_of file → AnswersTree bytes (Ok node)
unfolding sql_tree
tree_read bytes file node (inl is) same = absurd cc
tree_read bytes file node (inr is) same = inr (ap Ok same ∙ ap tree_or_fault is)

pub fault_read : (bytes : List ℕ) (fault : SqlFault) → AnswersFile bytes (Err fault) → AnswersTree bytes (Err (fault_of fault))
unfolding sql_tree
fault_read bytes fault (inl is) = let same : fault ≡ sql.OutOfMemory = cc in inl (let F : SqlFault → Result Node SqlTreeFault = λ f. Err (fault_of f) in ap F same)
fault_read bytes fault (inr is) = inr (ap tree_or_fault is)
