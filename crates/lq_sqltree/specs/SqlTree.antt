-- The tree that a file of formatted SQL stands for: its changesets, each as three maps with the keys that changesets have in JSON and YAML.
use Rattle.std.specs.Fmt.{decimal}
use Rattle.std.specs.List.{filter, list_any}
use Rattle.std.specs.Prelude.{Bool, Err, List, None, Ok, Option, Result, Some, [], codes, if◌then◌else◌, map, not, ℕ, ◌++◌, ◌||◌, ◌∷◌, ◌≡◌}
use Rattle.std.specs.Str.{bytes_eq}
use Rattle.std.specs.Str.Lines.{lines}
use Rattle.lq_sqlfile.specs.File.{file_of}
use Rattle.lq_sqlfile.specs.declared.fault.SqlFault.{SqlFault}
use Rattle.lq_sqlfile.specs.declared.fault.SqlFault.TheVariants as sql
use Rattle.lq_sqlfile.specs.declared.file.SqlFile.{SqlFile}
use Rattle.lq_sqlfile.specs.declared.file.SqlSet.{SqlSet}
use Rattle.lq_sqltree.specs.declared.attributes.Keys.{Keys}
use Rattle.lq_sqltree.specs.declared.attributes.Keys.TheVariants.{OfHeading, OfSet, OfSql}
use Rattle.lq_sqltree.specs.declared.fault.SqlTreeFault.{SqlTreeFault}
use Rattle.lq_sqltree.specs.declared.fault.SqlTreeFault.TheVariants.{Line, NoHeader, OutOfMemory}
use Rattle.lq_tree.specs.declared.node.Node.{List as ListNode, Map as MapNode, Node, Text as TextNode}

-- ---- keys

-- a map of one key
abbrev pub under : List ℕ → Node → Node
under key value = MapNode ((key, value) ∷ [])

-- names with their texts
abbrev pub text_keys : List (List ℕ × List ℕ) → List (List ℕ × Node)
text_keys pairs = map (λ p. (p.0, TextNode p.1)) pairs

-- ---- the attributes of a heading

-- the attributes that say how the body is taken apart
abbrev pub is_of_sql : List ℕ → Bool
is_of_sql name = bytes_eq name (codes "splitStatements") || (bytes_eq name (codes "endDelimiter") || bytes_eq name (codes "stripComments"))

-- the attributes that say something else for each database or path
abbrev pub is_of_place : List ℕ → Bool
is_of_place name = bytes_eq name (codes "dbms") || bytes_eq name (codes "logicalFilePath")

-- whether an attribute is a key of that map
abbrev pub is_key : Keys → List ℕ → Bool
is_key OfSql name = is_of_sql name
is_key OfSet name = not (is_of_sql name)
is_key OfHeading name = not (is_of_sql name || is_of_place name)

abbrev pub keys_of : Keys → List (List ℕ × List ℕ) → List (List ℕ × Node)
keys_of which attributes = text_keys (filter (λ p. is_key which p.0) attributes)

abbrev pub names_path : List (List ℕ × List ℕ) → Bool
names_path attributes = list_any (λ p. bytes_eq p.0 (codes "logicalFilePath")) attributes

-- the logical path of the file is that of each changeset whose heading names none
abbrev pub path_key : Option (List ℕ) → List (List ℕ × List ℕ) → List (List ℕ × Node)
path_key None attributes = []
path_key (Some path) attributes = if names_path attributes then [] else (codes "logicalFilePath", TextNode path) ∷ []

-- ---- preconditions

abbrev pub reaction : List ℕ → Option (List ℕ) → List Node
reaction key None = []
reaction key (Some text) = under key (TextNode text) ∷ []

-- a query with the result that is expected
abbrev pub check : List ℕ × List ℕ → Node
check p = under (codes "sqlCheck") (MapNode ((codes "expectedResult", TextNode p.0) ∷ (codes "sql", TextNode p.1) ∷ []))

abbrev pub reactions : SqlSet → List Node
reactions s = reaction (codes "onFail") s.on_fail ++ reaction (codes "onError") s.on_error

abbrev pub conditions : SqlSet → List Node
conditions s = reactions s ++ map check s.checks

-- ---- changes and rollback

-- the `sql` change of a body that is taken apart so
abbrev pub sql_change : List ℕ → List (List ℕ × Node) → Node
sql_change body of_sql = under (codes "sql") (MapNode ((codes "sql", TextNode body) ∷ of_sql))

-- an empty body is no change
abbrev pub changes : List ℕ → List (List ℕ × Node) → List Node
changes [] of_sql = []
changes (b ∷ body) of_sql = sql_change (b ∷ body) of_sql ∷ []

-- the empty block
abbrev pub is_empty_block : List ℕ → Bool
is_empty_block text = bytes_eq text (codes "empty") || bytes_eq text (codes "not required")

-- a block of one text
abbrev pub undoing : List ℕ → List Node
undoing text = if is_empty_block text then [] else TextNode text ∷ []

abbrev pub rollback_key : Option (List ℕ) → List (List ℕ × Node)
rollback_key None = []
rollback_key (Some text) = (codes "rollback", ListNode (undoing text)) ∷ []

-- ---- changesets

-- what stands beside the attributes, with these preconditions and changes
abbrev pub own_keys : SqlSet → List Node → List Node → List (List ℕ × Node)
own_keys s asked made =
    (codes "id", TextNode s.id)
    ∷ (codes "author", TextNode s.author)
    ∷ (codes "comment", TextNode s.comment)
    ∷ (codes "preConditions", ListNode asked)
    ∷ (codes "changes", ListNode made)
    ∷ []

-- the keys of its heading with a text for the file's path
abbrev pub placed_keys : Option (List ℕ) → SqlSet → List (List ℕ × Node)
placed_keys logical s = keys_of OfSet s.attributes ++ path_key logical s.attributes

-- what its heading says for every database and path: the body is empty, but for how it is taken apart
unfoldable pub heading : SqlSet → Node
heading s = MapNode (own_keys s (reactions s) (sql_change [] (keys_of OfSql s.attributes) ∷ []) ++ keys_of OfHeading s.attributes)

-- what it is where it is not here: neither its checks nor its body nor its rollback is looked at
unfoldable pub elsewhere : Option (List ℕ) → SqlSet → Node
elsewhere logical s = MapNode (own_keys s (reactions s) [] ++ placed_keys logical s)

-- what it is where it is here
unfoldable pub here : Option (List ℕ) → SqlSet → Node
here logical s = MapNode (own_keys s (conditions s) (changes s.body (keys_of OfSql s.attributes)) ++ placed_keys logical s ++ rollback_key s.rollback)

-- a changeset of a file with that logical path: as its heading says, as it is elsewhere, and as it is here
unfoldable pub change_set : Option (List ℕ) → SqlSet → Node
change_set logical s = MapNode (
    (codes "heading", heading s)
    ∷ (codes "elsewhere", elsewhere logical s)
    ∷ (codes "here", here logical s)
    ∷ [])

-- and as an item of the changelog, under the line at which it begins
unfoldable pub item : Option (List ℕ) → SqlSet → Node
item logical s = under (codes "changeSet") (under (decimal s.line) (change_set logical s))

-- ---- files

unfoldable pub tree_of : SqlFile → Node
tree_of file = under (codes "databaseChangeLog") (ListNode (map (item file.logical) file.sets))

abbrev pub fault_of : SqlFault → SqlTreeFault
fault_of sql.NoHeader = NoHeader
fault_of (sql.Line n) = Line n
fault_of sql.OutOfMemory = OutOfMemory

abbrev pub tree_or_fault : Result SqlFile SqlFault → Result Node SqlTreeFault
tree_or_fault (Ok file) = Ok (tree_of file)
tree_or_fault (Err fault) = Err (fault_of fault)

-- the tree of a file's bytes, or what is wrong with them
unfoldable pub sql_tree : List ℕ → Result Node SqlTreeFault
sql_tree bytes = tree_or_fault (file_of (lines bytes))

-- Two small files with their trees.

abbrev pub line : List ℕ → List ℕ → List ℕ
line text rest = text ++ 10 ∷ rest

-- a body that is not split, and what takes it back
abbrev pub whole_body : List ℕ
whole_body =
    line (codes "--liquibase formatted sql logicalFilePath:a.sql")
    (line (codes "--changeset bob:1 dbms:mysql splitStatements:false")
    (line (codes "A;")
    (line (codes "B;")
    (line (codes "--rollback C")
    []))))

-- a changeset's keys: its ID, its comment, its preconditions, its changes, and what follows them
abbrev pub bobs : List ℕ → List ℕ → List Node → List Node → List (List ℕ × Node) → Node
bobs id comment asked made more = MapNode (
    (codes "id", TextNode id)
    ∷ (codes "author", TextNode (codes "bob"))
    ∷ (codes "comment", TextNode comment)
    ∷ (codes "preConditions", ListNode asked)
    ∷ (codes "changes", ListNode made)
    ∷ more)

-- the one changeset of a file, at a line: as its heading says, as it is elsewhere, and as it is here
abbrev pub one_set : List ℕ → Node → Node → Node → Node
one_set at heading elsewhere here = under (codes "databaseChangeLog") (ListNode (under (codes "changeSet") (under at (MapNode (
    (codes "heading", heading)
    ∷ (codes "elsewhere", elsewhere)
    ∷ (codes "here", here)
    ∷ []))) ∷ []))

abbrev pub unsplit : List ℕ → Node
unsplit body = under (codes "sql") (MapNode ((codes "sql", TextNode body) ∷ (codes "splitStatements", TextNode (codes "false")) ∷ []))

abbrev pub whole_tree : Node
whole_tree = one_set (codes "2")
    (bobs (codes "1") [] [] (unsplit [] ∷ []) [])
    (bobs (codes "1") [] [] [] ((codes "dbms", TextNode (codes "mysql")) ∷ (codes "logicalFilePath", TextNode (codes "a.sql")) ∷ []))
    (bobs (codes "1") [] [] (unsplit (codes "A;" ++ 10 ∷ codes "B;") ∷ []) (
    (codes "dbms", TextNode (codes "mysql"))
    ∷ (codes "logicalFilePath", TextNode (codes "a.sql"))
    ∷ (codes "rollback", ListNode (TextNode (codes "C") ∷ []))
    ∷ []))

-- preconditions, no body, and the empty rollback
abbrev pub checked : List ℕ
checked =
    line (codes "--liquibase formatted sql")
    (line []
    (line (codes "--changeset bob:2")
    (line (codes "--comment hi")
    (line (codes "--preconditions onError:WARN onFail:HALT")
    (line (codes "--precondition-sql-check expectedResult:0 Q")
    (line (codes "--rollback not required")
    []))))))

abbrev pub reacting : List Node
reacting = under (codes "onFail") (TextNode (codes "HALT")) ∷ under (codes "onError") (TextNode (codes "WARN")) ∷ []

abbrev pub asking : Node
asking = under (codes "sqlCheck") (MapNode ((codes "expectedResult", TextNode (codes "0")) ∷ (codes "sql", TextNode (codes "Q")) ∷ []))

abbrev pub checked_tree : Node
checked_tree = one_set (codes "3")
    (bobs (codes "2") (codes "hi") reacting (under (codes "sql") (under (codes "sql") (TextNode [])) ∷ []) [])
    (bobs (codes "2") (codes "hi") reacting [] [])
    (bobs (codes "2") (codes "hi") (reacting ++ asking ∷ []) [] ((codes "rollback", ListNode []) ∷ []))

pub record SqlTreeExamples : Type 0 where
  pub whole : sql_tree whole_body ≡ Ok whole_tree
  pub conditions : sql_tree checked ≡ Ok checked_tree
