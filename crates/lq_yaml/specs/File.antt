-- The lines of a file, the trees that they lay out, and what is wrong with lines that lay out none.
use Rattle.std.specs.Prelude.{List, [], codes, length, map, neg_ℤ, pos, take, true, ℕ, ◌++◌, ◌+◌, ◌-◌, ◌<◌, ◌^◌, ◌∷◌, ◌≡◌, ◌≤◌}
use Rattle.std.specs.Str.{chars}
use Rattle.std.specs.Str.Lines.{lines}
use Rattle.lq_tree.specs.declared.node.Node.{List as ListNode, Map as MapNode, Node, Null, Text as TextNode, Truth, Whole}
use Rattle.lq_yaml.specs.Layout.{Layout}
use Rattle.lq_yaml.specs.Made.{IsFile}
use Rattle.lq_yaml.specs.Tree.{Tree, levels, node_of}
use Rattle.lq_yaml.specs.declared.fault.YamlFault.{YamlFault}
use Rattle.lq_yaml.specs.declared.fault.YamlFault.TheVariants.{Line, NotUtf8, OutOfMemory, TooDeep}
use Rattle.lq_yaml.specs.declared.token.Token.{Token}

-- the lines of a text, as characters: each ends with LF or CRLF, the last one may lack its end
abbrev pub lines_of : List ℕ → List (List ℕ)
lines_of text = map chars (lines text)

-- the lines are made of tokens that lay out the tree
abbrev pub IsLaidOut : List (List ℕ) → Tree → Type 0
IsLaidOut ls t = (toks : List Token) × IsFile ls toks × Layout toks t

-- the most levels that a tree may have
abbrev pub most_levels : ℕ
most_levels = 64

-- a layout of a tree that is not too deep begins with these lines
abbrev pub Begins : List (List ℕ) → Type 0
Begins ls = (more : List (List ℕ)) × (t : Tree) × (levels t ≤ most_levels) × IsLaidOut (ls ++ more) t

-- a layout of a tree of any depth begins with these lines
abbrev pub BeginsDeep : List (List ℕ) → Type 0
BeginsDeep ls = (more : List (List ℕ)) × (t : Tree) × IsLaidOut (ls ++ more) t

-- n is the least number of lines with which no layout of a tree that is not too deep begins; the end of the file is one more line
pub record IsLeast (ls : List (List ℕ)) (n : ℕ) : Type 0 where
  pub some : 0 < n
  pub within : n ≤ length ls + 1
  pub before : Begins (take (n - 1) ls)
  pub none : n ≤ length ls → Begins (take n ls) → ⊥
  pub end : length ls < n → (t : Tree) → levels t ≤ most_levels → IsLaidOut ls t → ⊥

-- the line is the first that is wrong, and not for the depth alone
pub record IsWrong (ls : List (List ℕ)) (n : ℕ) : Type 0 where
  pub least : IsLeast ls n
  pub any : n ≤ length ls → BeginsDeep (take n ls) → ⊥

-- the first line that is wrong is so for the depth alone
pub record IsTooDeep (ls : List (List ℕ)) : Type 0 where
  pub line : ℕ
  pub within : line ≤ length ls
  pub least : IsLeast ls line
  pub deep : BeginsDeep (take line ls)

-- the lines lay out a tree that means the node, and that is not too deep
abbrev pub IsRead : List (List ℕ) → Node → Type 0
IsRead ls node = (t : Tree) × IsLaidOut ls t × (levels t ≤ most_levels) × (node_of t ≡ node)

-- what a fault says of the lines of a text
abbrev pub Blames : List (List ℕ) → YamlFault → Type 0
Blames ls NotUtf8 = ⊥
Blames ls (Line n) = IsWrong ls n
Blames ls TooDeep = IsTooDeep ls
Blames ls OutOfMemory = Unit {0}

-- lines lay out at most one node
abbrev pub LinesLayOutOne : Type 0
LinesLayOutOne = (ls : List (List ℕ)) (t u : Tree) → IsLaidOut ls t → IsLaidOut ls u → node_of t ≡ node_of u

-- Small files and what they mean, each form once.

-- a file of one line with a sequence of one item
abbrev pub Means : List ℕ → Node → Type 0
Means item node = IsRead ((codes "- " ++ item) ∷ []) (ListNode (node ∷ []))

-- no file of that one item
abbrev pub MeansNothing : List ℕ → Type 0
MeansNothing item = (node : Node) → IsRead ((codes "- " ++ item) ∷ []) node → ⊥

pub record ScalarExamples : Type 0 where
  pub null_word : Means (codes "null") Null
  pub tilde : Means (codes "~") Null
  pub truth : Means (codes "true") (Truth true)
  pub zero : Means (codes "0") (Whole (pos 0))
  pub negative : Means (codes "-12") (Whole (neg_ℤ (pos 12)))
  pub greatest : Means (codes "170141183460469231731687303715884105727") (Whole (pos (2 ^ 127 - 1)))
  -- not a number: one more than 127 bits hold, a point, a zero in front
  pub past : Means (codes "170141183460469231731687303715884105728") (TextNode (codes "170141183460469231731687303715884105728"))
  pub point : Means (codes "1.10") (TextNode (codes "1.10"))
  pub padded : Means (codes "007") (TextNode (codes "007"))
  -- blanks at the end, a comment, and signs that are none here
  pub text : Means (codes "a:b#c  # d") (TextNode (codes "a:b#c"))
  pub single : Means (codes "'it''s: # 1'") (TextNode (codes "it's: # 1"))
  pub empty_text : Means (codes "''") (TextNode [])
  -- `"\"\u0041\n"`
  pub double : Means (codes "\"\\\"\\u0041\\n\"") (TextNode (codes "\"A" ++ 10 ∷ []))
  -- each escape once: `"\\\"\/\n\t\r\0\u00E9"`
  pub escapes : Means (codes "\"\\\\\\\"\\/\\n\\t\\r\\0\\u00E9\"") (TextNode (92 ∷ 34 ∷ 47 ∷ 10 ∷ 9 ∷ 13 ∷ 0 ∷ 195 ∷ 169 ∷ []))
  pub empty_list : Means (codes "[] # c") (ListNode [])
  pub empty_map : Means (codes "{}") (MapNode [])
  pub open_quote : MeansNothing (codes "'a")
  -- `"\x"`
  pub bad_escape : MeansNothing (codes "\"\\x\"")
  -- `"\ud800"`, a surrogate
  pub surrogate : MeansNothing (codes "\"\\ud800\"")
  pub pair : MeansNothing (codes "a: b: c")
  pub colon : MeansNothing (codes "a: b:")
  pub anchor : MeansNothing (codes "&a")
  pub flow : MeansNothing (codes "[1]")
  pub folded : MeansNothing (codes "> a")
  pub question : MeansNothing (codes "? a")

pub record LineExamples : Type 0 where
  pub mapping : IsRead (codes "b: 1" ∷ codes "a:" ∷ []) (MapNode ((codes "a", Null) ∷ (codes "b", Whole (pos 1)) ∷ []))
  pub sequence : IsRead (codes "- x" ∷ codes "-" ∷ []) (ListNode (TextNode (codes "x") ∷ Null ∷ []))
  pub nested : IsRead (codes "- a: 1" ∷ codes "  b: 2" ∷ codes "- - 3" ∷ [])
      (ListNode (MapNode ((codes "a", Whole (pos 1)) ∷ (codes "b", Whole (pos 2)) ∷ []) ∷ ListNode (Whole (pos 3) ∷ []) ∷ []))
  -- a sequence may have its key's indent
  pub at_key : IsRead (codes "a:" ∷ codes "- 1" ∷ codes "b: 2" ∷ []) (MapNode ((codes "a", ListNode (Whole (pos 1) ∷ [])) ∷ (codes "b", Whole (pos 2)) ∷ []))
  pub below : IsRead (codes "a:" ∷ codes "  x" ∷ []) (MapNode ((codes "a", TextNode (codes "x")) ∷ []))
  pub quoted_key : IsRead (codes "'a:' : 1" ∷ []) (MapNode ((codes "a:", Whole (pos 1)) ∷ []))
  pub skipped : IsRead (codes "# c" ∷ [] ∷ codes "---" ∷ codes " # d" ∷ codes "a: 1 # e" ∷ []) (MapNode ((codes "a", Whole (pos 1)) ∷ []))
  pub block : IsRead (codes "a: |" ∷ [] ∷ codes "  x" ∷ codes "   # y" ∷ codes " " ∷ codes "b: 1" ∷ [])
      (MapNode ((codes "a", TextNode (10 ∷ codes "x" ++ 10 ∷ codes " # y" ++ 10 ∷ [])) ∷ (codes "b", Whole (pos 1)) ∷ []))
  pub stripped : IsRead (codes "- |-" ∷ codes " x" ∷ codes " y" ∷ []) (ListNode (TextNode (codes "x" ++ 10 ∷ codes "y") ∷ []))
  pub no_lines : IsRead (codes "a: |" ∷ codes "b: 1" ∷ []) (MapNode ((codes "a", TextNode []) ∷ (codes "b", Whole (pos 1)) ∷ []))
  -- the same key, in quotes; a line of a block with less indent; a comment behind a key; `---` a second time
  pub twice : (node : Node) → IsRead (codes "a: 1" ∷ codes "'a': 2" ∷ []) node → ⊥
  pub shallow : (node : Node) → IsRead (codes "a: |" ∷ codes "   x" ∷ codes "  y" ∷ []) node → ⊥
  pub behind_key : (node : Node) → IsRead (codes "a: # c" ∷ []) node → ⊥
  pub second_marker : (node : Node) → IsRead (codes "---" ∷ codes "---" ∷ codes "a: 1" ∷ []) node → ⊥
  pub tab : (node : Node) → IsRead (codes "a:" ∷ (9 ∷ codes "b: 1") ∷ []) node → ⊥
  pub only_comments : (node : Node) → IsRead (codes "# a" ∷ []) node → ⊥
