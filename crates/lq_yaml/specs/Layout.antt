-- How a tree is laid out by tokens.
use Rattle.std.specs.List.{list_all}
use Rattle.std.specs.Prelude.{Bool, List, [], false, not, true, ℕ, ◌++◌, ◌<◌, ◌∷◌, ◌≡◌, ◌⊎◌}
use Rattle.lq_base.specs.Name.{is_text}
use Rattle.lq_tree.specs.declared.node.Node.{Node, Text as TextNode}
use Rattle.lq_yaml.specs.Tree.{Entries, Tree, collection, empty, entry, is_nil, leaf, no_entries, without_last}
use Rattle.lq_yaml.specs.declared.token.Chomping.{Chomping}
use Rattle.lq_yaml.specs.declared.token.Chomping.TheVariants.{Clip, Strip}
use Rattle.lq_yaml.specs.declared.token.Head.{Head}
use Rattle.lq_yaml.specs.declared.token.Head.TheVariants.{Dash, Key}
use Rattle.lq_yaml.specs.declared.token.Token.{Token}
use Rattle.lq_yaml.specs.declared.token.Token.TheVariants.{Begin, LiteralHeader, LiteralLine, Value}

-- whether two heads may stand in one collection: two dashes, or two keys that differ
abbrev pub goes_with : Head → Head → Bool
goes_with Dash Dash = true
goes_with (Key j) (Key k) = not (is_text j k)
goes_with _ _ = false

abbrev pub goes_with_all : Head → List Head → Bool
goes_with_all h hs = list_all (goes_with h) hs

-- what ends the last line of a literal block: a line feed, which `|-` strips
abbrev pub last_end : Chomping → List ℕ
last_end Clip = 10 ∷ []
last_end Strip = []

-- what stands after a line with those lines after it
abbrev pub line_end : Chomping → List (List ℕ) → List ℕ
line_end chomping [] = last_end chomping
line_end chomping (l ∷ ls) = 10 ∷ []

abbrev pub lines_text : Chomping → List (List ℕ) → List ℕ
lines_text chomping [] = []
lines_text chomping (l ∷ ls) = l ++ (line_end chomping ls ++ lines_text chomping ls)

-- the text of a literal block: the empty lines at its end are dropped
abbrev pub block_text : Chomping → List (List ℕ) → List ℕ
block_text chomping ls = lines_text chomping (without_last is_nil ls)

abbrev pub literal_lines : List (List ℕ) → List Token
literal_lines [] = []
literal_lines (l ∷ ls) = LiteralLine l ∷ literal_lines ls

-- a value in its line, or a literal block
abbrev pub IsLeaf : ℕ → List Token → Node → Type 0
IsLeaf q toks v = (toks ≡ Value q v ∷ []) ⊎ ((chomping : Chomping) × (ls : List (List ℕ)) × (toks ≡ LiteralHeader q chomping ∷ literal_lines ls) × (v ≡ TextNode (block_text chomping ls)))

abbrev pub IsFull : Entries → Type 0
IsFull no_entries = ⊥
IsFull (entry h t es) = Unit {0}

abbrev mutual
  -- the tree stands on these tokens, inside a head of that rank
  pub Inside : ℕ → List Token → Tree → Type 0
  Inside r toks (leaf v) = (q : ℕ) × (r < q) × IsLeaf q toks v
  Inside r toks empty = toks ≡ []
  Inside r toks (collection es) = (q : ℕ) × (r < q) × IsFull es × AreEntries q [] toks es

  -- the entries have heads of that one rank, which go with each other and with those before; the tree of each stands inside its head
  pub AreEntries : ℕ → List Head → List Token → Entries → Type 0
  AreEntries q before toks no_entries = toks ≡ []
  AreEntries q before toks (entry h t es) = (a b : List Token) × (toks ≡ (Begin q h ∷ a) ++ b) × (goes_with_all h before ≡ true) × Inside q a t × AreEntries q (before ++ h ∷ []) b es

abbrev pub IsCollection : Tree → Type 0
IsCollection (collection es) = Unit {0}
IsCollection _ = ⊥

-- the tokens of a whole file lay out the tree, whose root is a sequence or a mapping
abbrev pub Layout : List Token → Tree → Type 0
Layout toks t = IsCollection t × Inside 0 toks t
