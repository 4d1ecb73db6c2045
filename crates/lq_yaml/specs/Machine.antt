-- Reading tokens one by one, over a stack of open collections. What the code computes: no public contract names it, so it need not be believed.
use Rattle.std.specs.BTreeMap.{insert_entry, is_at}
use Rattle.std.specs.Map.{lookup}
use Rattle.std.specs.Prelude.{Bool, List, None, Option, Some, [], cond, false, is_some, length, max, nat_lt, not, option_and_then, option_map, true, ℕ, ◌&&◌, ◌++◌, ◌+◌, ◌∷◌}
use Rattle.lq_base.specs.Name.{is_text, text_cmp}
use Rattle.lq_tree.specs.declared.node.Node.{List as ListNode, Map as MapNode, Node, Null, Text as TextNode}
use Rattle.lq_yaml.specs.Layout.{block_text}
use Rattle.lq_yaml.specs.Tree.{value_levels}
use Rattle.lq_yaml.specs.declared.token.Chomping.{Chomping}
use Rattle.lq_yaml.specs.declared.token.Head.{Head}
use Rattle.lq_yaml.specs.declared.token.Head.TheVariants.{Dash, Key}
use Rattle.lq_yaml.specs.declared.token.Token.{Token}
use Rattle.lq_yaml.specs.declared.token.Token.TheVariants.{Begin, LiteralHeader, LiteralLine, Value}

-- what is closed of an open collection; of a mapping also the key that is open
pub data Part : Type 0 where
  items : List Node → Part
  entries : List (List ℕ × Node) → List ℕ → Part

pub record Frame : Type 0 where
  pub rank : ℕ
  pub part : Part

-- nothing yet, a whole value, or an open literal block with its lines so far
pub data Cell : Type 0 where
  none : Cell
  done : Node → Cell
  block : Chomping → List (List ℕ) → Cell

-- what stands so far behind the innermost open head, and the open collections, innermost first
pub record Place : Type 0 where
  pub cell : Cell
  pub frames : List Frame

abbrev pub place : Cell → List Frame → Place
place c fs = record { cell = c; frames = fs }

abbrev pub start : Place
start = place none []

abbrev pub cell_node : Cell → Node
cell_node none = Null
cell_node (done n) = n
cell_node (block chomping ls) = TextNode (block_text chomping ls)

abbrev pub begun : Head → Part
begun Dash = items []
begun (Key k) = entries [] k

-- whether one more head may stand in the collection
abbrev pub fits : Head → Part → Bool
fits Dash (items ns) = true
fits (Key j) (entries es k) = not (is_text j k) && not (is_some (lookup (is_at (text_cmp j)) es))
fits _ _ = false

-- the collection, with the node that stands behind its open head
abbrev pub filled : Part → Node → Node
filled (items ns) n = ListNode (ns ++ n ∷ [])
filled (entries es k) n = MapNode (insert_entry text_cmp es k n)

-- and with one more head
abbrev pub next : Head → Part → Node → Part
next Dash (items ns) n = items (ns ++ n ∷ [])
next (Key j) (entries es k) n = entries (insert_entry text_cmp es k n) j
next _ p n = p

abbrev pub frame : ℕ → Part → Frame
frame q p = record { rank = q; part = p }

-- closes the collections of greater rank
abbrev pub settled : ℕ → Cell → List Frame → Place
settled q c [] = place c []
settled q c (f ∷ fs) = cond (nat_lt q f.rank) (settled q (done (filled f.part (cell_node c))) fs) (place c (f ∷ fs))

abbrev pub put : ℕ → Cell → Cell → List Frame → Option Place
put q v none (f ∷ fs) = cond (nat_lt f.rank q) (Some (place v (f ∷ fs))) None
put q v _ _ = None

abbrev pub open_more : ℕ → Head → Cell → List Frame → Option Place
open_more q h none fs = Some (place none (frame q (begun h) ∷ fs))
open_more q h _ fs = None

-- one more line of a block
abbrev pub add_line : List ℕ → Cell → List Frame → Option Place
add_line l (block chomping ls) fs = Some (place (block chomping (ls ++ l ∷ [])) fs)
add_line l _ fs = None

-- the rank of the innermost open head
abbrev pub top : List Frame → ℕ
top [] = 0
top (f ∷ fs) = f.rank

abbrev pub again : Head → Cell → List Frame → Option Place
again h c [] = None
again h c (f ∷ fs) = cond (fits h f.part) (Some (place none (frame f.rank (next h f.part (cell_node c)) ∷ fs))) None

abbrev pub begin : ℕ → Head → Cell → List Frame → Option Place
begin q h c fs = cond (nat_lt (top fs) q) (open_more q h c fs) (again h c fs)

abbrev pub step : Token → Place → Option Place
step (Value q v) s = let at = settled q s.cell s.frames in put q (done v) at.cell at.frames
step (LiteralHeader q chomping) s = let at = settled q s.cell s.frames in put q (block chomping []) at.cell at.frames
step (LiteralLine l) s = add_line l s.cell s.frames
step (Begin q h) s = let at = settled q s.cell s.frames in begin q h at.cell at.frames

abbrev pub run : List Token → Place → Option Place
run [] s = Some s
run (t ∷ ts) s = option_and_then (λ n. run ts n) (step t s)

-- the node, at the end
abbrev pub made : Cell → Option Node
made (done n) = Some n
made _ = None

abbrev pub finish : Place → Option Node
finish s = made (settled 0 s.cell s.frames).cell

-- the level that a token reaches, which led to the place
abbrev pub level_at : Token → Place → ℕ
level_at (Begin q h) s = length s.frames
level_at (Value q v) s = length s.frames + value_levels v
level_at _ s = 0

abbrev pub reach_by : Token → (Place → ℕ) → Option Place → ℕ
reach_by t more None = 0
reach_by t more (Some n) = max (level_at t n) (more n)

-- the deepest level on the way
abbrev pub reach : List Token → Place → ℕ
reach [] s = 0
reach (t ∷ ts) s = reach_by t (λ n. reach ts n) (step t s)

-- The machine with the deepest level on its way. What the code computes: it need not be believed.

pub record Deep : Type 0 where
  pub at : Place
  pub levels : ℕ

abbrev pub deep : Place → ℕ → Deep
deep p k = record { at = p; levels = k }

abbrev pub deep_start : Deep
deep_start = deep start 0

abbrev pub own_levels : Token → Option ℕ
own_levels (Begin q h) = Some 0
own_levels (Value q v) = Some (value_levels v)
own_levels _ = None

abbrev pub deeper : ℕ → ℕ → Option ℕ → ℕ
deeper levels frames None = levels
deeper levels frames (Some own) = max levels (frames + own)

abbrev pub deep_step : Token → Deep → Option Deep
deep_step t s = option_map (λ n. deep n (deeper s.levels (length n.frames) (own_levels t))) (step t s.at)

abbrev pub deep_run : List Token → Deep → Option Deep
deep_run [] s = Some s
deep_run (t ∷ ts) s = option_and_then (λ n. deep_run ts n) (deep_step t s)
