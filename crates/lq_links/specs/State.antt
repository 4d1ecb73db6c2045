-- The nodes in the slots of an arena, and lists of them that are linked both ways.
use Rattle.std.specs.Prelude.{List, None, Option, Some, [], drop, length, map, slice_get, suc, take, zero, ℕ, ⊤, ◌++◌, ◌+◌, ◌-◌, ◌<◌, ◌^◌, ◌∷◌, ◌≡◌, ◌≢◌}
use denote.RawPtr.{Ptr}
use Rattle.lq_links.specs.declared.done.Done.{Done}
use Rattle.lq_links.specs.declared.done.Done.TheVariants.{Begun, Pushed, Replaced, Unlinked}
use Rattle.lq_links.specs.declared.node.Finger.{Finger}
use Rattle.lq_links.specs.declared.node.Links.{Links}
use Rattle.lq_links.specs.declared.node.Node.{Node}
use Rattle.lq_links.specs.declared.node.Spot.{Spot}
use Rattle.lq_nodes.specs.Slots.{IsAt, with_node}

module _ {X : Type 0} where
  abbrev pub Has : List (Ptr × Option (Node X)) → Spot → Node X → Type 0
  Has slots s n = IsAt slots s.id s.place.ptr n

  abbrev pub with_at : List (Ptr × Option (Node X)) → Spot → Node X → List (Ptr × Option (Node X))
  with_at slots s n = with_node slots s.id s.place.ptr n

  abbrev pub node : Option Spot → Option Spot → X → Node X
  node prev next row = record { prev = prev; next = next; row = row }

  -- the first spot of a list that is followed by one, and the last of one that follows one
  abbrev pub first_or : List (Spot × X) → Option Spot → Option Spot
  first_or [] next = next
  first_or (s ∷ ss) next = Some s.0

  abbrev pub last_or : List (Spot × X) → Option Spot → Option Spot
  last_or [] prev = prev
  last_or (s ∷ ss) prev = last_or ss (Some s.0)

  -- the nodes at the spots of a list point to one another, the first back to prev and the last on to next
  abbrev pub Linked : List (Ptr × Option (Node X)) → Option Spot → List (Spot × X) → Option Spot → Type 0
  Linked slots prev [] next = ⊤
  Linked slots prev (s ∷ ss) next = Has slots s.0 (node prev (first_or ss next) s.1) × Linked slots (Some s.0) ss next

  abbrev pub rows : List (Spot × X) → List X
  rows = map (λ s. s.1)

  -- no spot of the list has the number i
  abbrev pub NotIn : ℕ → List (Spot × X) → Type 0
  NotIn i [] = ⊤
  NotIn i (s ∷ ss) = (s.0.id ≢ i) × NotIn i ss

  abbrev pub NotInIf : Option Spot → List (Spot × X) → Type 0
  NotInIf None ss = ⊤
  NotInIf (Some s) ss = NotIn s.id ss

  -- no number comes twice
  abbrev pub Apart : List (Spot × X) → Type 0
  Apart [] = ⊤
  Apart (s ∷ ss) = NotIn s.0.id ss × Apart ss

  -- there is a node at a spot
  abbrev pub IsThere : List (Ptr × Option (Node X)) → Spot → Type 0
  IsThere slots s = (n : Node X) × Has slots s n

  abbrev pub IsThereIf : List (Ptr × Option (Node X)) → Option Spot → Type 0
  IsThereIf slots None = ⊤
  IsThereIf slots (Some s) = IsThere slots s

  -- the i-th spot
  abbrev pub spot_at : List (Spot × X) → ℕ → Option Spot
  spot_at ss i = first_or (drop i ss) None

  -- the finger is on its spot
  abbrev pub IsOn : List (Spot × X) → Option Finger → Type 0
  IsOn ss None = ⊤
  IsOn ss (Some f) = spot_at ss f.at ≡ Some f.spot

-- The state of linked nodes, and what the steps of a changing call and of undoing it make of it.

pub record State (X : Type 0) : Type 0 where
  pub slots : List (Ptr × Option (Node X))
  pub head : Option Spot
  pub tail : Option Spot
  pub len : ℕ

-- the nodes that were taken out
abbrev pub gone : List Done → List Spot
gone [] = []
gone (Begun ∷ ds) = gone ds
gone (Pushed s last ∷ ds) = gone ds
gone (Unlinked s ∷ ds) = s ∷ gone ds
gone (Replaced s by ∷ ds) = s ∷ gone ds

abbrev pub IsNone : ℕ → List Spot → Type 0
IsNone i [] = ⊤
IsNone i (s ∷ ss) = (s.id ≢ i) × IsNone i ss

module _ {X : Type 0} where
  abbrev pub state_of : Links X → State X
  state_of l = record { slots = l.arena.slots; head = l.head; tail = l.tail; len = l.len }

  abbrev pub nothing : State X
  nothing = record { slots = []; head = None; tail = None; len = 0 }

  -- the next number is that of the next slot, and the nodes are of the allocator that is kept
  abbrev pub Ties : Links X → Type 0
  Ties l = (l.made ≡ length l.arena.slots) × (l.arena.alloc ≡ l.alloc)

  -- the node of a slot
  abbrev pub node_of : Option (Ptr × Option (Node X)) → Option (Node X)
  node_of None = None
  node_of (Some c) = c.1

  -- the slots with another node at a spot, where there is one
  abbrev pub put : List (Ptr × Option (Node X)) → Spot → (Node X → Node X) → Option (Ptr × Option (Node X)) → List (Ptr × Option (Node X))
  put slots s f None = slots
  put slots s f (Some (p, None)) = slots
  put slots s f (Some (p, Some n)) = with_at slots s (f n)

  abbrev pub with_next : List (Ptr × Option (Node X)) → Spot → Option Spot → List (Ptr × Option (Node X))
  with_next slots s to = put slots s (λ n. record n { next = to }) (slice_get slots s.id)

  abbrev pub with_prev : List (Ptr × Option (Node X)) → Spot → Option Spot → List (Ptr × Option (Node X))
  with_prev slots s to = put slots s (λ n. record n { prev = to }) (slice_get slots s.id)

  -- the node at prev leads on to `to`, or the head does
  abbrev pub led_on : State X → Option Spot → Option Spot → State X
  led_on st None to = record st { head = to }
  led_on st (Some a) to = record st { slots = with_next st.slots a to }

  -- the node at next leads back to `to`, or the tail does
  abbrev pub led_back : State X → Option Spot → Option Spot → State X
  led_back st None to = record st { tail = to }
  led_back st (Some b) to = record st { slots = with_prev st.slots b to }

  -- both sides of a gap lead elsewhere; and the other way round, to undo that
  abbrev pub joined : State X → Option Spot → Option Spot → Option Spot → Option Spot → State X
  joined st prev next on back = led_back (led_on st prev on) next back

  abbrev pub rejoined : State X → Option Spot → Option Spot → Option Spot → Option Spot → State X
  rejoined st prev next on back = led_on (led_back st next back) prev on

  abbrev pub with_len : State X → ℕ → State X
  with_len st n = record st { len = n }

  -- one slot more, and one less
  abbrev pub grown : State X → Spot → Node X → State X
  grown st s n = record st { slots = st.slots ++ (s.place.ptr, Some n) ∷ [] }

  abbrev pub popped : State X → State X
  popped st = record st { slots = take (length st.slots - 1) st.slots }

  -- a node that was taken out is again between its neighbours
  abbrev pub relinked_node : State X → Spot → Option (Node X) → State X
  relinked_node st s None = st
  relinked_node st s (Some n) = rejoined st n.prev n.next (Some s) (Some s)

  abbrev pub relinked : State X → Spot → State X
  relinked st s = relinked_node st s (node_of (slice_get st.slots s.id))

  -- a row behind the last one
  abbrev pub pushed : State X → Spot → X → State X
  pushed st s row = with_len (joined (grown st s (node st.tail None row)) st.tail None (Some s) (Some s)) (st.len + 1)

  -- a node is taken out; it keeps its neighbours
  abbrev pub unlinked_node : State X → Option (Node X) → State X
  unlinked_node st None = st
  unlinked_node st (Some n) = with_len (joined st n.prev n.next n.next n.prev) (st.len - 1)

  abbrev pub unlinked : State X → Spot → State X
  unlinked st s = unlinked_node st (node_of (slice_get st.slots s.id))

  -- another node in the place of one
  abbrev pub replaced_node : State X → Spot → X → Option (Node X) → State X
  replaced_node st by row None = st
  replaced_node st by row (Some n) = joined (grown st by (node n.prev n.next row)) n.prev n.next (Some by) (Some by)

  abbrev pub replaced_by : State X → Spot → Spot → X → State X
  replaced_by st s by row = replaced_node st by row (node_of (slice_get st.slots s.id))

  -- the state before a step
  unfoldable pub before : Done → State X → State X
  before Begun st = st
  before (Pushed s last) st = popped (with_len (rejoined st last None None last) (st.len - 1))
  before (Unlinked s) st = with_len (relinked st s) (st.len + 1)
  before (Replaced s by) st = popped (relinked st s)

  -- what undoing a step needs
  abbrev pub CanRelink : State X → Spot → Type 0
  CanRelink st s = (n : Node X) × Has st.slots s n × IsThereIf st.slots n.prev × IsThereIf st.slots n.next

  abbrev pub CanPop : State X → Spot → Type 0
  CanPop st s = IsThere st.slots s × (s.id + 1 ≡ length st.slots)

  abbrev pub CanUndo : Done → State X → Type 0
  CanUndo Begun st = ⊤
  CanUndo (Pushed s last) st = CanPop st s × IsThereIf st.slots last × (0 < st.len)
  CanUndo (Unlinked s) st = CanRelink st s × (st.len + 1 < 2 ^ 64)
  CanUndo (Replaced s by) st = CanRelink st s × CanPop st by

  -- the nodes from the head to the tail are those of the list
  abbrev pub IsList : State X → List (Spot × X) → Type 0
  IsList st ss = Linked st.slots None ss None × (st.head ≡ first_or ss None) × (st.tail ≡ last_or ss None) × Apart ss × (st.len ≡ length ss)

  abbrev pub cons_node : (Option Spot → List (Spot × X)) → Spot → Option (Node X) → List (Spot × X)
  cons_node more s None = []
  cons_node more s (Some n) = (s, n.row) ∷ more n.next

  abbrev pub cons_spot : (Option Spot → List (Spot × X)) → List (Ptr × Option (Node X)) → Option Spot → List (Spot × X)
  cons_spot more slots None = []
  cons_spot more slots (Some s) = cons_node more s (node_of (slice_get slots s.id))

  -- at most k spots with their rows, from cur on
  unfoldable pub spots_from : ℕ → List (Ptr × Option (Node X)) → Option Spot → List (Spot × X)
  spots_from zero slots cur = []
  spots_from (suc k) slots cur = cons_spot (spots_from k slots) slots cur

  -- the list
  abbrev pub spots : State X → List (Spot × X)
  spots st = spots_from st.len st.slots st.head

  -- these nodes are there, none twice, and none is of the list
  abbrev pub Spare : List (Ptr × Option (Node X)) → List (Spot × X) → List Spot → Type 0
  Spare slots ss [] = ⊤
  Spare slots ss (g ∷ gs) = NotIn g.id ss × IsNone g.id gs × IsThere slots g × Spare slots ss gs

  abbrev pub IsSound : State X → List Done → Type 0
  IsSound st ds = IsList st (spots st) × Spare st.slots (spots st) (gone ds)

  -- each step can be undone, the newest first
  abbrev pub AllUndo : State X → List Done → Type 0
  AllUndo st [] = ⊤
  AllUndo st (d ∷ ds) = CanUndo d st × IsSound (before d st) ds × AllUndo (before d st) ds

  -- the rows before each changing call
  unfoldable pub pasts : State X → List Done → List (List X)
  pasts st [] = []
  pasts st (Begun ∷ ds) = rows (spots st) ∷ pasts st ds
  pasts st (Pushed s last ∷ ds) = pasts (before (Pushed s last) st) ds
  pasts st (Unlinked s ∷ ds) = pasts (before (Unlinked s) st) ds
  pasts st (Replaced s by ∷ ds) = pasts (before (Replaced s by) st) ds
