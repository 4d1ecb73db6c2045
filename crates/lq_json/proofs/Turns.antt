-- The grammar's loops, a turn at a time, as trees.
use Rattle.std.proofs.Common.{◌≡◌, ℕ, ◌++◌, ◌-◌, ◌<◌, ◌≤◌, List, [], ◌∷◌, length, Option, Some, None, option_map, option_and_then, Ok, refl, ap, ◌∙◌, Ordering, Less, Equal, Greater, nat_cmp}
use Rattle.std.specs.BTreeMap.{insert_entry}
use Rattle.std.specs.Cmp.Lexicographic.{slice_cmp}
use Rattle.std.specs.Ordering.{match_ordering}
use Rattle.json.specs.Token.{Token}
use Rattle.json.specs.Json as json
use Rattle.json.specs.Json.{Parse, parse_map, after_end_array, read_key, items, members, if_last, value}
use Rattle.json.proofs.Grammar.{items_end, items_more, members_end, members_more}
use Rattle.serde_json.specs.Data.{Data, array, object, Items, item, Members, no_members, member, put}
use Rattle.serde_json.specs.Read.{of_json, of_items, of_members, converted}
use Rattle.lq_json.specs.Trees.{entries_from, tree_from, trees_from}
use Rattle.lq_tree.specs.Json.{entries_of, or_float, tree_of, tree_or_fault, trees_of}
use Rattle.lq_tree.specs.declared.node.Node.{List as ListNode, Map as MapNode, Node}

abbrev pick : {A : Type 0} → A → Option A → A
pick d None = d
pick d (Some a) = a

-- ---- of two readings, one after the other

found : {A B : Type 0} (a : A) (r s : List Token) (x : Option B) (b : B) → option_map {U = B × List Token} (λ y. (y, r)) x ≡ Some (b, s) → (r ≡ s) × (x ≡ Some b)
found a r s None b e = absurd (cc)
found a r s (Some y) b e = let same = ap (pick (y, r)) e in (ap (λ p. p.1) same, ap (λ p. Some p.0) same)

pub converted_some : {A B : Type 0} (f : A → Option B) (o : Option (A × List Token)) (b : B) (r : List Token) → converted f o ≡ Some (b, r) → (a : A) × (o ≡ Some (a, r)) × (f a ≡ Some b)
converted_some f None b r e = absurd (cc)
converted_some f (Some p) b r e = let both = found p.0 p.1 r (f p.0) b e in (p.0, ap (λ s. Some (p.0, s)) both.0, both.1)

first_of : {A B : Type 0} (f : A → Option B) (o : Option A) (b : B) → option_and_then f o ≡ Some b → (a : A) × (o ≡ Some a) × (f a ≡ Some b)
first_of f None b e = absurd (cc)
first_of f (Some a) b e = (a, refl, e)

twice : {A B : Type 0} (g : A → B) (r : List Token) (x : Option A) → option_map (λ b. (b, r)) (option_map g x) ≡ parse_map g (option_map (λ a. (a, r)) x)
twice g r None = refl
twice g r (Some a) = refl

-- ---- lists and maps as values

list_of : (r : List Token) (x : Option Items) → option_map (λ n. (n, r)) (option_and_then tree_of (option_map array x)) ≡ parse_map ListNode (option_map (λ ns. (ns, r)) (option_and_then trees_of x))
list_of r None = refl
list_of r (Some ds) = twice ListNode r (trees_of ds)

pub converted-array : (o : Option (json.Items × List Token)) → converted tree_from (parse_map json.array o) ≡ parse_map ListNode (converted trees_from o)
converted-array None = refl
converted-array (Some p) = list_of p.1 (of_items p.0)

map_of : (r : List Token) (x : Option Members) → option_map (λ n. (n, r)) (option_and_then tree_of (option_map object x)) ≡ parse_map MapNode (option_map (λ es. (es, r)) (option_and_then entries_of x))
map_of r None = refl
map_of r (Some ms) = twice MapNode r (entries_of ms)

pub converted-object : (o : Option (json.Members × List Token)) → converted tree_from (parse_map json.object o) ≡ parse_map MapNode (converted entries_from o)
converted-object None = refl
converted-object (Some p) = map_of p.1 (of_members p.0 no_members)

-- ---- the items of a list

item_of : (d : Data) (n : Node) → tree_of d ≡ Some n → (r : List Token) (x : Option Items)
    → option_map (λ ns. (ns, r)) (option_and_then trees_of (option_map (item d) x)) ≡ parse_map (λ ns. n ∷ ns) (option_map (λ ns. (ns, r)) (option_and_then trees_of x))
item_of d n e r None = refl
item_of d n e r (Some ds) = rw e (twice (λ ns. n ∷ ns) r (trees_of ds))

with_item : (j : json.Json) (n : Node) → tree_from j ≡ Some n → (o : Option (json.Items × List Token)) → converted trees_from (parse_map (json.item j) o) ≡ parse_map (λ ns. n ∷ ns) (converted trees_from o)
with_item j n e None = refl
with_item j n e (Some p) = let d = first_of tree_of (of_json j) n e in rw d.1 (item_of d.0 n d.2 p.1 (of_items p.0))

module _ (p : Parse json.Json) where
  pub item_read : (n : ℕ) (ts r : List Token) (node : Node) → 0 < n → after_end_array ts ≡ None → converted tree_from (p ts) ≡ Some (node, r)
      → converted trees_from (items p n ts) ≡ parse_map (λ ns. node ∷ ns) (converted trees_from (items p (n - 1) r))
  item_read n ts r node some going e = let j = converted_some tree_from (p ts) node r e in ap (converted trees_from) (items_more p n ts r j.0 some going j.1) ∙ with_item j.0 node j.2 _

  pub items_over : (n : ℕ) (ts r : List Token) → length ts ≤ n → after_end_array ts ≡ Some r → converted trees_from (items p n ts) ≡ Some ([], r)
  items_over n ts r enough e = ap (converted trees_from) (items_end p n ts r enough e)

-- a list that grows at its end
pub one_more : (ns : List Node) (n : Node) (r : Option (List Node × List Token)) → parse_map (λ more. ns ++ more) (parse_map (λ more. n ∷ more) r) ≡ parse_map (λ more. (ns ++ n ∷ []) ++ more) r
one_more ns n None = refl
one_more ns n (Some p) = ap (λ more. Some (more, p.1)) (by ns) where
  by : (ms : List Node) → ms ++ n ∷ p.0 ≡ (ms ++ n ∷ []) ++ p.0
  by [] = refl
  by (m ∷ ms) = ap (λ more. m ∷ more) (by ms)

pub none_before : (r : Option (List Node × List Token)) → r ≡ parse_map (λ more. [] ++ more) r
none_before None = refl
none_before (Some p) = refl

-- ---- the members of a map

-- the entries of a map's members, put among those that are there
abbrev pub entries_into : Members → json.Members → Option (List (List ℕ × Node))
entries_into old ms = option_and_then entries_of (of_members ms old)

with_member : (k : List ℕ) (j : json.Json) (d : Data) (old : Members) → of_json j ≡ Some d → (o : Option (json.Members × List Token))
    → converted (entries_into old) (parse_map (json.member k j) o) ≡ converted (entries_into (put k d old)) o
with_member k j d old e None = refl
with_member k j d old e (Some p) = rw e refl

module _ (p : Parse json.Json) (old : Members) where
  pub member_read : (n : ℕ) (k : List ℕ) (ts s r : List Token) (node : Node) → 0 < n → read_key ts ≡ Some (Some k, s) → converted tree_from (p s) ≡ Some (node, r)
      → (d : Data) × (tree_of d ≡ Some node) × (converted (entries_into old) (members p n ts) ≡ converted (entries_into (put k d old)) (members p (n - 1) r))
  member_read n k ts s r node some key e =
      let j = converted_some tree_from (p s) node r e in
      let d = first_of tree_of (of_json j.0) node j.2 in
      (d.0, d.2, ap (converted (entries_into old)) (members_more p n k ts s r j.0 some key j.1) ∙ with_member k j.0 d.0 old d.1 _)

  pub members_over : (n : ℕ) (ts r : List Token) (es : List (List ℕ × Node)) → entries_of old ≡ Some es → length ts ≤ n → read_key ts ≡ Some (None, r) → converted (entries_into old) (members p n ts) ≡ Some (es, r)
  members_over n ts r es are enough e = ap (converted (entries_into old)) (members_end p n ts r enough e) ∙ ap (option_map (λ found. (found, r))) are

abbrev pub put_entry : List ℕ → Node → List (List ℕ × Node) → List (List ℕ × Node)
put_entry k n es = insert_entry (slice_cmp nat_cmp) es k n

-- a member's tree goes where the member goes
pub entries_put : (k : List ℕ) (d : Data) (n : Node) → tree_of d ≡ Some n → (ms : Members) (es : List (List ℕ × Node)) → entries_of ms ≡ Some es → entries_of (put k d ms) ≡ Some (put_entry k n es)
entries_put k d n is no_members es e = rw is (ap (λ o. Some (put_entry k n (pick es o))) e)
entries_put k d n is (member l f ms) es e =
    let m = first_of (λ n. option_map (λ es. (l, n) ∷ es) (entries_of ms)) (tree_of f) es e in
    by m.0 m.1 (entries_of ms) refl m.2 (entries_put k d n is ms) where
      -- (by how the key stands to the first one)
      goes : (m : Node) → tree_of f ≡ Some m → (more : List (List ℕ × Node)) → entries_of ms ≡ Some more → entries_of (put k d ms) ≡ Some (put_entry k n more) → (o : Ordering)
          → entries_of (match_ordering o (member k d (member l f ms)) (member l d ms) (member l f (put k d ms))) ≡ Some (match_ordering o ((k, n) ∷ (l, m) ∷ more) ((l, n) ∷ more) ((l, m) ∷ put_entry k n more))
      goes m first more others later Less = rw (is, first, others) refl
      goes m first more others later Equal = rw (is, others) refl
      goes m first more others later Greater = rw (first, later) refl

      by : (m : Node) → tree_of f ≡ Some m → (o : Option (List (List ℕ × Node))) → entries_of ms ≡ o → option_map (λ es. (l, m) ∷ es) o ≡ Some es
          → ((more : List (List ℕ × Node)) → entries_of ms ≡ Some more → entries_of (put k d ms) ≡ Some (put_entry k n more)) → entries_of (put k d (member l f ms)) ≡ Some (put_entry k n es)
      by m first None others e later = absurd (cc)
      by m first (Some more) others e later = goes m first more others (later more others) (slice_cmp nat_cmp k l) ∙ ap (λ o. Some (put_entry k n (pick es o))) e

-- ---- what is no list and no map

pub scalar_read : (t : Token) (j : json.Json) (node : Node) → ((depth : ℕ) (ts : List Token) → value depth (t ∷ ts) ≡ Some (j, ts)) → tree_from j ≡ Some node
    → (depth : ℕ) (ts : List Token) → converted tree_from (value depth (t ∷ ts)) ≡ Some (node, ts)
scalar_read t j node is e depth ts = ap (converted tree_from) (is depth ts) ∙ ap (option_map (λ n. (n, ts))) e

-- ---- the whole text

pub whole_read : (o : Option (json.Json × List Token)) (node : Node) → converted tree_from o ≡ Some (node, []) → tree_or_fault (option_and_then of_json (option_and_then (λ p. if_last p.0 p.1) o)) ≡ Ok node
whole_read o node e =
    let j = converted_some tree_from o node [] e in
    let d = first_of tree_of (of_json j.0) node j.2 in
    ap (λ read. tree_or_fault (option_and_then of_json (option_and_then (λ p. if_last p.0 p.1) read))) j.1 ∙ ap tree_or_fault d.1 ∙ ap or_float d.2
