-- What `serde_json` reads has the keys of each object in order, and so has its tree.
use Rattle.std.proofs.Common.{◌≡◌, ℕ, List, ◌∷◌, ◌&&◌, Bool, true, false, Option, Some, None, option_map, option_and_then, cond, map, refl, ap, ◌∙◌, rules, Result, Ok, Err, IfOk, subst, Ordering, Less, Equal, Greater, nat_cmp}
use Rattle.std.proofs.lemmas.Cmp.{nat_list_cmp_total}
use Rattle.std.specs.Cmp.Lexicographic.{slice_cmp}
use Rattle.std.specs.List.{list_all}
use Rattle.std.specs.Map.{keys_of, values_of}
use Rattle.std.specs.Option.{IfSome}
use Rattle.std.specs.Ordering.{is_lt, match_ordering, ordering_reverse}
use Rattle.std.specs.Str.{is_utf8}
use Rattle.json.specs.Json as json
use Rattle.json.specs.Lex.{tokens}
use Rattle.serde_json.specs.Data.{Data, null, boolean, number, string, array, object, Items, no_items, item, Members, no_members, member, put}
use Rattle.serde_json.specs.Find.{as_integer}
use Rattle.serde_json.specs.Read.{number_of, of_json, of_items, of_members, read, max_depth}
use Rattle.lq_tree.specs.declared.node.Node.{Node, Whole, List as ListNode, Map as MapNode, the_lemmas}
use Rattle.lq_tree.specs.declared.node.TreeFault.{TreeFault}
use Rattle.lq_tree.specs.Json.{json_value, tree_of, trees_of, entries_of, rises, is_tree, IsTree}

abbrev pub IsBelow : List ℕ → Members → Type 0
IsBelow k no_members = Unit {0}
IsBelow k (member l e ms) = (slice_cmp nat_cmp k l ≡ Less) × IsBelow k ms

abbrev mutual
  pub InOrder : Data → Type 0
  InOrder null = Unit {0}
  InOrder (boolean b) = Unit {0}
  InOrder (number n) = Unit {0}
  InOrder (string s) = Unit {0}
  InOrder (array ds) = ItemsInOrder ds
  InOrder (object ms) = MembersInOrder ms

  pub ItemsInOrder : Items → Type 0
  ItemsInOrder no_items = Unit {0}
  ItemsInOrder (item d ds) = InOrder d × ItemsInOrder ds

  pub MembersInOrder : Members → Type 0
  MembersInOrder no_members = Unit {0}
  MembersInOrder (member k d ms) = IsBelow k ms × InOrder d × MembersInOrder ms

-- ---- putting a member keeps the order

below_more : (k l : List ℕ) (ms : Members) → slice_cmp nat_cmp k l ≡ Less → IsBelow l ms → IsBelow k ms
below_more k l no_members kl h = tt
below_more k l (member m e ms) kl h = (nat_list_cmp_total.trans k l m kl h.0, below_more k l ms kl h.1)

below_put : (l k : List ℕ) (d : Data) (ms : Members) → slice_cmp nat_cmp l k ≡ Less → IsBelow l ms → IsBelow l (put k d ms)
below_put l k d no_members lk h = (lk, tt)
below_put l k d (member m e ms) lk h =
    elim (slice_cmp nat_cmp k m) as (λ o. IsBelow l (match_ordering o (member k d (member m e ms)) (member m d ms) (member m e (put k d ms)))) [
      | Less ↦ (lk, h)
      | Equal ↦ h
      | Greater ↦ (h.0, below_put l k d ms lk h.1)
    ]

above : (k l : List ℕ) → slice_cmp nat_cmp k l ≡ Greater → slice_cmp nat_cmp l k ≡ Less
above k l h = nat_list_cmp_total.antisymm l k ∙ ap ordering_reverse h

put_in : (k l : List ℕ) (d e : Data) (ms : Members) (o : Ordering) → slice_cmp nat_cmp k l ≡ o → InOrder d → MembersInOrder (member l e ms)
    → MembersInOrder (put k d ms) → MembersInOrder (match_ordering o (member k d (member l e ms)) (member l d ms) (member l e (put k d ms)))
put_in k l d e ms Less is hd h more = ((is, below_more k l ms is h.0), hd, h)
put_in k l d e ms Equal is hd h more = (h.0, hd, h.2)
put_in k l d e ms Greater is hd h more = (below_put l k d ms (above k l is) h.0, h.1, more)

put_in_order : (k : List ℕ) (d : Data) (ms : Members) → InOrder d → MembersInOrder ms → MembersInOrder (put k d ms)
put_in_order k d no_members hd h = (tt, hd, tt)
put_in_order k d (member l e ms) hd h = put_in k l d e ms _ refl hd h (put_in_order k d ms hd h.2)

-- ---- what is read is in order

map_some : {X Y : Type 0} (P : X → Type 0) (Q : Y → Type 0) (f : X → Y) (o : Option X) → ((x : X) → P x → Q (f x)) → IfSome o P → IfSome (option_map f o) Q
map_some P Q f None to h = tt
map_some P Q f (Some x) to h = to x h

then_some : {X Y : Type 0} (P : X → Type 0) (Q : Y → Type 0) (f : X → Option Y) (o : Option X) → ((x : X) → P x → IfSome (f x) Q) → IfSome o P → IfSome (option_and_then f o) Q
then_some P Q f None to h = tt
then_some P Q f (Some x) to h = to x h

any : {X : Type 0} (o : Option X) → IfSome o (λ _. Unit {0})
any None = tt
any (Some x) = tt

mutual
  json_in_order : (j : json.Json) → IfSome (of_json j) InOrder
  json_in_order json.null = tt
  json_in_order (json.boolean b) = tt
  json_in_order (json.number s) = map_some (λ _. Unit {0}) InOrder number (number_of s) (λ n h. h) (any (number_of s))
  json_in_order (json.string s) = tt
  json_in_order (json.array js) = map_some ItemsInOrder InOrder array (of_items js) (λ ds h. h) (items_in_order js)
  json_in_order (json.object ms) = map_some MembersInOrder InOrder object (of_members ms no_members) (λ found h. h) (members_in_order ms no_members tt)

  items_in_order : (js : json.Items) → IfSome (of_items js) ItemsInOrder
  items_in_order json.no_items = tt
  items_in_order (json.item j js) =
      then_some InOrder ItemsInOrder (λ d. option_map (item d) (of_items js)) (of_json j) (λ d hd. map_some ItemsInOrder ItemsInOrder (item d) (of_items js) (λ ds hs. (hd, hs)) (items_in_order js)) (json_in_order j)

  members_in_order : (ms : json.Members) (found : Members) → MembersInOrder found → IfSome (of_members ms found) MembersInOrder
  members_in_order json.no_members found h = h
  members_in_order (json.member k j ms) found h =
      then_some InOrder MembersInOrder (λ d. of_members ms (put k d found)) (of_json j) (λ d hd. members_in_order ms (put k d found) (put_in_order k d found hd h)) (json_in_order j)

read_in_order : (text : List ℕ) → IfSome (read text) InOrder
read_in_order text =
    let parsed = option_and_then (λ p. json.if_last p.0 p.1) (json.value max_depth (tokens text)) in
    then_some (λ _. Unit {0}) InOrder of_json parsed (λ j h. json_in_order j) (any parsed)

value_in_order : (bytes : List ℕ) → IfSome (json_value bytes) InOrder
value_in_order bytes =
    elim (is_utf8 bytes) as (λ b. IfSome (cond b (read bytes) None) InOrder) [
      | true ↦ read_in_order bytes
      | false ↦ tt
    ]

-- ---- and so is its tree

both : (a b : Bool) → a ≡ true → b ≡ true → (a && b) ≡ true
both a b ha hb = rw (ha, hb) refl

list_is : (ns : List Node) → is_tree (ListNode ns) ≡ list_all (λ b. b) (map is_tree ns)
list_is ns = search (rules, the_lemmas)

abbrev pub judged : List (List ℕ × Node) → List (List ℕ × Bool)
judged es = map (λ e. (e.0, is_tree e.1)) es

pub map_is : (es : List (List ℕ × Node)) → is_tree (MapNode es) ≡ (rises (keys_of (judged es)) && list_all (λ b. b) (values_of (judged es)))
map_is es = search (rules, the_lemmas)

abbrev AreTrees : List Node → Type 0
AreTrees ns = list_all (λ b. b) (map is_tree ns) ≡ true

-- the entries of an object's tree
record IsEntries (ms : Members) (es : List (List ℕ × Node)) : Type 0 where
  pub below : (k : List ℕ) → IsBelow k ms → list_all (λ l. is_lt (slice_cmp nat_cmp k l)) (keys_of (judged es)) ≡ true
  pub rise : rises (keys_of (judged es)) ≡ true
  pub trees : list_all (λ b. b) (values_of (judged es)) ≡ true

mutual
  tree_in_order : (d : Data) → InOrder d → IfSome (tree_of d) IsTree
  tree_in_order null h = search (rules, the_lemmas)
  tree_in_order (boolean b) h = search (rules, the_lemmas)
  tree_in_order (number n) h = map_some (λ _. Unit {0}) IsTree Whole (as_integer n) (λ z t. search (rules, the_lemmas)) (any (as_integer n))
  tree_in_order (string s) h = search (rules, the_lemmas)
  tree_in_order (array ds) h = map_some AreTrees IsTree ListNode (trees_of ds) (λ ns all. list_is ns ∙ all) (trees_in_order ds h)
  tree_in_order (object ms) h = map_some (IsEntries ms) IsTree MapNode (entries_of ms) (λ es all. map_is es ∙ both _ _ all.rise all.trees) (entries_in_order ms h)

  trees_in_order : (ds : Items) → ItemsInOrder ds → IfSome (trees_of ds) AreTrees
  trees_in_order no_items h = refl
  trees_in_order (item d ds) h =
      then_some IsTree AreTrees (λ n. option_map (λ ns. n ∷ ns) (trees_of ds)) (tree_of d)
      (λ n hn. map_some AreTrees AreTrees (λ ns. n ∷ ns) (trees_of ds) (λ ns hs. both _ _ hn hs) (trees_in_order ds h.1)) (tree_in_order d h.0)

  entries_in_order : (ms : Members) → MembersInOrder ms → IfSome (entries_of ms) (IsEntries ms)
  entries_in_order no_members h = record { below = λ k b. refl; rise = refl; trees = refl }
  entries_in_order (member k d ms) h =
      then_some IsTree (IsEntries (member k d ms)) (λ n. option_map (λ es. (k, n) ∷ es) (entries_of ms)) (tree_of d)
      (λ n hn. map_some (IsEntries ms) (IsEntries (member k d ms)) (λ es. (k, n) ∷ es) (entries_of ms)
      (λ es hs. record {
        below = λ j b. both _ _ (ap is_lt b.0) (hs.below j b.1);
        rise = both _ _ (hs.below k h.0) hs.rise;
        trees = both _ _ hn hs.trees;
      })
      (entries_in_order ms h.2))
      (tree_in_order d h.1)

some_same : {X : Type 0} {x y : X} → (let o : Option X = Some x in o) ≡ Some y → x ≡ y
some_same e = Prim.cc

some_from : {X : Type 0} (P : X → Type 0) (o : Option X) (x : X) → o ≡ Some x → IfSome o P → P x
some_from P None x e h = absurd Prim.cc
some_from P (Some y) x e h = subst (λ z. P z) (some_same e) h

pub tree_of_value : (bytes : List ℕ) (d : Data) (r : Result Node TreeFault) → json_value bytes ≡ Some d → IfOk r (λ n. tree_of d ≡ Some n) → IfOk r IsTree
tree_of_value bytes d (Ok n) is h = some_from IsTree (tree_of d) n h (tree_in_order d (some_from InOrder (json_value bytes) d is (value_in_order bytes)))
tree_of_value bytes d (Err e) is h = tt
