-- A value has a tree exactly where none of its numbers is a float.
use Rattle.std.proofs.Common.{◌≡◌, List, ◌∷◌, ◌&&◌, ◌||◌, Bool, true, false, not, is_some, Option, Some, None, option_map, option_and_then, ℕ, Result, Ok, Err, IfOk, IfErr, ◌⊎◌, inl, inr, refl, sym, ap, ◌∙◌}
use Rattle.serde_json.specs.Data.{unsigned, negative, float, Data, null, boolean, number, string, array, object, Items, no_items, item, Members, no_members, member}
use Rattle.serde_json.specs.Written.{has_float, items_have_float, members_have_float}
use Rattle.lq_tree.specs.declared.node.Node.{Node, List as ListNode, Map as MapNode}
use Rattle.lq_tree.specs.declared.node.TreeFault.{TreeFault}
use Rattle.lq_tree.specs.declared.node.TreeFault.TheVariants.{FloatNumber, OutOfMemory}
use Rattle.lq_tree.specs.Json.{json_value, holds_float, tree_of, trees_of, entries_of}

some_map : {X Y : Type 0} (f : X → Y) (o : Option X) → is_some (option_map f o) ≡ is_some o
some_map f None = refl
some_map f (Some x) = refl

some_cons : {X Y : Type 0} (y : X → Y) (first : Option X) (rest : Option (List Y))
    → is_some (option_and_then (λ x. option_map (λ ys. y x ∷ ys) rest) first) ≡ (is_some first && is_some rest)
some_cons y None rest = refl
some_cons y (Some x) rest = some_map (λ ys. y x ∷ ys) rest

neither : (a b : Bool) → (not a && not b) ≡ not (a || b)
neither true b = refl
neither false b = refl

mutual
  whole_tree : (d : Data) → is_some (tree_of d) ≡ not (has_float d)
  whole_tree null = refl
  whole_tree (boolean b) = refl
  whole_tree (number (unsigned n)) = refl
  whole_tree (number (negative z)) = refl
  whole_tree (number (float x)) = refl
  whole_tree (string s) = refl
  whole_tree (array ds) = some_map ListNode (trees_of ds) ∙ whole_trees ds
  whole_tree (object ms) = some_map MapNode (entries_of ms) ∙ whole_entries ms

  whole_trees : (ds : Items) → is_some (trees_of ds) ≡ not (items_have_float ds)
  whole_trees no_items = refl
  whole_trees (item d ds) = some_cons (λ n. n) (tree_of d) (trees_of ds) ∙ rw (whole_tree d, whole_trees ds) (neither (has_float d) (items_have_float ds))

  whole_entries : (ms : Members) → is_some (entries_of ms) ≡ not (members_have_float ms)
  whole_entries no_members = refl
  whole_entries (member k d ms) =
      some_cons (λ n. (k, n)) (tree_of d) (entries_of ms) ∙ rw (whole_tree d, whole_entries ms) (neither (has_float d) (members_have_float ms))

turned : (b c : Bool) → c ≡ not b → b ≡ not c
turned true c e = rw e refl
turned false c e = rw e refl

float_is : (bytes : List ℕ) (d : Data) → json_value bytes ≡ Some d → holds_float bytes ≡ not (is_some (tree_of d))
float_is bytes d is = rw is (turned (has_float d) _ (whole_tree d))

pub whole_read : (bytes : List ℕ) (d : Data) (r : Result Node TreeFault) → json_value bytes ≡ Some d → IfOk r (λ n. tree_of d ≡ Some n) → IfOk r (λ _. holds_float bytes ≡ false)
whole_read bytes d (Ok n) is h = float_is bytes d is ∙ rw h refl
whole_read bytes d (Err e) is h = tt

out_of_memory : (let r : Result Node TreeFault = Err OutOfMemory in r) ≡ Err FloatNumber → ⊥
out_of_memory e = Prim.cc

ok_no_float : {n : Node} → (let r : Result Node TreeFault = Ok n in r) ≡ Err FloatNumber → ⊥
ok_no_float e = Prim.cc

pub float_read : (bytes : List ℕ) (d : Data) (r : Result Node TreeFault) → json_value bytes ≡ Some d
    → IfErr r (λ e. (e ≡ OutOfMemory) ⊎ ((e ≡ FloatNumber) × (tree_of d ≡ None))) → r ≡ Err FloatNumber → holds_float bytes ≡ true
float_read bytes d (Ok n) is h e = absurd (ok_no_float e)
float_read bytes d (Err x) is (inl oom) e = absurd (out_of_memory (ap Err (sym oom) ∙ e))
float_read bytes d (Err x) is (inr h) e = float_is bytes d is ∙ rw h.1 refl
