-- The whole numbers of a JSON text are held by an i64 or a u64, so they have 128 signed bits.
use Rattle.std.proofs.Common.{◌≡◌, ◌≤◌, ◌<◌, ◌^◌, ◌-◌, ℕ, ℤ, List, ◌∷◌, Bool, true, false, Option, Some, None, option_map, option_and_then, cond, refl, arith, subst, sym, ◌∙◌, Ordering, Less, Equal, Greater, nat_cmp}
use Rattle.std.proofs.lemmas.Bool.{and_from, and_parts, le-leb, leb-true, ltb-true}
use Rattle.std.specs.Prelude.{Err, IfOk, IfSome, Ok, if◌then◌else◌, neg_ℤ, pos, suc, zero, drop, length, nat_le, nat_lt, slice_index, ◌&&◌, ◌==◌}
use Rattle.std.specs.Cmp.Lexicographic.{slice_cmp}
use Rattle.std.specs.Ordering.{match_ordering}
use Rattle.std.specs.Str.{is_utf8}
use Rattle.json.specs.Json as json
use Rattle.json.specs.Lex.{tokens}
use Rattle.serde_json.specs.Data.{Data, Items, Members, Num, array, boolean, float, item, member, negative, no_items, no_members, null, number, object, put, string, unsigned}
use Rattle.serde_json.specs.Find.{as_integer}
use Rattle.serde_json.specs.Read.{float_of, is_integer, max_depth, number_from, number_of, of_items, of_json, of_members, read}
use Rattle.std.specs.Float.Numeral.{Parts, minus, nearest_float as nearest, numeral_digits as digits_of, scan_numeral as scan}
use Rattle.std.specs.Float.{binary64, float_is_finite}
use Rattle.lq_tree.proofs.Says.{IsSo}
use Rattle.lq_tree.proofs.Small.{are_small, have_small, is_small, list_is, map_is, null_small, text_small, truth_small, whole_is}
use Rattle.lq_tree.specs.Given.{is_whole}
use Rattle.lq_tree.specs.Json.{entries_of, json_tree, or_float, tree_of, tree_or_fault, trees_of}
use Rattle.lq_tree.specs.declared.node.Node.{List as ListNode, Map as MapNode, Node, Whole}

-- a number that is whole has 128 signed bits
abbrev FitsIn : Num → Type 0
FitsIn n = IfSome (as_integer n) (IsSo is_whole)

map_some : {X Y : Type 0} (P : X → Type 0) (Q : Y → Type 0) (f : X → Y) (o : Option X) → ((x : X) → P x → Q (f x)) → IfSome o P → IfSome (option_map f o) Q
map_some P Q f None to h = tt
map_some P Q f (Some x) to h = to x h

then_some : {X Y : Type 0} (P : X → Type 0) (Q : Y → Type 0) (f : X → Option Y) (o : Option X) → ((x : X) → P x → IfSome (f x) Q) → IfSome o P → IfSome (option_and_then f o) Q
then_some P Q f None to h = tt
then_some P Q f (Some x) to h = to x h

any : {X : Type 0} (o : Option X) → IfSome o (λ _. Unit {0})
any None = tt
any (Some x) = tt

float_fits : (sign : Bool) (p : Parts) → IfSome (float_of sign p) FitsIn
float_fits sign p = by (float_is_finite (nearest binary64 sign p)) where
  by : (finite : Bool) → IfSome (if finite then Some (float (nearest binary64 sign p)) else None) FitsIn
  by true = tt
  by false = tt

small_number : (m : ℕ) → m < 2 ^ 64 → is_whole (pos m) ≡ true
small_number m few = and_from _ _ refl (le-leb m (2 ^ 127 - 1) (omega arith))

small_negative : (m : ℕ) → m ≤ 2 ^ 63 → is_whole (neg_ℤ (pos m)) ≡ true
small_negative zero few = refl
small_negative (suc m) few = and_from _ _ (le-leb m (2 ^ 127 - 1) (omega arith)) refl

from_fits : (sign : Bool) (p : Parts) → IfSome (number_from sign p) FitsIn
from_fits false p = by (is_integer p && nat_lt (digits_of p) (2 ^ 64)) refl where
  by : (is : Bool) → (is_integer p && nat_lt (digits_of p) (2 ^ 64)) ≡ is → IfSome (if is then Some (unsigned (digits_of p)) else float_of false p) FitsIn
  by true is = small_number (digits_of p) (ltb-true _ _ (and_parts (is_integer p) (nat_lt (digits_of p) (2 ^ 64)) is).1)
  by false is = float_fits false p
from_fits true p = by (is_integer p && nat_lt 0 (digits_of p) && nat_le (digits_of p) (2 ^ 63)) refl where
  last : (a b c : Bool) → (a && b && c) ≡ true → c ≡ true
  last true true true is = refl
  last true true false is = absurd Prim.cc
  last true false c is = absurd Prim.cc
  last false b c is = absurd Prim.cc

  by : (is : Bool) → (is_integer p && nat_lt 0 (digits_of p) && nat_le (digits_of p) (2 ^ 63)) ≡ is → IfSome (if is then Some (negative (neg_ℤ (pos (digits_of p)))) else float_of true p) FitsIn
  by true is = small_negative (digits_of p) (leb-true _ _ (last (is_integer p) (nat_lt 0 (digits_of p)) (nat_le (digits_of p) (2 ^ 63)) is))
  by false is = float_fits true p

number_fits : (s : List ℕ) → IfSome (number_of s) FitsIn
unfolding number_of
number_fits s = by (slice_index s 0 == minus) where
  by : (negative : Bool) → IfSome (if negative then number_from true (scan (drop 1 s)) else number_from false (scan s)) FitsIn
  by true = from_fits true (scan (drop 1 s))
  by false = from_fits false (scan s)

-- ---- all numbers of a value

abbrev mutual
  AllFit : Data → Type 0
  AllFit null = Unit {0}
  AllFit (boolean b) = Unit {0}
  AllFit (number n) = FitsIn n
  AllFit (string s) = Unit {0}
  AllFit (array ds) = ItemsFit ds
  AllFit (object ms) = MembersFit ms

  ItemsFit : Items → Type 0
  ItemsFit no_items = Unit {0}
  ItemsFit (item d ds) = AllFit d × ItemsFit ds

  MembersFit : Members → Type 0
  MembersFit no_members = Unit {0}
  MembersFit (member k d ms) = AllFit d × MembersFit ms

put_fits : (k : List ℕ) (d : Data) (ms : Members) → AllFit d → MembersFit ms → MembersFit (put k d ms)
put_fits k d no_members fits all = (fits, tt)
put_fits k d (member l e ms) fits all = by (slice_cmp nat_cmp k l) (put_fits k d ms fits all.1) where
  by : (o : Ordering) → MembersFit (put k d ms) → MembersFit (match_ordering o (member k d (member l e ms)) (member l d ms) (member l e (put k d ms)))
  by Less more = (fits, all)
  by Equal more = (fits, all.1)
  by Greater more = (all.0, more)

mutual
  json_fits : (j : json.Json) → IfSome (of_json j) AllFit
  json_fits json.null = tt
  json_fits (json.boolean b) = tt
  json_fits (json.number s) = map_some FitsIn AllFit number (number_of s) (λ n fits. fits) (number_fits s)
  json_fits (json.string s) = tt
  json_fits (json.array js) = map_some ItemsFit AllFit array (of_items js) (λ ds all. all) (items_fit js)
  json_fits (json.object ms) = map_some MembersFit AllFit object (of_members ms no_members) (λ found all. all) (members_fit ms no_members tt)

  items_fit : (js : json.Items) → IfSome (of_items js) ItemsFit
  items_fit json.no_items = tt
  items_fit (json.item j js) =
      then_some AllFit ItemsFit (λ d. option_map (item d) (of_items js)) (of_json j) (λ d fits. map_some ItemsFit ItemsFit (item d) (of_items js) (λ ds all. (fits, all)) (items_fit js)) (json_fits j)

  members_fit : (ms : json.Members) (found : Members) → MembersFit found → IfSome (of_members ms found) MembersFit
  members_fit json.no_members found all = all
  members_fit (json.member k j ms) found all =
      then_some AllFit MembersFit (λ d. of_members ms (put k d found)) (of_json j) (λ d fits. members_fit ms (put k d found) (put_fits k d found fits all)) (json_fits j)

read_fits : (text : List ℕ) → IfSome (read text) AllFit
read_fits text =
    let parsed = option_and_then (λ p. json.if_last p.0 p.1) (json.value max_depth (tokens text)) in
    then_some (λ _. Unit {0}) AllFit of_json parsed (λ j _. json_fits j) (any parsed)

-- ---- and of its tree

mutual
  tree_small : (d : Data) → AllFit d → IfSome (tree_of d) (IsSo is_small)
  tree_small null fits = null_small
  tree_small (boolean b) fits = truth_small b
  tree_small (number n) fits = map_some (IsSo is_whole) (IsSo is_small) Whole (as_integer n) (λ z is. whole_is z ∙ is) fits
  tree_small (string s) fits = text_small s
  tree_small (array ds) fits = map_some (IsSo are_small) (IsSo is_small) ListNode (trees_of ds) (λ ns all. list_is ns ∙ all) (trees_small ds fits)
  tree_small (object ms) fits = map_some (IsSo have_small) (IsSo is_small) MapNode (entries_of ms) (λ es all. map_is es ∙ all) (entries_small ms fits)

  trees_small : (ds : Items) → ItemsFit ds → IfSome (trees_of ds) (IsSo are_small)
  trees_small no_items all = refl
  trees_small (item d ds) all =
      then_some (IsSo is_small) (IsSo are_small) (λ n. option_map (λ ns. n ∷ ns) (trees_of ds)) (tree_of d) (λ n small.
      map_some (IsSo are_small) (IsSo are_small) (λ ns. n ∷ ns) (trees_of ds) (λ ns more. and_from (is_small n) (are_small ns) small more) (trees_small ds all.1)) (tree_small d all.0)

  entries_small : (ms : Members) → MembersFit ms → IfSome (entries_of ms) (IsSo have_small)
  entries_small no_members all = refl
  entries_small (member k d ms) all =
      then_some (IsSo is_small) (IsSo have_small) (λ n. option_map (λ es. (k, n) ∷ es) (entries_of ms)) (tree_of d) (λ n small.
      map_some (IsSo have_small) (IsSo have_small) (λ es. (k, n) ∷ es) (entries_of ms) (λ es more. and_from (is_small n) (have_small es) small more) (entries_small ms all.1)) (tree_small d all.0)

pub json_small : (bytes : List ℕ) → IfOk (json_tree bytes) (IsSo is_small)
json_small bytes = by (is_utf8 bytes) where
  found : (tree : Option Node) → IfSome tree (IsSo is_small) → IfOk (or_float tree) (IsSo is_small)
  found None so = tt
  found (Some n) so = so

  value : (d : Option Data) → IfSome d AllFit → IfOk (tree_or_fault d) (IsSo is_small)
  value None fits = tt
  value (Some d) fits = found (tree_of d) (tree_small d fits)

  by : (utf8 : Bool) → IfOk (tree_or_fault (if utf8 then read bytes else None)) (IsSo is_small)
  by true = value (read bytes) (read_fits bytes)
  by false = tt
