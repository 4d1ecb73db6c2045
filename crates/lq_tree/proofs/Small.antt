-- Trees whose whole numbers have 128 signed bits, as all have that are read of files.
use Rattle.std.proofs.Common.{◌∙◌, ap, rules, subst, sym}
use Rattle.std.proofs.lemmas.Bool.{and_from, and_parts}
use Rattle.std.specs.List.{list_all}
use Rattle.std.specs.Map.{lookup, values_of}
use Rattle.std.specs.Prelude.{Bool, IfSome, List, None, Option, Some, [], cond, map, option_and_then, refl, true, false, ℕ, ℤ, ◌&&◌, ◌∷◌, ◌≡◌}
use Rattle.std.specs.Str.{bytes_eq}
use Rattle.lq_tree.specs.Given.{is_whole}
use Rattle.lq_tree.specs.Look.{list_of, map_of, value_at, whole_of}
use Rattle.lq_tree.specs.declared.node.Node.{List as ListNode, Map as MapNode, Node, Null, Text as TextNode, Truth, Whole, fold-Node, roll-Node, the_lemmas}
use Rattle.lq_tree.specs.declared.node.Node.TheFolds.{ind-Node}
use Rattle.lq_tree.specs.declared.node.Node.TheOpen.{Node-F}
use Rattle.lq_tree.specs.declared.node.Node.TheVariants.{rolls-List, rolls-Map, rolls-Null, rolls-Text, rolls-Truth, rolls-Whole}

-- one level, with each tree inside already judged
abbrev small_in : Node-F Bool → Bool
small_in (Node-F.Whole z) = is_whole z
small_in (Node-F.List inside) = list_all (λ b. b) inside
small_in (Node-F.Map inside) = list_all (λ b. b) (values_of inside)
small_in _ = true

abbrev pub is_small : Node → Bool
is_small = fold-Node Bool small_in

abbrev pub are_small : List Node → Bool
are_small ns = list_all is_small ns

abbrev pub have_small : List (List ℕ × Node) → Bool
have_small es = list_all (λ (e : List ℕ × Node). is_small e.1) es

-- ---- one equation a variant

pub text_small : (t : List ℕ) → is_small (TextNode t) ≡ true
text_small t = search (rules, the_lemmas)

pub truth_small : (b : Bool) → is_small (Truth b) ≡ true
truth_small b = search (rules, the_lemmas)

pub null_small : is_small Null ≡ true
null_small = search (rules, the_lemmas)

pub whole_is : (z : ℤ) → is_small (Whole z) ≡ is_whole z
whole_is z = search (rules, the_lemmas)

list_in : (ns : List Node) → is_small (ListNode ns) ≡ list_all (λ b. b) (map is_small ns)
list_in ns = search (rules, the_lemmas)

map_in : (es : List (List ℕ × Node)) → is_small (MapNode es) ≡ list_all (λ b. b) (values_of (map (λ e. (e.0, is_small e.1)) es))
map_in es = search (rules, the_lemmas)

all_judged : (ns : List Node) → list_all (λ b. b) (map is_small ns) ≡ are_small ns
all_judged [] = refl
all_judged (n ∷ ns) = ap (λ b. is_small n && b) (all_judged ns)

values_judged : (es : List (List ℕ × Node)) → list_all (λ b. b) (values_of (map (λ (e : List ℕ × Node). (e.0, is_small e.1)) es)) ≡ have_small es
values_judged [] = refl
values_judged (e ∷ es) = ap (λ b. is_small e.1 && b) (values_judged es)

pub list_is : (ns : List Node) → is_small (ListNode ns) ≡ are_small ns
list_is ns = list_in ns ∙ all_judged ns

pub map_is : (es : List (List ℕ × Node)) → is_small (MapNode es) ≡ have_small es
map_is es = map_in es ∙ values_judged es

-- ---- what is found in such a tree

-- its entries, its items and its number
abbrev AreSmall : Option (List (List ℕ × Node)) → Option (List Node) → Option ℤ → Type 0
AreSmall es ns z = IfSome es (λ found. have_small found ≡ true) × IfSome ns (λ found. are_small found ≡ true) × IfSome z (λ found. is_whole found ≡ true)

abbrev IsOpen : Node → Type 0
IsOpen n = is_small n ≡ true → AreSmall (map_of n) (list_of n) (whole_of n)

text_parts : (t : List ℕ) → (map_of (TextNode t) ≡ None) × (list_of (TextNode t) ≡ None) × (whole_of (TextNode t) ≡ None)
text_parts t = (search (rules, the_lemmas), search (rules, the_lemmas), search (rules, the_lemmas))

truth_parts : (b : Bool) → (map_of (Truth b) ≡ None) × (list_of (Truth b) ≡ None) × (whole_of (Truth b) ≡ None)
truth_parts b = (search (rules, the_lemmas), search (rules, the_lemmas), search (rules, the_lemmas))

null_parts : (map_of Null ≡ None) × (list_of Null ≡ None) × (whole_of Null ≡ None)
null_parts = (search (rules, the_lemmas), search (rules, the_lemmas), search (rules, the_lemmas))

whole_parts : (z : ℤ) → (map_of (Whole z) ≡ None) × (list_of (Whole z) ≡ None) × (whole_of (Whole z) ≡ Some z)
whole_parts z = (search (rules, the_lemmas), search (rules, the_lemmas), search (rules, the_lemmas))

list_parts : (ns : List Node) → (map_of (ListNode ns) ≡ None) × (list_of (ListNode ns) ≡ Some ns) × (whole_of (ListNode ns) ≡ None)
list_parts ns = (search (rules, the_lemmas), search (rules, the_lemmas), search (rules, the_lemmas))

map_parts : (es : List (List ℕ × Node)) → (map_of (MapNode es) ≡ Some es) × (list_of (MapNode es) ≡ None) × (whole_of (MapNode es) ≡ None)
map_parts es = (search (rules, the_lemmas), search (rules, the_lemmas), search (rules, the_lemmas))

three : {es fs : Option (List (List ℕ × Node))} {ns ms : Option (List Node)} {z w : Option ℤ} → (es ≡ fs) × (ns ≡ ms) × (z ≡ w) → AreSmall fs ms w → AreSmall es ns z
three parts so = rw (parts.0, parts.1, parts.2) so

at_one : (x : Node-F Node) → IsOpen (roll-Node x)
at_one (Node-F.Text t) = subst IsOpen (sym (rolls-Text t)) (λ h. three (text_parts t) (tt, tt, tt))
at_one (Node-F.Whole z) = subst IsOpen (sym (rolls-Whole z)) (λ h. three (whole_parts z) (tt, tt, sym (whole_is z) ∙ h))
at_one (Node-F.Truth b) = subst IsOpen (sym (rolls-Truth b)) (λ h. three (truth_parts b) (tt, tt, tt))
at_one Node-F.Null = subst IsOpen (sym rolls-Null) (λ h. three null_parts (tt, tt, tt))
at_one (Node-F.List ns) = subst IsOpen (sym (rolls-List ns)) (λ h. three (list_parts ns) (tt, sym (list_is ns) ∙ h, tt))
at_one (Node-F.Map es) = subst IsOpen (sym (rolls-Map es)) (λ h. three (map_parts es) (sym (map_is es) ∙ h, tt, tt))

opened : (n : Node) → IsOpen n
opened = ind-Node IsOpen (λ x y is. at_one x)

pub map_small : (n : Node) → is_small n ≡ true → IfSome (map_of n) (λ es. have_small es ≡ true)
map_small n small = (opened n small).0

pub items_small : (n : Node) → is_small n ≡ true → IfSome (list_of n) (λ ns. are_small ns ≡ true)
items_small n small = (opened n small).1

pub whole_small : (n : Node) → is_small n ≡ true → IfSome (whole_of n) (λ z. is_whole z ≡ true)
whole_small n small = (opened n small).2

lookup_small : (key : List ℕ) (es : List (List ℕ × Node)) → have_small es ≡ true → IfSome (lookup (bytes_eq key) es) (λ v. is_small v ≡ true)
lookup_small key [] small = tt
lookup_small key (e ∷ es) small =
    let parts = and_parts (is_small e.1) (have_small es) small in
    by (bytes_eq key e.0) parts.0 (lookup_small key es parts.1)
  where
    by : (here : Bool) → is_small e.1 ≡ true → IfSome (lookup (bytes_eq key) es) (λ v. is_small v ≡ true) → IfSome (cond here (Some e.1) (lookup (bytes_eq key) es)) (λ v. is_small v ≡ true)
    by true first rest = first
    by false first rest = rest

-- so is what a map has at a key
pub value_small : (key : List ℕ) (n : Node) → is_small n ≡ true → IfSome (value_at key n) (λ v. is_small v ≡ true)
value_small key n small = by (map_of n) (map_small n small) where
  by : (es : Option (List (List ℕ × Node))) → IfSome es (λ es. have_small es ≡ true) → IfSome (option_and_then (lookup (bytes_eq key)) es) (λ v. is_small v ≡ true)
  by None so = tt
  by (Some es) so = lookup_small key es so
