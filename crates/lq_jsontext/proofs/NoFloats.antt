-- A tree as data has no float.
use Rattle.std.proofs.Common.{◌≡◌, ◌∙◌, ◌||◌, ℕ, ℤ, pos, negsuc, Bool, true, false, List, [], ◌∷◌, map, subst, refl, ap}
use Rattle.std.specs.Prelude.{if◌then◌else◌}
use Rattle.std.specs.Cmp.Lexicographic.{slice_cmp}
use Rattle.std.specs.Ordering.{match_ordering, nat_cmp}
use Rattle.std.specs.declared.cmp.Ordering.{Ordering}
use Rattle.std.specs.declared.cmp.Ordering.TheVariants.{Equal, Greater, Less}
use Rattle.serde_json.specs.Data.{Data, Members, member, no_members, null, number, put}
use Rattle.serde_json.specs.Find.{of_integer}
use Rattle.serde_json.specs.View.{items_of}
use Rattle.serde_json.specs.Written.{has_float, items_have_float, members_have_float}
use Rattle.lq_tree.specs.declared.node.Node.{Node, map-Node, roll-Node}
use Rattle.lq_tree.specs.declared.node.Node.TheOpen.{Node-F}
use Rattle.lq_tree.specs.declared.node.Node.TheFolds.{fold-roll-Node, ind-Node}
use Rattle.lq_jsontext.specs.JsonText.{data_in, data_of, is_held, members_from}

abbrev IsPlain : Node → Type 0
IsPlain n = has_float (data_of n) ≡ false

abbrev Plain : Type 0
Plain = (n : Node) × IsPlain n

number_plain : (held : Bool) (z : ℤ) → has_float (if held then number (of_integer z) else null) ≡ false
number_plain true (pos n) = refl
number_plain true (negsuc n) = refl
number_plain false z = refl

neither : (a b : Bool) → a ≡ false → b ≡ false → (a || b) ≡ false
neither true b h g = h
neither false b h g = g

items_plain : (ns : List Plain) → items_have_float (items_of (map data_of (map (λ e. e.0) ns))) ≡ false
items_plain [] = refl
items_plain (n ∷ ns) = neither _ _ n.1 (items_plain ns)

put_plain : (k : List ℕ) (d : Data) (ms : Members) → has_float d ≡ false → members_have_float ms ≡ false → members_have_float (put k d ms) ≡ false
put_plain k d no_members h g = neither _ _ h refl
put_plain k d (member l e ms) h g = by (slice_cmp nat_cmp k l) (put_plain k d ms h (right _ _ g)) where
  left : (a b : Bool) → (a || b) ≡ false → a ≡ false
  left true b q = q
  left false b q = refl

  right : (a b : Bool) → (a || b) ≡ false → b ≡ false
  right true b q = absurd Prim.cc
  right false b q = q

  by : (o : Ordering) → members_have_float (put k d ms) ≡ false → members_have_float (match_ordering o (member k d (member l e ms)) (member l d ms) (member l e (put k d ms))) ≡ false
  by Less rest = neither _ _ h g
  by Equal rest = neither _ _ h (right _ _ g)
  by Greater rest = neither _ _ (left _ _ g) rest

members_plain : (es : List (List ℕ × Plain)) (ms : Members) → members_have_float ms ≡ false → members_have_float (members_from (map (λ (e : List ℕ × Node). (e.0, data_of e.1)) (map (λ (e : List ℕ × Plain). (e.0, e.1.0)) es)) ms) ≡ false
members_plain [] ms h = h
members_plain (e ∷ es) ms h = members_plain es (put e.0 (data_of e.1.0) ms) (put_plain e.0 (data_of e.1.0) ms e.1.1 h)

at : (y : Node-F Plain) → has_float (data_in (map-Node Node Data data_of (map-Node Plain Node (λ e. e.0) y))) ≡ false
at (Node-F.Text t) = refl
at (Node-F.Whole z) = number_plain (is_held z) z
at (Node-F.Truth b) = refl
at Node-F.Null = refl
at (Node-F.List ns) = items_plain ns
at (Node-F.Map es) = members_plain es no_members refl

pub no_float : (n : Node) → has_float (data_of n) ≡ false
no_float = ind-Node IsPlain (λ x y is. subst (λ z. IsPlain (roll-Node z)) is (ap has_float (fold-roll-Node Data data_in (map-Node Plain Node (λ e. e.0) y)) ∙ at y))
