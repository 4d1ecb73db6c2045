-- A tree, seen as data, is that tree again.
use Rattle.std.proofs.Common.{◌≡◌, ℕ, ℤ, pos, negsuc, List, [], ◌∷◌, Bool, false, Some, map, refl, sym, ap, ◌∙◌, rules, Greater, Less, nat_cmp}
use Rattle.std.proofs.lemmas.Cmp.{nat_list_cmp_total}
use Rattle.std.specs.Cmp.Lexicographic.{slice_cmp}
use Rattle.std.specs.Prelude.{if◌then◌else◌}
use Rattle.std.specs.Ordering.{ordering_reverse}
use Rattle.serde_json.specs.Data.{Data, Members, array, boolean, member, no_members, null, number, object, put, string}
use Rattle.serde_json.specs.Find.{as_integer, is_float, of_integer}
use Rattle.serde_json.specs.View.{items_of}
use Rattle.lq_tree.specs.declared.node.Node.{List as ListNode, Map as MapNode, Node, Null, Text as TextNode, Truth, Whole, the_lemmas}
use Rattle.lq_jsontext.specs.JsonText.{data_of, is_held, members_from}

pub data_text : (t : List ℕ) → data_of (TextNode t) ≡ string t
data_text t = search (rules, the_lemmas)

pub data_whole : (z : ℤ) → data_of (Whole z) ≡ (if is_held z then number (of_integer z) else null)
data_whole z = search (rules, the_lemmas)

pub data_truth : (b : Bool) → data_of (Truth b) ≡ boolean b
data_truth b = search (rules, the_lemmas)

pub data_null : data_of Null ≡ null
data_null = search (rules, the_lemmas)

pub data_list : (ns : List Node) → data_of (ListNode ns) ≡ array (items_of (map data_of ns))
data_list ns = search (rules, the_lemmas)

pub data_map : (es : List (List ℕ × Node)) → data_of (MapNode es) ≡ object (members_from (map (λ e. (e.0, data_of e.1)) es) no_members)
data_map es = search (rules, the_lemmas)

-- a whole number comes back
whole_back : (z : ℤ) → as_integer (of_integer z) ≡ Some z
whole_back (pos n) = refl
whole_back (negsuc n) = refl

no_float_number : (z : ℤ) → is_float (of_integer z) ≡ false
no_float_number (pos n) = refl
no_float_number (negsuc n) = refl

-- ---- members in the order of their keys go one behind another

abbrev pub Below : List ℕ → List (List ℕ × Data) → Type 0
Below k [] = Unit {0}
Below k (e ∷ es) = (slice_cmp nat_cmp k e.0 ≡ Less) × Below k es

abbrev pub Rising : List (List ℕ × Data) → Type 0
Rising [] = Unit {0}
Rising (e ∷ es) = Below e.0 es × Rising es

abbrev pub straight : List (List ℕ × Data) → Members
straight [] = no_members
straight (e ∷ es) = member e.0 e.1 (straight es)

abbrev joined : Members → Members → Members
joined no_members more = more
joined (member k d ms) more = member k d (joined ms more)

abbrev AllBelow : Members → List ℕ → Type 0
AllBelow no_members k = Unit {0}
AllBelow (member l d ms) k = (slice_cmp nat_cmp l k ≡ Less) × AllBelow ms k

put_behind : (k : List ℕ) (d : Data) (ms : Members) → AllBelow ms k → put k d ms ≡ joined ms (member k d no_members)
put_behind k d no_members h = refl
put_behind k d (member l e ms) h =
    let above : slice_cmp nat_cmp k l ≡ Greater = nat_list_cmp_total.antisymm k l ∙ ap ordering_reverse h.0 in
    rw above (ap (member l e) (put_behind k d ms h.1))

joined_joined : (a b c : Members) → joined (joined a b) c ≡ joined a (joined b c)
joined_joined no_members b c = refl
joined_joined (member k d ms) b c = ap (member k d) (joined_joined ms b c)

one_more : (ms : Members) (k l : List ℕ) (d : Data) → AllBelow ms l → slice_cmp nat_cmp k l ≡ Less → AllBelow (joined ms (member k d no_members)) l
one_more no_members k l d h kl = (kl, tt)
one_more (member m e ms) k l d h kl = (h.0, one_more ms k l d h.1 kl)

abbrev EachAbove : Members → List (List ℕ × Data) → Type 0
EachAbove ms [] = Unit {0}
EachAbove ms (e ∷ es) = AllBelow ms e.0 × EachAbove ms es

each_more : (ms : Members) (k : List ℕ) (d : Data) (es : List (List ℕ × Data)) → EachAbove ms es → Below k es → EachAbove (joined ms (member k d no_members)) es
each_more ms k d [] h b = tt
each_more ms k d (e ∷ es) h b = (one_more ms k e.0 d h.0 b.0, each_more ms k d es h.1 b.1)

laid : (es : List (List ℕ × Data)) (ms : Members) → Rising es → EachAbove ms es → members_from es ms ≡ joined ms (straight es)
laid [] ms r h = sym (nothing ms) where
  nothing : (ms : Members) → joined ms no_members ≡ ms
  nothing no_members = refl
  nothing (member k d ms) = ap (member k d) (nothing ms)
laid (e ∷ es) ms r h =
    ap (members_from es) (put_behind e.0 e.1 ms h.0)
    ∙ laid es (joined ms (member e.0 e.1 no_members)) r.1 (each_more ms e.0 e.1 es h.1 r.0)
    ∙ joined_joined ms (member e.0 e.1 no_members) (straight es)

none_above : (es : List (List ℕ × Data)) → EachAbove no_members es
none_above [] = tt
none_above (e ∷ es) = (tt, none_above es)

pub in_order : (es : List (List ℕ × Data)) → Rising es → members_from es no_members ≡ straight es
in_order es r = laid es no_members r (none_above es)
