-- The node that lines lay out has each key of a map once, in order.
use Rattle.std.proofs.Common.{◌≡◌, ℕ, List, [], ◌∷◌, ◌++◌, ◌&&◌, Bool, true, false, cond, map, Option, Some, None, option_map, option_and_then, refl, ap, subst, ◌∙◌, rules, Ordering, Less, Equal, Greater, nat_cmp, inl, inr, encode_utf8_all, ℤ, drop, ◌+◌, ◌*◌, ◌==◌, Result, Ok, Err, IfOk}
use Rattle.std.proofs.lemmas.Cmp.{nat_list_cmp_total}
use Rattle.std.specs.BTreeMap.{insert_entry}
use Rattle.std.specs.Cmp.Lexicographic.{slice_cmp}
use Rattle.std.specs.List.{list_all}
use Rattle.std.specs.Map.{keys_of, values_of}
use Rattle.std.specs.Option.{IfSome}
use Rattle.std.specs.Ordering.{is_lt, match_ordering, ordering_reverse}
use Rattle.lq_base.specs.Name.{text_cmp}
use Rattle.lq_tree.specs.declared.node.Node.{Node, Null, Truth, Whole, Text as TextNode, List as ListNode, Map as MapNode, the_lemmas}
use Rattle.lq_tree.specs.Json.{rises, is_tree, IsTree}
use Rattle.lq_yaml.specs.declared.fault.YamlFault.{YamlFault}
use Rattle.lq_yaml.specs.declared.mode.Mode.{Mode}
use Rattle.lq_yaml.specs.declared.mode.Mode.TheVariants.{Fresh, Between, AfterHeader, InLiteral}
use Rattle.lq_yaml.specs.declared.token.Chomping.{Chomping}
use Rattle.lq_yaml.specs.declared.token.Head.{Head}
use Rattle.lq_yaml.specs.declared.token.Head.TheVariants.{Dash, Key}
use Rattle.lq_yaml.specs.declared.token.Token.{Token}
use Rattle.lq_yaml.specs.declared.token.Token.TheVariants.{Begin, Value, LiteralLine}
use Rattle.lq_yaml.specs.Tree.{is_nil, Tree, leaf, empty, collection, Entries, no_entries, entry, node_of, collection_node, items_of, put_all}
use Rattle.lq_yaml.specs.Line.{begins_with, spaces, trimmed, without_blanks, without_spaces, Lexed, is_end, value_if, value_by, value_token, value_tokens, header, behind_pair, key, behind_key, entry_by, entry_tokens, is_dash, tokens_at, base_of, blank_tokens, is_marker, content_tokens, has_tab, line_by, line_tokens, mode_after, parent_of, without_block, tokens_of, Front, front, scalar_node}
use Rattle.lq_yaml.specs.File.{IsRead}
use Rattle.lq_yaml.specs.Layout.{Inside, AreEntries, IsLeaf}
use Rattle.lq_yaml.specs.Meaning.{plain_node}
use Rattle.lq_yaml.proofs.LineForms.{file_written}

-- ---- entries in order

abbrev pub Below : List ℕ → List (List ℕ × Node) → Type 0
Below k [] = Unit {0}
Below k (e ∷ es) = (text_cmp k e.0 ≡ Less) × Below k es

abbrev pub Ordered : List (List ℕ × Node) → Type 0
Ordered [] = Unit {0}
Ordered (e ∷ es) = Below e.0 es × (is_tree e.1 ≡ true) × Ordered es

below_more : (k l : List ℕ) (es : List (List ℕ × Node)) → text_cmp k l ≡ Less → Below l es → Below k es
below_more k l [] kl h = tt
below_more k l (e ∷ es) kl h = (nat_list_cmp_total.trans k l e.0 kl h.0, below_more k l es kl h.1)

below_insert : (l k : List ℕ) (n : Node) (es : List (List ℕ × Node)) → text_cmp l k ≡ Less → Below l es → Below l (insert_entry text_cmp es k n)
below_insert l k n [] lk h = (lk, tt)
below_insert l k n (e ∷ es) lk h =
    elim (text_cmp k e.0) as (λ o. Below l (match_ordering o ((k, n) ∷ e ∷ es) ((e.0, n) ∷ es) (e ∷ insert_entry text_cmp es k n))) [
      | Less ↦ (lk, h)
      | Equal ↦ h
      | Greater ↦ (h.0, below_insert l k n es lk h.1)
    ]

insert_by : (k : List ℕ) (n : Node) (e : List ℕ × Node) (es : List (List ℕ × Node)) (o : Ordering) → text_cmp k e.0 ≡ o → is_tree n ≡ true → Ordered (e ∷ es)
    → Ordered (insert_entry text_cmp es k n) → Ordered (match_ordering o ((k, n) ∷ e ∷ es) ((e.0, n) ∷ es) (e ∷ insert_entry text_cmp es k n))
insert_by k n e es Less is tree h more = ((is, below_more k e.0 es is h.0), tree, h)
insert_by k n e es Equal is tree h more = (h.0, tree, h.2)
insert_by k n e es Greater is tree h more =
    let above : text_cmp e.0 k ≡ Less = nat_list_cmp_total.antisymm e.0 k ∙ ap ordering_reverse is in
    (below_insert e.0 k n es above h.0, h.1, more)

inserted : (k : List ℕ) (n : Node) (es : List (List ℕ × Node)) → is_tree n ≡ true → Ordered es → Ordered (insert_entry text_cmp es k n)
inserted k n [] tree h = (tt, tree, tt)
inserted k n (e ∷ es) tree h = insert_by k n e es (text_cmp k e.0) refl tree h (inserted k n es tree h.2)

-- ---- as the test of a tree has it

both : (a b : Bool) → a ≡ true → b ≡ true → (a && b) ≡ true
both a b ha hb = rw (ha, hb) refl

list_is : (ns : List Node) → is_tree (ListNode ns) ≡ list_all (λ b. b) (map is_tree ns)
list_is ns = search (rules, the_lemmas)

abbrev judged : List (List ℕ × Node) → List (List ℕ × Bool)
judged es = map (λ e. (e.0, is_tree e.1)) es

map_is : (es : List (List ℕ × Node)) → is_tree (MapNode es) ≡ (rises (keys_of (judged es)) && list_all (λ b. b) (values_of (judged es)))
map_is es = search (rules, the_lemmas)

text_is : (t : List ℕ) → is_tree (TextNode t) ≡ true
text_is t = search (rules, the_lemmas)

null_is : is_tree Null ≡ true
null_is = search (rules, the_lemmas)

truth_is : (b : Bool) → is_tree (Truth b) ≡ true
truth_is b = search (rules, the_lemmas)

whole_is : (z : ℤ) → is_tree (Whole z) ≡ true
whole_is z = search (rules, the_lemmas)

below_is : (k : List ℕ) (es : List (List ℕ × Node)) → Below k es → list_all (λ l. is_lt (slice_cmp nat_cmp k l)) (keys_of (judged es)) ≡ true
below_is k [] h = refl
below_is k (e ∷ es) h = both _ _ (ap is_lt h.0) (below_is k es h.1)

rise_is : (es : List (List ℕ × Node)) → Ordered es → rises (keys_of (judged es)) ≡ true
rise_is [] h = refl
rise_is (e ∷ es) h = both _ _ (below_is e.0 es h.0) (rise_is es h.2)

values_are : (es : List (List ℕ × Node)) → Ordered es → list_all (λ b. b) (values_of (judged es)) ≡ true
values_are [] h = refl
values_are (e ∷ es) h = both _ _ h.1 (values_are es h.2)

-- ---- of a tree whose leaves are trees

abbrev mutual
  pub Flat : Tree → Type 0
  Flat (leaf v) = is_tree v ≡ true
  Flat empty = Unit {0}
  Flat (collection es) = FlatAll es

  pub FlatAll : Entries → Type 0
  FlatAll no_entries = Unit {0}
  FlatAll (entry h t es) = Flat t × FlatAll es

mutual
  in_order : (t : Tree) → Flat t → is_tree (node_of t) ≡ true
  in_order (leaf v) h = h
  in_order empty h = null_is
  in_order (collection es) h = collection_in_order es h

  collection_in_order : (es : Entries) → FlatAll es → is_tree (collection_node es) ≡ true
  collection_in_order no_entries h = list_is []
  collection_in_order (entry Dash t es) h = list_is (node_of t ∷ items_of es) ∙ both _ _ (in_order t h.0) (items_in_order es h.1)
  collection_in_order (entry (Key k) t es) h =
      let all = put_in_order es ((k, node_of t) ∷ []) (tt, in_order t h.0, tt) h.1 in
      map_is (put_all ((k, node_of t) ∷ []) es) ∙ both _ _ (rise_is _ all) (values_are _ all)

  items_in_order : (es : Entries) → FlatAll es → list_all (λ b. b) (map is_tree (items_of es)) ≡ true
  items_in_order no_entries h = refl
  items_in_order (entry d t es) h = both _ _ (in_order t h.0) (items_in_order es h.1)

  put_in_order : (es : Entries) (among : List (List ℕ × Node)) → Ordered among → FlatAll es → Ordered (put_all among es)
  put_in_order no_entries among o h = o
  put_in_order (entry (Key k) t es) among o h = put_in_order es (insert_entry text_cmp among k (node_of t)) (inserted k (node_of t) among (in_order t h.0) o) h.1
  put_in_order (entry Dash t es) among o h = put_in_order es among o h.1

-- ---- tokens whose values are trees

abbrev pub IsFlat : Token → Type 0
IsFlat (Value q v) = is_tree v ≡ true
IsFlat _ = Unit {0}

abbrev pub AreFlat : List Token → Type 0
AreFlat [] = Unit {0}
AreFlat (t ∷ ts) = IsFlat t × AreFlat ts

flat_append : (a b : List Token) → AreFlat a → AreFlat b → AreFlat (a ++ b)
flat_append [] b x y = y
flat_append (t ∷ a) b x y = (x.0, flat_append a b x.1 y)

flat_front : (a b : List Token) → AreFlat (a ++ b) → AreFlat a
flat_front [] b h = tt
flat_front (t ∷ a) b h = (h.0, flat_front a b h.1)

flat_back : (a b : List Token) → AreFlat (a ++ b) → AreFlat b
flat_back [] b h = h
flat_back (t ∷ a) b h = flat_back a b h.1

flat_leaf : (q : ℕ) (toks : List Token) (v : Node) → AreFlat toks → IsLeaf q toks v → is_tree v ≡ true
flat_leaf q toks v h (inl is) = (subst (λ (l : List Token). AreFlat l) is h).0
flat_leaf q toks v h (inr (chomping, ls, is, text)) = ap is_tree text ∙ text_is _

mutual
  flat_inside : (t : Tree) (r : ℕ) (toks : List Token) → AreFlat toks → Inside r toks t → Flat t
  flat_inside (leaf v) r toks h b = flat_leaf b.0 toks v h b.2
  flat_inside empty r toks h b = tt
  flat_inside (collection es) r toks h b = flat_collection es b.0 [] toks h b.3

  flat_collection : (es : Entries) (q : ℕ) (before : List Head) (toks : List Token) → AreFlat toks → AreEntries q before toks es → FlatAll es
  flat_collection no_entries q before toks h g = tt
  flat_collection (entry d t es) q before toks h g =
      let all : AreFlat ((Begin q d ∷ g.0) ++ g.1) = subst (λ (l : List Token). AreFlat l) g.2 h in
      (flat_inside t q g.0 (flat_front g.0 g.1 all.1) g.4, flat_collection es q (before ++ d ∷ []) g.1 (flat_back g.0 g.1 all.1) g.5)

-- ---- and the tokens of lines are such

pub map_some : {X Y : Type 0} (P : X → Type 0) (Q : Y → Type 0) (f : X → Y) (o : Option X) → ((x : X) → P x → Q (f x)) → IfSome o P → IfSome (option_map f o) Q
map_some P Q f None to h = tt
map_some P Q f (Some x) to h = to x h

pub then_some : {X Y : Type 0} (P : X → Type 0) (Q : Y → Type 0) (f : X → Option Y) (o : Option X) → ((x : X) → P x → IfSome (f x) Q) → IfSome o P → IfSome (option_and_then f o) Q
then_some P Q f None to h = tt
then_some P Q f (Some x) to h = to x h

pub any : {X : Type 0} (o : Option X) → IfSome o (λ _. Unit {0})
any None = tt
any (Some x) = tt

pub either : {X : Type 0} (P : X → Type 0) (b : Bool) (x y : Option X) → IfSome x P → IfSome y P → IfSome (cond b x y) P
either P true x y hx hy = hx
either P false x y hx hy = hy

choice : (b : Bool) (x y : Node) → is_tree x ≡ true → is_tree y ≡ true → is_tree (cond b x y) ≡ true
choice true x y hx hy = hx
choice false x y hx hy = hy

plain_is : (bytes : List ℕ) → is_tree (plain_node bytes) ≡ true
plain_is bytes =
    choice _ Null _ null_is (choice _ (Truth true) _ (truth_is true) (choice _ (Truth false) _ (truth_is false) (choice _ (Whole _) (TextNode bytes) (whole_is _) (text_is bytes))))

scalar_is : (f : Front) → is_tree (scalar_node f) ≡ true
scalar_is f = choice f.plain _ _ (plain_is (encode_utf8_all f.chars)) (text_is (encode_utf8_all f.chars))

value_if_flat : (q : ℕ) (v : Node) (rest : List ℕ) → is_tree v ≡ true → IfSome (value_if q v rest) IsFlat
value_if_flat q v rest h = either IsFlat (is_end rest) (Some (Value q v)) None h tt

value_flat : (q : ℕ) (cs : List ℕ) (a b : Option (List ℕ)) (h : Option Chomping) → IfSome (value_by q cs a b h) IsFlat
value_flat q cs (Some rest) b h = value_if_flat q (ListNode []) rest (list_is [])
value_flat q cs None (Some rest) h = value_if_flat q (MapNode []) rest (map_is [])
value_flat q cs None None (Some chomping) = tt
value_flat q cs None None None =
    then_some (λ _. Unit {0}) IsFlat (λ f. value_if q (scalar_node f) f.rest) (front cs) (λ f u. value_if_flat q (scalar_node f) f.rest (scalar_is f)) (any (front cs))

values_flat : (q : ℕ) (cs : List ℕ) → IfSome (value_tokens q cs) AreFlat
values_flat q cs = map_some IsFlat AreFlat (λ t. t ∷ []) (value_token q cs) (λ t h. (h, tt)) (value_flat q cs (behind_pair 91 93 cs) (behind_pair 123 125 cs) (header cs))

behind_flat : (q : ℕ) (cs : List ℕ) → IfSome (behind_key q cs) AreFlat
behind_flat q [] = tt
behind_flat q (c ∷ cs) = values_flat q (c ∷ cs)

entry_flat : (column : ℕ) (cs : List ℕ) (k : Option (List ℕ × List ℕ)) → IfSome (entry_by column cs k) AreFlat
entry_flat column cs None = values_flat _ cs
entry_flat column cs (Some k) = map_some AreFlat AreFlat (λ ts. Begin (2 * column + 1) (Key (encode_utf8_all k.0)) ∷ ts) (behind_key (2 * column + 2) (without_blanks k.1)) (λ ts h. (tt, h)) (behind_flat (2 * column + 2) (without_blanks k.1))

at_flat : (column : ℕ) (cs : List ℕ) → IfSome (tokens_at column cs) AreFlat
at_flat column [] = tt
at_flat column (c ∷ cs) =
    let more = at_flat (column + 1) cs in
    either AreFlat (c == 32) (tokens_at (column + 1) cs)
    (cond (is_dash c cs) (option_map (λ ts. Begin (2 * column + 2) Dash ∷ ts) (tokens_at (column + 1) cs)) (entry_tokens column (c ∷ cs))) more
    (either AreFlat (is_dash c cs) (option_map (λ ts. Begin (2 * column + 2) Dash ∷ ts) (tokens_at (column + 1) cs)) (entry_tokens column (c ∷ cs))
    (map_some AreFlat AreFlat (λ ts. Begin (2 * column + 2) Dash ∷ ts) (tokens_at (column + 1) cs) (λ ts h. (tt, h)) more)
    (entry_flat column (c ∷ cs) (key (c ∷ cs))))

abbrev pub HasFlat : Lexed → Type 0
HasFlat x = AreFlat x.0

content_flat : (m : Mode) (column : ℕ) (cs : List ℕ) → IfSome (content_tokens m column cs) HasFlat
content_flat m column cs =
    either HasFlat (is_marker m column cs) (Some ([], Between 0)) (option_map (λ ts. (ts, mode_after (parent_of m) ts)) (tokens_at column cs)) tt
    (map_some AreFlat HasFlat (λ ts. (ts, mode_after (parent_of m) ts)) (tokens_at column cs) (λ ts h. h) (at_flat column cs))

line_flat : (m : Mode) (cs : List ℕ) (base : Option ℕ) → IfSome (line_by m cs base) HasFlat
line_flat m cs (Some base) = either HasFlat (has_tab cs) None (Some (LiteralLine (encode_utf8_all (drop base cs)) ∷ [], InLiteral (parent_of m) base)) tt (tt, tt)
line_flat m cs None =
    either HasFlat (begins_with 35 (without_blanks cs)) (Some ([], without_block m))
    (cond (has_tab cs) None (content_tokens (without_block m) (spaces cs) (trimmed (without_spaces cs)))) tt
    (either HasFlat (has_tab cs) None (content_tokens (without_block m) (spaces cs) (trimmed (without_spaces cs))) tt (content_flat (without_block m) (spaces cs) (trimmed (without_spaces cs))))

blank_flat : (m : Mode) → AreFlat (blank_tokens m)
blank_flat Fresh = tt
blank_flat (Between p) = tt
blank_flat (AfterHeader p) = (tt, tt)
blank_flat (InLiteral p b) = (tt, tt)

lines_flat : (m : Mode) (ls : List (List ℕ)) → IfSome (tokens_of m ls) AreFlat
lines_flat m [] = tt
lines_flat m (l ∷ ls) =
    then_some HasFlat AreFlat (λ x. option_map (λ ts. x.0 ++ ts) (tokens_of x.1 ls)) (line_tokens m l)
    (λ x hx. map_some AreFlat AreFlat (λ ts. x.0 ++ ts) (tokens_of x.1 ls) (λ ts hts. flat_append x.0 ts hx hts) (lines_flat x.1 ls))
    (either HasFlat (is_nil (without_blanks l)) (Some (blank_tokens m, m)) (line_by m l (base_of m (spaces l))) (blank_flat m) (line_flat m l (base_of m (spaces l))))

pub some_same : {X : Type 0} {x y : X} → (let o : Option X = Some x in o) ≡ Some y → x ≡ y
some_same e = Prim.cc

some_from : {X : Type 0} (P : X → Type 0) (o : Option X) (x : X) → o ≡ Some x → IfSome o P → P x
some_from P None x e h = absurd Prim.cc
some_from P (Some y) x e h = subst (λ z. P z) (some_same e) h

pub ordered : (ls : List (List ℕ)) (r : Result Node YamlFault) → IfOk r (λ node. IsRead ls node) → IfOk r IsTree
ordered ls (Err e) h = tt
ordered ls (Ok node) h =
    let lay = h.1 in
    let flat = some_from AreFlat (tokens_of Fresh ls) lay.0 (file_written ls lay.0 lay.1) (lines_flat Fresh ls) in
    subst (λ (n : Node). IsTree n) h.3 (in_order h.0 (flat_inside h.0 0 lay.0 flat lay.2.1))
