-- The tree of a generated changelog is one that a JSON text can give.
use Rattle.std.proofs.Common.{arith, ap, rules, sym, subst, tests, ◌∙◌}
use Rattle.std.proofs.lemmas.Int.{ints}
use Rattle.std.specs.Cmp.Lexicographic.{slice_cmp}
use Rattle.std.specs.List.{AllByRecursion, flat_map, list_all}
use Rattle.std.specs.Map.{keys_of, values_of}
use Rattle.std.specs.Option.{option_map, unwrap_or}
use Rattle.std.specs.Ordering.{is_lt, nat_cmp}
use Rattle.std.specs.Prelude.{Bool, List, None, Option, Some, [], codes, cond, false, if◌then◌else◌, is_some, map, max, not, refl, suc, true, ℕ, ℤ, ◌&&◌, ◌++◌, ◌∷◌, ◌≡◌, ◌≤◌}
use Rattle.serde_json.specs.Read.{max_depth}
use Rattle.lq_base.specs.Name.{parts_of, schema_in}
use Rattle.lq_base.specs.Value.{is_int32, is_int64, is_value_of}
use Rattle.lq_base.specs.declared.dialect.Dialect.{Dialect}
use Rattle.lq_base.specs.declared.kind.Kind.{Kind}
use Rattle.lq_base.specs.declared.kind.Kind.TheVariants as kind
use Rattle.lq_base.specs.declared.name.Name.{Name}
use Rattle.lq_base.specs.declared.value.Value.{Value}
use Rattle.lq_base.specs.declared.value.Value.TheVariants as value
use Rattle.lq_generate.specs.Created.{foreign_rows, foreign_tree, if_cascade, index_column_tree, index_rows, index_tree, key_rows, key_tree, sequence_rows, sequence_tree, unique_rows, unique_tree, view_rows, view_tree, column_rows, column_tree, constraints_at, constraints_rows, created_rows, created_tree, date_at, if_true, named_in, number_at, text_at, truth_at}
use Rattle.lq_generate.specs.Faults.{is_long, is_out}
use Rattle.lq_generate.specs.Generated.{added_items, five_sets, foreign_item, foreign_items, generated_tree, index_item, is_numbered, key_items, own_key_items, sequence_item, set_rows, set_tree, set_trees, table_item, unique_item, view_item}
use Rattle.lq_generate.specs.Types.{Row, map_node, present, schema_at, under}
use Rattle.lq_jsontext.specs.JsonText.{IsWritable, are_held, is_held, levels, most}
use Rattle.lq_model.proofs.Lists.{and_left, and_right, and_true}
use Rattle.lq_model.specs.Catalogue.{Catalogue, Sequence, Table, View}
use Rattle.lq_model.specs.Sound.{default_fits}
use Rattle.lq_model.specs.declared.column.Column.{Column}
use Rattle.lq_model.specs.declared.constraint.ForeignKey.{ForeignKey}
use Rattle.lq_model.specs.declared.constraint.Key.{Key}
use Rattle.lq_model.specs.declared.constraint.Unique.{Unique}
use Rattle.lq_model.specs.declared.index.Index.{Index}
use Rattle.lq_tree.specs.Items.{is_empty}
use Rattle.lq_tree.specs.Json.{is_tree, rises}
use Rattle.lq_tree.specs.declared.node.Node.{List as ListNode, Map as MapNode, Node, Text as TextNode, Truth as TruthNode, Whole as WholeNode, the_lemmas}

-- a tree with its maps in order, its numbers held, and no deeper than that
pub record Fine (k : ℕ) (n : Node) : Type 0 where
  pub tree : is_tree n ≡ true
  pub held : are_held n ≡ true
  pub deep : levels n ≤ k

abbrev pub IfFine : ℕ → Option Node → Type 0
IfFine k None = Unit {0}
IfFine k (Some n) = Fine k n

pub deeper : (k m : ℕ) (n : Node) → k ≤ m → Fine k n → Fine m n
deeper k m n le h = record { tree = h.tree; held = h.held; deep = omega (arith, le, h.deep) }

-- single nodes

text_tree : (t : List ℕ) → is_tree (TextNode t) ≡ true
text_tree t = search (rules, the_lemmas)

text_held : (t : List ℕ) → are_held (TextNode t) ≡ true
text_held t = search (rules, the_lemmas)

text_deep : (t : List ℕ) → levels (TextNode t) ≡ 0
text_deep t = search (rules, the_lemmas)

truth_tree : (b : Bool) → is_tree (TruthNode b) ≡ true
truth_tree b = search (rules, the_lemmas)

truth_held : (b : Bool) → are_held (TruthNode b) ≡ true
truth_held b = search (rules, the_lemmas)

truth_deep : (b : Bool) → levels (TruthNode b) ≡ 0
truth_deep b = search (rules, the_lemmas)

whole_tree : (z : ℤ) → is_tree (WholeNode z) ≡ true
whole_tree z = search (rules, the_lemmas)

whole_held : (z : ℤ) → are_held (WholeNode z) ≡ is_held z
whole_held z = search (rules, the_lemmas)

whole_deep : (z : ℤ) → levels (WholeNode z) ≡ 0
whole_deep z = search (rules, the_lemmas)

none_deep : (n : Node) (k : ℕ) → levels n ≡ 0 → levels n ≤ k
none_deep n k h = omega (arith, h)

pub text_fine : (k : ℕ) (t : List ℕ) → Fine k (TextNode t)
text_fine k t = record { tree = text_tree t; held = text_held t; deep = none_deep (TextNode t) k (text_deep t) }

pub truth_fine : (k : ℕ) (b : Bool) → Fine k (TruthNode b)
truth_fine k b = record { tree = truth_tree b; held = truth_held b; deep = none_deep (TruthNode b) k (truth_deep b) }

pub whole_fine : (k : ℕ) (z : ℤ) → is_held z ≡ true → Fine k (WholeNode z)
whole_fine k z h = record { tree = whole_tree z; held = whole_held z ∙ h; deep = none_deep (WholeNode z) k (whole_deep z) }

-- lists

list_tree : (ns : List Node) → is_tree (ListNode ns) ≡ list_all (λ b. b) (map is_tree ns)
list_tree ns = search (rules, the_lemmas)

list_held : (ns : List Node) → are_held (ListNode ns) ≡ list_all (λ b. b) (map are_held ns)
list_held ns = search (rules, the_lemmas)

list_deep : (ns : List Node) → levels (ListNode ns) ≡ suc (most (map levels ns))
list_deep ns = search (rules, the_lemmas)

trees_all : (k : ℕ) (ns : List Node) → AllByRecursion (Fine k) ns → list_all (λ b. b) (map is_tree ns) ≡ true
trees_all k [] h = refl
trees_all k (n ∷ ns) h = and_true (is_tree n) _ h.0.tree (trees_all k ns h.1)

held_all : (k : ℕ) (ns : List Node) → AllByRecursion (Fine k) ns → list_all (λ b. b) (map are_held ns) ≡ true
held_all k [] h = refl
held_all k (n ∷ ns) h = and_true (are_held n) _ h.0.held (held_all k ns h.1)

most_all : (k : ℕ) (ns : List Node) → AllByRecursion (Fine k) ns → most (map levels ns) ≤ k
most_all k [] h = omega arith
most_all k (n ∷ ns) h = omega (arith, h.0.deep, most_all k ns h.1)

pub list_fine : (k : ℕ) (ns : List Node) → AllByRecursion (Fine k) ns → Fine (suc k) (ListNode ns)
list_fine k ns h =
    let top = most_all k ns h in
    let is = list_deep ns in
    record { tree = list_tree ns ∙ trees_all k ns h; held = list_held ns ∙ held_all k ns h; deep = omega (arith, top, is) }

-- maps of rows

abbrev trees_in : List (List ℕ × Node) → List (List ℕ × Bool)
trees_in es = map (λ (e : List ℕ × Node). (e.0, is_tree e.1)) es

abbrev held_in : List (List ℕ × Node) → List (List ℕ × Bool)
held_in es = map (λ (e : List ℕ × Node). (e.0, are_held e.1)) es

abbrev levels_in : List (List ℕ × Node) → List (List ℕ × ℕ)
levels_in es = map (λ (e : List ℕ × Node). (e.0, levels e.1)) es

map_tree : (es : List (List ℕ × Node)) → is_tree (MapNode es) ≡ (rises (keys_of (trees_in es)) && list_all (λ b. b) (values_of (trees_in es)))
map_tree es = search (rules, the_lemmas)

map_held : (es : List (List ℕ × Node)) → are_held (MapNode es) ≡ list_all (λ b. b) (values_of (held_in es))
map_held es = search (rules, the_lemmas)

map_deep : (es : List (List ℕ × Node)) → levels (MapNode es) ≡ suc (most (values_of (levels_in es)))
map_deep es = search (rules, the_lemmas)

abbrev keys_are : List Row → List (List ℕ)
keys_are rs = map (λ (r : Row). r.0) rs

abbrev is_above : List ℕ → List ℕ → Bool
is_above k l = is_lt (slice_cmp nat_cmp k l)

abbrev with_row : List ℕ → Option Node → List (List ℕ × Node) → List (List ℕ × Node)
with_row key o more = elim o [ None ↦ more | Some n ↦ (key, n) ∷ more ]

above_there : (k : List ℕ) (rs : List Row) → list_all (is_above k) (keys_are rs) ≡ true → list_all (is_above k) (keys_of (trees_in (present rs))) ≡ true
above_there k [] h = refl
above_there k (r ∷ rs) h = by r.1 (above_there k rs (and_right (is_above k r.0) _ h)) where
  by : (o : Option Node) → list_all (is_above k) (keys_of (trees_in (present rs))) ≡ true → list_all (is_above k) (keys_of (trees_in (with_row r.0 o (present rs)))) ≡ true
  by None more = more
  by (Some n) more = and_true (is_above k r.0) _ (and_left (is_above k r.0) _ h) more

rise_there : (rs : List Row) → rises (keys_are rs) ≡ true → rises (keys_of (trees_in (present rs))) ≡ true
rise_there [] h = refl
rise_there (r ∷ rs) h = by r.1 (above_there r.0 rs (and_left (list_all (is_above r.0) (keys_are rs)) _ h)) (rise_there rs (and_right (list_all (is_above r.0) (keys_are rs)) _ h)) where
  by : (o : Option Node) → list_all (is_above r.0) (keys_of (trees_in (present rs))) ≡ true → rises (keys_of (trees_in (present rs))) ≡ true → rises (keys_of (trees_in (with_row r.0 o (present rs)))) ≡ true
  by None above more = more
  by (Some n) above more = and_true (list_all (is_above r.0) (keys_of (trees_in (present rs)))) _ above more

abbrev AreFine : ℕ → List Row → Type 0
AreFine k rs = AllByRecursion (λ (r : Row). IfFine k r.1) rs

trees_there : (k : ℕ) (rs : List Row) → AreFine k rs → list_all (λ b. b) (values_of (trees_in (present rs))) ≡ true
trees_there k [] h = refl
trees_there k (r ∷ rs) h = by r.1 h.0 (trees_there k rs h.1) where
  by : (o : Option Node) → IfFine k o → list_all (λ b. b) (values_of (trees_in (present rs))) ≡ true → list_all (λ b. b) (values_of (trees_in (with_row r.0 o (present rs)))) ≡ true
  by None fine more = more
  by (Some n) fine more = and_true (is_tree n) _ fine.tree more

held_there : (k : ℕ) (rs : List Row) → AreFine k rs → list_all (λ b. b) (values_of (held_in (present rs))) ≡ true
held_there k [] h = refl
held_there k (r ∷ rs) h = by r.1 h.0 (held_there k rs h.1) where
  by : (o : Option Node) → IfFine k o → list_all (λ b. b) (values_of (held_in (present rs))) ≡ true → list_all (λ b. b) (values_of (held_in (with_row r.0 o (present rs)))) ≡ true
  by None fine more = more
  by (Some n) fine more = and_true (are_held n) _ fine.held more

most_there : (k : ℕ) (rs : List Row) → AreFine k rs → most (values_of (levels_in (present rs))) ≤ k
most_there k [] h = omega arith
most_there k (r ∷ rs) h = by r.1 h.0 (most_there k rs h.1) where
  by : (o : Option Node) → IfFine k o → most (values_of (levels_in (present rs))) ≤ k → most (values_of (levels_in (with_row r.0 o (present rs)))) ≤ k
  by None fine more = more
  by (Some n) fine more = omega (arith, fine.deep, more)

pub rows_fine : (k : ℕ) (rs : List Row) → rises (keys_are rs) ≡ true → AreFine k rs → Fine (suc k) (map_node rs)
rows_fine k rs rise h =
    let top = most_there k rs h in
    let is = map_deep (present rs) in
    record {
      tree = map_tree (present rs) ∙ and_true (rises (keys_of (trees_in (present rs)))) _ (rise_there rs rise) (trees_there k rs h);
      held = map_held (present rs) ∙ held_there k rs h;
      deep = omega (arith, top, is);
    }

pub under_fine : (k : ℕ) (key : List ℕ) (n : Node) → Fine k n → Fine (suc k) (under key n)
under_fine k key n h = rows_fine k ((key, Some n) ∷ []) refl (h, tt)

-- what stands in rows

so_fine : (k : ℕ) (b : Bool) → IfFine k (if_true b)
so_fine k true = truth_fine k true
so_fine k false = tt

not_so_fine : (k : ℕ) (b : Bool) → IfFine k (if b then None else Some (TruthNode false))
not_so_fine k true = tt
not_so_fine k false = truth_fine k false

name_fine : (k : ℕ) (o : Option Name) → IfFine k (option_map (λ (n : Name). TextNode n) o)
name_fine k None = tt
name_fine k (Some n) = text_fine k n

schema_fine : (k : ℕ) (n : Name) → IfFine k (schema_at n)
schema_fine k n = by (parts_of n) where
  by : (o : Option (List ℕ × List ℕ)) → IfFine k (if is_some o then Some (TextNode (schema_in o)) else None)
  by None = tt
  by (Some parts) = text_fine k parts.0

cascade_fine : (k : ℕ) (b : Bool) → IfFine k (if_cascade b)
cascade_fine k true = text_fine k (codes "CASCADE")
cascade_fine k false = tt

-- a column

small_held : (z : ℤ) → is_int32 z ≡ true → is_held z ≡ true
small_held z h = grind (arith, ints, tests, h)

wide_held : (z : ℤ) → is_int64 z ≡ true → is_held z ≡ true
wide_held z h = grind (arith, ints, tests, h)

long_held : (z : ℤ) → is_long z ≡ true → is_held z ≡ true
long_held z h = grind (arith, ints, tests, h)

text_at_fine : (k : ℕ) (o : Option Value) → IfFine k (text_at o)
text_at_fine k (Some (value.Text t)) = text_fine k t
text_at_fine k None = tt
text_at_fine k (Some value.Null) = tt
text_at_fine k (Some (value.Int n)) = tt
text_at_fine k (Some (value.Fixed units scale)) = tt
text_at_fine k (Some (value.Bool b)) = tt
text_at_fine k (Some (value.Moment ms)) = tt

truth_at_fine : (k : ℕ) (o : Option Value) → IfFine k (truth_at o)
truth_at_fine k (Some (value.Bool b)) = truth_fine k b
truth_at_fine k None = tt
truth_at_fine k (Some value.Null) = tt
truth_at_fine k (Some (value.Int n)) = tt
truth_at_fine k (Some (value.Fixed units scale)) = tt
truth_at_fine k (Some (value.Text t)) = tt
truth_at_fine k (Some (value.Moment ms)) = tt

date_at_fine : (k : ℕ) (o : Option Value) → IfFine k (date_at o)
date_at_fine k (Some (value.Moment ms)) = text_fine k _
date_at_fine k None = tt
date_at_fine k (Some value.Null) = tt
date_at_fine k (Some (value.Int n)) = tt
date_at_fine k (Some (value.Fixed units scale)) = tt
date_at_fine k (Some (value.Text t)) = tt
date_at_fine k (Some (value.Bool b)) = tt

false_true : {A : Type 0} → (let b : Bool = false in b) ≡ true → A
false_true h = absurd Prim.cc

whole_there : (of : Kind) (n : ℤ) → is_value_of of (value.Int n) ≡ true → is_held n ≡ true
unfolding is_value_of
whole_there kind.Int n fits = small_held n fits
whole_there kind.BigInt n fits = wide_held n fits
whole_there of n fits = false_true fits

number_at_fine : (k : ℕ) (of : Kind) (o : Option Value) → is_value_of of (unwrap_or o value.Null) ≡ true → IfFine k (number_at o)
number_at_fine k of (Some (value.Int n)) fits = whole_fine k n (whole_there of n fits)
number_at_fine k of (Some (value.Fixed units scale)) fits = text_fine k _
number_at_fine k of None fits = tt
number_at_fine k of (Some value.Null) fits = tt
number_at_fine k of (Some (value.Text t)) fits = tt
number_at_fine k of (Some (value.Bool b)) fits = tt
number_at_fine k of (Some (value.Moment ms)) fits = tt

constraints_fine : (d : Dialect) (key : Option Key) (c : Column) → IfFine 1 (constraints_at d key c)
constraints_fine d key c = by (c.nullable && not c.numbered) where
  by : (b : Bool) → IfFine 1 (if b then None else Some (map_node (constraints_rows d key c)))
  by true = tt
  by false = rows_fine 0 (constraints_rows d key c) refl (not_so_fine 0 c.nullable, (so_fine 0 c.numbered, (name_fine 0 _, tt)))

column_fine : (d : Dialect) (key : Option Key) (c : Column) → default_fits c ≡ true → Fine 3 (column_tree d key c)
column_fine d key c fits =
    under_fine 2 (codes "column") (map_node (column_rows d key c))
    (rows_fine 1 (column_rows d key c) refl
    (so_fine 1 c.numbered, (constraints_fine d key c, (text_at_fine 1 c.default, (truth_at_fine 1 c.default, (date_at_fine 1 c.default, (number_at_fine 1 c.kind c.default fits, (text_fine 1 c.name, (text_fine 1 _, tt)))))))))

-- the lists of changes

pub each_fine : {A : Type 0} (P : A → Type 0) (k : ℕ) (f : A → Node) → ((x : A) → P x → Fine k (f x)) → (xs : List A) → AllByRecursion P xs → AllByRecursion (Fine k) (map f xs)
each_fine P k f h [] all = tt
each_fine P k f h (x ∷ xs) all = (h x all.0, each_fine P k f h xs all.1)

pub both_fine : (k : ℕ) (ns ms : List Node) → AllByRecursion (Fine k) ns → AllByRecursion (Fine k) ms → AllByRecursion (Fine k) (ns ++ ms)
both_fine k [] ms h g = g
both_fine k (n ∷ ns) ms h g = (h.0, both_fine k ns ms h.1 g)

pub lists_fine : {A : Type 0} (P : A → Type 0) (k : ℕ) (f : A → List Node) → ((x : A) → P x → AllByRecursion (Fine k) (f x)) → (xs : List A) → AllByRecursion P xs → AllByRecursion (Fine k) (flat_map f xs)
lists_fine P k f h [] all = tt
lists_fine P k f h (x ∷ xs) all = both_fine k (f x) (flat_map f xs) (h x all.0) (lists_fine P k f h xs all.1)

pub always : {A : Type 0} (xs : List A) → AllByRecursion (λ (x : A). Unit {0}) xs
always [] = tt
always (x ∷ xs) = (tt, always xs)

fits_each : (cs : List Column) → list_all default_fits cs ≡ true → AllByRecursion (λ (c : Column). default_fits c ≡ true) cs
fits_each [] h = tt
fits_each (c ∷ cs) h = (and_left (default_fits c) _ h, fits_each cs (and_right (default_fits c) _ h))

pub created_fine : (d : Dialect) (t : Name) (it : Table) → list_all default_fits it.columns ≡ true → Fine 5 (created_tree d t it)
created_fine d t it fits =
    rows_fine 4 (created_rows d t it) refl
    (list_fine 3 (map (column_tree d it.key) it.columns) (each_fine (λ (c : Column). default_fits c ≡ true) 3 (column_tree d it.key) (column_fine d it.key) it.columns (fits_each it.columns fits)), (schema_fine 4 t, (text_fine 4 _, tt)))

pub sequence_fine : (s : Name) (x : Sequence) → is_out x ≡ false → Fine 5 (sequence_tree s x)
sequence_fine s x h =
    let both = twice (is_long x.start && is_long x.step) h in
    deeper 1 5 (sequence_tree s x) (omega arith) (rows_fine 0 (sequence_rows s x) refl (whole_fine 0 x.step (long_held x.step (and_right (is_long x.start) _ both)), (text_fine 0 s, (whole_fine 0 x.start (long_held x.start (and_left (is_long x.start) _ both)), tt)))) where
      twice : (b : Bool) → not b ≡ false → b ≡ true
      twice true g = refl
      twice false g = absurd Prim.cc

pub key_fine : (d : Dialect) (t : Name) (k : Key) → Fine 5 (key_tree d t k)
key_fine d t k = deeper 1 5 (key_tree d t k) (omega arith) (rows_fine 0 (key_rows d t k) refl (text_fine 0 _, (name_fine 0 (named_in d (Some k)), (schema_fine 0 t, (text_fine 0 _, tt)))))

pub unique_fine : (t : Name) (u : Unique) → Fine 5 (unique_tree t u)
unique_fine t u = deeper 1 5 (unique_tree t u) (omega arith) (rows_fine 0 (unique_rows t u) refl (text_fine 0 _, (text_fine 0 u.name, (schema_fine 0 t, (text_fine 0 _, tt)))))

index_column_fine : (n : Name) → Fine 2 (index_column_tree n)
index_column_fine n = under_fine 1 (codes "column") _ (under_fine 0 (codes "name") (TextNode n) (text_fine 0 n))

pub index_fine : (t : Name) (x : Index) → Fine 5 (index_tree t x)
index_fine t x =
    deeper 4 5 (index_tree t x) (omega arith)
    (rows_fine 3 (index_rows t x) refl
    (list_fine 2 (map index_column_tree x.columns) (each_fine (λ (n : Name). Unit {0}) 2 index_column_tree (λ n u. index_column_fine n) x.columns (always x.columns)), (text_fine 3 x.name, (schema_fine 3 t, (text_fine 3 _, (so_fine 3 x.unique, tt))))))

pub foreign_fine : (t : Name) (f : ForeignKey) → Fine 5 (foreign_tree t f)
foreign_fine t f =
    deeper 1 5 (foreign_tree t f) (omega arith)
    (rows_fine 0 (foreign_rows t f) refl (text_fine 0 _, (text_fine 0 _, (schema_fine 0 t, (text_fine 0 f.name, (cascade_fine 0 f.cascade, (text_fine 0 _, (text_fine 0 _, (schema_fine 0 f.table, tt)))))))))

pub view_fine : (d : Dialect) (v : Name) (it : View) → Fine 5 (view_tree d v it)
view_fine d v it = deeper 1 5 (view_tree d v it) (omega arith) (rows_fine 0 (view_rows d v it) refl (text_fine 0 _, (text_fine 0 v, tt)))

-- the changesets

abbrev pub AllFine : List (List ℕ × List Node) → Type 0
AllFine ss = AllByRecursion (λ (s : List ℕ × List Node). AllByRecursion (Fine 6) s.1) ss

set_fine : (id author : List ℕ) (changes : List Node) → AllByRecursion (Fine 6) changes → Fine 9 (set_tree id author changes)
set_fine id author changes h = under_fine 8 (codes "changeSet") _ (rows_fine 7 (set_rows id author changes) refl (text_fine 7 author, (list_fine 6 changes h, (text_fine 7 id, tt))))

sets_fine : (author : List ℕ) (ss : List (List ℕ × List Node)) → AllFine ss → AllByRecursion (Fine 9) (set_trees author ss)
sets_fine author [] h = tt
sets_fine author (s ∷ ss) h = by (is_empty s.1) (sets_fine author ss h.1) where
  by : (b : Bool) → AllByRecursion (Fine 9) (set_trees author ss) → AllByRecursion (Fine 9) (if b then set_trees author ss else set_tree s.0 author s.1 ∷ set_trees author ss)
  by true more = more
  by false more = (set_fine s.0 author s.1 h.0, more)

key_items_fine : (d : Dialect) (t : Name) (key : Option Key) → AllByRecursion (Fine 6) (key_items d t key)
key_items_fine d t None = tt
key_items_fine d t (Some k) = (under_fine 5 (codes "addPrimaryKey") (key_tree d t k) (key_fine d t k), tt)

own_key_fine : (d : Dialect) (e : Name × Table) → AllByRecursion (Fine 6) (own_key_items d e)
own_key_fine d e = by (is_numbered e.1) where
  by : (b : Bool) → AllByRecursion (Fine 6) (cond b [] (key_items d e.0 e.1.key))
  by true = tt
  by false = key_items_fine d e.0 e.1.key

added_fine : (d : Dialect) (e : Name × Table) → AllByRecursion (Fine 6) (added_items d e)
added_fine d e =
    both_fine 6 (own_key_items d e) (map (unique_item e.0) e.1.uniques ++ map (index_item e.0) e.1.indexes) (own_key_fine d e)
    (both_fine 6 (map (unique_item e.0) e.1.uniques) (map (index_item e.0) e.1.indexes)
    (each_fine (λ (u : Unique). Unit {0}) 6 (unique_item e.0) (λ u t. under_fine 5 (codes "addUniqueConstraint") (unique_tree e.0 u) (unique_fine e.0 u)) e.1.uniques (always e.1.uniques))
    (each_fine (λ (x : Index). Unit {0}) 6 (index_item e.0) (λ x t. under_fine 5 (codes "createIndex") (index_tree e.0 x) (index_fine e.0 x)) e.1.indexes (always e.1.indexes)))

pub generated_writable : (d : Dialect) (author : List ℕ) (c : Catalogue) → AllByRecursion (λ (e : Name × Table). list_all default_fits e.1.columns ≡ true) c.tables → AllByRecursion (λ (s : Name × Sequence). is_out s.1 ≡ false) c.sequences
    → IsWritable (generated_tree d author c)
generated_writable d author c fits within =
    let sequences = each_fine (λ (s : Name × Sequence). is_out s.1 ≡ false) 6 sequence_item (λ s h. under_fine 5 (codes "createSequence") (sequence_tree s.0 s.1) (sequence_fine s.0 s.1 h)) c.sequences within in
    let tables = each_fine (λ (e : Name × Table). list_all default_fits e.1.columns ≡ true) 6 (table_item d) (λ e h. under_fine 5 (codes "createTable") (created_tree d e.0 e.1) (created_fine d e.0 e.1 h)) c.tables fits in
    let added = lists_fine (λ (e : Name × Table). Unit {0}) 6 (added_items d) (λ e t. added_fine d e) c.tables (always c.tables) in
    let aims = lists_fine (λ (e : Name × Table). Unit {0}) 6 foreign_items (λ e t. each_fine (λ (f : ForeignKey). Unit {0}) 6 (foreign_item e.0) (λ f u. under_fine 5 (codes "addForeignKeyConstraint") (foreign_tree e.0 f) (foreign_fine e.0 f)) e.1.foreign (always e.1.foreign)) c.tables (always c.tables) in
    let views = each_fine (λ (v : Name × View). Unit {0}) 6 (view_item d) (λ v t. under_fine 5 (codes "createView") (view_tree d v.0 v.1) (view_fine d v.0 v.1)) c.views (always c.views) in
    let all = under_fine 10 (codes "databaseChangeLog") _ (list_fine 9 (set_trees author (five_sets d c)) (sets_fine author (five_sets d c) (sequences, (tables, (added, (aims, (views, tt))))))) in
    record { ordered = all.tree; held = all.held; shallow = omega (arith, all.deep) }
