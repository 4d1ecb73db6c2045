-- The tree of a generated changelog is that of the changesets that are read.
use Rattle.std.proofs.Common.{ap, sym, ◌∙◌}
use Rattle.std.specs.List.{flat_map, list_any}
use Rattle.std.specs.Prelude.{Bool, List, None, Option, Some, [], codes, cond, false, if◌then◌else◌, map, refl, true, ℕ, ◌++◌, ◌∷◌, ◌≡◌}
use Rattle.lq_base.specs.declared.dialect.Dialect.{Dialect}
use Rattle.lq_base.specs.declared.name.Name.{Name}
use Rattle.lq_generate.specs.Generated.{added_items, five_sets, foreign_item, foreign_items, generated_tree, index_item, is_numbered, key_items, own_key_items, sequence_item, set_tree, set_trees, table_item, unique_item, view_item}
use Rattle.lq_generate.specs.Types.{under}
use Rattle.lq_model.specs.Catalogue.{Catalogue, Sequence, Table, View}
use Rattle.lq_model.specs.declared.constraint.ForeignKey.{ForeignKey}
use Rattle.lq_model.specs.declared.constraint.Key.{Key}
use Rattle.lq_tree.specs.Items.{is_empty}
use Rattle.lq_tree.specs.declared.node.Node.{List as ListNode, Node}
use Rattle.laws_generate.proofs.FileRead.{Made, item_of, root_tree}
use Rattle.laws_generate.proofs.SetsRead.{Pair, five, made_of, pair_of_foreign, pair_of_index, pair_of_sequence, pair_of_table, pair_of_unique, pair_of_view, pairs_of_aims, pairs_of_filling, pairs_of_key, pairs_of_own_key, sets_of}

abbrev first : Pair → Node
first p = p.0

map_both : (xs ys : List Pair) → map first (xs ++ ys) ≡ map first xs ++ map first ys
map_both [] ys = refl
map_both (x ∷ xs) ys = ap (λ zs. first x ∷ zs) (map_both xs ys)

of_pairs : {A : Type 0} (pair : A → Pair) (xs : List A) → map first (map pair xs) ≡ map (λ x. first (pair x)) xs
of_pairs pair [] = refl
of_pairs pair (x ∷ xs) = ap (λ zs. first (pair x) ∷ zs) (of_pairs pair xs)

of_lists : {A : Type 0} (pairs : A → List Pair) (items : A → List Node) → ((x : A) → map first (pairs x) ≡ items x) → (xs : List A) → map first (flat_map pairs xs) ≡ flat_map items xs
of_lists pairs items same [] = refl
of_lists pairs items same (x ∷ xs) = map_both (pairs x) (flat_map pairs xs) ∙ ap (λ zs. zs ++ map first (flat_map pairs xs)) (same x) ∙ ap (λ zs. items x ++ zs) (of_lists pairs items same xs)

own_keys_same : (d : Dialect) (e : Name × Table) → map first (pairs_of_own_key d e) ≡ own_key_items d e
own_keys_same d e = by (is_numbered e.1) e.1.key where
  by : (b : Bool) (key : Option Key) → map first (cond b [] (pairs_of_key d e.0 key)) ≡ cond b [] (key_items d e.0 key)
  by true key = refl
  by false None = refl
  by false (Some k) = refl

fillings_same : (d : Dialect) (e : Name × Table) → map first (pairs_of_filling d e) ≡ added_items d e
fillings_same d e =
    map_both (pairs_of_own_key d e) (map (pair_of_unique e.0) e.1.uniques ++ map (pair_of_index e.0) e.1.indexes)
    ∙ ap (λ zs. zs ++ map first (map (pair_of_unique e.0) e.1.uniques ++ map (pair_of_index e.0) e.1.indexes)) (own_keys_same d e)
    ∙ ap (λ zs. own_key_items d e ++ zs) (map_both (map (pair_of_unique e.0) e.1.uniques) (map (pair_of_index e.0) e.1.indexes)
    ∙ ap (λ zs. zs ++ map first (map (pair_of_index e.0) e.1.indexes)) (of_pairs (pair_of_unique e.0) e.1.uniques)
    ∙ ap (λ zs. map (unique_item e.0) e.1.uniques ++ zs) (of_pairs (pair_of_index e.0) e.1.indexes))

abbrev nodes_in : List (List ℕ × List Pair) → List (List ℕ × List Node)
nodes_in ss = map (λ (s : List ℕ × List Pair). (s.0, map first s.1)) ss

trees_same : (author : List ℕ) (ss : List (List ℕ × List Pair)) → set_trees author (nodes_in ss) ≡ map (item_of author) (sets_of ss)
trees_same author [] = refl
trees_same author (s ∷ ss) = by s.1 (trees_same author ss) where
  by : (ps : List Pair) → set_trees author (nodes_in ss) ≡ map (item_of author) (sets_of ss)
      → (if is_empty (map first ps) then set_trees author (nodes_in ss) else set_tree s.0 author (map first ps) ∷ set_trees author (nodes_in ss)) ≡ map (item_of author) (if is_empty ps then sets_of ss else made_of s.0 ps ∷ sets_of ss)
  by [] rest = rest
  by (p ∷ ps) rest = ap (λ ts. set_tree s.0 author (map first (p ∷ ps)) ∷ ts) rest

abbrev sets_with : List Node → List Node → List Node → List Node → List Node → List (List ℕ × List Node)
sets_with a b c d e = (codes "1", a) ∷ (codes "2", b) ∷ (codes "3", c) ∷ (codes "4", d) ∷ (codes "5", e) ∷ []

five_nodes : (d : Dialect) (c : Catalogue) → nodes_in (five d c) ≡ five_sets d c
five_nodes d c =
    let a = map first (map pair_of_sequence c.sequences) in
    let b = map first (map (pair_of_table d) c.tables) in
    let e = map first (flat_map (pairs_of_filling d) c.tables) in
    let f = map first (flat_map pairs_of_aims c.tables) in
    let g = map first (map (pair_of_view d) c.views) in
    ap (λ x. sets_with x b e f g) (of_pairs pair_of_sequence c.sequences)
    ∙ ap (λ x. sets_with (map sequence_item c.sequences) x e f g) (of_pairs (pair_of_table d) c.tables)
    ∙ ap (λ x. sets_with (map sequence_item c.sequences) (map (table_item d) c.tables) x f g) (of_lists (pairs_of_filling d) (added_items d) (fillings_same d) c.tables)
    ∙ ap (λ x. sets_with (map sequence_item c.sequences) (map (table_item d) c.tables) (flat_map (added_items d) c.tables) x g) (of_lists pairs_of_aims foreign_items (λ e. of_pairs (pair_of_foreign e.0) e.1.foreign) c.tables)
    ∙ ap (λ x. sets_with (map sequence_item c.sequences) (map (table_item d) c.tables) (flat_map (added_items d) c.tables) (flat_map foreign_items c.tables) x) (of_pairs (pair_of_view d) c.views)

pub tree_same : (d : Dialect) (author : List ℕ) (c : Catalogue) → generated_tree d author c ≡ root_tree author (sets_of (five d c))
tree_same d author c = ap (λ ss. root_of (set_trees author ss)) (sym (five_nodes d c)) ∙ ap root_of (trees_same author (five d c)) where
  root_of : List Node → Node
  root_of ts = under (codes "databaseChangeLog") (ListNode ts)
