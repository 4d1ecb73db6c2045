-- The trees of the five changesets are read as their changes.
use Rattle.std.proofs.lemmas.Bool.Decides.{nat_tests}
use Rattle.std.proofs.Common.{arith, ap, sym, ◌∙◌, append_assoc}
use Rattle.std.specs.List.{AllByRecursion, flat_map, list_all, list_any, position, position_or_len}
use Rattle.std.specs.Option.{option_map}
use Rattle.std.specs.Prelude.{nat_lt, if◌then◌else◌, Bool, Err, List, None, Ok, Option, Result, Some, [], codes, cond, false, length, map, not, refl, true, ℕ, ◌+◌, ◌++◌, ◌∷◌, ◌≡◌}
use Rattle.lq_base.specs.Name.{is_name, is_object}
use Rattle.lq_base.specs.declared.dialect.Dialect.{Dialect}
use Rattle.lq_base.specs.declared.dialect.Dialect.TheVariants.{Mysql, Postgresql}
use Rattle.lq_base.specs.declared.name.Name.{Name}
use Rattle.lq_any.specs.AnyChange.{any_change}
use Rattle.lq_kinds.specs.Changes.{is_tagging, changes_from, load_of}
use Rattle.lq_any.specs.declared.any_change.AnyChange.{AnyChange}
use Rattle.lq_model.specs.Catalogue.{Catalogue, Sequence, Table, View}
use Rattle.lq_model.specs.SqlText.{query_in}
use Rattle.lq_model.specs.TestText.{query_text}
use Rattle.lq_model.specs.declared.column.Column.{Column}
use Rattle.lq_model.specs.declared.constraint.ForeignKey.{ForeignKey}
use Rattle.lq_model.specs.declared.constraint.Key.{Key}
use Rattle.lq_model.specs.declared.constraint.Unique.{Unique}
use Rattle.lq_model.specs.declared.index.Index.{Index}
use Rattle.lq_tree.specs.Look.{Found, Taken, and_then, map_found, within}
use Rattle.lq_tree.specs.Items.{is_empty, items_from}
use Rattle.lq_tree.specs.declared.node.Node.{Node}
use Rattle.lq_views.specs.CreateSequence.{is_not_zero}
use Rattle.lq_generate.specs.Created.{foreign_tree, index_tree, key_tree, sequence_tree, unique_tree, view_tree, created_tree, named_in}
use Rattle.laws_made.specs.CreatedAs.{foreign_change, index_change, key_change, sequence_change, unique_change, view_change, of_aims, of_filling, of_foreign, of_index, of_key, of_own_key, of_sequence, of_table, of_unique, of_view, created}
use Rattle.lq_generate.specs.Types.{under}
use Rattle.laws_generate.proofs.NamesListed.{AreListed}
use Rattle.laws_generate.proofs.AddedRead.{foreign_read, index_read, key_read, sequence_read, unique_read, view_read}
use Rattle.laws_generate.proofs.AnyRead.{any_foreign, any_index, any_key, any_sequence, any_table, any_unique, any_view}
use Rattle.laws_generate.proofs.CanWrite.{CanFill, CanSequence, CanTable, CanView}
use Rattle.laws_generate.proofs.CreatedRead.{Fits, created_read, items_are}
use Rattle.std.specs.Str.{bytes_eq}
use Rattle.lq_kinds.specs.ChangeSets.{is_label}
use Rattle.laws_generate.proofs.NodesRead.{map_is}
use Rattle.lq_any.specs.declared.any_change.AnyChange.TheVariants as any
use Rattle.laws_made.proofs.Effects.{both_of}
use Rattle.laws_generate.proofs.FileRead.{IsMade, Made}

-- ---- each change with its tree

abbrev pub Pair : Type 0
Pair = Node × AnyChange

abbrev pub pair_of_sequence : Name × Sequence → Pair
pair_of_sequence s = (under (codes "createSequence") (sequence_tree s.0 s.1), of_sequence s)

abbrev pub pair_of_table : Dialect → Name × Table → Pair
pair_of_table d e = (under (codes "createTable") (created_tree d e.0 e.1), of_table d e)

abbrev pub pairs_of_key : Dialect → Name → Option Key → List Pair
pairs_of_key d t None = []
pairs_of_key d t (Some k) = (under (codes "addPrimaryKey") (key_tree d t k), any.AddPrimaryKey (key_change d t k)) ∷ []

abbrev pub pairs_of_own_key : Dialect → Name × Table → List Pair
pairs_of_own_key d e = cond (list_any (λ (c : Column). c.numbered) e.1.columns) [] (pairs_of_key d e.0 e.1.key)

abbrev pub pair_of_unique : Name → Unique → Pair
pair_of_unique t u = (under (codes "addUniqueConstraint") (unique_tree t u), of_unique t u)

abbrev pub pair_of_index : Name → Index → Pair
pair_of_index t x = (under (codes "createIndex") (index_tree t x), of_index t x)

abbrev pub pairs_of_filling : Dialect → Name × Table → List Pair
pairs_of_filling d e = pairs_of_own_key d e ++ (map (pair_of_unique e.0) e.1.uniques ++ map (pair_of_index e.0) e.1.indexes)

abbrev pub pair_of_foreign : Name → ForeignKey → Pair
pair_of_foreign t f = (under (codes "addForeignKeyConstraint") (foreign_tree t f), of_foreign t f)

abbrev pub pairs_of_aims : Name × Table → List Pair
pairs_of_aims e = map (pair_of_foreign e.0) e.1.foreign

abbrev pub pair_of_view : Dialect → Name × View → Pair
pair_of_view d v = (under (codes "createView") (view_tree d v.0 v.1), of_view d v)

-- ---- each is read

-- none of them loads a file
no_load : (key : List ℕ) (n : Node) → bytes_eq key (codes "loadData") ≡ false → load_of (under key n) ≡ None
no_load key n other = rw (map_is ((key, n) ∷ []), other) refl

abbrev pub IsRead : Dialect → Pair → Type 0
IsRead d p = (any_change d p.0 ≡ Ok p.1) × ((is_tagging p.1 ≡ false) × (load_of p.0 ≡ None))

each_with : {A B : Type 0} (Q : A → Type 0) (P : B → Type 0) (f : A → B) → ((x : A) → Q x → P (f x)) → (xs : List A) → AllByRecursion Q xs → AllByRecursion P (map f xs)
each_with Q P f h [] all = tt
each_with Q P f h (x ∷ xs) all = (h x all.0, each_with Q P f h xs all.1)

lists_with : {A B : Type 0} (Q : A → Type 0) (P : B → Type 0) (f : A → List B) → ((x : A) → Q x → AllByRecursion P (f x)) → (xs : List A) → AllByRecursion Q xs → AllByRecursion P (flat_map f xs)
lists_with Q P f h [] all = tt
lists_with Q P f h (x ∷ xs) all = both_of P (f x) (flat_map f xs) (h x all.0) (lists_with Q P f h xs all.1)

pub sequences_are_read : (ss : List (Name × Sequence)) → AllByRecursion CanSequence ss → AllByRecursion (IsRead Postgresql) (map pair_of_sequence ss)
sequences_are_read ss h = each_with CanSequence (IsRead Postgresql) pair_of_sequence (λ s c. (any_sequence Postgresql (sequence_tree s.0 s.1) (sequence_change s.0 s.1) (sequence_read s.0 s.1 c.0 c.1), (refl, no_load (codes "createSequence") (sequence_tree s.0 s.1) refl))) ss h

pub tables_are_read : (d : Dialect) (ts : List (Name × Table)) → AllByRecursion (CanTable d) ts → AllByRecursion (IsRead d) (map (pair_of_table d) ts)
tables_are_read d ts h = each_with (CanTable d) (IsRead d) (pair_of_table d) (λ e c. (any_table d (created_tree d e.0 e.1) (created d e.0 e.1) (created_read d e.0 e.1 c.name c.some c.columns), (refl, no_load (codes "createTable") (created_tree d e.0 e.1) refl))) ts h

key_is_read : (d : Dialect) (t : Name) (key : Option Key) → is_object d t ≡ true → ((k : Key) → key ≡ Some k → AreListed k.columns × Fits is_name (named_in d (Some k))) → AllByRecursion (IsRead d) (pairs_of_key d t key)
key_is_read d t None name h = tt
key_is_read d t (Some k) name h = ((any_key d (key_tree d t k) (key_change d t k) (key_read d t k name (h k refl).0 (h k refl).1), (refl, no_load (codes "addPrimaryKey") (key_tree d t k) refl)), tt)

own_key_is_read : (d : Dialect) (e : Name × Table) → CanFill d e → AllByRecursion (IsRead d) (pairs_of_own_key d e)
own_key_is_read d e c = by (list_any (λ (c : Column). c.numbered) e.1.columns) refl where
  by : (b : Bool) → list_any (λ (c : Column). c.numbered) e.1.columns ≡ b → AllByRecursion (IsRead d) (cond b [] (pairs_of_key d e.0 e.1.key))
  by true is = tt
  by false is = key_is_read d e.0 e.1.key c.name (λ k has. c.key k has is)

pub fillings_are_read : (d : Dialect) (ts : List (Name × Table)) → AllByRecursion (CanFill d) ts → AllByRecursion (IsRead d) (flat_map (pairs_of_filling d) ts)
fillings_are_read d ts h = lists_with (CanFill d) (IsRead d) (pairs_of_filling d) one ts h where
  one : (e : Name × Table) → CanFill d e → AllByRecursion (IsRead d) (pairs_of_filling d e)
  one e c =
      both_of (IsRead d) (pairs_of_own_key d e) (map (pair_of_unique e.0) e.1.uniques ++ map (pair_of_index e.0) e.1.indexes) (own_key_is_read d e c)
      (both_of (IsRead d) (map (pair_of_unique e.0) e.1.uniques) (map (pair_of_index e.0) e.1.indexes)
      (each_with (λ (u : Unique). AreListed u.columns × (is_name u.name ≡ true)) (IsRead d) (pair_of_unique e.0) (λ u a. (any_unique d (unique_tree e.0 u) (unique_change e.0 u) (unique_read d e.0 u c.name a.0 a.1), (refl, no_load (codes "addUniqueConstraint") (unique_tree e.0 u) refl))) e.1.uniques c.uniques)
      (each_with (λ (x : Index). (is_empty x.columns ≡ false) × (AllByRecursion (λ n. is_name n ≡ true) x.columns × (is_name x.name ≡ true))) (IsRead d) (pair_of_index e.0) (λ x a. (any_index d (index_tree e.0 x) (index_change e.0 x) (index_read d e.0 x c.name a.0 a.1.0 a.1.1), (refl, no_load (codes "createIndex") (index_tree e.0 x) refl))) e.1.indexes c.indexes))

pub aims_are_read : (d : Dialect) (ts : List (Name × Table)) → AllByRecursion (CanFill d) ts → AllByRecursion (IsRead d) (flat_map pairs_of_aims ts)
aims_are_read d ts h = lists_with (CanFill d) (IsRead d) pairs_of_aims (λ e c. each_with (λ (f : ForeignKey). ((is_name f.name ≡ true) × (is_object d f.table ≡ true)) × (AreListed f.columns × AreListed f.targets)) (IsRead d) (pair_of_foreign e.0)
    (λ f a. (any_foreign d (foreign_tree e.0 f) (foreign_change e.0 f) (foreign_read d e.0 f c.name a.0.0 a.0.1 a.1.0 a.1.1), (refl, no_load (codes "addForeignKeyConstraint") (foreign_tree e.0 f) refl))) e.1.foreign c.foreign) ts h

pub views_are_read : (d : Dialect) (vs : List (Name × View)) → AllByRecursion (CanView d) vs → AllByRecursion (IsRead d) (map (pair_of_view d) vs)
views_are_read d vs h = each_with (CanView d) (IsRead d) (pair_of_view d) (λ v c. (any_view d (view_tree d v.0 v.1) (view_change d v.0 v.1) (view_read d v.0 v.1 c.0 c.1), (refl, no_load (codes "createView") (view_tree d v.0 v.1) refl))) vs h

-- ---- a changeset of such pairs

abbrev pub made_of : List ℕ → List Pair → Made
made_of id ps = record { id = id; nodes = map (λ (p : Pair). p.0) ps; changes = map (λ (p : Pair). p.1) ps }

all_passed : (d : Dialect) (ps : List Pair) → AllByRecursion (IsRead d) ps → position_or_len is_tagging (map (λ (p : Pair). p.1) ps) ≡ length (map (λ (p : Pair). p.1) ps)
all_passed d [] h = refl
all_passed d (p ∷ ps) h =
    let r = all_passed d ps h.1 in
    ap (λ b. cond (not b) (1 + position_or_len is_tagging (map (λ (p : Pair). p.1) ps)) 0) h.0.1.0 ∙ omega (arith, r)

no_tag : (d : Dialect) (ps : List Pair) → AllByRecursion (IsRead d) ps → position is_tagging (map (λ (p : Pair). p.1) ps) ≡ None
no_tag d ps h =
    let xs = map (λ (p : Pair). p.1) ps in
    let n = all_passed d ps h in
    let past : nat_lt (position_or_len is_tagging xs) (length xs) ≡ false = grind (arith, nat_tests, n) in
    ap (λ b. cond b (Some (position_or_len is_tagging xs)) None) past

changes_are : (d : Dialect) (place : ℕ) (ps : List Pair) → AllByRecursion (IsRead d) ps → changes_from d place [] (map (λ (p : Pair). p.0) ps) ≡ Ok (map (λ (p : Pair). p.1) ps)
changes_are d place [] h = refl
changes_are d place (p ∷ ps) h = rw (h.0.1.1, h.0.0, changes_are d (place + 1) ps h.1) refl

pub made_read : (d : Dialect) (id : List ℕ) (ps : List Pair) → is_label id ≡ true → AllByRecursion (IsRead d) ps → IsMade d (made_of id ps)
made_read d id ps fits h = record {
  id = fits;
  read = changes_are d 0 ps h;
  untagged = no_tag d ps h;
}

-- the changesets that have changes

abbrev pub sets_of : List (List ℕ × List Pair) → List Made
sets_of [] = []
sets_of (s ∷ ss) = if is_empty s.1 then sets_of ss else made_of s.0 s.1 ∷ sets_of ss

pub sets_made : (d : Dialect) (ss : List (List ℕ × List Pair)) → AllByRecursion (λ (s : List ℕ × List Pair). (is_label s.0 ≡ true) × AllByRecursion (IsRead d) s.1) ss → AllByRecursion (IsMade d) (sets_of ss)
sets_made d [] h = tt
sets_made d (s ∷ ss) h = by (is_empty s.1) (sets_made d ss h.1) where
  by : (b : Bool) → AllByRecursion (IsMade d) (sets_of ss) → AllByRecursion (IsMade d) (if b then sets_of ss else made_of s.0 s.1 ∷ sets_of ss)
  by true more = more
  by false more = (made_read d s.0 s.1 h.0.0 h.0.1, more)

abbrev pub five : Dialect → Catalogue → List (List ℕ × List Pair)
five d c =
    (codes "1", map pair_of_sequence c.sequences)
    ∷ (codes "2", map (pair_of_table d) c.tables)
    ∷ (codes "3", flat_map (pairs_of_filling d) c.tables)
    ∷ (codes "4", flat_map pairs_of_aims c.tables)
    ∷ (codes "5", map (pair_of_view d) c.views)
    ∷ []
