-- What keeps to the shape of a sound catalogue can be read back.
use Rattle.std.proofs.Common.{◌∷◌, [], arith, nat_le, nat_lt, pos, int_le, ◌&&◌, ◌++◌, ◌≡◌, ◌∙◌, ap, refl, ℕ, Bool, true, false, List, length, Option}
use Rattle.std.specs.List.{list_all}
use Rattle.std.proofs.lemmas.Bool.Decides.{nat_tests}
use Rattle.std.proofs.lemmas.List.{append_assoc}
use Rattle.lq_base.specs.declared.value.Value.{Value}
use Rattle.lq_model.specs.Catalogue.{Catalogue, Table}
use Rattle.lq_model.specs.declared.column.Column.{Column}
use Rattle.lq_codec.specs.Codec.{both, counted, optional}
use Rattle.lq_codec.specs.Tables.{catalogue_codec, sequence_codec, view_codec, Head, column_codec, foreign_codec, has_some, head_codec, index_codec, key_codec, row_codec, table_codec, unique_codec}
use Rattle.lq_codec.specs.State.{OnTrue, free, if_both}
use Rattle.lq_model.specs.declared.constraint.ForeignKey.{ForeignKey}
use Rattle.lq_model.specs.declared.constraint.Key.{Key}
use Rattle.lq_model.specs.declared.constraint.Unique.{Unique}
use Rattle.lq_model.specs.declared.index.Index.{Index}
use Rattle.lq_codec.specs.Values.{value_codec}
use Rattle.lq_codec.specs.Words.{count, is_from_zero, name, number}
use Rattle.lq_codec.proofs.Laws.{both_true}
use Rattle.lq_state.specs.Shaped.{has_width, is_shaped, is_shaped_view, is_shaped_whole}

pub first_fits : (p a b : Bool) → OnTrue p (a ≡ true) → b ≡ true → OnTrue p (a && b ≡ true)
first_fits true a b x y = both_true a b x y
first_fits false a b x y = tt

pub row_fits : (cs : List Column) (row : List Value) → list_all value_codec.ok row ≡ true → OnTrue (has_width cs row) ((row_codec cs).ok row ≡ true)
row_fits cs row are = by (has_width cs row) where
  by : (p : Bool) → OnTrue p (p && list_all value_codec.ok row ≡ true)
  by true = are
  by false = tt

least : (n : ℕ) → nat_le 0 n ≡ true
least n = grind (arith, nat_tests)

zero_le : (n : ℕ) → int_le (pos 0) (pos n) ≡ true
zero_le n = least n

-- a table but for its rows, and then with them
pub head_fits : (cs : List Column) (key : Option Key) (us : List Unique) (fs : List ForeignKey) (is : List Index) (next : ℕ)
    → (counted count column_codec).ok cs ≡ true → (optional key_codec).ok key ≡ true
    → (counted count unique_codec).ok us ≡ true → (counted count foreign_codec).ok fs ≡ true
    → (counted count index_codec).ok is ≡ true → count.ok next ≡ true
    → OnTrue (has_some cs) (head_codec.ok (cs, (key, (us, (fs, (is, next))))) ≡ true)
head_fits cs key us fs is next columns key_ok uniques foreign indexes few = by (has_some cs) refl where
  by : (p : Bool) → has_some cs ≡ p → OnTrue p (head_codec.ok (cs, (key, (us, (fs, (is, next))))) ≡ true)
  by true some = both_true _ _ (both_true (has_some cs) _ some columns) (both_true _ _ key_ok (both_true _ _ uniques (both_true _ _ foreign (both_true _ _ indexes few))))
  by false some = tt

two_written : (n m k a b : List ℕ) → m ≡ n ++ a → k ≡ m ++ b → k ≡ n ++ (a ++ b)
two_written n m k a b first second = second ∙ ap (λ (l : List ℕ). l ++ b) first ∙ append_assoc n a b

pub head_written : (cs : List Column) (key : Option Key) (us : List Unique) (fs : List ForeignKey) (is : List Index) (next : ℕ) (n n1 n2 n3 n4 n5 n6 : List ℕ)
    → n1 ≡ n ++ (counted count column_codec).write cs → n2 ≡ n1 ++ (optional key_codec).write key
    → n3 ≡ n2 ++ (counted count unique_codec).write us → n4 ≡ n3 ++ (counted count foreign_codec).write fs
    → n5 ≡ n4 ++ (counted count index_codec).write is → n6 ≡ n5 ++ count.write next
    → n6 ≡ n ++ head_codec.write (cs, (key, (us, (fs, (is, next)))))
head_written cs key us fs is next n n1 n2 n3 n4 n5 n6 columns key_is uniques foreign indexes last =
    let a = (counted count column_codec).write cs in
    let b = (optional key_codec).write key in
    let c = (counted count unique_codec).write us in
    let d = (counted count foreign_codec).write fs in
    let e = (counted count index_codec).write is in
    let f = count.write next in
    two_written n n1 n6 a (b ++ (c ++ (d ++ (e ++ f)))) columns
    (two_written n1 n2 n6 b (c ++ (d ++ (e ++ f))) key_is
    (two_written n2 n3 n6 c (d ++ (e ++ f)) uniques
    (two_written n3 n4 n6 d (e ++ f) foreign
    (two_written n4 n5 n6 e f indexes last))))

abbrev head_of : Table → Head
head_of t = (t.columns, (t.key, (t.uniques, (t.foreign, (t.indexes, t.next)))))

pub table_fits : (t : Table)
    → OnTrue (has_some t.columns) (head_codec.ok (head_of t) ≡ true) → number.ok (pos (length t.rows)) ≡ true
    → OnTrue (list_all (has_width t.columns) t.rows) (list_all (row_codec t.columns).ok t.rows ≡ true)
    → OnTrue (is_shaped t) (table_codec.ok t ≡ true)
unfolding table_codec
table_fits t head few rows =
    by (has_some t.columns) head (nat_lt (length t.rows) 100_001) refl (list_all (has_width t.columns) t.rows) rows where
      by : (a : Bool) → OnTrue a (head_codec.ok (head_of t) ≡ true) → (b : Bool) → nat_lt (length t.rows) 100_001 ≡ b → (p : Bool)
          → OnTrue p (list_all (row_codec t.columns).ok t.rows ≡ true) → OnTrue (a && (b && p)) (table_codec.ok t ≡ true)
      by true some true less true are =
          let size = both_true (is_from_zero 100_001 (pos (length t.rows))) (number.ok (pos (length t.rows)))
          (both_true (int_le (pos 0) (pos (length t.rows))) (nat_lt (length t.rows) 100_001) (zero_le (length t.rows)) less) few in
          both_true _ _ some (both_true _ _ size are)
      by true some true less false are = tt
      by true some false less p are = tt
      by false some b less p are = tt

-- entries of which neither part has a limit
pub free_pairs : {A B : Type 0} (xs : List (A × B)) (P : Type 0) → OnTrue (list_all (if_both free free) xs) P → P
free_pairs [] P it = it
free_pairs (x ∷ xs) P it = free_pairs xs P it

three_fit : (p q a b c : Bool) → OnTrue p (a ≡ true) → OnTrue q (b ≡ true) → c ≡ true → OnTrue (p && q) (a && (b && c) ≡ true)
three_fit true true a b c x y z = both_true a (b && c) x (both_true b c y z)
three_fit true false a b c x y z = tt
three_fit false q a b c x y z = tt

-- the whole, written one list after another
pub state_written : (c : Catalogue) (n n1 n2 n3 : List ℕ)
    → n1 ≡ n ++ (counted count (both name table_codec)).write c.tables → n2 ≡ n1 ++ (counted count (both name view_codec)).write c.views
    → n3 ≡ n2 ++ (counted count (both name sequence_codec)).write c.sequences
    → n3 ≡ n ++ catalogue_codec.write c
state_written c n n1 n2 n3 tables views sequences =
    let a = (counted count (both name table_codec)).write c.tables in
    let b = (counted count (both name view_codec)).write c.views in
    let d = (counted count (both name sequence_codec)).write c.sequences in
    two_written n n1 n3 a (b ++ d) tables (two_written n1 n2 n3 b d views sequences)

-- the whole: sequences have no limit
pub state_fits : (c : Catalogue)
    → OnTrue (list_all (if_both free is_shaped) c.tables) ((counted count (both name table_codec)).ok c.tables ≡ true)
    → OnTrue (list_all (if_both free is_shaped_view) c.views) ((counted count (both name view_codec)).ok c.views ≡ true)
    → OnTrue (list_all (if_both free free) c.sequences) ((counted count (both name sequence_codec)).ok c.sequences ≡ true)
    → OnTrue (is_shaped_whole c) (catalogue_codec.ok c ≡ true)
state_fits c tables views sequences =
    three_fit (list_all (if_both free is_shaped) c.tables) (list_all (if_both free is_shaped_view) c.views) _ _ _ tables views
    (free_pairs c.sequences ((counted count (both name sequence_codec)).ok c.sequences ≡ true) sequences)
