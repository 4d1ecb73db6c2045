-- What is read of a file's records is a change of a dialect.
use Rattle.std.specs.List.{list_all}
use Rattle.std.specs.Prelude.{Bool, Err, IfOk, List, Ok, Result, [], codes, false, if◌then◌else◌, length, nat_eq, refl, true, ℕ, ◌&&◌, ◌∷◌, ◌≡◌}
use Rattle.std.specs.Str.{is_utf8}
use Rattle.std.proofs.Common.{subst}
use Rattle.lq_base.specs.Name.{is_name}
use Rattle.lq_base.specs.declared.dialect.Dialect.{Dialect}
use Rattle.lq_base.specs.declared.fault.KindFault.{KindFault}
use Rattle.lq_base.specs.declared.fault.KindFault.TheVariants.{Bad}
use Rattle.lq_base.specs.declared.name.Name.{Name}
use Rattle.lq_model.proofs.Lists.{and_left, and_right, and_true}
use Rattle.lq_tree.proofs.Says.{IsSo, Takes, anything, change_so, given, name_so, required_so, start, then_so}
use Rattle.lq_tree.specs.Look.{Reads}
use Rattle.lq_tree.specs.Given.{a_text, a_truth}
use Rattle.lq_tree.specs.Keys.{optional, required}
use Rattle.lq_tree.specs.Items.{are_some}
use Rattle.lq_load.specs.LoadData.{is_for, load_data, rows_found}
use Rattle.lq_load.specs.LoadKeys.{a_separator, keys as load_keys_of, load_keys, records_in}
use Rattle.lq_load.specs.Rows.{Records, is_column, is_row}
use Rattle.lq_load.specs.declared.load_data.LoadData.{LoadData}

same_found : {x y : LoadData} → (let r : Result LoadData KindFault = Ok x in r) ≡ Ok y → x ≡ y
same_found h = Prim.cc

each_named : (fields : List (List ℕ)) → list_all is_column fields ≡ true → list_all is_name fields ≡ true
each_named [] h = refl
each_named (f ∷ fs) h = and_true (is_name f) _ (and_right (is_utf8 f) _ (and_left (is_column f) _ h)) (each_named fs (and_right (is_column f) _ h))

some_named : (fields : List (List ℕ)) → are_some is_column fields ≡ true → are_some is_name fields ≡ true
some_named [] h = absurd Prim.cc
some_named (f ∷ fs) h = each_named (f ∷ fs) h

each_even : (n : ℕ) (rows : Records) → list_all (is_row n) rows ≡ true → list_all (λ row. nat_eq (length row) n) rows ≡ true
each_even n [] h = refl
each_even n (row ∷ rows) h = and_true (nat_eq (length row) n) _ (and_left (nat_eq (length row) n) _ (and_left (is_row n row) _ h)) (each_even n rows (and_right (is_row n row) _ h))

table_right : (d : Dialect) (table : Name) (records : Records) (x : LoadData) → is_name table ≡ true → rows_found table records ≡ Ok x → is_for d x ≡ true
table_right d table [] x named is = absurd Prim.cc
table_right d table (heading ∷ others) x named is = by (are_some is_column heading && list_all (is_row (length heading)) others) refl is where
  by : (so : Bool) → (are_some is_column heading && list_all (is_row (length heading)) others) ≡ so
      → (if so then Ok (record { table_name = table; columns = heading; rows = others }) else Err (Bad (codes "file"))) ≡ Ok x → is_for d x ≡ true
  by false so e = absurd Prim.cc
  by true so e =
      subst (λ (y : LoadData). is_for d y ≡ true) (same_found e) (
      and_true (is_name table) _ named (and_true (are_some is_name heading) _ (some_named heading (and_left (are_some is_column heading) _ so)) (each_even (length heading) others (and_right (are_some is_column heading) _ so)))
      )

-- the same of how the reading answers
pub read_right : (d : Dialect) (table : Name) (records : Records) (r : Result LoadData KindFault) → is_name table ≡ true → Reads (rows_found table records) r → IfOk r (λ x. is_for d x ≡ true)
read_right d table records (Ok x) named is = table_right d table records x named is
read_right d table records (Err fault) named is = tt

-- the same of the reading itself

keys_right : Takes (λ keys. is_name keys.table_name ≡ true) load_keys
unfolding load_keys
keys_right = change_so (λ keys. is_name keys.table_name ≡ true) load_keys_of (
    given {k = optional (codes "separator") a_separator} anything (given {k = optional (codes "relativeToChangelogFile") a_truth} anything (given {k = required (codes "file") a_text} anything (given (required_so name_so) (start (λ table is_table file _ relative _ separator _. is_table))))))

pub load_right : (d : Dialect) (bytes : List ℕ) → Takes (IsSo (is_for d)) (load_data bytes)
unfolding load_data
load_right d bytes = record {
  of = λ n. then_so (λ keys. is_name keys.table_name ≡ true) (IsSo (is_for d)) (load_keys n) (λ keys. rows_found keys.table_name (records_in keys.separator bytes)) (keys_right.of n)
      (λ keys named. by keys.table_name (records_in keys.separator bytes) named (rows_found keys.table_name (records_in keys.separator bytes)) refl);
} where
  by : (table : Name) (records : Records) → is_name table ≡ true → (r : Result LoadData KindFault) → rows_found table records ≡ r → IfOk r (IsSo (is_for d))
  by table records named (Ok x) is = table_right d table records x named is
  by table records named (Err fault) is = tt
