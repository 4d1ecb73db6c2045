-- loadData: a table gets the rows of a file of separated fields.
use Rattle.std.proofs.Common.{ap, ◌∙◌}
use Rattle.std.proofs.lemmas.Bool.{eqb-true}
use Rattle.std.specs.List.{list_all}
use Rattle.std.specs.Prelude.{Bool, Err, List, None, Ok, Option, Result, Some, [], codes, false, if◌then◌else◌, length, map, nat_eq, not, refl, true, ℕ, ◌&&◌, ◌∷◌, ◌≡◌}
use Rattle.std.specs.Str.{bytes_eq}
use Rattle.lq_base.proofs.BesideLemmas.{object_of_name}
use Rattle.lq_base.specs.Name.{is_name, is_object}
use Rattle.lq_base.specs.declared.dialect.Dialect.{Dialect}
use Rattle.lq_base.specs.declared.fault.KindFault.TheVariants.{Bad}
use Rattle.lq_base.specs.declared.literal.Literal.TheVariants as literal
use Rattle.lq_base.specs.declared.name.Name.{Name}
use Rattle.lq_base.specs.declared.reason.Reason.{Reason}
use Rattle.lq_fields.specs.Literals.{literal_in}
use Rattle.lq_load.specs.LoadKeys.{load_keys, records_in}
use Rattle.lq_load.specs.Rows.{Records, is_column, is_row}
use Rattle.lq_load.specs.declared.load_data.LoadData.{LoadData}
use Rattle.lq_model.proofs.Effects.{Ran, does_so, ok_same, ran_first, restores_so, step_result}
use Rattle.lq_model.proofs.Lists.{and_left, and_right, and_true}
use Rattle.lq_model.proofs.Told.{keys_told, names_told, some_value, text_told}
use Rattle.lq_model.specs.Catalogue.{Catalogue, Table, is_empty, the_table, with_table}
use Rattle.lq_model.specs.Changes.{AreReturns, AreStatements, AreTold, CanonicalChange, CanonicalValue, CanonicalValues, HaveEffect, TakeBack, list, no_values, text, value}
use Rattle.lq_model.specs.Comparison.{is_literal}
use Rattle.lq_model.specs.Effect.{Becomes, GoesBack, effect_of}
use Rattle.lq_model.specs.Rows.{stated, with_row}
use Rattle.lq_model.specs.Step.{is_statement, run}
use Rattle.lq_model.specs.TakesBack.{Row, change_of, nth_value, texts}
use Rattle.lq_model.specs.declared.caller.By.TheVariants.{User}
use Rattle.lq_model.specs.declared.statement.Statement.{Statement}
use Rattle.lq_model.specs.declared.statement.Statement.TheVariants as statement
use Rattle.lq_tree.specs.Items.{are_some}
use Rattle.lq_tree.specs.Look.{Found, Taken, and_then}

-- what its file says

-- the first record names the columns, of which there is one at least, and each other has a text for each; otherwise the file is bad
abbrev pub rows_found : Name → Records → Found LoadData
rows_found table [] = Err (Bad (codes "file"))
rows_found table (heading ∷ others) =
    if are_some is_column heading && list_all (is_row (length heading)) others
    then Ok (record { table_name = table; columns = heading; rows = others })
    else Err (Bad (codes "file"))

-- what a node says of a file of these bytes
unfoldable pub load_data : List ℕ → Taken LoadData
load_data bytes n = and_then (load_keys n) (λ keys. rows_found keys.table_name (records_in keys.separator bytes))

-- names are names, there is a column, and each row has a field for each
abbrev pub is_for : Dialect → LoadData → Bool
is_for d x = is_name x.table_name && (are_some is_name x.columns && list_all (λ row. nat_eq (length row) (length x.columns)) x.rows)

-- what it does

abbrev pub insert_of : Name → List Name → List (List ℕ) → Statement
insert_of table columns row = statement.Insert table columns (map literal_in row)

-- one row after the other, in the order of the file
abbrev pub gives : Dialect → LoadData → List Statement
gives d x = map (insert_of x.table_name x.columns) x.rows

-- each row in turn is the table's last; a column that is not in the heading takes the next number, or its default, or null
abbrev pub with_rows : Dialect → Name → List Name → Records → Catalogue → Catalogue
with_rows d table columns [] c = c
with_rows d table columns (row ∷ rows) c =
    with_rows d table columns rows (with_table c table (with_row d columns (map literal_in row) (the_table c table)))

abbrev pub becomes : Dialect → LoadData → Catalogue → Catalogue
becomes d x c = with_rows d x.table_name x.columns x.rows c

abbrev pub effect : Dialect → LoadData → Catalogue → Result Catalogue Reason
effect = effect_of gives becomes

abbrev pub is_fresh : Dialect → LoadData → Catalogue → Bool
is_fresh d x c = true

-- nothing takes the rows back
abbrev pub inverse : Dialect → LoadData → Option (List Statement)
inverse d x = None

-- its canonical text: neither the file's path nor its separator is in it

abbrev pub lists : Records → CanonicalValues
lists [] = no_values
lists (row ∷ rows) = value (list (texts row)) (lists rows)

abbrev pub rows : LoadData → List Row
rows x =
    (codes "tableName", Some (text x.table_name))
    ∷ (codes "columns", Some (list (texts x.columns)))
    ∷ (codes "rows", Some (list (lists x.rows)))
    ∷ []

abbrev pub canonical_of : LoadData → CanonicalChange
canonical_of x = change_of (codes "loadData") (rows x)

-- That loadData keeps its promises.

-- its statements

literal_right : (field : List ℕ) → is_literal (literal_in field) ≡ true
literal_right field = by (bytes_eq field (codes "NULL")) where
  by : (b : Bool) → is_literal (if b then literal.Null else literal.Text field) ≡ true
  by true = refl
  by false = refl

literals_right : (row : List (List ℕ)) → list_all is_literal (map literal_in row) ≡ true
literals_right [] = refl
literals_right (f ∷ fs) = and_true _ _ (literal_right f) (literals_right fs)

some_columns : (ns : List Name) → are_some is_name ns ≡ true → is_empty ns ≡ false
some_columns [] h = absurd Prim.cc
some_columns (n ∷ ns) h = refl

some_fields : (ns : List Name) (row : List (List ℕ)) → are_some is_name ns ≡ true → nat_eq (length row) (length ns) ≡ true → not (is_empty (map literal_in row)) ≡ true
some_fields [] row some even = absurd Prim.cc
some_fields (m ∷ ns) [] some even = let same : 0 ≡ length (m ∷ ns) = eqb-true 0 (length (m ∷ ns)) even in absurd Prim.cc
some_fields (m ∷ ns) (f ∷ fs) some even = refl

all_named : (ns : List Name) → are_some is_name ns ≡ true → list_all is_name ns ≡ true
all_named [] h = absurd Prim.cc
all_named (n ∷ ns) h = h

all_spelled : (d : Dialect) (t : Name) (ns : List Name) (rows : Records) → is_name t ≡ true → are_some is_name ns ≡ true → list_all (λ row. nat_eq (length row) (length ns)) rows ≡ true → list_all (is_statement d) (map (insert_of t ns) rows) ≡ true
all_spelled d t ns [] named names even = refl
all_spelled d t ns (row ∷ rows) named names even =
    and_true (is_statement d (insert_of t ns row)) _
    (and_true (is_object d t) _ (object_of_name d t named) (and_true (list_all is_name ns) _ (all_named ns names) (and_true (not (is_empty (map literal_in row))) _ (some_fields ns row names (and_left (nat_eq (length row) (length ns)) _ even)) (literals_right row))))
    (all_spelled d t ns rows named names (and_right (nat_eq (length row) (length ns)) _ even))

columns_right : (d : Dialect) (x : LoadData) → is_for d x ≡ true → are_some is_name x.columns ≡ true
columns_right d x h = and_left (are_some is_name x.columns) _ (and_right (is_name x.table_name) _ h)

pub spelled : AreStatements is_for gives
spelled d x h = all_spelled d x.table_name x.columns x.rows (and_left (is_name x.table_name) _ h) (columns_right d x h) (and_right (are_some is_name x.columns) _ (and_right (is_name x.table_name) _ h))

pub returned : AreReturns is_for inverse
returned d x undoing right taken = absurd Prim.cc

-- its effect

-- the columns that are stated are those of the row
all_stated : (it : Table) (ns : List Name) → is_empty ns ≡ false → ns ≡ stated it ns
all_stated it [] h = absurd Prim.cc
all_stated it (n ∷ ns) h = refl

all_become : (d : Dialect) (t : Name) (ns : List Name) (rows : Records) (c e : Catalogue) → is_empty ns ≡ false → run User d (map (insert_of t ns) rows) c ≡ Ok e → with_rows d t ns rows c ≡ e
all_become d t ns [] c e some ran = ok_same ran
all_become d t ns (row ∷ rows) c e some ran =
    let s = insert_of t ns row in
    let r : Ran d s (map (insert_of t ns) rows) c e = ran_first d s (map (insert_of t ns) rows) c e ran in
    let it = the_table c t in
    let one : with_table c t (with_row d ns (map literal_in row) it) ≡ r.mid = ap (λ ms. with_table c t (with_row d ms (map literal_in row) it)) (all_stated it ns some) ∙ step_result d s c r.mid r.count r.first in
    ap (with_rows d t ns rows) one ∙ all_become d t ns rows r.mid e some r.others

becomes_so : Becomes gives becomes is_for
becomes_so d x c e right sound ran = all_become d x.table_name x.columns x.rows c e (some_columns x.columns (columns_right d x right)) ran

pub does : HaveEffect is_for gives effect
does = does_so is_for gives becomes becomes_so

goes_back : GoesBack is_for gives is_fresh inverse
goes_back d x c e undoing right sound new ran taken = absurd Prim.cc

pub restores : TakeBack is_for effect is_fresh inverse
restores = restores_so is_for gives becomes is_fresh inverse becomes_so goes_back

-- its text tells it

first_value : {v w : CanonicalValue} {vs ws : CanonicalValues} → value v vs ≡ value w ws → v ≡ w
first_value h = Prim.cc

more_values : {v w : CanonicalValue} {vs ws : CanonicalValues} → value v vs ≡ value w ws → vs ≡ ws
more_values h = Prim.cc

list_same : {vs ws : CanonicalValues} → list vs ≡ list ws → vs ≡ ws
list_same h = Prim.cc

lists_told : (rows others : Records) → lists rows ≡ lists others → rows ≡ others
lists_told [] [] h = refl
lists_told (r ∷ rs) (q ∷ qs) h = ap (λ x. x ∷ rs) (names_told r q (ap (λ v. Some v) (first_value h))) ∙ ap (λ xs. q ∷ xs) (lists_told rs qs (more_values h))
lists_told [] (q ∷ qs) h = absurd Prim.cc
lists_told (r ∷ rs) [] h = absurd Prim.cc

same : (x y : LoadData) → x.table_name ≡ y.table_name → x.columns ≡ y.columns → x.rows ≡ y.rows → x ≡ y
same x y table columns rows = rw (table, columns, rows) refl

pub told : AreTold is_for canonical_of
told d x y right also e =
    let is : rows x ≡ rows y = keys_told (codes "loadData") (codes "loadData") (rows x) (rows y) refl refl e in
    same x y (text_told (ap (nth_value 0) is)) (names_told x.columns y.columns (ap (nth_value 1) is)) (lists_told x.rows y.rows (list_same (some_value (ap (nth_value 2) is))))
