-- addNotNullConstraint: a column's nulls become a value, where one is given, and the column is NOT NULL.
use Rattle.std.proofs.Common.{ap, length, subst, sym, ◌∙◌}
use Rattle.std.specs.List.{filter, list_all, list_any}
use Rattle.std.specs.Option.{option_map, unwrap_or}
use Rattle.std.specs.Prelude.{Bool, List, None, Ok, Option, Result, Some, [], codes, cond, false, is_none, map, not, refl, true, ℕ, ◌&&◌, ◌++◌, ◌||◌, ◌∷◌, ◌≡◌}
use Rattle.lq_base.specs.Kind.{is_kind}
use Rattle.lq_base.specs.Name.{is_name, is_object, text_of, within}
use Rattle.lq_base.specs.Number.{if_there}
use Rattle.lq_base.specs.Value.{into_kind}
use Rattle.lq_base.specs.declared.dialect.Dialect.{Dialect}
use Rattle.lq_base.specs.declared.literal.Literal.TheVariants as literal
use Rattle.lq_base.specs.declared.name.Name.{Name}
use Rattle.lq_base.specs.declared.reason.Reason.{Reason}
use Rattle.lq_model.proofs.Columns.{set_again}
use Rattle.lq_model.proofs.Decide.{accepted, counted, here}
use Rattle.lq_model.proofs.Effects.{Ran, does_so, ran_first, restores_so, some_same}
use Rattle.lq_model.proofs.Lists.{and_left, and_right, and_true, not_false, or_left, or_right, true_false}
use Rattle.lq_model.proofs.NoRowTaken.{update_of_none}
use Rattle.lq_model.proofs.Told.{keys_told, kinds_told, object_told, text_told, texts_told}
use Rattle.lq_model.specs.Catalogue.{Catalogue, Table, at_table, by_name, column_at, has_column, has_null_in, is_null, table_of, the_table, with_table}
use Rattle.lq_model.specs.Changes.{AreReturns, AreStatements, AreTold, CanonicalChange, HaveEffect, TakeBack, kind_value, text}
use Rattle.lq_model.specs.Effect.{Becomes, GoesBack, effect_of}
use Rattle.lq_model.specs.Kinds.{kind_in, value_in}
use Rattle.lq_model.specs.Rows.{set_in}
use Rattle.lq_model.specs.Sound.{IsSound}
use Rattle.lq_model.specs.Step.{is_pg, is_statement, plan, run, step}
use Rattle.lq_model.specs.Tables.{with_changed}
use Rattle.lq_model.specs.TakesBack.{Row, change_of, nth_value, schema_row}
use Rattle.lq_model.specs.declared.caller.By.TheVariants.{User}
use Rattle.lq_model.specs.declared.statement.Statement.{Statement}
use Rattle.lq_model.specs.declared.statement.Statement.TheVariants.{Update}
use Rattle.lq_model.specs.declared.test.Operand.TheVariants as operand
use Rattle.lq_model.specs.declared.test.Test.{IsNull}
use Rattle.lq_nullable.specs.Nullable.{allowed, allowing, is_new, is_stated, kind_stated}
use Rattle.lq_nullable.specs.NullableLaws.{allowing_back, allowing_becomes, allowing_spelled}
use Rattle.lq_nullable.specs.declared.add_not_null.AddNotNullConstraint.{AddNotNullConstraint}
use Rattle.lq_tree.specs.Given.{a_kind, a_name, a_text}
use Rattle.lq_tree.specs.Keys.{Keys, a_change_in, fields, optional, required, required_unless, ◌⊛◌}
use Rattle.lq_tree.specs.Look.{Taken}

-- its keys

abbrev pub keys : Dialect → Keys (Name → AddNotNullConstraint)
keys d =
    fields (λ table column kind value schema. record { table_name = within schema table; column_name = column; column_data_type = kind; default_null_value = value })
    ⊛ required (codes "tableName") a_name
    ⊛ required (codes "columnName") a_name
    ⊛ required_unless (is_pg d) (codes "columnDataType") a_kind
    ⊛ optional (codes "defaultNullValue") a_text

unfoldable pub add_not_null : Dialect → Taken AddNotNullConstraint
add_not_null d = a_change_in d (keys d)

-- its names are names, and the kind is stated where it has to be
abbrev pub is_for : Dialect → AddNotNullConstraint → Bool
is_for d x = is_object d x.table_name && (is_name x.column_name && is_stated d x.column_data_type)

-- what it does

abbrev pub fills : Name → Name → Option (List ℕ) → List Statement
fills t n None = []
fills t n (Some value) = Update t ((n, literal.Text value) ∷ []) (Some (IsNull (operand.Column n))) ∷ []

abbrev pub sets : Dialect → AddNotNullConstraint → Bool → Statement
sets d x nullable = allowing d x.table_name x.column_name (kind_stated x.column_data_type) nullable

abbrev pub gives : Dialect → AddNotNullConstraint → List Statement
gives d x = fills x.table_name x.column_name x.default_null_value ++ sets d x false ∷ []

-- the nulls of a table's column become the value
abbrev pub filled : Name → Option (List ℕ) → Table → Table
filled n None it = it
filled n (Some value) it = record it {
  rows = map (λ row. cond (is_null (by_name it.columns row n)) (set_in n (value_in (into_kind (literal.Text value) (kind_in n it.columns))) it.columns row) row) it.rows;
}

-- and the column is NOT NULL
abbrev pub becomes : Dialect → AddNotNullConstraint → Catalogue → Catalogue
becomes d x c = with_table c x.table_name (with_changed x.column_name (allowed d (kind_stated x.column_data_type) false) (filled x.column_name x.default_null_value (the_table c x.table_name)))

abbrev pub effect : Dialect → AddNotNullConstraint → Catalogue → Result Catalogue Reason
effect = effect_of gives becomes

-- only that the column is NOT NULL is new, and no null is filled
abbrev pub is_fresh : Dialect → AddNotNullConstraint → Catalogue → Bool
is_fresh d x c =
    if_there (is_new d (kind_stated x.column_data_type) false) (column_at c x.table_name x.column_name)
    && (is_none x.default_null_value || not (unwrap_or (at_table (has_null_in x.column_name) c x.table_name) false))

abbrev pub inverse : Dialect → AddNotNullConstraint → Option (List Statement)
inverse d x = Some (sets d x true ∷ [])

-- its canonical text

abbrev pub rows : AddNotNullConstraint → List Row
rows x =
    (codes "tableName", Some (text (text_of x.table_name)))
    ∷ (codes "columnName", Some (text x.column_name))
    ∷ (codes "columnDataType", option_map kind_value x.column_data_type)
    ∷ (codes "defaultNullValue", option_map (λ value. text value) x.default_null_value)
    ∷ (codes "schemaName", schema_row x.table_name)
    ∷ []

abbrev pub canonical_of : AddNotNullConstraint → CanonicalChange
canonical_of x = change_of (codes "addNotNullConstraint") (rows x)

-- That addNotNullConstraint keeps its promises.

-- the statement that fills the nulls
abbrev fill : Name → Name → List ℕ → Statement
fill t n value = Update t ((n, literal.Text value) ∷ []) (Some (IsNull (operand.Column n)))

pub spelled : AreStatements is_for gives
spelled d x h = by x.default_null_value where
  a : (is_name x.column_name && is_stated d x.column_data_type) ≡ true
  a = and_right (is_object d x.table_name) _ h

  last : list_all (is_statement d) (sets d x false ∷ []) ≡ true
  last = and_true (is_statement d (sets d x false)) true (allowing_spelled d x.table_name x.column_name x.column_data_type false (and_left (is_object d x.table_name) _ h) (and_left (is_name x.column_name) _ a) (and_right (is_name x.column_name) _ a)) refl

  by : (v : Option (List ℕ)) → list_all (is_statement d) (fills x.table_name x.column_name v ++ sets d x false ∷ []) ≡ true
  by None = last
  by (Some v) = rw (and_left (is_object d x.table_name) _ h, and_left (is_name x.column_name) _ a) last

pub returned : AreReturns is_for inverse
returned d x undoing right taken =
    let a = and_right (is_object d x.table_name) _ right in
    let one = allowing_spelled d x.table_name x.column_name x.column_data_type true (and_left (is_object d x.table_name) _ right) (and_left (is_name x.column_name) _ a) (and_right (is_name x.column_name) _ a) in
    subst (λ ss. list_all (is_statement d) ss ≡ true) (some_same taken) (and_true (is_statement d (sets d x true)) true one refl)

becomes_so : Becomes gives becomes is_for
becomes_so d x c e right sound ran = by x.default_null_value ran where
  by : (v : Option (List ℕ)) → run User d (fills x.table_name x.column_name v ++ sets d x false ∷ []) c ≡ Ok e → with_table c x.table_name (with_changed x.column_name (allowed d (kind_stated x.column_data_type) false) (filled x.column_name v (the_table c x.table_name))) ≡ e
  by None h = allowing_becomes d x.table_name x.column_name (kind_stated x.column_data_type) false c e h
  by (Some value) h =
      let r : Ran d (fill x.table_name x.column_name value) (sets d x false ∷ []) c e = ran_first d (fill x.table_name x.column_name value) (sets d x false ∷ []) c e h in
      let ok = accepted (plan User d (fill x.table_name x.column_name value) c) r.mid r.count r.first in
      set_again c r.mid e x.table_name (filled x.column_name (Some value) (the_table c x.table_name)) (with_changed x.column_name (allowed d (kind_stated x.column_data_type) false)) (here c x.table_name (or_left _ _ ok.missing)) ok.result (allowing_becomes d x.table_name x.column_name (kind_stated x.column_data_type) false r.mid e r.others)

pub does : HaveEffect is_for gives effect
does = does_so is_for gives becomes becomes_so

-- a column that is there and has no null: no row is taken
none_taken : {A : Type 0} (p : A → Bool) (xs : List A) → list_any p xs ≡ false → length (filter p xs) ≡ 0
none_taken p [] h = refl
none_taken p (x ∷ xs) h = rw (or_left (p x) _ h) (none_taken p xs (or_right (p x) _ h))

fill_of_none : (d : Dialect) (t n : Name) (value : List ℕ) (c mid : Catalogue) (k : ℕ) → unwrap_or (at_table (has_null_in n) c t) false ≡ false → step User d (fill t n value) c ≡ Ok (mid, k) → mid ≡ c
fill_of_none d t n value c mid k none made =
    let ok = accepted (plan User d (fill t n value) c) mid k made in
    let there : table_of c t ≡ Some (the_table c t) = here c t (or_left _ _ ok.missing) in
    let has : has_column (the_table c t) n ≡ true = not_false _ (or_left _ _ (or_left _ _ (or_right _ _ ok.missing))) in
    let nulls : list_any (λ row. is_null (by_name (the_table c t).columns row n)) (the_table c t).rows ≡ false
    = second _ _ has (ap (λ o. unwrap_or (option_map (has_null_in n) o) false) (sym there) ∙ none) in
    let count : k ≡ 0 = sym (counted (plan User d (fill t n value) c) mid k made) ∙ none_taken (λ row. is_null (by_name (the_table c t).columns row n)) (the_table c t).rows nulls in
    update_of_none User d t ((n, literal.Text value) ∷ []) (Some (IsNull (operand.Column n))) c mid (made ∙ ap (λ m. Ok (mid, m)) count)
  where
    second : (a b : Bool) → a ≡ true → (a && b) ≡ false → b ≡ false
    second true b h k = k
    second false b h k = true_false h refl

not_true_false : (b : Bool) → (false || not b) ≡ true → b ≡ false
not_true_false true h = absurd Prim.cc
not_true_false false h = refl

full : (d : Dialect) (x : AddNotNullConstraint) (c : Catalogue) (v : List ℕ) → x.default_null_value ≡ Some v → is_fresh d x c ≡ true → unwrap_or (at_table (has_null_in x.column_name) c x.table_name) false ≡ false
full d x c v is new = not_true_false _ (ap (λ o. is_none o || not (unwrap_or (at_table (has_null_in x.column_name) c x.table_name) false)) (sym is) ∙ and_right (if_there (is_new d (kind_stated x.column_data_type) false) (column_at c x.table_name x.column_name)) _ new)

goes_back : GoesBack is_for gives is_fresh inverse
goes_back d x c e undoing right sound new ran taken = ap (λ ss. run User d ss e) (sym (some_same taken)) ∙ by x.default_null_value refl ran where
  last : (c : Catalogue) → IsSound d c → is_fresh d x c ≡ true → run User d (sets d x false ∷ []) c ≡ Ok e → run User d (sets d x true ∷ []) e ≡ Ok c
  last c sound new h = allowing_back d x.table_name x.column_name (kind_stated x.column_data_type) false c e sound (and_left (if_there (is_new d (kind_stated x.column_data_type) false) (column_at c x.table_name x.column_name)) _ new) h

  by : (v : Option (List ℕ)) → x.default_null_value ≡ v → run User d (fills x.table_name x.column_name v ++ sets d x false ∷ []) c ≡ Ok e → run User d (sets d x true ∷ []) e ≡ Ok c
  by None is h = last c sound new h
  by (Some value) is h =
      let r : Ran d (fill x.table_name x.column_name value) (sets d x false ∷ []) c e = ran_first d (fill x.table_name x.column_name value) (sets d x false ∷ []) c e h in
      let same : r.mid ≡ c = fill_of_none d x.table_name x.column_name value c r.mid r.count (full d x c value is new) r.first in
      last c sound new (ap (run User d (sets d x false ∷ [])) (sym same) ∙ r.others)

pub restores : TakeBack is_for effect is_fresh inverse
restores = restores_so is_for gives becomes is_fresh inverse becomes_so goes_back

same : (x y : AddNotNullConstraint) → x.table_name ≡ y.table_name → x.column_name ≡ y.column_name → x.column_data_type ≡ y.column_data_type → x.default_null_value ≡ y.default_null_value → x ≡ y
same x y table column kind value = rw (table, column, kind, value) refl

kinded : (d : Dialect) (x : AddNotNullConstraint) → is_for d x ≡ true → if_there is_kind x.column_data_type ≡ true
kinded d x h = and_left (if_there is_kind x.column_data_type) _ (and_right (is_name x.column_name) _ (and_right (is_object d x.table_name) _ h))

pub told : AreTold is_for canonical_of
told d x y right also e =
    let is : rows x ≡ rows y = keys_told (codes "addNotNullConstraint") (codes "addNotNullConstraint") (rows x) (rows y) refl refl e in
    same x y (object_told d x.table_name y.table_name (and_left (is_object d x.table_name) _ right) (and_left (is_object d y.table_name) _ also) (ap (nth_value 0) is) (ap (nth_value 4) is)) (text_told (ap (nth_value 1) is))
    (kinds_told x.column_data_type y.column_data_type (kinded d x right) (kinded d y also) (ap (nth_value 2) is))
    (texts_told x.default_null_value y.default_null_value (ap (nth_value 3) is))
