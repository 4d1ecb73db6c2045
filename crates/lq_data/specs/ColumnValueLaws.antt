-- That columns with values can be written, and are told by their canonical text.
use Rattle.std.proofs.Common.{ap, ◌∙◌}
use Rattle.std.specs.List.{list_all}
use Rattle.std.specs.Option.{option_map, unwrap_or}
use Rattle.std.specs.Prelude.{List, None, Option, Some, [], not, refl, true, ◌∷◌, ◌≡◌}
use Rattle.lq_base.specs.Name.{is_name}
use Rattle.lq_base.specs.Number.{if_there}
use Rattle.lq_base.specs.declared.literal.Literal.TheVariants as literal
use Rattle.lq_data.specs.ColumnValue.{column_rows, is_column_value, literal_in, literals_of, names_of, set_in, sets_of}
use Rattle.lq_data.specs.declared.column_value.ColumnValue.{ColumnValue}
use Rattle.lq_model.proofs.Lists.{all-map, all_more, and_left, and_right}
use Rattle.lq_model.proofs.Told.{map_told, maps_told, text_told}
use Rattle.lq_model.specs.Catalogue.{is_empty}
use Rattle.lq_model.specs.Changes.{list}
use Rattle.lq_model.specs.Comparison.{is_literal}
use Rattle.lq_model.specs.TakesBack.{map_with, maps, nth_value}
use Rattle.lq_tree.specs.Items.{are_some}
use Rattle.lq_tree.specs.Values.{is_given, literal_of}
use Rattle.lq_tree.specs.declared.values.GivenValue.{GivenValue}
use Rattle.lq_value_keys.proofs.ValueLaws.{given_is_literal, value_told}

pub all_columns : (xs : List ColumnValue) → are_some is_column_value xs ≡ true → list_all is_column_value xs ≡ true
all_columns [] h = absurd Prim.cc
all_columns (x ∷ xs) h = h

literal_right : (x : ColumnValue) → is_column_value x ≡ true → is_literal (literal_in x) ≡ true
literal_right x h = by x.value (and_right (is_name x.name) _ h) where
  by : (o : Option GivenValue) → if_there is_given o ≡ true → is_literal (unwrap_or (option_map literal_of o) literal.Null) ≡ true
  by None k = refl
  by (Some v) k = given_is_literal v k

pub names_right : (xs : List ColumnValue) → are_some is_column_value xs ≡ true → list_all is_name (names_of xs) ≡ true
names_right xs h = all-map is_name (λ x. x.name) xs ∙ all_more is_column_value (λ x. is_name x.name) xs (λ x g. and_left (is_name x.name) _ g) (all_columns xs h)

pub literals_right : (xs : List ColumnValue) → are_some is_column_value xs ≡ true → list_all is_literal (literals_of xs) ≡ true
literals_right xs h = all-map is_literal literal_in xs ∙ all_more is_column_value (λ x. is_literal (literal_in x)) xs literal_right (all_columns xs h)

pub some_literals : (xs : List ColumnValue) → are_some is_column_value xs ≡ true → not (is_empty (literals_of xs)) ≡ true
some_literals [] h = absurd Prim.cc
some_literals (x ∷ xs) h = refl

pub some_sets : (xs : List ColumnValue) → are_some is_column_value xs ≡ true → not (is_empty (sets_of xs)) ≡ true
some_sets [] h = absurd Prim.cc
some_sets (x ∷ xs) h = refl

pub set_names_right : (xs : List ColumnValue) → are_some is_column_value xs ≡ true → list_all (λ s. is_name s.0) (sets_of xs) ≡ true
set_names_right xs h = all-map (λ s. is_name s.0) set_in xs ∙ all_more is_column_value (λ x. is_name x.name) xs (λ x g. and_left (is_name x.name) _ g) (all_columns xs h)

pub set_literals_right : (xs : List ColumnValue) → are_some is_column_value xs ≡ true → list_all (λ s. is_literal s.1) (sets_of xs) ≡ true
set_literals_right xs h = all-map (λ s. is_literal s.1) set_in xs ∙ all_more is_column_value (λ x. is_literal (literal_in x)) xs literal_right (all_columns xs h)

-- their texts tell them

same : (x y : ColumnValue) → x.name ≡ y.name → x.value ≡ y.value → x ≡ y
same x y name value = rw (name, value) refl

column_told : (x y : ColumnValue) → is_column_value x ≡ true → is_column_value y ≡ true → map_with (column_rows x) ≡ map_with (column_rows y) → x ≡ y
column_told x y g h e =
    let is : column_rows x ≡ column_rows y = map_told (column_rows x) (column_rows y) refl refl e in
    same x y (text_told (ap (nth_value 0) is))
    (value_told x.value y.value (and_right (is_name x.name) _ g) (and_right (is_name y.name) _ h) (ap (nth_value 1) is) (ap (nth_value 2) is) (ap (nth_value 3) is) (ap (nth_value 4) is))

pub columns_told : (xs ys : List ColumnValue) → are_some is_column_value xs ≡ true → are_some is_column_value ys ≡ true → Some (list (maps column_rows xs)) ≡ Some (list (maps column_rows ys)) → xs ≡ ys
columns_told xs ys g h e = maps_told column_rows is_column_value column_told xs ys (all_columns xs g) (all_columns ys h) e
