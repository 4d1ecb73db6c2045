-- That createTable keeps its promises.
use Rattle.std.proofs.Common.{ap, subst, sym, ◌∙◌}
use Rattle.std.specs.List.{flat_map, list_all}
use Rattle.std.specs.Option.{option_and_then, option_map, option_to_list, unwrap_or}
use Rattle.std.specs.Prelude.{Bool, List, None, Option, Some, [], codes, false, if◌then◌else◌, map, not, refl, true, ◌∷◌, ◌≡◌}
use Rattle.lq_base.proofs.BesideLemmas.{is_whole}
use Rattle.lq_base.specs.Kind.{is_kind}
use Rattle.lq_base.specs.Name.{is_name, is_name_key, is_object}
use Rattle.lq_base.specs.Number.{if_there}
use Rattle.lq_base.specs.declared.dialect.Dialect.{Dialect}
use Rattle.lq_base.specs.declared.dialect.Dialect.TheVariants.{Mysql, Postgresql}
use Rattle.lq_base.specs.declared.literal.Literal.TheVariants as literal
use Rattle.lq_base.specs.declared.name.Name.{Name}
use Rattle.lq_model.proofs.CreateDrop.{drop_after_create}
use Rattle.lq_model.proofs.DefaultNames.{default_named}
use Rattle.lq_model.proofs.Effects.{does_so, one_back, one_becomes, restores_so, some_same}
use Rattle.lq_model.proofs.Lists.{all-append, all-map, all_more, and_left, and_right, and_true, named_itself}
use Rattle.lq_model.proofs.Told.{if_told, keys_told, kind_told, map_if_told, map_told, maps_told, object_told, text_told, texts_told, truths_told}
use Rattle.lq_model.specs.Catalogue.{is_empty, key_list}
use Rattle.lq_model.specs.Changes.{AreReturns, AreStatements, AreTold, HaveEffect, TakeBack, map_of, text}
use Rattle.lq_model.specs.Comparison.{is_literal}
use Rattle.lq_model.specs.Effect.{Becomes, GoesBack}
use Rattle.lq_model.specs.Sound.{is_key_name, key_name, primary}
use Rattle.lq_model.specs.Step.{is_column_def, is_foreign, is_key, is_statement, is_unique, run}
use Rattle.lq_model.specs.TakesBack.{nth_value, pairs_of}
use Rattle.lq_model.specs.declared.caller.By.TheVariants.{User}
use Rattle.lq_model.specs.declared.statement.Statement.TheVariants as statement
use Rattle.lq_tables.specs.Constraints.{foreign_stated, is_reference, unique_stated}
use Rattle.lq_tables.specs.ConstraintsLaws.{foreign_spelled, reference_told, unique_spelled}
use Rattle.lq_tables.specs.CreateTable.{becomes, canonical_of, column_rows, constraints_rows, creates, def_of, effect, first_name, foreign_of, gives, inverse, is_constraints, is_created, is_for, is_fresh, is_in_key, key_column_of, key_columns, key_named, key_of, key_with, rows, stated_name, unique_of}
use Rattle.lq_tables.specs.declared.constraints.Reference.{Reference}
use Rattle.lq_tables.specs.declared.create_table.CreateTable.{CreateTable}
use Rattle.lq_tables.specs.declared.create_table.CreatedColumn.{CreatedColumn}
use Rattle.lq_tables.specs.declared.create_table.CreatedConstraints.{CreatedConstraints}
use Rattle.lq_tree.specs.Items.{are_some}
use Rattle.lq_tree.specs.Values.{is_given, literal_of}
use Rattle.lq_tree.specs.declared.values.GivenValue.{GivenValue}
use Rattle.lq_value_keys.proofs.ValueLaws.{given_is_literal, value_told}

-- what is right of constraints
record AreRight (cs : CreatedConstraints) : Type 0 where
  key : if_there is_name cs.primary_key_name ≡ true
  unique : if_there is_name cs.unique_constraint_name ≡ true
  references : if_there is_reference cs.references ≡ true
  foreign : if_there is_name cs.foreign_key_name ≡ true

are_right : (cs : CreatedConstraints) → is_constraints cs ≡ true → AreRight cs
are_right cs h =
    let a = and_right (if_there is_name cs.primary_key_name) _ h in
    let b = and_right (if_there is_name cs.unique_constraint_name) _ a in
    record {
      key = and_left (if_there is_name cs.primary_key_name) _ h;
      unique = and_left (if_there is_name cs.unique_constraint_name) _ a;
      references = and_left (if_there is_reference cs.references) _ b;
      foreign = and_right (if_there is_reference cs.references) _ b;
    }

-- what is right of a column
record IsRight (x : CreatedColumn) : Type 0 where
  name : is_name x.name ≡ true
  kind : is_kind x.kind ≡ true
  default : if_there is_given x.default_value ≡ true
  constraints : if_there is_constraints x.constraints ≡ true

right_of : (x : CreatedColumn) → is_created x ≡ true → IsRight x
right_of x h =
    let a = and_right (is_name x.name) _ h in
    let b = and_right (is_kind x.kind) _ a in
    record {
      name = and_left (is_name x.name) _ h;
      kind = and_left (is_kind x.kind) _ a;
      default = and_left (if_there is_given x.default_value) _ b;
      constraints = and_right (if_there is_given x.default_value) _ b;
    }

-- its statement is a statement

def_spelled : (x : CreatedColumn) → is_created x ≡ true → is_column_def (def_of x) ≡ true
def_spelled x h = let r = right_of x h in rw (r.name, r.kind) (by x.default_value r.default) where
  by : (o : Option GivenValue) → if_there is_given o ≡ true → is_literal (unwrap_or (option_map literal_of o) literal.Null) ≡ true
  by None k = refl
  by (Some v) k = given_is_literal v k

listed : {A : Type 0} (p : A → Bool) (o : Option A) → if_there p o ≡ true → list_all p (option_to_list o) ≡ true
listed p None h = refl
listed p (Some a) h = and_true (p a) true h refl

unique_right : (t : Name) (x : CreatedColumn) → is_name_key t ≡ true → is_created x ≡ true → list_all is_unique (unique_of t x) ≡ true
unique_right t x h g = let r = right_of x g in listed is_unique (option_and_then (λ (cs : CreatedConstraints). unique_stated t x.name cs.unique cs.unique_constraint_name) x.constraints) (by x.constraints r.name r.constraints) where
  by : (o : Option CreatedConstraints) → is_name x.name ≡ true → if_there is_constraints o ≡ true → if_there is_unique (option_and_then (λ (cs : CreatedConstraints). unique_stated t x.name cs.unique cs.unique_constraint_name) o) ≡ true
  by None n k = refl
  by (Some cs) n k = unique_spelled t x.name cs.unique cs.unique_constraint_name h n (are_right cs k).unique

foreign_right : (d : Dialect) (t : Name) (x : CreatedColumn) → is_object d t ≡ true → is_created x ≡ true → list_all (is_foreign d) (foreign_of t x) ≡ true
foreign_right d t x h g = let r = right_of x g in listed (is_foreign d) (option_and_then (λ (cs : CreatedConstraints). foreign_stated t x.name cs.references cs.foreign_key_name) x.constraints) (by x.constraints r.name r.constraints) where
  by : (o : Option CreatedConstraints) → is_name x.name ≡ true → if_there is_constraints o ≡ true → if_there (is_foreign d) (option_and_then (λ (cs : CreatedConstraints). foreign_stated t x.name cs.references cs.foreign_key_name) o) ≡ true
  by None n k = refl
  by (Some cs) n k = foreign_spelled d t x.name cs.references cs.foreign_key_name h n (are_right cs k).references (are_right cs k).foreign

key_column_right : (x : CreatedColumn) → is_created x ≡ true → list_all is_name (key_column_of x) ≡ true
key_column_right x g = by (is_in_key x) where
  by : (b : Bool) → list_all is_name (if b then x.name ∷ [] else []) ≡ true
  by true = and_true (is_name x.name) true (right_of x g).name refl
  by false = refl

all_in : {A B : Type 0} (p : A → Bool) (q : B → Bool) (f : A → List B) → ((a : A) → p a ≡ true → list_all q (f a) ≡ true) → (xs : List A) → list_all p xs ≡ true → list_all q (flat_map f xs) ≡ true
all_in p q f each [] h = refl
all_in p q f each (x ∷ xs) h = all-append q (f x) (flat_map f xs) (each x (and_left (p x) _ h)) (all_in p q f each xs (and_right (p x) _ h))

stated_right : (x : CreatedColumn) → is_created x ≡ true → if_there is_name (stated_name x) ≡ true
stated_right x g = by (is_in_key x) x.constraints (right_of x g).constraints where
  by : (b : Bool) (o : Option CreatedConstraints) → if_there is_constraints o ≡ true → if_there is_name (if b then option_and_then (λ (cs : CreatedConstraints). cs.primary_key_name) o else None) ≡ true
  by false o k = refl
  by true None k = refl
  by true (Some cs) k = (are_right cs k).key

first_right : (xs : List CreatedColumn) → list_all is_created xs ≡ true → if_there is_name (first_name xs) ≡ true
first_right [] h = refl
first_right (x ∷ xs) h = by (stated_name x) (stated_right x (and_left (is_created x) _ h)) (first_right xs (and_right (is_created x) _ h)) where
  by : (o : Option Name) → if_there is_name o ≡ true → if_there is_name (first_name xs) ≡ true → if_there is_name (elim o [ Some name ↦ Some name | None ↦ first_name xs ]) ≡ true
  by None a b = b
  by (Some n) a b = a

default_key : (d : Dialect) (t : Name) → is_name_key t ≡ true → is_name (key_name d t) ≡ true
default_key d t h = (default_named d t [] h refl).0

named_right : (d : Dialect) (t : Name) (xs : List CreatedColumn) → is_name_key t ≡ true → list_all is_created xs ≡ true → is_name (key_named d t xs) ≡ true
named_right Mysql t xs h g = default_key Mysql t h
named_right Postgresql t xs h g = by (first_name xs) (first_right xs g) where
  by : (o : Option Name) → if_there is_name o ≡ true → is_name (unwrap_or o (key_name Postgresql t)) ≡ true
  by None k = default_key Postgresql t h
  by (Some n) k = k

primary_named : (t : Name) → is_key_name Mysql (key_name Mysql t) ≡ true
unfolding key_name
primary_named t = named_itself primary

key_name_right : (d : Dialect) (t : Name) (xs : List CreatedColumn) → is_key_name d (key_named d t xs) ≡ true
key_name_right Postgresql t xs = refl
key_name_right Mysql t xs = primary_named t

key_right : (d : Dialect) (t : Name) (xs : List CreatedColumn) → is_name_key t ≡ true → list_all is_created xs ≡ true → list_all (is_key d) (key_list (key_of d t xs)) ≡ true
key_right d t xs h g = by (key_columns xs) (all_in is_created is_name key_column_of key_column_right xs g) where
  by : (ns : List Name) → list_all is_name ns ≡ true → list_all (is_key d) (key_list (key_with (key_named d t xs) ns)) ≡ true
  by [] k = refl
  by (n ∷ ns) k = rw (named_right d t xs h g, key_name_right d t xs, k) refl

all_created : (xs : List CreatedColumn) → are_some is_created xs ≡ true → list_all is_created xs ≡ true
all_created xs h = and_right (not (is_empty xs)) _ h

not_empty : (xs : List CreatedColumn) → are_some is_created xs ≡ true → not (is_empty (map def_of xs)) ≡ true
not_empty [] h = h
not_empty (x ∷ xs) h = refl

pub spelled : AreStatements is_for gives
spelled d x h =
    let t = and_left (is_object d x.table_name) _ h in
    let whole = is_whole d x.table_name t in
    let some = and_right (is_object d x.table_name) _ h in
    let all = all_created x.columns some in
    rw (
      t,
      not_empty x.columns some,
      all-map is_column_def def_of x.columns ∙ all_more is_created (λ y. is_column_def (def_of y)) x.columns def_spelled all,
      key_right d x.table_name x.columns whole all,
      all_in is_created is_unique (unique_of x.table_name) (λ y g. unique_right x.table_name y whole g) x.columns all,
      all_in is_created (is_foreign d) (foreign_of x.table_name) (λ y g. foreign_right d x.table_name y t g) x.columns all,
    ) refl

pub returned : AreReturns is_for inverse
returned d x undoing right taken = subst (λ ss. list_all (is_statement d) ss ≡ true) (some_same taken) (rw (and_left (is_object d x.table_name) _ right) refl)

becomes_so : Becomes gives becomes is_for
becomes_so d x c e right sound ran = one_becomes d (creates d x) c e ran

pub does : HaveEffect is_for gives effect
does = does_so is_for gives becomes becomes_so

goes_back : GoesBack is_for gives is_fresh inverse
goes_back d x c e undoing right sound new ran taken =
    ap (λ ss. run User d ss e) (sym (some_same taken))
    ∙ one_back d (creates d x) (statement.DropTable x.table_name) (drop_after_create d x.table_name (map def_of x.columns) (key_of d x.table_name x.columns) (flat_map (unique_of x.table_name) x.columns) (flat_map (foreign_of x.table_name) x.columns)) c e sound ran

pub restores : TakeBack is_for effect is_fresh inverse
restores = restores_so is_for gives becomes is_fresh inverse becomes_so goes_back

-- its text tells it

same_constraints : (x y : CreatedConstraints) → x.primary_key ≡ y.primary_key → x.primary_key_name ≡ y.primary_key_name → x.nullable ≡ y.nullable → x.unique ≡ y.unique → x.unique_constraint_name ≡ y.unique_constraint_name → x.references ≡ y.references → x.foreign_key_name ≡ y.foreign_key_name → x ≡ y
same_constraints x y z a b c e f g = rw (z, a, b, c, e, f, g) refl

constraints_told : (x y : CreatedConstraints) → is_constraints x ≡ true → is_constraints y ≡ true → map_of (pairs_of (constraints_rows x)) ≡ map_of (pairs_of (constraints_rows y)) → x ≡ y
constraints_told x y g h e =
    let is : constraints_rows x ≡ constraints_rows y = map_told (constraints_rows x) (constraints_rows y) refl refl e in
    same_constraints x y (truths_told x.primary_key y.primary_key (ap (nth_value 0) is)) (texts_told x.primary_key_name y.primary_key_name (ap (nth_value 1) is)) (truths_told x.nullable y.nullable (ap (nth_value 2) is)) (truths_told x.unique y.unique (ap (nth_value 3) is)) (texts_told x.unique_constraint_name y.unique_constraint_name (ap (nth_value 4) is))
    (if_told (λ (r : Reference). text r.text) is_reference reference_told x.references y.references (are_right x g).references (are_right y h).references (ap (nth_value 5) is))
    (texts_told x.foreign_key_name y.foreign_key_name (ap (nth_value 6) is))

same_column : (x y : CreatedColumn) → x.name ≡ y.name → x.kind ≡ y.kind → x.auto_increment ≡ y.auto_increment → x.default_value ≡ y.default_value → x.constraints ≡ y.constraints → x ≡ y
same_column x y a b c e f = rw (a, b, c, e, f) refl

column_told : (x y : CreatedColumn) → is_created x ≡ true → is_created y ≡ true → map_of (pairs_of (column_rows x)) ≡ map_of (pairs_of (column_rows y)) → x ≡ y
column_told x y g h e =
    let is : column_rows x ≡ column_rows y = map_told (column_rows x) (column_rows y) refl refl e in
    let r = right_of x g in
    let s = right_of y h in
    same_column x y (text_told (ap (nth_value 0) is)) (kind_told x.kind y.kind r.kind s.kind (some_same (ap (nth_value 1) is))) (truths_told x.auto_increment y.auto_increment (ap (nth_value 2) is))
    (value_told x.default_value y.default_value r.default s.default (ap (nth_value 3) is) (ap (nth_value 4) is) (ap (nth_value 5) is) (ap (nth_value 6) is))
    (map_if_told constraints_rows is_constraints constraints_told x.constraints y.constraints r.constraints s.constraints (ap (nth_value 7) is))

same_change : (x y : CreateTable) → x.table_name ≡ y.table_name → x.columns ≡ y.columns → x ≡ y
same_change x y a b = rw (a, b) refl

pub told : AreTold is_for canonical_of
told d x y right also e =
    let is : rows x ≡ rows y = keys_told (codes "createTable") (codes "createTable") (rows x) (rows y) refl refl e in
    same_change x y (object_told d x.table_name y.table_name (and_left (is_object d x.table_name) _ right) (and_left (is_object d y.table_name) _ also) (ap (nth_value 0) is) (ap (nth_value 2) is))
    (maps_told column_rows is_created column_told x.columns y.columns (all_created x.columns (and_right (is_object d x.table_name) _ right)) (all_created y.columns (and_right (is_object d y.table_name) _ also)) (ap (nth_value 1) is))
