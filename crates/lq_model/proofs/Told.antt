-- A change's canonical text tells the values of its keys.
use Rattle.std.proofs.Common.{arith, ap, sym, ◌∙◌}
use Rattle.std.proofs.lemmas.Bool.{leb-true, ltb-true}
use Rattle.std.specs.List.{list_all}
use Rattle.std.specs.Prelude.{Bool, List, None, Option, Some, [], false, if◌then◌else◌, is_some, map, nat_le, option_map, refl, true, unsigned_abs, ℕ, ℤ, ◌<◌, ◌^◌, ◌∷◌, ◌≡◌, ◌≤◌}
use Rattle.lq_base.specs.Kind.{is_kind, kind_of, kind_text}
use Rattle.lq_base.specs.Name.{is_name_key, is_object, parts_of, schema_in, schema_of, text_of, within}
use Rattle.lq_base.specs.Number.{fixed_text, number_of, if_there}
use Rattle.lq_base.specs.declared.dialect.Dialect.{Dialect}
use Rattle.lq_base.specs.declared.dialect.Dialect.TheVariants.{Postgresql}
use Rattle.lq_base.specs.declared.kind.Kind.{Kind}
use Rattle.lq_base.specs.declared.literal.Literal.{Literal}
use Rattle.lq_base.specs.declared.literal.Literal.TheVariants as literal
use Rattle.lq_base.proofs.BesideLemmas.{is_whole}
use Rattle.lq_base.proofs.KindSpelled.{kind_text-names, names-kind_of}
use Rattle.lq_base.proofs.NameLemmas.{names_tell_keys}
use Rattle.lq_base.proofs.NumberPrinted.{number_of-fixed_text}
use Rattle.lq_model.specs.Changes.{CanonicalPairs, CanonicalValue, CanonicalValues, canonical_change, decimal_value, kind_value, list, map_of, number, text, truth, value}
use Rattle.lq_model.specs.Catalogue.{repeats}
use Rattle.lq_model.specs.Comparison.{is_literal}
use Rattle.lq_model.specs.TakesBack.{Row, change_of, map_with, maps, schema_row, texts}
use Rattle.lq_model.proofs.CanonLemmas.{change_told}
use Rattle.lq_model.proofs.Lists.{and_left, and_right}
use Rattle.lq_model.proofs.RowsTold.{rows_told}

-- two changes with the same keys
pub keys_told : (name other : List ℕ) (rows others : List Row) → map (λ row. row.0) rows ≡ map (λ row. row.0) others → repeats (map (λ row. row.0) rows) ≡ false → canonical_change (change_of name rows) ≡ canonical_change (change_of other others) → rows ≡ others
keys_told name other rows others names apart e = rows_told rows others names apart (change_told (change_of name rows) (change_of other others) e).1

pub some_value : {v w : CanonicalValue} → Some v ≡ Some w → v ≡ w
some_value h = Prim.cc

-- what may not be there, told where it is
pub if_told : {A : Type 0} (of : A → CanonicalValue) (fits : A → Bool) → ((x y : A) → fits x ≡ true → fits y ≡ true → of x ≡ of y → x ≡ y) → (o p : Option A) → if_there fits o ≡ true → if_there fits p ≡ true → option_map of o ≡ option_map of p → o ≡ p
if_told of fits each None None g h e = refl
if_told of fits each (Some x) (Some y) g h e = ap (λ a. Some a) (each x y g h (some_value e))
if_told of fits each None (Some y) g h e = absurd Prim.cc
if_told of fits each (Some x) None g h e = absurd Prim.cc

-- texts and names

text_same : {t u : List ℕ} → text t ≡ text u → t ≡ u
text_same h = Prim.cc

pub text_told : {t u : List ℕ} → Some (text t) ≡ Some (text u) → t ≡ u
text_told h = Prim.cc

pub texts_told : (o p : Option (List ℕ)) → option_map (λ t. text t) o ≡ option_map (λ t. text t) p → o ≡ p
texts_told None None h = refl
texts_told (Some t) (Some u) h = ap (λ x. Some x) (text_told h)
texts_told None (Some u) h = absurd Prim.cc
texts_told (Some t) None h = absurd Prim.cc

-- a name by its text and its schema

schemas_told : (o p : Option (List ℕ × List ℕ)) → (if is_some o then Some (text (schema_in o)) else None) ≡ (if is_some p then Some (text (schema_in p)) else None) → schema_in o ≡ schema_in p
schemas_told None None e = refl
schemas_told (Some a) (Some b) e = text_told e
schemas_told None (Some b) e = absurd Prim.cc
schemas_told (Some a) None e = absurd Prim.cc

pub name_told : (a b : List ℕ) → is_name_key a ≡ true → is_name_key b ≡ true → text_of a ≡ text_of b → schema_row a ≡ schema_row b → a ≡ b
name_told a b h g same schemas =
    sym (names_tell_keys a h).2 ∙ ap (λ t. within (schema_of a) t) same ∙ ap (λ s. within s (text_of b)) (schemas_told (parts_of a) (parts_of b) schemas) ∙ (names_tell_keys b g).2

-- the name of an object of a profile
pub object_told : (d : Dialect) (a b : List ℕ) → is_object d a ≡ true → is_object d b ≡ true → Some (text (text_of a)) ≡ Some (text (text_of b)) → schema_row a ≡ schema_row b → a ≡ b
object_told d a b h g same schemas = name_told a b (is_whole d a h) (is_whole d b g) (text_told same) schemas

first_value : {v w : CanonicalValue} {vs ws : CanonicalValues} → value v vs ≡ value w ws → v ≡ w
first_value h = Prim.cc

more_values : {v w : CanonicalValue} {vs ws : CanonicalValues} → value v vs ≡ value w ws → vs ≡ ws
more_values h = Prim.cc

list_same : {vs ws : CanonicalValues} → list vs ≡ list ws → vs ≡ ws
list_same h = Prim.cc

each_text : (ts us : List (List ℕ)) → texts ts ≡ texts us → ts ≡ us
each_text [] [] h = refl
each_text (t ∷ ts) (u ∷ us) h = ap (λ x. x ∷ ts) (text_same (first_value h)) ∙ ap (λ xs. u ∷ xs) (each_text ts us (more_values h))
each_text [] (u ∷ us) h = absurd Prim.cc
each_text (t ∷ ts) [] h = absurd Prim.cc

-- a list of names
pub names_told : (ts us : List (List ℕ)) → Some (list (texts ts)) ≡ Some (list (texts us)) → ts ≡ us
names_told ts us h = each_text ts us (list_same (some_value h))

-- numbers and truth values

pub number_told : {n m : ℤ} → Some (number n) ≡ Some (number m) → n ≡ m
number_told h = Prim.cc

pub truth_told : {a b : Bool} → Some (truth a) ≡ Some (truth b) → a ≡ b
truth_told h = Prim.cc

pub truths_told : (o p : Option Bool) → option_map (λ b. truth b) o ≡ option_map (λ b. truth b) p → o ≡ p
truths_told None None h = refl
truths_told (Some a) (Some b) h = ap (λ x. Some x) (truth_told h)
truths_told None (Some b) h = absurd Prim.cc
truths_told (Some a) None h = absurd Prim.cc

some_literal : {k l : Literal} → Some k ≡ Some l → k ≡ l
some_literal h = Prim.cc

decimal_read : (u : ℤ) (s : ℕ) → is_literal (literal.Fixed u s) ≡ true → number_of (fixed_text u s) ≡ Some (literal.Fixed u s)
decimal_read u s h =
    let high = and_right (nat_le 1 s) _ h in
    let low : 1 ≤ s = leb-true 1 s (and_left (nat_le 1 s) _ h) in
    let up : s ≤ 37 = leb-true s 37 (and_left (nat_le s 37) _ high) in
    let few : unsigned_abs u < 10 ^ 38 = ltb-true (unsigned_abs u) (10 ^ 38) (and_right (nat_le s 37) _ high) in
    number_of-fixed_text u s few (omega arith) (omega arith)

-- no two decimals have one text
pub decimal_told : (u w : ℤ) (s q : ℕ) → is_literal (literal.Fixed u s) ≡ true → is_literal (literal.Fixed w q) ≡ true → Some (decimal_value u s) ≡ Some (decimal_value w q) → literal.Fixed u s ≡ literal.Fixed w q
decimal_told u w s q g h e = some_literal (sym (decimal_read u s g) ∙ ap number_of (text_told e) ∙ decimal_read w q h)

-- kinds

some_kind : {k l : Kind} → Some k ≡ Some l → k ≡ l
some_kind h = Prim.cc

-- no two kinds have one name
pub kind_told : (k l : Kind) → is_kind k ≡ true → is_kind l ≡ true → kind_value k ≡ kind_value l → k ≡ l
kind_told k l right also h = some_kind (sym (read k right) ∙ ap kind_of (text_same h) ∙ read l also) where
  read : (k : Kind) → is_kind k ≡ true → kind_of (kind_text Postgresql k) ≡ Some k
  read k right = names-kind_of (kind_text Postgresql k) k (kind_text-names Postgresql k right)

pub kinds_told : (o p : Option Kind) → if_there is_kind o ≡ true → if_there is_kind p ≡ true → option_map kind_value o ≡ option_map kind_value p → o ≡ p
kinds_told = if_told kind_value is_kind kind_told

-- maps and lists of maps

map_same : {p q : CanonicalPairs} → map_of p ≡ map_of q → p ≡ q
map_same h = Prim.cc

-- two maps with the same keys
pub map_told : (rows others : List Row) → map (λ row. row.0) rows ≡ map (λ row. row.0) others → repeats (map (λ row. row.0) rows) ≡ false → map_with rows ≡ map_with others → rows ≡ others
map_told rows others names apart h = rows_told rows others names apart (map_same h)

module _ {A : Type 0} (rows_of : A → List Row) (fits : A → Bool) (each : (x y : A) → fits x ≡ true → fits y ≡ true → map_with (rows_of x) ≡ map_with (rows_of y) → x ≡ y) where
  each_map : (xs ys : List A) → list_all fits xs ≡ true → list_all fits ys ≡ true → maps rows_of xs ≡ maps rows_of ys → xs ≡ ys
  each_map [] [] g h e = refl
  each_map (x ∷ xs) (y ∷ ys) g h e =
      ap (λ z. z ∷ xs) (each x y (and_left (fits x) _ g) (and_left (fits y) _ h) (first_value e))
      ∙ ap (λ zs. y ∷ zs) (each_map xs ys (and_right (fits x) _ g) (and_right (fits y) _ h) (more_values e))
  each_map [] (y ∷ ys) g h e = absurd Prim.cc
  each_map (x ∷ xs) [] g h e = absurd Prim.cc

  -- a list of maps
  pub maps_told : (xs ys : List A) → list_all fits xs ≡ true → list_all fits ys ≡ true → Some (list (maps rows_of xs)) ≡ Some (list (maps rows_of ys)) → xs ≡ ys
  maps_told xs ys g h e = each_map xs ys g h (list_same (some_value e))

  -- a map that may not be there
  pub map_if_told : (o p : Option A) → if_there fits o ≡ true → if_there fits p ≡ true → option_map (λ a. map_with (rows_of a)) o ≡ option_map (λ a. map_with (rows_of a)) p → o ≡ p
  map_if_told o p g h e = if_told (λ a. map_with (rows_of a)) fits each o p g h e
