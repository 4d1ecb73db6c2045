-- What holds of all that is read of a node: facts go through the words that readers and their keys are made of.
use Rattle.std.proofs.lemmas.Bool.{and_from}
use Rattle.std.specs.List.{list_all}
use Rattle.std.specs.Prelude.{Bool, Err, IfOk, IfSome, List, None, Ok, Option, Some, [], codes, false, if◌then◌else◌, is_some, option_and_then, refl, true, ℕ, ◌+◌, ◌++◌, ◌||◌, ◌∷◌, ◌≡◌}
use Rattle.std.specs.Str.{bytes_eq}
use Rattle.lq_base.proofs.KindSpelled.{kind_of-names}
use Rattle.lq_base.specs.Kind.{is_kind, kind_of}
use Rattle.lq_base.specs.Name.{is_name, public}
use Rattle.lq_base.specs.Number.{number_of, if_there}
use Rattle.lq_base.specs.Spells.{NamesKind}
use Rattle.lq_base.specs.declared.dialect.Dialect.{Dialect}
use Rattle.lq_base.specs.declared.dialect.Dialect.TheVariants.{Mysql, Postgresql}
use Rattle.lq_base.specs.declared.fault.KindFault.TheVariants.{Bad}
use Rattle.lq_base.specs.declared.kind.Kind.{Kind}
use Rattle.lq_base.specs.declared.kind.Kind.TheVariants as kind
use Rattle.lq_base.specs.declared.literal.Literal.{Literal}
use Rattle.lq_base.specs.declared.name.Name.{Name}
use Rattle.lq_tree.specs.Given.{comma_parts, without_blanks, a_kind, a_name, a_text, if_so, part_name, part_names, some_names}
use Rattle.lq_tree.specs.Look.{Found, Taken, and_then, map_found, or_bad, within, list_of, printed_of, text_of, truth_of, value_at}
use Rattle.lq_tree.specs.Items.{a_column, are_some, at_required_items, column_in, item_path, items_from, only, required_items, some_items_in}
use Rattle.lq_tree.specs.Keys.{Keys, a_change, a_change_in, at_optional, at_required, at_required_unless, catalogue, fields, is_schema, keys_in, known, map_with, optional, place, required, required_unless, schema_at, schema_key, schema_named, ◌⊛◌}
use Rattle.lq_tree.specs.Values.{a_value, at_member, family, is_given, is_moment, member, number_given}
use Rattle.lq_tree.specs.declared.node.Node.{Node}
use Rattle.lq_tree.specs.declared.values.GivenValue.{GivenValue}
use Rattle.lq_tree.specs.declared.values.GivenValue.TheVariants.{Date, Text as GivenText, Truth}
use Rattle.lq_tree.specs.declared.values.ValueKey.{ValueKey}
use Rattle.lq_tree.specs.declared.values.ValueKey.TheVariants as key
use Rattle.lq_tree.proofs.NamesRead.{some_names_read}
use Rattle.lq_tree.proofs.Numbers.{given_fits}

-- what each node is read as is so
pub record Takes {A : Type 0} (P : A → Type 0) (takes : Taken A) : Type 0 where
  pub of : (n : Node) → IfOk (takes n) P

-- what a map says by these keys is so
pub record Says {A : Type 0} (P : A → Type 0) (k : Keys A) : Type 0 where
  pub of : (n : Node) → IfOk (k.says n) P

-- ---- what was found

-- a reading that goes on with what was found
pub then_so : {A B : Type 0} (P : A → Type 0) (Q : B → Type 0) (r : Found A) (f : A → Found B) → IfOk r P → ((a : A) → P a → IfOk (f a) Q) → IfOk (and_then r f) Q
then_so P Q (Ok a) f so next = next a so
then_so P Q (Err fault) f so next = tt

pub map_so : {A B : Type 0} (P : A → Type 0) (Q : B → Type 0) (r : Found A) (f : A → B) → IfOk r P → ((a : A) → P a → Q (f a)) → IfOk (map_found f r) Q
map_so P Q (Ok a) f so next = next a so
map_so P Q (Err fault) f so next = tt

pub within_so : {A : Type 0} (P : A → Type 0) (key : List ℕ) (r : Found A) → IfOk r P → IfOk (within key r) P
within_so P key (Ok a) so = so
within_so P key (Err fault) so = tt

pub or_bad_so : {A : Type 0} (P : A → Type 0) (o : Option A) → IfSome o P → IfOk (or_bad o) P
or_bad_so P (Some a) so = so
or_bad_so P None so = tt

pub all_found : {A : Type 0} (r : Found A) → IfOk r (λ a. Unit {0})
all_found (Ok a) = tt
all_found (Err fault) = tt

-- ---- keys

-- where nothing is asked
pub anything : {A : Type 0} {k : Keys A} → Says (λ a. Unit {0}) k
anything {A} {k} = record { of = λ n. all_found (k.says n) }

pub start : {A : Type 0} {P : A → Type 0} {a : A} → P a → Says P (fields a)
start so = record { of = λ n. so }

-- with the next key
pub given : {A B : Type 0} {Q : A → Type 0} {R : B → Type 0} {k : Keys A} {f : Keys (A → B)} → Says Q k → Says (λ g. (a : A) → Q a → R (g a)) f → Says R (f ⊛ k)
given {A} {B} {Q} {R} {k} {f} key before =
    record { of = λ n. then_so (λ (g : A → B). (a : A) → Q a → R (g a)) R (f.says n) (λ g. map_found g (k.says n)) (before.of n) (λ g so. map_so Q R (k.says n) g (key.of n) so) }

at_required_so : {A : Type 0} (P : A → Type 0) (key : List ℕ) (takes : Taken A) → Takes P takes → (value : Option Node) → IfOk (at_required key takes value) P
at_required_so P key takes so None = tt
at_required_so P key takes so (Some n) = within_so P key (takes n) (so.of n)

pub required_so : {A : Type 0} {P : A → Type 0} {key : List ℕ} {takes : Taken A} → Takes P takes → Says P (required key takes)
required_so {A} {P} {key} {takes} so = record { of = λ n. at_required_so P key takes so (value_at key n) }

-- the test of what may be there
abbrev pub IsIfThere : {A : Type 0} → (A → Bool) → Option A → Type 0
IsIfThere fits o = if_there fits o ≡ true

abbrev pub IsSo : {A : Type 0} → (A → Bool) → A → Type 0
IsSo fits a = fits a ≡ true

at_optional_so : {A : Type 0} (fits : A → Bool) (key : List ℕ) (takes : Taken A) → Takes (IsSo fits) takes → (value : Option Node) → IfOk (at_optional key takes value) (IsIfThere fits)
at_optional_so fits key takes so None = refl
at_optional_so fits key takes so (Some n) = map_so (IsSo fits) (IsIfThere fits) (within key (takes n)) (λ a. Some a) (within_so (IsSo fits) key (takes n) (so.of n)) (λ a fit. fit)

pub optional_so : {A : Type 0} {fits : A → Bool} {key : List ℕ} {takes : Taken A} → Takes (IsSo fits) takes → Says (IsIfThere fits) (optional key takes)
optional_so {A} {fits} {key} {takes} so = record { of = λ n. at_optional_so fits key takes so (value_at key n) }

-- ---- maps

pub map_with_so : {A : Type 0} (P : A → Type 0) (ignored : List (List ℕ)) (k : Keys A) → Says P k → Takes P (map_with ignored k)
map_with_so P ignored k so = record { of = λ n. then_so (λ _. Unit {0}) P (known (k.names ++ ignored) n) (λ _. k.says n) (all_found (known (k.names ++ ignored) n)) (λ _ _. so.of n) }

-- a change
pub change_so : {A : Type 0} (P : A → Type 0) (k : Keys A) → Says P k → Takes P (a_change k)
change_so P k so = map_with_so P _ (fields (λ change place. change) ⊛ k ⊛ place) (given {k = place} anything (given so (start (λ change is there _. is))))

-- ---- the same of one node

pub given_at : {A B : Type 0} (Q : A → Type 0) (R : B → Type 0) (n : Node) (f : Keys (A → B)) (k : Keys A) → IfOk (k.says n) Q → IfOk (f.says n) (λ g. (a : A) → Q a → R (g a)) → IfOk ((f ⊛ k).says n) R
given_at {A} {B} Q R n f k key before = then_so (λ (g : A → B). (a : A) → Q a → R (g a)) R (f.says n) (λ g. map_found g (k.says n)) before (λ g so. map_so Q R (k.says n) g key so)

pub change_at : {A : Type 0} (P : A → Type 0) (k : Keys A) (n : Node) → IfOk (k.says n) P → IfOk (a_change k n) P
change_at {A} P k n so = (change_so P it (record { of = λ m. so })).of n where
  it : Keys A
  it = record { names = k.names; says = λ m. k.says n }

-- ---- schemas

pub is_schema_so : (d : Dialect) (key t : List ℕ) → IfOk (schema_named d key t) (IsSo (is_schema d))
is_schema_so Postgresql key t = by (is_name t) refl where
  by : (named : Bool) → is_name t ≡ named → IfOk (if named then Ok t else Err (Bad key)) (IsSo (is_schema Postgresql))
  by true named = named
  by false named = tt
is_schema_so Mysql key t = by (bytes_eq t public) where
  by : (same : Bool) → IfOk (if same then Ok public else Err (Bad key)) (IsSo (is_schema Mysql))
  by true = refl
  by false = tt

schema_at_so : (d : Dialect) (key : List ℕ) (n : Node) → IfOk (schema_at d key n) (IsSo (is_schema d))
schema_at_so d key n = by (value_at key n) where
  of_text : (text : Option (List ℕ)) → IfOk (elim text [ None ↦ Err (Bad key) | Some t ↦ schema_named d key t ]) (IsSo (is_schema d))
  of_text None = tt
  of_text (Some t) = is_schema_so d key t

  of_none : (e : Dialect) → IsSo (is_schema e) public
  of_none Postgresql = refl
  of_none Mysql = refl

  by : (value : Option Node) → IfOk (elim value [
    | None ↦ Ok public
    | Some v ↦ elim (text_of v) [ None ↦ Err (Bad key) | Some t ↦ schema_named d key t ]
  ]) (IsSo (is_schema d))
  by None = of_none d
  by (Some v) = of_text (text_of v)

pub schema_so : (d : Dialect) {key : List ℕ} → Says (IsSo (is_schema d)) (schema_key d key)
schema_so d {key} = record { of = schema_at_so d key }

-- keys of an object in a schema
pub keys_in_so : {A : Type 0} (P : A → Type 0) (d : Dialect) (key : List ℕ) (k : Keys (Name → A)) → Says (λ g. (schema : Name) → is_schema d schema ≡ true → P (g schema)) k → Says P (keys_in d key k)
keys_in_so P d key k so = given {k = catalogue} anything (given (schema_so d {key = key}) (given so (start (λ change is schema named catalogue _. is schema named))))

-- a change of an object in a schema
pub change_in_so : {A : Type 0} (P : A → Type 0) (d : Dialect) (k : Keys (Name → A)) → Says (λ g. (schema : Name) → is_schema d schema ≡ true → P (g schema)) k → Takes P (a_change_in d k)
change_in_so P d k so = map_with_so P _ (keys_in d (codes "schemaName") k) (keys_in_so P d (codes "schemaName") k so)

-- ---- what keys take

-- a scalar that is printed as a text of some sort
pub printed_so : (fits : List ℕ → Bool) (n : Node) → IfOk (or_bad (option_and_then (if_so fits) (printed_of n))) (IsSo fits)
printed_so fits n = by (printed_of n) where
  tested : (t : List ℕ) (is : Bool) → fits t ≡ is → IfOk (or_bad (if is then Some t else None)) (IsSo fits)
  tested t true is = is
  tested t false is = tt

  by : (text : Option (List ℕ)) → IfOk (or_bad (option_and_then (if_so fits) text)) (IsSo fits)
  by None = tt
  by (Some t) = tested t (fits t) refl

pub name_so : Takes (IsSo is_name) a_name
name_so = record { of = printed_so is_name }

kind_named_so : (text : List ℕ) (kind : Kind) → NamesKind text kind → is_kind kind ≡ true
kind_named_so text kind.Int is = refl
kind_named_so text kind.BigInt is = refl
kind_named_so text kind.Boolean is = refl
kind_named_so text (kind.Varchar most) is = is.0
kind_named_so text kind.Text is = refl
kind_named_so text kind.Moment is = refl
kind_named_so text (kind.Decimal digits scale) is = is.0

pub kind_so : Takes (IsSo is_kind) a_kind
kind_so = record { of = λ n. by (printed_of n) } where
  found : (text : List ℕ) (kind : Option Kind) → kind_of text ≡ kind → IfOk (or_bad kind) (IsSo is_kind)
  found text None is = tt
  found text (Some kind) is = kind_named_so text kind (kind_of-names text kind is)

  by : (text : Option (List ℕ)) → IfOk (or_bad (option_and_then kind_of text)) (IsSo is_kind)
  by None = tt
  by (Some text) = found text (kind_of text) refl

-- a key that has to be there unless it may be absent
abbrev pub IsThereUnless : {A : Type 0} → Bool → (A → Bool) → Option A → Type 0
IsThereUnless may fits o = (if_there fits o ≡ true) × ((may || is_some o) ≡ true)

pub required_unless_so : {A : Type 0} (may : Bool) {fits : A → Bool} {key : List ℕ} {takes : Taken A} → Takes (IsSo fits) takes → Says (IsThereUnless may fits) (required_unless may key takes)
required_unless_so {A} may {fits} {key} {takes} so = record { of = λ n. by may (value_at key n) } where
  there : (b : Bool) → (b || true) ≡ true
  there true = refl
  there false = refl

  by : (b : Bool) (value : Option Node) → IfOk (at_required_unless b key takes value) (IsThereUnless b fits)
  by true None = (refl, refl)
  by false None = tt
  by b (Some n) = map_so (IsSo fits) (IsThereUnless b fits) (within key (takes n)) (λ a. Some a) (within_so (IsSo fits) key (takes n) (so.of n)) (λ a fit. (fit, there b))

-- ---- lists

pub items_so : {A : Type 0} (fits : A → Bool) (key : List ℕ) (i : ℕ) (takes : Taken A) → Takes (IsSo fits) takes → (ns : List Node) → IfOk (items_from key i takes ns) (λ xs. list_all fits xs ≡ true)
items_so fits key i takes so [] = refl
items_so fits key i takes so (n ∷ ns) =
    then_so (IsSo fits) (λ xs. list_all fits xs ≡ true) (within (item_path key i) (takes n)) (λ a. map_found (λ more. a ∷ more) (items_from key (i + 1) takes ns)) (within_so (IsSo fits) (item_path key i) (takes n) (so.of n)) (λ a fit.
    map_so (λ xs. list_all fits xs ≡ true) (λ xs. list_all fits xs ≡ true) (items_from key (i + 1) takes ns) (λ more. a ∷ more) (items_so fits key (i + 1) takes so ns) (λ more fits_all. and_from (fits a) (list_all fits more) fit fits_all))

-- one item at least
pub some_items_so : {A : Type 0} (fits : A → Bool) (key : List ℕ) (takes : Taken A) → Takes (IsSo fits) takes → (value : Option Node) → IfOk (at_required_items key takes value) (IsSo (are_some fits))
some_items_so fits key takes so None = tt
some_items_so fits key takes so (Some n) = by (list_of n) where
  by : (ns : Option (List Node)) → IfOk (some_items_in key takes ns) (IsSo (are_some fits))
  by None = tt
  by (Some []) = tt
  by (Some (m ∷ ms)) =
      then_so (IsSo fits) (IsSo (are_some fits)) (within (item_path key 0) (takes m)) (λ a. map_found (λ more. a ∷ more) (items_from key 1 takes ms)) (within_so (IsSo fits) (item_path key 0) (takes m) (so.of m)) (λ a fit.
      map_so (λ xs. list_all fits xs ≡ true) (IsSo (are_some fits)) (items_from key 1 takes ms) (λ more. a ∷ more) (items_so fits key 1 takes so ms) (λ more fits_all. and_from (fits a) (list_all fits more) fit fits_all))

pub required_items_so : {A : Type 0} {fits : A → Bool} {key : List ℕ} {takes : Taken A} → Takes (IsSo fits) takes → Says (IsSo (are_some fits)) (required_items key takes)
required_items_so {A} {fits} {key} {takes} so = record { of = λ n. some_items_so fits key takes so (value_at key n) }

pub column_so : {A : Type 0} {P : A → Type 0} {takes : Taken A} → Takes P takes → Takes P (a_column takes)
column_so {A} {P} {takes} so = record { of = λ n. by n (only (codes "column") n) } where
  by : (n : Node) (inner : Option Node) → IfOk (column_in takes n inner) P
  by n None = so.of n
  by n (Some inner) = within_so P (codes "column") (takes inner) (so.of inner)

-- ---- lists of names in a text

part_so : (part : List ℕ) → IfOk (part_name part) (IsSo is_name)
part_so part = by (is_name (without_blanks part)) refl where
  by : (is : Bool) → is_name (without_blanks part) ≡ is → IfOk (or_bad (if is then Some (without_blanks part) else None)) (IsSo is_name)
  by true is = is
  by false is = tt

parts_so : (parts : List (List ℕ)) → IfOk (part_names parts) (λ names. list_all is_name names ≡ true)
parts_so [] = refl
parts_so (p ∷ ps) =
    then_so (IsSo is_name) (λ names. list_all is_name names ≡ true) (part_name p) (λ name. map_found (λ more. name ∷ more) (part_names ps)) (part_so p) (λ name is.
    map_so (λ names. list_all is_name names ≡ true) (λ names. list_all is_name names ≡ true) (part_names ps) (λ more. name ∷ more) (parts_so ps) (λ more are. and_from (is_name name) (list_all is_name more) is are))

pub names_so : Takes (IsSo (are_some is_name)) some_names
names_so = record { of = λ n. then_so (λ _. Unit {0}) (IsSo (are_some is_name)) (a_text n) (λ text. part_names (comma_parts text)) (all_found (a_text n)) (λ text _. by text (part_names (comma_parts text)) refl (parts_so (comma_parts text))) } where
  by : (text : List ℕ) (found : Found (List Name)) → part_names (comma_parts text) ≡ found → IfOk found (λ names. list_all is_name names ≡ true) → IfOk found (IsSo (are_some is_name))
  by text (Ok names) is are = some_names_read text (comma_parts text) (Ok names) refl is are
  by text (Err fault) is are = tt

-- ---- values

number_so : (text : List ℕ) (number : Option Literal) → number_of text ≡ number → IfSome (option_and_then number_given number) (IsSo is_given)
number_so text None is = tt
number_so text (Some number) is = by (number_given number) refl where
  by : (given : Option GivenValue) → number_given number ≡ given → IfSome given (IsSo is_given)
  by None e = tt
  by (Some value) e = given_fits text number value is e

value_so : (takes : ValueKey) (n : Node) → IfSome (a_value takes n) (IsSo is_given)
value_so key.Text n = by (printed_of n) where
  by : (text : Option (List ℕ)) → IfSome (option_and_then (λ t. Some (GivenText t)) text) (IsSo is_given)
  by None = tt
  by (Some t) = refl
value_so key.Number n = by (printed_of n) where
  by : (text : Option (List ℕ)) → IfSome (option_and_then number_given (option_and_then number_of text)) (IsSo is_given)
  by None = tt
  by (Some t) = number_so t (number_of t) refl
value_so key.Truth n = by (truth_of n) where
  by : (truth : Option Bool) → IfSome (option_and_then (λ b. Some (Truth b)) truth) (IsSo is_given)
  by None = tt
  by (Some b) = refl
value_so key.Date n = by (text_of n) where
  moment : (t : List ℕ) (is : Bool) → IfSome (if is then Some (Date t) else None) (IsSo is_given)
  moment t true = refl
  moment t false = tt

  by : (text : Option (List ℕ)) → IfSome (option_and_then (λ t. if is_moment t then Some (Date t) else None) text) (IsSo is_given)
  by None = tt
  by (Some t) = moment t (is_moment t)

member_so : (name : List ℕ) (takes : ValueKey) (found : Option GivenValue) (n : Node) → IsIfThere is_given found → IfOk (member name takes found n) (IsIfThere is_given)
member_so name takes found n so = by found so (value_at name n) where
  by : (o : Option GivenValue) → IsIfThere is_given o → (value : Option Node) → IfOk (at_member name takes o value) (IsIfThere is_given)
  by o so None = so
  by None so (Some v) = map_so (IsSo is_given) (IsIfThere is_given) (within name (or_bad (a_value takes v))) (λ w. Some w) (within_so (IsSo is_given) name (or_bad (a_value takes v)) (or_bad_so (IsSo is_given) (a_value takes v) (value_so takes v))) (λ w fit. fit)
  by (Some w) so (Some v) = tt

-- four keys of which one states a value
pub family_so : {text number truth date : List ℕ} → Says (IsIfThere is_given) (family text number truth date)
family_so {text} {number} {truth} {date} = record {
  of = λ n.
      then_so (IsIfThere is_given) (IsIfThere is_given) (member text key.Text None n) (λ a. and_then (member number key.Number a n) (λ b. and_then (member truth key.Truth b n) (λ c. member date key.Date c n))) (member_so text key.Text None n refl) (λ a first.
      then_so (IsIfThere is_given) (IsIfThere is_given) (member number key.Number a n) (λ b. and_then (member truth key.Truth b n) (λ c. member date key.Date c n)) (member_so number key.Number a n first) (λ b second.
      then_so (IsIfThere is_given) (IsIfThere is_given) (member truth key.Truth b n) (λ c. member date key.Date c n) (member_so truth key.Truth b n second) (λ c third. member_so date key.Date c n third)));
}
