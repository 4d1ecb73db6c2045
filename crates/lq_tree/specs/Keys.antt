-- The keys of a map as a table: the name of each, whether it has to be there, and what it takes.
use Rattle.std.specs.Prelude.{Bool, Err, List, None, Ok, Option, Some, [], codes, false, if◌then◌else◌, ℕ, ◌++◌, ◌∷◌}
use Rattle.std.specs.Str.{bytes_eq}
use Rattle.lq_base.specs.Name.{is_name, public}
use Rattle.lq_base.specs.declared.dialect.Dialect.{Dialect}
use Rattle.lq_base.specs.declared.dialect.Dialect.TheVariants.{Mysql, Postgresql}
use Rattle.lq_base.specs.declared.fault.KindFault.TheVariants.{Bad, Missing, Unknown}
use Rattle.lq_base.specs.declared.name.Name.{Name}
use Rattle.lq_tree.specs.Look.{Found, Taken, and_then, map_found, map_of, text_of, unknown_key, value_at, within}
use Rattle.lq_tree.specs.declared.node.Node.{Node}

-- what stands at a key that has to be there
abbrev pub at_required : {A : Type 0} → List ℕ → Taken A → Option Node → Found A
at_required key takes None = Err (Missing key)
at_required key takes (Some value) = within key (takes value)

-- what stands at a key that may be there
abbrev pub at_optional : {A : Type 0} → List ℕ → Taken A → Option Node → Found (Option A)
at_optional key takes None = Ok None
at_optional key takes (Some value) = map_found (λ a. Some a) (within key (takes value))

-- what stands at a key that has to be there unless it may be absent
abbrev pub at_required_unless : {A : Type 0} → Bool → List ℕ → Taken A → Option Node → Found (Option A)
at_required_unless may key takes None = if may then Ok None else Err (Missing key)
at_required_unless may key takes (Some value) = map_found (λ a. Some a) (within key (takes value))

-- a table of keys, and what they say together
pub record Keys (A : Type 0) : Type 0 where
  pub names : List (List ℕ)
  pub says : Taken A

abbrev pub required : {A : Type 0} → List ℕ → Taken A → Keys A
required key takes = record { names = key ∷ []; says = λ n. at_required key takes (value_at key n) }

abbrev pub optional : {A : Type 0} → List ℕ → Taken A → Keys (Option A)
optional key takes = record { names = key ∷ []; says = λ n. at_optional key takes (value_at key n) }

abbrev pub required_unless : {A : Type 0} → Bool → List ℕ → Taken A → Keys (Option A)
required_unless may key takes = record { names = key ∷ []; says = λ n. at_required_unless may key takes (value_at key n) }

-- a table that begins without keys
abbrev pub fields : {A : Type 0} → A → Keys A
fields a = record { names = []; says = λ n. Ok a }

-- and with the next keys
infixl 10 ◌⊛◌
abbrev pub ◌⊛◌ : {A B : Type 0} → Keys (A → B) → Keys A → Keys B
f ⊛ k = record { names = f.names ++ k.names; says = λ n. and_then (f.says n) (λ g. map_found g (k.says n)) }

-- a map has no key but these: the fault is that of the first other key, in a tree that was read the least one
abbrev pub known : List (List ℕ) → Taken (Unit {0})
known names n = elim (map_of n) [
  | None ↦ Err (Bad [])
  | Some _ ↦ elim (unknown_key names n) [ None ↦ Ok tt | Some key ↦ Err (Unknown key) ]
]

-- what a map of these keys, and of others that are ignored, says
abbrev pub map_with : {A : Type 0} → List (List ℕ) → Keys A → Taken A
map_with ignored keys n = and_then (known (keys.names ++ ignored) n) (λ _. keys.says n)

abbrev pub is_public : Node → Bool
is_public n = elim (text_of n) [ None ↦ false | Some t ↦ bytes_eq t (codes "public") ]

-- a schema or a catalogue can only be `public`
abbrev pub public_at : List ℕ → Taken (Unit {0})
public_at key n = elim (value_at key n) [ None ↦ Ok tt | Some value ↦ if is_public value then Ok tt else Err (Bad key) ]

-- where an object stands
abbrev pub place : Keys (Unit {0})
place = record {
  names = codes "schemaName" ∷ codes "catalogName" ∷ [];
  says = λ n. and_then (public_at (codes "schemaName") n) (λ _. public_at (codes "catalogName") n);
}

-- a change: the keys of its type and then its place; remarks are ignored
abbrev pub a_change : {A : Type 0} → Keys A → Taken A
a_change keys = map_with (codes "remarks" ∷ []) (fields (λ change place. change) ⊛ keys ⊛ place)

-- which texts may be schemas: under PostgreSQL each name, under MySQL `public` alone
abbrev pub is_schema : Dialect → List ℕ → Bool
is_schema Postgresql t = is_name t
is_schema Mysql t = bytes_eq t public

abbrev pub schema_named : Dialect → List ℕ → List ℕ → Found Name
schema_named Postgresql key t = if is_name t then Ok t else Err (Bad key)
schema_named Mysql key t = if bytes_eq t public then Ok public else Err (Bad key)

-- a schema, which is a text, or `public` where none is stated
abbrev pub schema_at : Dialect → List ℕ → Taken Name
schema_at d key n = elim (value_at key n) [
  | None ↦ Ok public
  | Some value ↦ elim (text_of value) [ None ↦ Err (Bad key) | Some t ↦ schema_named d key t ]
]

abbrev pub schema_key : Dialect → List ℕ → Keys Name
schema_key d key = record { names = key ∷ []; says = schema_at d key }

-- a catalogue can only be `public`
abbrev pub catalogue : Keys (Unit {0})
catalogue = record { names = codes "catalogName" ∷ []; says = public_at (codes "catalogName") }

-- keys of an object in a schema, with that of its schema and that of its catalogue
abbrev pub keys_in : {A : Type 0} → Dialect → List ℕ → Keys (Name → A) → Keys A
keys_in d key keys = fields (λ change schema catalogue. change schema) ⊛ keys ⊛ schema_key d key ⊛ catalogue

-- a change of an object in a schema: the keys of its type, and then its schema and its catalogue; remarks are ignored
abbrev pub a_change_in : {A : Type 0} → Dialect → Keys (Name → A) → Taken A
a_change_in d keys = map_with (codes "remarks" ∷ []) (keys_in d (codes "schemaName") keys)
