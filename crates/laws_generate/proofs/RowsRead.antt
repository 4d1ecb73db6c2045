-- Maps of rows, looked into.
use Rattle.std.proofs.Common.{ap, subst, sym, ◌∙◌, rules}
use Rattle.std.specs.List.{list_all, list_any}
use Rattle.std.specs.Map.{keys_of, lookup, lookup_key}
use Rattle.std.specs.Prelude.{Bool, Err, List, None, Ok, Option, Some, [], codes, cond, false, if◌then◌else◌, not, option_and_then, option_map, refl, true, ℕ, ◌&&◌, ◌||◌, ◌∷◌, ◌≡◌}
use Rattle.std.specs.Str.{bytes_eq}
use Rattle.std.proofs.lemmas.Slice.Eq.{bytes_eq-Decides}
use Rattle.lq_base.specs.declared.fault.KindFault.TheVariants.{Bad, Unknown}
use Rattle.lq_tree.specs.Look.{Found, is_among, map_of, unknown_key, value_at}
use Rattle.lq_tree.specs.Keys.{known}
use Rattle.lq_tree.specs.declared.node.Node.{Map as MapNode, Node}
use Rattle.laws_generate.proofs.NodesRead.{map_is}
use Rattle.laws_generate.specs.Again.{row_at}
use Rattle.lq_generate.specs.Types.{Row, map_node, present}

pub and_left : (a b : Bool) → (a && b) ≡ true → a ≡ true
and_left true b h = refl
and_left false b h = h

pub and_right : (a b : Bool) → (a && b) ≡ true → b ≡ true
and_right true b h = h
and_right false b h = absurd Prim.cc

negated : (a : Bool) → not a ≡ true → a ≡ false
negated true h = absurd Prim.cc
negated false h = refl

less : (a b : Bool) → not (a || b) ≡ true → not b ≡ true
less true b h = absurd Prim.cc
less false b h = h

bytes_same : (a b : List ℕ) → bytes_eq a b ≡ true → a ≡ b
bytes_same a b h = (bytes_eq-Decides a b).0 h

-- the keys differ: no key stands again behind its row
abbrev pub differ : List Row → Bool
differ [] = true
differ (r ∷ rs) = not (list_any (λ (q : Row). bytes_eq r.0 q.0) rs) && differ rs

looked : (key : List ℕ) (o : Option Node) (k : List ℕ) (more : List (List ℕ × Node)) (rest : Option Node) → lookup (bytes_eq key) more ≡ rest → (bytes_eq key k ≡ true → rest ≡ None)
    → lookup (bytes_eq key) (elim o [ None ↦ more | Some n ↦ (k, n) ∷ more ]) ≡ (if bytes_eq key k then o else rest)
looked key None k more rest is none = by (bytes_eq key k) none where
  by : (b : Bool) → (b ≡ true → rest ≡ None) → lookup (bytes_eq key) more ≡ (if b then None else rest)
  by true h = is ∙ h refl
  by false h = is
looked key (Some n) k more rest is none = by (bytes_eq key k) where
  by : (b : Bool) → cond b (Some n) (lookup (bytes_eq key) more) ≡ (if b then Some n else rest)
  by true = refl
  by false = is

behind : (key k l : List ℕ) (o rest : Option Node) (more : Bool) → bytes_eq key k ≡ true → not (bytes_eq k l || more) ≡ true → rest ≡ None → (if bytes_eq key l then o else rest) ≡ None
behind key k l o rest more is h none = rw (ap (λ x. bytes_eq x l) (bytes_same key k is), apart (bytes_eq k l) more h) none where
  apart : (a b : Bool) → not (a || b) ≡ true → a ≡ false
  apart true b e = absurd Prim.cc
  apart false b e = refl

none_behind : (key k : List ℕ) (rs : List Row) → bytes_eq key k ≡ true → not (list_any (λ (q : Row). bytes_eq k q.0) rs) ≡ true → row_at key rs ≡ None
none_behind key k [] is h = refl
none_behind key k (r ∷ rs) is h =
    let more = list_any (λ (q : Row). bytes_eq k q.0) rs in
    behind key k r.0 r.1 (row_at key rs) more is h (none_behind key k rs is (less (bytes_eq k r.0) more h))

-- what stands at a key of a map of rows
pub found : (key : List ℕ) (rs : List Row) → differ rs ≡ true → lookup (bytes_eq key) (present rs) ≡ row_at key rs
found key [] h = refl
found key (r ∷ rs) h = looked key r.1 r.0 (present rs) (row_at key rs) (found key rs (and_right _ _ h)) (λ is. none_behind key r.0 rs is (and_left _ _ h))

pub row_found : (key : List ℕ) (rs : List Row) → differ rs ≡ true → value_at key (map_node rs) ≡ row_at key rs
row_found key rs h = rw (map_is (present rs)) (found key rs h)

-- a map of rows whose keys are known has no other key

passed : (test : List ℕ → Bool) (o : Option Node) (k : List ℕ) (more : List (List ℕ × Node)) → test k ≡ false → lookup_key test more ≡ None
    → lookup_key test (elim o [ None ↦ more | Some n ↦ (k, n) ∷ more ]) ≡ None
passed test None k more other rest = rest
passed test (Some n) k more other rest = rw (other, rest) refl

no_other : (test : List ℕ → Bool) (rs : List Row) → list_all (λ (r : Row). not (test r.0)) rs ≡ true → lookup_key test (present rs) ≡ None
no_other test [] h = refl
no_other test (r ∷ rs) h = passed test r.1 r.0 (present rs) (negated (test r.0) (and_left _ _ h)) (no_other test rs (and_right _ _ h))

abbrev known_by : Option (List ℕ) → Found (Unit {0})
known_by o = elim o [ None ↦ Ok tt | Some key ↦ Err (Unknown key) ]

none_unknown : (names : List (List ℕ)) (rs : List Row) → list_all (λ (r : Row). not (not (is_among names r.0))) rs ≡ true → unknown_key names (map_node rs) ≡ None
none_unknown names rs h = rw (map_is (present rs)) (no_other (λ key. not (is_among names key)) rs h)

pub all_known : (names : List (List ℕ)) (rs : List Row) → list_all (λ (r : Row). not (not (is_among names r.0))) rs ≡ true → known names (map_node rs) ≡ Ok tt
all_known names rs h = rw (known, map_is (present rs)) (ap known_by (none_unknown names rs h))
