-- What stands first in a canonical text: a pair, a change, a text.
use Rattle.std.proofs.Common.{List, None, Option, Some, [], arith, ap, append_assoc, append-nil, drop, get_or, refl, sym, true, false, ℕ, ◌≡◌, ◌∙◌, ◌++◌, ◌∷◌}
use Rattle.lq_model.specs.Changes.{CanonicalChange, CanonicalValue, atom, canonical, canonical_change, canonical_pairs, list, map_of, number, text, truth}
use Rattle.lq_canon.specs.Passing.{text_in, atom_at}
use Rattle.lq_canon.proofs.AtomRead.{atom_read}

pub is_there : (bytes t x : List ℕ) → bytes ≡ atom t ++ x → None ≡ atom_at bytes → ⊥
is_there bytes t x is none =
    let both : ◌≡◌ {A = Option (List ℕ × List ℕ)} None (Some (t, x)) = none ∙ ap atom_at is ∙ atom_read t x in
    grind arith

pub its_parts : (bytes t x : List ℕ) (p : List ℕ × List ℕ) → bytes ≡ atom t ++ x → Some p ≡ atom_at bytes → ◌≡◌ {A = List ℕ × List ℕ} p (t, x)
its_parts bytes t x p is found =
    let both : ◌≡◌ {A = Option (List ℕ × List ℕ)} (Some p) (Some (t, x)) = found ∙ ap atom_at is ∙ atom_read t x in
    grind arith

-- no atom begins with a bracket
pub no_atom_at_brace : (bytes x : List ℕ) (p : List ℕ × List ℕ) → bytes ≡ 125 ∷ x → Some p ≡ atom_at bytes → ⊥
unfolding atom_at
no_atom_at_brace bytes x p is found =
    let both : ◌≡◌ {A = Option (List ℕ × List ℕ)} (Some p) None = found ∙ ap atom_at is in
    grind arith

pub no_atom_at_bracket : (bytes x : List ℕ) (p : List ℕ × List ℕ) → bytes ≡ 93 ∷ x → Some p ≡ atom_at bytes → ⊥
unfolding atom_at
no_atom_at_bracket bytes x p is found =
    let both : ◌≡◌ {A = Option (List ℕ × List ℕ)} (Some p) None = found ∙ ap atom_at is in
    grind arith

-- a pair
pub pair_read : (bytes key x : List ℕ) (v : CanonicalValue) (p q : List ℕ × List ℕ) → bytes ≡ atom key ++ (canonical v ++ x) → Some p ≡ atom_at bytes
    → ((w : CanonicalValue) (y : List ℕ) → p.1 ≡ canonical w ++ y → ◌≡◌ {A = Option (List ℕ × List ℕ)} (Some q) (Some (canonical w, y))) → ◌≡◌ {A = Option (List ℕ × List ℕ × List ℕ)} (Some (p.0, q.0, q.1)) (Some (key, canonical v, x))
pair_read bytes key x v p q is found value =
    let first = its_parts bytes key (canonical v ++ x) p is found in
    let second = value v x (ap (λ (r : List ℕ × List ℕ). r.1) first) in
    let same : ◌≡◌ {A = List ℕ × List ℕ} q (canonical v, x) = grind arith in
    rw (first, same) refl

pub value_there : (bytes key x : List ℕ) (v : CanonicalValue) (p : List ℕ × List ℕ) → bytes ≡ atom key ++ (canonical v ++ x) → Some p ≡ atom_at bytes
    → ((w : CanonicalValue) (y : List ℕ) → p.1 ≡ canonical w ++ y → ◌≡◌ {A = Option (List ℕ × List ℕ)} None (Some (canonical w, y))) → ⊥
value_there bytes key x v p is found value =
    let first = its_parts bytes key (canonical v ++ x) p is found in
    let second : ◌≡◌ {A = Option (List ℕ × List ℕ)} None (Some (canonical v, x)) = value v x (ap (λ (r : List ℕ × List ℕ). r.1) first) in
    grind arith

-- a change
pub change_apart : (change : CanonicalChange) (x : List ℕ) → canonical_change change ++ x ≡ atom change.name ++ (123 ∷ (canonical_pairs change.pairs ++ 125 ∷ x))
change_apart change x =
    append_assoc (atom change.name) (canonical (map_of change.pairs)) x
    ∙ ap (λ l. atom change.name ++ 123 ∷ l) (append_assoc (canonical_pairs change.pairs) (125 ∷ []) x)

pub change_read : (bytes x : List ℕ) (change : CanonicalChange) (p : List ℕ × List ℕ) → bytes ≡ canonical_change change ++ x → Some p ≡ atom_at bytes → ◌≡◌ {A = List ℕ × List ℕ} (p.0, drop 1 p.1) (change.name, canonical_pairs change.pairs ++ 125 ∷ x)
change_read bytes x change p is found =
    let first = its_parts bytes change.name (123 ∷ (canonical_pairs change.pairs ++ 125 ∷ x)) p (is ∙ change_apart change x) found in
    ap (λ (r : List ℕ × List ℕ). (r.0, drop 1 r.1)) first

pub change_there : (bytes x : List ℕ) (change : CanonicalChange) → bytes ≡ canonical_change change ++ x → None ≡ atom_at bytes → ⊥
change_there bytes x change is = is_there bytes change.name (123 ∷ (canonical_pairs change.pairs ++ 125 ∷ x)) (is ∙ change_apart change x)

-- a text

first_byte : (value : List ℕ) (b : ℕ) (rest : List ℕ) → value ≡ b ∷ rest → get_or value 0 0 ≡ b
first_byte value b rest is = ap (λ l. get_or l 0 0) is

after_first : (value : List ℕ) (b : ℕ) (rest : List ℕ) → value ≡ b ∷ rest → drop 1 value ≡ rest
after_first value b rest is = ap (drop 1) is

pub text_read : (v : CanonicalValue) (value : List ℕ) (p : List ℕ × List ℕ) → value ≡ canonical v → get_or value 0 0 ≡ 116 → Some p ≡ atom_at (drop 1 value) → Some p.0 ≡ text_in v
text_read (text t) value p is first found =
    ap (λ (r : List ℕ × List ℕ). Some r.0) (its_parts (drop 1 value) t [] p (after_first value 116 (atom t) is ∙ sym (append-nil (atom t))) found)
text_read (number n) value p is first found = let other = first_byte value 110 _ is in absurd (omega (arith, other, first))
text_read (truth false) value p is first found = let other = first_byte value 98 _ is in absurd (omega (arith, other, first))
text_read (truth true) value p is first found = let other = first_byte value 98 _ is in absurd (omega (arith, other, first))
text_read (list vs) value p is first found = let other = first_byte value 91 _ is in absurd (omega (arith, other, first))
text_read (map_of ps) value p is first found = let other = first_byte value 123 _ is in absurd (omega (arith, other, first))

pub text_there : (v : CanonicalValue) (value : List ℕ) → value ≡ canonical v → get_or value 0 0 ≡ 116 → None ≡ atom_at (drop 1 value) → None ≡ text_in v
text_there (text t) value is first none = absurd (is_there (drop 1 value) t [] (after_first value 116 (atom t) is ∙ sym (append-nil (atom t))) none)
text_there (number n) value is first none = refl
text_there (truth b) value is first none = refl
text_there (list vs) value is first none = refl
text_there (map_of ps) value is first none = refl
