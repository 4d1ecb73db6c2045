-- The canonical text of a change tells the change.
use Rattle.std.proofs.Common.{ℤ, pos, negsuc, true, false, ◌≡◌, ℕ, suc, ◌+◌, ◌<◌, List, [], ◌∷◌, ◌++◌, map, length, refl, sym, ap, ◌∙◌, arith}
use Rattle.std.specs.Int.Digits.{AllBelowBase, number_from_digits}
use Rattle.std.proofs.lemmas.List.{append_assoc}
use Rattle.lq_model.specs.Changes.{decimal_digits, numeral, signed_numeral, atom, canonical, canonical_values, canonical_pairs, canonical_change, canonical_each, canonical_changes, CanonicalChange, CanonicalValue, CanonicalValues, CanonicalPairs, text, number, truth, list, map_of, no_values, value, no_pairs, pair}
use Rattle.lq_model.proofs.Numerals.{number_of_digits, digits_below_ten}

-- digits go as far as they can, and the colon is none
up_to_colon : (xs ys x y : List ℕ) → AllBelowBase 10 xs → AllBelowBase 10 ys → map (λ digit. 48 + digit) xs ++ 58 ∷ x ≡ map (λ digit. 48 + digit) ys ++ 58 ∷ y → (xs ≡ ys) × (x ≡ y)
up_to_colon [] [] x y low high e = grind arith
up_to_colon [] (d ∷ ys) x y low high e = grind arith
up_to_colon (c ∷ xs) [] x y low high e = grind arith
up_to_colon (c ∷ xs) (d ∷ ys) x y low high e =
    let h : (xs ≡ ys) × (x ≡ y) = up_to_colon xs ys x y low.1 high.1 (grind arith) in
    (grind arith, h.1)

-- what stands behind the first byte
inside : {a b : ℕ} {x y : List ℕ} → a ∷ x ≡ b ∷ y → x ≡ y
inside e = grind arith

starts_below : (ds x y : List ℕ) (b : ℕ) → 58 < b → AllBelowBase 10 ds → map (λ digit. 48 + digit) ds ++ 58 ∷ x ≡ b ∷ y → ⊥
starts_below [] x y b high low e = grind arith
starts_below (d ∷ ds) x y b high low e = grind arith

starts_low : (ds y : List ℕ) → map (λ digit. 48 + digit) ds ≡ 45 ∷ y → ⊥
starts_low [] y e = grind arith
starts_low (d ∷ ds) y e = grind arith

same_length : (t u x y : List ℕ) → length t ≡ length u → t ++ x ≡ u ++ y → (t ≡ u) × (x ≡ y)
same_length [] [] x y h e = (refl, e)
same_length [] (b ∷ u) x y h e = grind arith
same_length (a ∷ t) [] x y h e = grind arith
same_length (a ∷ t) (b ∷ u) x y h e =
    let rest : (t ≡ u) × (x ≡ y) = same_length t u x y (grind arith) (grind arith) in
    (grind arith, rest.1)

before_text : (t x : List ℕ) → atom t ++ x ≡ numeral (length t) ++ 58 ∷ (t ++ x)
unfolding atom
before_text t x = append_assoc (numeral (length t) ++ 58 ∷ []) t x ∙ append_assoc (numeral (length t)) (58 ∷ []) (t ++ x)

pub atom_read : (t u x y : List ℕ) → atom t ++ x ≡ atom u ++ y → (t ≡ u) × (x ≡ y)
unfolding numeral
atom_read t u x y e =
    let read : (decimal_digits (length t) ≡ decimal_digits (length u)) × (t ++ x ≡ u ++ y)
    = up_to_colon (decimal_digits (length t)) (decimal_digits (length u)) (t ++ x) (u ++ y) (digits_below_ten (length t)) (digits_below_ten (length u)) (sym (before_text t x) ∙ (e ∙ before_text u y)) in
    let lengths : length t ≡ length u = sym (number_of_digits (length t)) ∙ (ap (number_from_digits 10) read.0 ∙ number_of_digits (length u)) in
    same_length t u x y lengths read.1

-- two numbers with one numeral are one
same_numeral : (m n : ℕ) → numeral m ≡ numeral n → m ≡ n
unfolding numeral
same_numeral m n e =
    let read : (decimal_digits m ≡ decimal_digits n) × (◌≡◌ {A = List ℕ} [] [])
    = up_to_colon (decimal_digits m) (decimal_digits n) [] [] (digits_below_ten m) (digits_below_ten n) (ap (λ written. written ++ 58 ∷ []) e) in
    sym (number_of_digits m) ∙ (ap (number_from_digits 10) read.0 ∙ number_of_digits n)

-- a numeral begins with a digit, and no sign
unsigned : (m : ℕ) (y : List ℕ) → numeral m ≡ 45 ∷ y → ⊥
unfolding numeral
unsigned m y e = starts_low (decimal_digits m) y e

pub signed_told : (y z : ℤ) → signed_numeral y ≡ signed_numeral z → y ≡ z
signed_told (pos m) (pos n) e = ap pos (same_numeral m n e)
signed_told (pos m) (negsuc n) e = absurd (unsigned m _ e)
signed_told (negsuc m) (pos n) e = absurd (unsigned n _ (sym e))
signed_told (negsuc m) (negsuc n) e =
    let same : suc m ≡ suc n = same_numeral (suc m) (suc n) (grind arith) in
    ap negsuc (omega arith)

number_read : (m n : ℤ) (x y : List ℕ) → atom (signed_numeral m) ++ x ≡ atom (signed_numeral n) ++ y → (number m ≡ number n) × (x ≡ y)
number_read m n x y e =
    let read : (signed_numeral m ≡ signed_numeral n) × (x ≡ y) = atom_read (signed_numeral m) (signed_numeral n) x y e in
    (ap number (signed_told m n read.0), read.1)

no_atom_begins_so : (t x y : List ℕ) (b : ℕ) → 58 < b → atom t ++ x ≡ b ∷ y → ⊥
unfolding numeral
no_atom_begins_so t x y b high e = starts_below (decimal_digits (length t)) (t ++ x) y b high (digits_below_ten (length t)) (sym (before_text t x) ∙ e)

-- no value begins with `]`
no_value_ends : (v : CanonicalValue) (x y : List ℕ) → canonical v ++ x ≡ 93 ∷ y → ⊥
no_value_ends (text t) x y e = grind arith
no_value_ends (number n) x y e = grind arith
no_value_ends (truth false) x y e = grind arith
no_value_ends (truth true) x y e = grind arith
no_value_ends (list vs) x y e = grind arith
no_value_ends (map_of ps) x y e = grind arith

pair_apart : (key : List ℕ) (v : CanonicalValue) (pairs : CanonicalPairs) (x : List ℕ) → (atom key ++ canonical v ++ canonical_pairs pairs) ++ x ≡ atom key ++ (canonical v ++ (canonical_pairs pairs ++ x))
pair_apart key v pairs x = append_assoc (atom key ++ canonical v) (canonical_pairs pairs) x ∙ append_assoc (atom key) (canonical v) (canonical_pairs pairs ++ x)

mutual
  value_read : (v w : CanonicalValue) (x y : List ℕ) → canonical v ++ x ≡ canonical w ++ y → (v ≡ w) × (x ≡ y)
  value_read (text t) (text u) x y e =
      let read : (t ≡ u) × (x ≡ y) = atom_read t u x y (grind arith) in
      (ap text read.0, read.1)
  value_read (number m) (number n) x y e = number_read m n x y (grind arith)
  value_read (truth false) (truth false) x y e = (refl, grind arith)
  value_read (truth true) (truth true) x y e = (refl, grind arith)
  value_read (list vs) (list ws) x y e =
      let read : (vs ≡ ws) × (x ≡ y) = values_read vs ws x y (sym (append_assoc (canonical_values vs) (93 ∷ []) x) ∙ (inside e ∙ append_assoc (canonical_values ws) (93 ∷ []) y)) in
      (ap list read.0, read.1)
  value_read (map_of ps) (map_of qs) x y e =
      let read : (ps ≡ qs) × (x ≡ y) = pairs_read ps qs x y (sym (append_assoc (canonical_pairs ps) (125 ∷ []) x) ∙ (inside e ∙ append_assoc (canonical_pairs qs) (125 ∷ []) y)) in
      (ap map_of read.0, read.1)
  value_read v w x y e = grind arith

  values_read : (vs ws : CanonicalValues) (x y : List ℕ) → canonical_values vs ++ 93 ∷ x ≡ canonical_values ws ++ 93 ∷ y → (vs ≡ ws) × (x ≡ y)
  values_read no_values no_values x y e = (refl, inside e)
  values_read no_values (value w ws) x y e = absurd (no_value_ends w (canonical_values ws ++ 93 ∷ y) x (sym (append_assoc (canonical w) (canonical_values ws) (93 ∷ y)) ∙ sym e))
  values_read (value v vs) no_values x y e = absurd (no_value_ends v (canonical_values vs ++ 93 ∷ x) y (sym (append_assoc (canonical v) (canonical_values vs) (93 ∷ x)) ∙ e))
  values_read (value v vs) (value w ws) x y e =
      let first : (v ≡ w) × (canonical_values vs ++ 93 ∷ x ≡ canonical_values ws ++ 93 ∷ y)
      = value_read v w (canonical_values vs ++ 93 ∷ x) (canonical_values ws ++ 93 ∷ y) (sym (append_assoc (canonical v) (canonical_values vs) (93 ∷ x)) ∙ (e ∙ append_assoc (canonical w) (canonical_values ws) (93 ∷ y))) in
      let others : (vs ≡ ws) × (x ≡ y) = values_read vs ws x y first.1 in
      (rw (first.0, others.0) refl, others.1)

  pairs_read : (ps qs : CanonicalPairs) (x y : List ℕ) → canonical_pairs ps ++ 125 ∷ x ≡ canonical_pairs qs ++ 125 ∷ y → (ps ≡ qs) × (x ≡ y)
  pairs_read no_pairs no_pairs x y e = (refl, inside e)
  pairs_read no_pairs (pair l w qs) x y e = absurd (no_atom_begins_so l (canonical w ++ (canonical_pairs qs ++ 125 ∷ y)) x 125 (omega arith) (sym (pair_apart l w qs (125 ∷ y)) ∙ sym e))
  pairs_read (pair k v ps) no_pairs x y e = absurd (no_atom_begins_so k (canonical v ++ (canonical_pairs ps ++ 125 ∷ x)) y 125 (omega arith) (sym (pair_apart k v ps (125 ∷ x)) ∙ e))
  pairs_read (pair k v ps) (pair l w qs) x y e =
      let keys : (k ≡ l) × (canonical v ++ (canonical_pairs ps ++ 125 ∷ x) ≡ canonical w ++ (canonical_pairs qs ++ 125 ∷ y))
      = atom_read k l (canonical v ++ (canonical_pairs ps ++ 125 ∷ x)) (canonical w ++ (canonical_pairs qs ++ 125 ∷ y)) (sym (pair_apart k v ps (125 ∷ x)) ∙ (e ∙ pair_apart l w qs (125 ∷ y))) in
      let first : (v ≡ w) × (canonical_pairs ps ++ 125 ∷ x ≡ canonical_pairs qs ++ 125 ∷ y) = value_read v w (canonical_pairs ps ++ 125 ∷ x) (canonical_pairs qs ++ 125 ∷ y) keys.1 in
      let others : (ps ≡ qs) × (x ≡ y) = pairs_read ps qs x y first.1 in
      (rw (keys.0, first.0, others.0) refl, others.1)

pub value_told : (v w : CanonicalValue) → canonical v ≡ canonical w → v ≡ w
value_told v w e = (value_read v w [] [] (ap (λ written. written ++ []) e)).0

same_change : (m n : List ℕ) (ps qs : CanonicalPairs) → m ≡ n → ps ≡ qs → ◌≡◌ {A = CanonicalChange} (record { name = m; pairs = ps }) (record { name = n; pairs = qs })
same_change m n ps qs names pairs = rw (names, pairs) refl

change_apart : (c : CanonicalChange) (x : List ℕ) → canonical_change c ++ x ≡ atom c.name ++ (canonical (map_of c.pairs) ++ x)
change_apart c x = append_assoc (atom c.name) (canonical (map_of c.pairs)) x

-- a change, and what follows it
change_read : (c d : CanonicalChange) (x y : List ℕ) → canonical_change c ++ x ≡ canonical_change d ++ y → (c ≡ d) × (x ≡ y)
change_read c d x y e =
    let names : (c.name ≡ d.name) × (canonical (map_of c.pairs) ++ x ≡ canonical (map_of d.pairs) ++ y)
    = atom_read c.name d.name (canonical (map_of c.pairs) ++ x) (canonical (map_of d.pairs) ++ y) (sym (change_apart c x) ∙ (e ∙ change_apart d y)) in
    let maps : (map_of c.pairs ≡ map_of d.pairs) × (x ≡ y) = value_read (map_of c.pairs) (map_of d.pairs) x y names.1 in
    let pairs : c.pairs ≡ d.pairs = grind arith in
    (same_change c.name d.name c.pairs d.pairs names.0 pairs, maps.1)

pub change_told : (c d : CanonicalChange) → canonical_change c ≡ canonical_change d → (c.name ≡ d.name) × (c.pairs ≡ d.pairs)
change_told c d e =
    let same : c ≡ d = (change_read c d [] [] (ap (λ written. written ++ []) e)).0 in
    (ap (λ change. change.name) same, ap (λ change. change.pairs) same)

-- no change begins with `]`
no_change_ends : (c : CanonicalChange) (x y : List ℕ) → canonical_change c ++ x ≡ 93 ∷ y → ⊥
no_change_ends c x y e = no_atom_begins_so c.name (canonical (map_of c.pairs) ++ x) y 93 (omega arith) (sym (change_apart c x) ∙ e)

each_read : (cs ds : List CanonicalChange) → canonical_each cs ++ 93 ∷ [] ≡ canonical_each ds ++ 93 ∷ [] → cs ≡ ds
each_read [] [] e = refl
each_read [] (d ∷ ds) e = absurd (no_change_ends d (canonical_each ds ++ 93 ∷ []) [] (sym (append_assoc (canonical_change d) (canonical_each ds) (93 ∷ [])) ∙ sym e))
each_read (c ∷ cs) [] e = absurd (no_change_ends c (canonical_each cs ++ 93 ∷ []) [] (sym (append_assoc (canonical_change c) (canonical_each cs) (93 ∷ [])) ∙ e))
each_read (c ∷ cs) (d ∷ ds) e =
    let first : (c ≡ d) × (canonical_each cs ++ 93 ∷ [] ≡ canonical_each ds ++ 93 ∷ [])
    = change_read c d (canonical_each cs ++ 93 ∷ []) (canonical_each ds ++ 93 ∷ []) (sym (append_assoc (canonical_change c) (canonical_each cs) (93 ∷ [])) ∙ (e ∙ append_assoc (canonical_change d) (canonical_each ds) (93 ∷ []))) in
    let others : cs ≡ ds = each_read cs ds first.1 in
    rw (first.0, others) refl

pub changes_told : (cs ds : List CanonicalChange) → canonical_changes cs ≡ canonical_changes ds → cs ≡ ds
changes_told cs ds e = each_read cs ds (inside e)
