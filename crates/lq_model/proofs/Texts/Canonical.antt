-- Worked examples: the canonical texts of changes, and of each sort of value.
use Rattle.std.specs.Prelude.{◌≡◌, ◌++◌, [], ◌∷◌, codes, false, length, neg_ℤ, pos, refl, true}
use Rattle.lq_model.proofs.Texts.Spell.{e_acute}
use Rattle.lq_model.specs.Changes.{CanonicalChange, atom, canonical, canonical_changes, decimal_digits, list, map_of, no_pairs, no_values, numeral, number, pair, text, truth, value}

abbrev drop_t : CanonicalChange
drop_t = record { name = codes "dropTable"; pairs = pair (codes "tableName") (text (codes "t")) no_pairs }

-- no change, one, and two; a change without keys
pub changes_written :
    (canonical_changes [] ≡ codes "[]")
    × (canonical_changes (drop_t ∷ []) ≡ codes "[9:dropTable{9:tableNamet1:t}]")
    × (length (canonical_changes (drop_t ∷ [])) ≡ 30)
    × (canonical_changes (drop_t ∷ record { name = codes "empty"; pairs = no_pairs } ∷ []) ≡ codes "[9:dropTable{9:tableNamet1:t}5:empty{}]")
unfolding atom numeral decimal_digits
changes_written = (refl, refl, refl, refl)

-- lengths are counted in bytes
pub values_written :
    (canonical (text []) ≡ codes "t0:")
    × (canonical (text e_acute) ≡ codes "t2:" ++ e_acute)
    × (canonical (text (codes "twelve bytes")) ≡ codes "t12:twelve bytes")
    × (canonical (number (pos 0)) ≡ codes "n1:0")
    × (canonical (number (pos 120)) ≡ codes "n3:120")
    × (canonical (number (neg_ℤ (pos 5))) ≡ codes "n2:-5")
    × (canonical (truth false) ≡ codes "b0")
    × (canonical (truth true) ≡ codes "b1")
    × (canonical (list no_values) ≡ codes "[]")
    × (canonical (list (value (text (codes "a")) (value (text (codes "b")) no_values))) ≡ codes "[t1:at1:b]")
    × (canonical (map_of no_pairs) ≡ codes "{}")
    × (canonical (map_of (pair (codes "columns") (list (value (map_of (pair (codes "name") (text (codes "id")) no_pairs)) no_values)) no_pairs)) ≡ codes "{7:columns[{4:namet2:id}]}")
unfolding atom numeral decimal_digits
values_written = (refl, refl, refl, refl, refl, refl, refl, refl, refl, refl, refl, refl)
