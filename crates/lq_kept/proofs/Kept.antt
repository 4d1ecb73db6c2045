-- The last row with a tag, looked for from the last row on.
use Rattle.std.proofs.Common.{ap, sym, refl, ◌≡◌, ◌∙◌, ◌++◌, true, false, List, [], ◌∷◌, ℕ, suc, length, Option, Some, None}
use Rattle.std.specs.Prelude.{if◌then◌else◌}
use Rattle.lq_base.specs.declared.tracking.Tracked.{Tracked}
use Rattle.lq_turns.specs.Script.{has_tag, tagged_place}

abbrev one : Option ℕ
one = Some 1

tagged_behind : (tag : List ℕ) (front : List Tracked) (row : Tracked) → tagged_place tag (front ++ row ∷ []) ≡ (if has_tag tag row.tag then Some (length (front ++ row ∷ [])) else tagged_place tag front)
tagged_behind tag [] row = refl
tagged_behind tag (r ∷ front) row =
    rw (tagged_behind tag front row) (elim (has_tag tag row.tag) as (λ b. (elim (if b then Some (length (front ++ row ∷ [])) else tagged_place tag front) [ Some n ↦ Some (suc n) | None ↦ if has_tag tag r.tag then one else None ]) ≡ (if b then Some (suc (length (front ++ row ∷ []))) else tagged_place tag (r ∷ front))) [
      | true ↦ refl
      | false ↦ refl
    ])

pub tag_found : (tag : List ℕ) (rows rest front : List Tracked) (row : Tracked) → rest ≡ front ++ row ∷ [] → has_tag tag row.tag ≡ true → tagged_place tag rest ≡ tagged_place tag rows → (let o : Option ℕ = Some (length rest) in o) ≡ tagged_place tag rows
tag_found tag rows rest front row is has so = sym (ap (tagged_place tag) is ∙ (tagged_behind tag front row ∙ (rw (has, is) refl))) ∙ so

pub tag_passed : (tag : List ℕ) (rows rest front : List Tracked) (row : Tracked) → rest ≡ front ++ row ∷ [] → has_tag tag row.tag ≡ false → tagged_place tag rest ≡ tagged_place tag rows → tagged_place tag front ≡ tagged_place tag rows
tag_passed tag rows rest front row is has so = sym (ap (tagged_place tag) is ∙ (tagged_behind tag front row ∙ (rw has refl))) ∙ so

pub tag_missing : (tag : List ℕ) (rows rest : List Tracked) → length rest ≡ 0 → tagged_place tag rest ≡ tagged_place tag rows → (let o : Option ℕ = None in o) ≡ tagged_place tag rows
tag_missing tag rows [] is so = so
tag_missing tag rows (row ∷ rest) is so = Prim.cc
