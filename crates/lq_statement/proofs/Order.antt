-- Items in order, read with the least rank that the next may have.
use Rattle.std.proofs.Common.{◌≡◌, ◌≤◌, ℕ, nat_le, Bool, true, false, ◌&&◌, List, [], ◌∷◌, ap, ◌∙◌, sym, refl, arith}
use Rattle.std.specs.List.{list_all}
use Rattle.std.proofs.Math.Bool.{and-false}
use Rattle.std.proofs.lemmas.Bool.{and_from, and_parts, le-leb, leb-true}
use Rattle.lq_model.specs.SqlTable.{are_ordered, rank}
use Rattle.lq_model.specs.declared.table_item.TableItem.{TableItem}

abbrev pub are_ordered_from : ℕ → List TableItem → Bool
are_ordered_from least [] = true
are_ordered_from least (it ∷ items) = nat_le least (rank it) && are_ordered_from (rank it) items

abbrev are_from : ℕ → List TableItem → Bool
are_from least items = list_all (λ it. nat_le least (rank it)) items

from_less : (n m : ℕ) → n ≤ m → (xs : List TableItem) → are_from m xs ≡ true → are_from n xs ≡ true
from_less n m le [] all = refl
from_less n m le (x ∷ xs) all =
    let parts = and_parts (nat_le m (rank x)) (are_from m xs) all in
    let high : m ≤ rank x = leb-true m (rank x) parts.0 in
    and_from (nat_le n (rank x)) (are_from n xs) (le-leb n (rank x) (omega arith)) (from_less n m le xs parts.1)

all_from : (xs : List TableItem) → are_from 0 xs ≡ true
all_from [] = refl
all_from (x ∷ xs) = and_from (nat_le 0 (rank x)) (are_from 0 xs) (le-leb 0 (rank x) (omega arith)) (all_from xs)

ordered_from : (n : ℕ) (xs : List TableItem) → are_ordered_from n xs ≡ (are_from n xs && are_ordered xs)
ordered_from n [] = refl
ordered_from n (x ∷ xs) = ap (λ z. nat_le n (rank x) && z) (ordered_from (rank x) xs) ∙ by (nat_le n (rank x)) refl (are_from (rank x) xs) refl
  where
    by : (b : Bool) → nat_le n (rank x) ≡ b → (c : Bool) → are_from (rank x) xs ≡ c
        → (nat_le n (rank x) && (are_from (rank x) xs && are_ordered xs)) ≡ ((nat_le n (rank x) && are_from n xs) && (are_from (rank x) xs && are_ordered xs))
    by false is c more = rw is refl
    by true is false more = rw (is, more) (sym (and-false (are_from n xs)))
    by true is true more = rw (is, more, from_less n (rank x) (leb-true n (rank x) is) xs more) refl

-- with no bound at first
pub ordered_is : (xs : List TableItem) → are_ordered_from 0 xs ≡ are_ordered xs
ordered_is xs = ordered_from 0 xs ∙ ap (λ z. z && are_ordered xs) (all_from xs)
