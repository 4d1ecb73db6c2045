-- The last place in run order after a deed on rows.
use Rattle.std.proofs.Common.{ap, arith, refl, ◌≡◌, ◌≤◌, ◌∙◌, ◌+◌, ◌∷◌, ◌++◌, Bool, cond, false, true, not, List, [], None, Option, Some, map, max, ℕ}
use Rattle.lq_base.specs.declared.identity.Identity.{Identity}
use Rattle.lq_base.specs.declared.tracking.Tracked.{Tracked}
use Rattle.lq_turns.specs.Deed.{filled, is_of, others, renewed, theirs}
use Rattle.lq_turns.specs.Set.{row_at}
use Rattle.lq_turns.specs.Settle.{greatest}

pub greatest-append : (rows more : List Tracked) → greatest (rows ++ more) ≡ max (greatest rows) (greatest more)
greatest-append [] more = omega arith
greatest-append (row ∷ rows) more = let rest = greatest-append rows more in omega arith

module _ (of : Identity) where
  pub others_below : (rows : List Tracked) → greatest (others of rows) ≤ greatest rows
  others_below [] = omega arith
  others_below (row ∷ rows) = by (is_of of row) (others_below rows) where
    by : (its : Bool) → greatest (others of rows) ≤ greatest rows → greatest (cond (not its) (row ∷ others of rows) (others of rows)) ≤ max row.order (greatest rows)
    by true rest = omega arith
    by false rest = omega arith

  renewed_below : (new : Tracked) (rows : List Tracked) → greatest (map (renewed new) rows) ≤ new.order
  renewed_below new [] = omega arith
  renewed_below new (row ∷ rows) = let rest = renewed_below new rows in omega arith

  renewed_first : (new row : Tracked) (rows : List Tracked) → greatest (map (renewed new) (row ∷ rows)) ≡ new.order
  renewed_first new row rows = let rest = renewed_below new rows in omega arith

  no_row : {A : Type 0} {old : Tracked} → (let none : Option Tracked = None in none) ≡ Some old → A
  no_row e = Prim.cc

  their_place : (new : Tracked) (rows : List Tracked) (old : Tracked) → row_at of rows ≡ Some old → greatest (map (renewed new) (theirs of rows)) ≡ new.order
  their_place new [] old is = no_row is
  their_place new (row ∷ rows) old is = by (is_of of row) (λ q. their_place new rows old q) is where
    by : (its : Bool) → (row_at of rows ≡ Some old → greatest (map (renewed new) (theirs of rows)) ≡ new.order) → cond its (Some row) (row_at of rows) ≡ Some old
        → greatest (map (renewed new) (cond its (row ∷ theirs of rows) (theirs of rows))) ≡ new.order
    by true rest q = renewed_first new row (theirs of rows)
    by false rest q = rest q

  pub renewed_last : (new : Tracked) (rows : List Tracked) (old : Tracked) → row_at of rows ≡ Some old → new.order ≡ greatest rows + 1 → greatest (others of rows ++ map (renewed new) (theirs of rows)) ≡ greatest rows + 1
  renewed_last new rows old is place =
      let both = greatest-append (others of rows) (map (renewed new) (theirs of rows)) in
      let below = others_below rows in
      let their = their_place new rows old is in
      omega arith

  filled_order : (sum : List ℕ) (row : Tracked) → (filled of sum row).order ≡ row.order
  filled_order sum row = by (is_of of row) where
    by : (its : Bool) → (cond its (record row { md5sum = Some sum }) row).order ≡ row.order
    by true = refl
    by false = refl

  pub filled_last : (sum : List ℕ) (rows : List Tracked) → greatest (map (filled of sum) rows) ≡ greatest rows
  filled_last sum [] = refl
  filled_last sum (row ∷ rows) = ap (λ n. max n (greatest (map (filled of sum) rows))) (filled_order sum row) ∙ ap (max row.order) (filled_last sum rows)

pub inserted_last : (rows : List Tracked) (new : Tracked) → new.order ≡ greatest rows + 1 → greatest (rows ++ new ∷ []) ≡ greatest rows + 1
inserted_last rows new place = let both = greatest-append rows (new ∷ []) in omega arith
