-- The place behind the turn with which so many run.
use Rattle.std.proofs.Common.{List, Option, Some, None, [], ap, arith, false, get_or, length, nat_lt, refl, rules, suc, true, zero, ℕ, ◌+◌, ◌++◌, ◌<◌, ◌∙◌, ◌∷◌, ◌≡◌, ◌≤◌}
use Rattle.std.specs.Prelude.{if◌then◌else◌}
use Rattle.lq_base.specs.declared.tracking.Tracked.{Tracked}
use Rattle.lq_any.specs.declared.any_change.AnyChange.{AnyChange}
use Rattle.lq_plan.specs.Told.{item_at, work, work_from}
use Rattle.lq_plan.specs.declared.turns.Item.{Item}
use Rattle.lq_portion.specs.Portion.{up_to}
use Rattle.lq_turns.specs.Set.{Set}
use Rattle.lq_turns.specs.Settle.{what}
use Rattle.lq_turns.specs.Stops.{is_to_run}
use Rattle.lq_turns.specs.declared.choice.What.{What}
use Rattle.lq_turns.specs.declared.choice.What.TheVariants.{Again, Fill, New}

abbrev pub behind : ℕ → ℕ → ℕ
behind place all = if nat_lt place all then suc place else all

-- behind the item with which so many run, or behind all
abbrev pub place_in : ℕ → List Item → ℕ → ℕ
place_in zero items all = 0
place_in (suc n) [] all = all
place_in (suc zero) (i ∷ items) all = if is_to_run (Some i.what) then behind i.index all else place_in (suc zero) items all
place_in (suc (suc n)) (i ∷ items) all = if is_to_run (Some i.what) then place_in (suc n) items all else place_in (suc (suc n)) items all

-- the steps of the loop

pub skipped : (n : ℕ) (i : Item) (items : List Item) (all : ℕ) → is_to_run (Some i.what) ≡ false → place_in n (i ∷ items) all ≡ place_in n items all
skipped zero i items all passes = refl
skipped (suc zero) i items all passes = rw passes refl
skipped (suc (suc n)) i items all passes = rw passes refl

pub reached : (i : Item) (items : List Item) (all : ℕ) → is_to_run (Some i.what) ≡ true → place_in 1 (i ∷ items) all ≡ behind i.index all
reached i items all runs = rw runs refl

pub counted_one : (n : ℕ) (i : Item) (items : List Item) (all : ℕ) → is_to_run (Some i.what) ≡ true → place_in (suc (suc n)) (i ∷ items) all ≡ place_in (suc n) items all
counted_one n i items all runs = rw runs refl

pub ended : (n all : ℕ) → 0 < n → place_in n [] all ≡ all
ended zero all lt = absurd (omega (arith, lt))
ended (suc n) all lt = refl

-- the place among the items is that among the changesets

is_behind : (k all : ℕ) → k < all → behind k all ≡ suc k
is_behind k all lt = let less : nat_lt k all ≡ true = search (rules, lt) in rw less refl

step : (n k : ℕ) (w : Option What) (items : List Item) (all : ℕ) (xs : List (Set AnyChange)) (rows : List Tracked) → k < all → ((m : ℕ) → place_in (suc m) items all ≡ suc k + up_to (suc m) xs rows)
    → place_in (suc n) (item_at k w ++ items) all ≡ k + suc (if is_to_run w then up_to n xs rows else up_to (suc n) xs rows)
step n k None items all xs rows lt more = more n ∙ omega arith
step zero k (Some New) items all xs rows lt more = is_behind k all lt ∙ omega arith
step zero k (Some Again) items all xs rows lt more = is_behind k all lt ∙ omega arith
step zero k (Some Fill) items all xs rows lt more = more 0 ∙ omega arith
step (suc n) k (Some New) items all xs rows lt more = more n ∙ omega arith
step (suc n) k (Some Again) items all xs rows lt more = more n ∙ omega arith
step (suc n) k (Some Fill) items all xs rows lt more = more (suc n) ∙ omega arith

from : (n k : ℕ) (xs : List (Set AnyChange)) (rows : List Tracked) (all : ℕ) → all ≡ k + length xs → place_in (suc n) (work_from k xs rows) all ≡ k + up_to (suc n) xs rows
from n k [] rows all is = is
from n k (x ∷ xs) rows all is = step n k (what x rows) (work_from (suc k) xs rows) all xs rows (omega (arith, is)) (λ m. from m (suc k) xs rows all (omega (arith, is)))

pub place_is : (n : ℕ) (xs : List (Set AnyChange)) (rows : List Tracked) (all : ℕ) → all ≡ length xs → place_in n (work xs rows) all ≡ up_to n xs rows
place_is zero xs rows all is = refl
place_is (suc n) xs rows all is = from n 0 xs rows all (omega (arith, is)) ∙ omega arith

-- the ends of the loop

pub none_left : (n all : ℕ) (items : List Item) → 0 < n → length items < 1 → place_in n items all ≡ all
none_left n all [] lt none = ended n all lt
none_left n all (i ∷ items) lt none = absurd (omega (arith, none))

pub first_reached : (n : ℕ) (items : List Item) (d : Item) (all : ℕ) → n ≡ 1 → 1 ≤ length items → is_to_run (Some (get_or items 0 d).what) ≡ true → place_in n items all ≡ behind (get_or items 0 d).index all
first_reached n [] d all is some runs = absurd (omega (arith, some))
first_reached n (i ∷ items) d all is some runs = ap (λ (k : ℕ). place_in k (i ∷ items) all) is ∙ reached i items all runs
