-- The rows that a rollback takes back.
use Rattle.std.proofs.Common.{ap, arith, sym, subst, ◌≡◌, ◌∙◌, ◌≤◌, Bool, true, false, List, [], ◌∷◌, Option, Some, None, option_map, length, drop, suc, ℕ}
use Rattle.std.specs.Prelude.{if◌then◌else◌, int_lt, reverse, ℤ}
use Rattle.lq_base.specs.declared.command.Target.{Target}
use Rattle.lq_base.specs.declared.command.Target.TheVariants.{Count, Date, Tag}
use Rattle.lq_base.specs.declared.tracking.Tracked.{Tracked}
use Rattle.lq_turns.specs.Script.{has_tag, places_until, rows_kept, rows_undone, tagged_place}

-- no more rows stay than there are

abbrev Fits : ℕ → Option ℕ → Type 0
Fits most None = Unit {0}
Fits most (Some n) = n ≤ most

tag_passed : (most : ℕ) (own : Bool) (later : Option ℕ) → Fits most later → Fits (suc most) (elim later [ Some n ↦ Some (suc n) | None ↦ if own then Some 1 else None ])
tag_passed most own (Some n) fits = omega (arith, fits)
tag_passed most true None fits = omega arith
tag_passed most false None fits = tt

tag_fits : (tag : List ℕ) (rows : List Tracked) → Fits (length rows) (tagged_place tag rows)
tag_fits tag [] = tt
tag_fits tag (row ∷ rows) = tag_passed (length rows) (has_tag tag row.tag) (tagged_place tag rows) (tag_fits tag rows)

date_passed : (most : ℕ) (is_later : Bool) (n : ℕ) → n ≤ most → (if is_later then 0 else suc n) ≤ suc most
date_passed most true n fits = omega arith
date_passed most false n fits = omega (arith, fits)

date_fits : (at : ℤ) (rows : List Tracked) → places_until at rows ≤ length rows
date_fits at [] = omega arith
date_fits at (row ∷ rows) = date_passed (length rows) (int_lt at row.date) (places_until at rows) (date_fits at rows)

all_fit : (target : Target) (rows : List Tracked) → Fits (length rows) (rows_kept target rows)
all_fit (Tag tag) rows = tag_fits tag rows
all_fit (Count n) rows = omega arith
all_fit (Date at) rows = date_fits at rows

pub stay_fits : (target : Target) (rows : List Tracked) (stay : ℕ) → rows_kept target rows ≡ Some stay → stay ≤ length rows
stay_fits target rows stay is = subst (Fits (length rows)) is (all_fit target rows)

pub all_undone : (target : Target) (rows left : List Tracked) (stay : ℕ) → rows_kept target rows ≡ Some stay → left ≡ drop stay rows → option_map (λ n. rows_undone n rows) (rows_kept target rows) ≡ Some (reverse left)
all_undone target rows left stay is cut = ap (option_map (λ n. rows_undone n rows)) is ∙ ap (λ (rs : List Tracked). let o : Option (List Tracked) = Some (reverse rs) in o) (sym cut)
