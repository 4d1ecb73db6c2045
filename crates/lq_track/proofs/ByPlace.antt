-- Rows in a map by their orders, those of one order by their places from the last.
use Rattle.std.proofs.Common.{ap, arith, length, length-append, rules, subst, suc, sym, tests, ◌∙◌}
use Rattle.std.proofs.lemmas.List.{append-nil, append_assoc}
use Rattle.std.specs.BTreeMap.{insert_entry}
use Rattle.std.specs.Map.{values_of}
use Rattle.std.specs.Ordering.{match_ordering, nat_cmp, ordering_then}
use Rattle.std.specs.Prelude.{Bool, List, [], cond, false, nat_eq, nat_lt, refl, true, ℕ, ◌++◌, ◌-◌, ◌<◌, ◌≤◌, ◌∷◌, ◌≡◌}
use Rattle.std.specs.declared.cmp.Ordering.{Ordering}
use Rattle.std.specs.declared.cmp.Ordering.TheVariants.{Equal, Greater, Less}
use Rattle.lq_base.specs.declared.tracking.Tracked.{Tracked}
use Rattle.lq_track.specs.Database.{in_run_order, placed}

abbrev pub place_cmp : (ℕ × ℕ) → (ℕ × ℕ) → Ordering
place_cmp a b = ordering_then (nat_cmp a.0 b.0) (nat_cmp a.1 b.1)

-- each row is at its order, and at a place below n
abbrev pub ArePlaced : ℕ → List ((ℕ × ℕ) × Tracked) → Type 0
ArePlaced n [] = Unit {0}
ArePlaced n (e ∷ es) = (e.0.0 ≡ e.1.order) × (e.0.1 < n) × ArePlaced n es

further : (n : ℕ) (es : List ((ℕ × ℕ) × Tracked)) → ArePlaced n es → ArePlaced (suc n) es
further n [] all = tt
further n (e ∷ es) all = (all.0, omega (arith, all.1), further n es all.2)

above : (n k : ℕ) → k < n → nat_cmp n k ≡ Greater
above n k h =
    let least : nat_lt n k ≡ false = search (rules, tests) in
    let differ : nat_eq n k ≡ false = search (rules, tests) in
    ap (λ b. cond b Less (cond (nat_eq n k) Equal Greater)) least ∙ ap (λ b. cond b Equal Greater) differ

no_tie : (lt eq : Bool) → ordering_then (cond lt Less (cond eq Equal Greater)) Greater ≡ cond lt Less Greater
no_tie true eq = refl
no_tie false true = refl
no_tie false false = refl

-- a row that stands before all others goes behind those of its order
stands : (row : Tracked) (n : ℕ) (e : (ℕ × ℕ) × Tracked) → e.0.0 ≡ e.1.order → e.0.1 < n → place_cmp (row.order, n) e.0 ≡ cond (nat_lt row.order e.1.order) Less Greater
stands row n e is below =
    ap (λ o. ordering_then (nat_cmp row.order o) (nat_cmp n e.0.1)) is ∙ ap (λ c. ordering_then (nat_cmp row.order e.1.order) c) (above n e.0.1 below)
    ∙ no_tie (nat_lt row.order e.1.order) (nat_eq row.order e.1.order)

put_values : (row : Tracked) (n : ℕ) (es : List ((ℕ × ℕ) × Tracked)) → ArePlaced n es → values_of (insert_entry place_cmp es (row.order, n) row) ≡ placed row (values_of es)
put_values row n [] all = refl
put_values row n (e ∷ es) all =
    ap (λ o. values_of (match_ordering o (((row.order, n), row) ∷ e ∷ es) ((e.0, row) ∷ es) (e ∷ insert_entry place_cmp es (row.order, n) row))) (stands row n e all.0 all.1)
    ∙ at (nat_lt row.order e.1.order) (put_values row n es all.2) where
      at : (b : Bool) → values_of (insert_entry place_cmp es (row.order, n) row) ≡ placed row (values_of es)
          → values_of (match_ordering (cond b Less Greater) (((row.order, n), row) ∷ e ∷ es) ((e.0, row) ∷ es) (e ∷ insert_entry place_cmp es (row.order, n) row)) ≡ cond b (row ∷ e.1 ∷ values_of es) (e.1 ∷ placed row (values_of es))
      at true more = refl
      at false more = ap (λ rs. e.1 ∷ rs) more

put_placed : (row : Tracked) (n : ℕ) (es : List ((ℕ × ℕ) × Tracked)) → ArePlaced n es → ArePlaced (suc n) (insert_entry place_cmp es (row.order, n) row)
put_placed row n [] all = (refl, omega arith, tt)
put_placed row n (e ∷ es) all =
    subst (λ o. ArePlaced (suc n) (match_ordering o (((row.order, n), row) ∷ e ∷ es) ((e.0, row) ∷ es) (e ∷ insert_entry place_cmp es (row.order, n) row))) (sym (stands row n e all.0 all.1))
    (at (nat_lt row.order e.1.order) (further n (e ∷ es) all) (put_placed row n es all.2)) where
      at : (b : Bool) → ArePlaced (suc n) (e ∷ es) → ArePlaced (suc n) (insert_entry place_cmp es (row.order, n) row)
          → ArePlaced (suc n) (match_ordering (cond b Less Greater) (((row.order, n), row) ∷ e ∷ es) ((e.0, row) ∷ es) (e ∷ insert_entry place_cmp es (row.order, n) row))
      at true old more = (refl, omega arith, old)
      at false old more = (old.0, old.1, more)

-- the last of all rows are in the map
pub record Behind (count : ℕ) (all rest : List Tracked) (entries : List ((ℕ × ℕ) × Tracked)) : Type 0 where
  pub last : List Tracked
  pub was : all ≡ rest ++ last
  pub within : length rest ≤ count
  pub places : ArePlaced (suc (count - length rest)) entries
  pub ordered : values_of entries ≡ in_run_order last

pub behind_none : (count : ℕ) (all : List Tracked) (entries : List ((ℕ × ℕ) × Tracked)) → count ≡ length all → entries ≡ [] → Behind count all all entries
behind_none count all entries is none = record {
  last = [];
  was = sym (append-nil all);
  within = omega arith;
  places = subst (ArePlaced (suc (count - length all))) (sym none) tt;
  ordered = ap values_of none;
}

pub behind_one : (count : ℕ) (all old rest : List Tracked) (row : Tracked) (entries new : List ((ℕ × ℕ) × Tracked)) → old ≡ rest ++ row ∷ []
    → new ≡ insert_entry place_cmp entries (row.order, count - length rest) row → Behind count all old entries → Behind count all rest new
behind_one count all old rest row entries new is put_in b =
    let longer : length old ≡ suc (length rest) = omega (arith, ap length is, length-append rest (row ∷ [])) in
    let n : suc (count - length old) ≡ count - length rest = omega (arith, b.within) in
    let places : ArePlaced (count - length rest) entries = subst (λ n. ArePlaced n entries) n b.places in
    record {
      last = row ∷ b.last;
      was = b.was ∙ ap (λ rs. rs ++ b.last) is ∙ append_assoc rest (row ∷ []) b.last;
      within = omega (arith, b.within);
      places = subst (ArePlaced (suc (count - length rest))) (sym put_in) (put_placed row (count - length rest) entries places);
      ordered = ap values_of put_in ∙ put_values row (count - length rest) entries places ∙ ap (placed row) b.ordered;
    }

pub behind_all : (count : ℕ) (all old : List Tracked) (entries : List ((ℕ × ℕ) × Tracked)) → old ≡ [] → Behind count all old entries → values_of entries ≡ in_run_order all
behind_all count all old entries none b = b.ordered ∙ ap in_run_order (sym (b.was ∙ ap (λ rs. rs ++ b.last) none))

-- a row that stands before others, which are in order
pub in_order_on : (rest after : List Tracked) (row : Tracked) → rest ≡ row ∷ after → placed row after ≡ row ∷ after → in_run_order after ≡ after → in_run_order rest ≡ rest
in_order_on rest after row is stands so = rw is (ap (placed row) so ∙ stands)
