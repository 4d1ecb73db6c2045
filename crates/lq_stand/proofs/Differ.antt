-- Rows of which no two have one identity or one place stay so, where a new row has an identity and a place that none has.
use Rattle.std.proofs.Common.{ap, arith, sym, ◌∙◌}
use Rattle.std.proofs.lemmas.Bool.Decides.{nat_tests}
use Rattle.std.specs.List.{filter, list_all, list_any}
use Rattle.std.specs.Prelude.{Bool, Err, List, Ok, Result, Some, [], cond, false, if◌then◌else◌, length, map, nat_eq, nat_lt, not, refl, true, ℕ, ◌++◌, ◌||◌, ◌∷◌, ◌≡◌, ◌<◌, ◌≤◌}
use Rattle.std.proofs.lemmas.List.{append-nil}
use Rattle.lq_base.specs.declared.dialect.Dialect.{Dialect}
use Rattle.lq_base.specs.declared.identity.Identity.{Identity}
use Rattle.lq_base.specs.declared.reason.Reason.{Reason}
use Rattle.lq_base.specs.declared.reason.Reason.TheVariants.{TooManyRows, TooWide}
use Rattle.lq_base.specs.declared.tracking.Tracked.{Tracked}
use Rattle.lq_model.proofs.DropKeeps.{any_filtered}
use Rattle.lq_model.proofs.Lists.{and_left, and_true, any-append, any-map, any_same, or_false, or_left, or_right}
use Rattle.lq_model.specs.Catalogue.{Catalogue}
use Rattle.lq_track.specs.Database.{has_twin_rows, same_identity}
use Rattle.lq_track.specs.Log.{identity_of}
use Rattle.lq_turns.proofs.RowsFound.{same_is}
use Rattle.lq_turns.specs.Deed.{Contents, filled, has_place, is_of, others, renewed, rows_after, tagged, theirs, without_sum}
use Rattle.lq_turns.specs.Set.{has_row}
use Rattle.lq_turns.specs.Settle.{greatest}
use Rattle.lq_turns.specs.Turn.{Course, Ending, Finished, Stuck, Through, contents_in, course, ending, is_marked, kept, refused, row_ending}
use Rattle.lq_turns.specs.declared.deed.OnRows.{OnRows}
use Rattle.lq_turns.specs.declared.deed.OnRows.TheVariants.{Cleared, Deleted, Filled, Inserted, Renewed, Tagged}
use Rattle.lq_turns.specs.declared.turn.Turn.{Turn}
use Rattle.lq_beside.proofs.OneRow.{once_apart}

ok_same : {A : Type 0} {x y : A} → (let r : Result A Reason = Ok x in r) ≡ Ok y → x ≡ y
ok_same e = Prim.cc

not_ok : {A : Type 0} {r : Reason} {y : A} → (let z : Result A Reason = Err r in z) ≡ Ok y → ⊥
not_ok e = Prim.cc

abbrev is_twin : Tracked → Tracked → Bool
is_twin r s = same_identity (identity_of r) (identity_of s) || nat_eq r.order s.order

-- a row of another identity in a later place

below : (a b : ℕ) → a < b → nat_eq a b ≡ false
below a b less = grind (arith, nat_tests, less)

pub one_more_differs : (rows : List Tracked) (row : Tracked) → has_twin_rows rows ≡ false → has_row rows (identity_of row) ≡ false → greatest rows < row.order → has_twin_rows (rows ++ row ∷ []) ≡ false
one_more_differs [] row differ none less = refl
one_more_differs (r ∷ rows) row differ none less =
    or_false _ _
    (any-append (is_twin r) rows (row ∷ []) ∙ or_false _ _ (or_left (list_any (is_twin r) rows) _ differ)
    (or_false _ _ (or_false _ _ (or_left (is_of (identity_of row) r) _ none) (below r.order row.order (omega (arith, less)))) refl))
    (one_more_differs rows row (or_right (list_any (is_twin r) rows) _ differ) (or_right (is_of (identity_of row) r) _ none) (omega (arith, less)))

-- fewer rows

pub fewer_differ : (p : Tracked → Bool) (rows : List Tracked) → has_twin_rows rows ≡ false → has_twin_rows (filter p rows) ≡ false
fewer_differ p [] differ = refl
fewer_differ p (r ∷ rows) differ = elim (p r) as (λ b. has_twin_rows (cond b (r ∷ filter p rows) (filter p rows)) ≡ false) [
  | true ↦ or_false _ _ (any_filtered (is_twin r) p rows (or_left (list_any (is_twin r) rows) _ differ)) (fewer_differ p rows (or_right (list_any (is_twin r) rows) _ differ))
  | false ↦ fewer_differ p rows (or_right (list_any (is_twin r) rows) _ differ)
]

greatest_fewer : (p : Tracked → Bool) (rows : List Tracked) → greatest (filter p rows) ≤ greatest rows
greatest_fewer p [] = omega arith
greatest_fewer p (r ∷ rows) = let more = greatest_fewer p rows in elim (p r) as (λ b. greatest (cond b (r ∷ filter p rows) (filter p rows)) ≤ greatest (r ∷ rows)) [
  | true ↦ omega (arith, more)
  | false ↦ omega (arith, more)
]

-- rows that change neither identity nor place

module _ (f : Tracked → Tracked) (ids : (r : Tracked) → identity_of (f r) ≡ identity_of r) (places : (r : Tracked) → (f r).order ≡ r.order) where
  twin_same : (r s : Tracked) → is_twin (f r) (f s) ≡ is_twin r s
  twin_same r s =
      ap (λ i. same_identity i (identity_of (f s)) || nat_eq (f r).order (f s).order) (ids r)
      ∙ ap (λ i. same_identity (identity_of r) i || nat_eq (f r).order (f s).order) (ids s)
      ∙ ap (λ n. same_identity (identity_of r) (identity_of s) || nat_eq n (f s).order) (places r)
      ∙ ap (λ n. same_identity (identity_of r) (identity_of s) || nat_eq r.order n) (places s)

  pub changed_same : (rows : List Tracked) → has_twin_rows (map f rows) ≡ has_twin_rows rows
  changed_same [] = refl
  changed_same (r ∷ rows) =
      ap (λ b. b || has_twin_rows (map f rows)) (any-map (is_twin (f r)) f rows ∙ any_same (λ s. is_twin (f r) (f s)) (is_twin r) rows (twin_same r))
      ∙ ap (λ b. list_any (is_twin r) rows || b) (changed_same rows)

-- a row that is renewed is the only one of its identity, and goes behind the others

none_left : (of : Identity) (rows : List Tracked) → has_row (others of rows) of ≡ false
none_left of [] = refl
none_left of (r ∷ rows) = by (is_of of r) refl (none_left of rows) where
  by : (b : Bool) → is_of of r ≡ b → has_row (others of rows) of ≡ false → has_row (cond (not b) (r ∷ others of rows) (others of rows)) of ≡ false
  by true is more = more
  by false is more = or_false _ _ is more

all_theirs : (of : Identity) (rows : List Tracked) → list_all (is_of of) (theirs of rows) ≡ true
all_theirs of [] = refl
all_theirs of (r ∷ rows) = by (is_of of r) refl (all_theirs of rows) where
  by : (b : Bool) → is_of of r ≡ b → list_all (is_of of) (theirs of rows) ≡ true → list_all (is_of of) (cond b (r ∷ theirs of rows) (theirs of rows)) ≡ true
  by true is more = and_true _ _ is more
  by false is more = more

too_many : (r s : Tracked) (rows : List Tracked) → length (r ∷ s ∷ rows) ≤ 1 → ⊥
too_many r s rows few = grind (arith, few)

renewed_differs : (row : Tracked) (of : Identity) (rows : List Tracked) → has_twin_rows rows ≡ false → greatest rows < row.order → has_twin_rows (others of rows ++ map (renewed row) (theirs of rows)) ≡ false
renewed_differs row of rows differ less = by (theirs of rows) (all_theirs of rows) (once_apart rows differ of) where
  others_differ : has_twin_rows (others of rows) ≡ false
  others_differ = fewer_differ (λ r. not (is_of of r)) rows differ

  before : greatest (others of rows) < row.order
  before = let fewer = greatest_fewer (λ r. not (is_of of r)) rows in omega (arith, less, fewer)

  by : (ts : List Tracked) → list_all (is_of of) ts ≡ true → length ts ≤ 1 → has_twin_rows (others of rows ++ map (renewed row) ts) ≡ false
  by [] all few = ap has_twin_rows (append-nil (others of rows)) ∙ others_differ
  by (r ∷ []) all few = one_more_differs (others of rows) (renewed row r) others_differ (ap (λ i. list_any (is_of i) (others of rows)) (same_is (identity_of r) of (and_left (is_of of r) _ all)) ∙ none_left of rows) before
  by (r ∷ s ∷ ts) all few = absurd (too_many r s ts few)

-- what each deed on rows asks of them

abbrev pub Adds : OnRows → List Tracked → Type 0
Adds (Inserted row) rows = (has_row rows (identity_of row) ≡ false) × (greatest rows < row.order)
Adds (Renewed row) rows = greatest rows < row.order
Adds (Deleted of) rows = Unit {0}
Adds (Filled of sum) rows = Unit {0}
Adds (Tagged of tag) rows = Unit {0}
Adds Cleared rows = Unit {0}

filled_differ : (of : Identity) (sum : List ℕ) (rows : List Tracked) → has_twin_rows (map (filled of sum) rows) ≡ has_twin_rows rows
filled_differ of sum rows = changed_same (filled of sum)
    (λ r. elim (is_of of r) as (λ b. identity_of (if b then record r { md5sum = Some sum } else r) ≡ identity_of r) [ true ↦ refl | false ↦ refl ])
    (λ r. elim (is_of of r) as (λ b. (if b then record r { md5sum = Some sum } else r).order ≡ r.order) [ true ↦ refl | false ↦ refl ]) rows

pub tagged_differ : (of : Identity) (tag : List ℕ) (rows : List Tracked) → has_twin_rows (map (tagged of tag) rows) ≡ has_twin_rows rows
tagged_differ of tag rows = changed_same (tagged of tag)
    (λ r. elim (is_of of r) as (λ b. identity_of (if b then record r { tag = Some tag } else r) ≡ identity_of r) [ true ↦ refl | false ↦ refl ])
    (λ r. elim (is_of of r) as (λ b. (if b then record r { tag = Some tag } else r).order ≡ r.order) [ true ↦ refl | false ↦ refl ]) rows

cleared_differ : (rows : List Tracked) → has_twin_rows (map without_sum rows) ≡ has_twin_rows rows
cleared_differ rows = changed_same without_sum (λ r. refl) (λ r. refl) rows

pub differ_after : (w : OnRows) (rows now : List Tracked) → Adds w rows → has_twin_rows rows ≡ false → rows_after w rows ≡ Ok now → has_twin_rows now ≡ false
differ_after (Inserted row) rows now adds differ is = by (has_place row) (nat_lt (length rows) 100000) is where
  by : (a b : Bool) → (let r : Result (List Tracked) Reason = if a then (if b then Ok (rows ++ row ∷ []) else Err TooManyRows) else Err TooWide in r) ≡ Ok now → has_twin_rows now ≡ false
  by true true e = ap has_twin_rows (sym (ok_same e)) ∙ one_more_differs rows row differ adds.0 adds.1
  by true false e = absurd (not_ok e)
  by false b e = absurd (not_ok e)
differ_after (Renewed row) rows now adds differ is = by (has_place row) is where
  by : (a : Bool) → (let r : Result (List Tracked) Reason = if a then Ok (others (identity_of row) rows ++ map (renewed row) (theirs (identity_of row) rows)) else Err TooWide in r) ≡ Ok now → has_twin_rows now ≡ false
  by true e = ap has_twin_rows (sym (ok_same e)) ∙ renewed_differs row (identity_of row) rows differ adds
  by false e = absurd (not_ok e)
differ_after (Deleted of) rows now adds differ is = ap has_twin_rows (sym (ok_same is)) ∙ fewer_differ (λ r. not (is_of of r)) rows differ
differ_after (Filled of sum) rows now adds differ is = ap has_twin_rows (sym (ok_same is)) ∙ filled_differ of sum rows ∙ differ
differ_after (Tagged of tag) rows now adds differ is = ap has_twin_rows (sym (ok_same is)) ∙ tagged_differ of tag rows ∙ differ
differ_after Cleared rows now adds differ is = ap has_twin_rows (sym (ok_same is)) ∙ cleared_differ rows ∙ differ

-- and a turn that does it
pub differ_ending : (d : Dialect) (turn : Turn) (c : Contents) → Adds turn.row c.rows → has_twin_rows c.rows ≡ false → has_twin_rows (contents_in (ending d turn c)).rows ≡ false
differ_ending d turn c adds differ = by (course d turn.statements c.users) where
  by_rows : (users : Catalogue) (q : Result (List Tracked) Reason) → rows_after turn.row c.rows ≡ q
      → has_twin_rows (contents_in (elim q as (λ _. Ending) [ Ok rows ↦ Finished (record { users = users; rows = rows }) | Err reason ↦ refused d turn.statements (kept d turn turn.statements false) reason c ])).rows ≡ false
  by_rows users (Ok rows) is = differ_after turn.row c.rows rows adds differ is
  by_rows users (Err reason) is = differ

  by : (q : Course) → has_twin_rows (contents_in (elim q as (λ _. Ending) [ Through users ↦ row_ending d turn users c | Stuck before s reason ↦ refused d before (kept d turn before (is_marked d turn s)) reason c ])).rows ≡ false
  by (Through users) = by_rows users (rows_after turn.row c.rows) refl
  by (Stuck before s reason) = differ
