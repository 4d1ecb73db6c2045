-- No identity has two rows, and no turn gives it a second one.
use Rattle.std.proofs.Common.{ap, arith, subst, sym, ◌∙◌}
use Rattle.std.proofs.lemmas.List.{append-nil, length-append}
use Rattle.std.specs.List.{list_any}
use Rattle.std.specs.Prelude.{Bool, Err, List, None, Ok, Option, Result, Some, [], cond, false, if◌then◌else◌, length, map, nat_eq, nat_le, nat_lt, not, refl, suc, true, ℕ, ◌&&◌, ◌+◌, ◌++◌, ◌||◌, ◌∷◌, ◌≡◌, ◌≤◌}
use Rattle.lq_base.specs.Name.{is_named}
use Rattle.lq_base.specs.declared.dialect.Dialect.{Dialect}
use Rattle.lq_base.specs.declared.identity.Identity.{Identity}
use Rattle.lq_base.specs.declared.reason.Reason.{Reason}
use Rattle.lq_base.specs.declared.reason.Reason.TheVariants.{TooManyRows, TooWide}
use Rattle.lq_base.specs.declared.tracking.Tracked.{Tracked}
use Rattle.lq_model.proofs.Lists.{and_left, and_right, filter-append, or_left, or_right, same_name, true_false}
use Rattle.lq_turns.proofs.Undone.{one_itself}
use Rattle.lq_track.specs.Database.{has_twin_rows, same_identity}
use Rattle.lq_model.specs.Catalogue.{Catalogue}
use Rattle.lq_track.specs.Log.{identity_of}
use Rattle.lq_turns.specs.Deed.{Contents, filled, is_of, others, renewed, rows_after, theirs}
use Rattle.lq_turns.specs.Session.{before}
use Rattle.lq_turns.specs.Set.{row_at}
use Rattle.lq_turns.specs.declared.deed.OnRows.{OnRows}
use Rattle.lq_turns.specs.declared.deed.OnRows.TheVariants.{Cleared, Deleted, Filled, Inserted, Renewed, Tagged}
use Rattle.lq_turns.specs.declared.turn.Turn.{Turn}
use Rattle.lq_turns.specs.Turn.{Course, Ending, Finished, Stuck, Through, contents_in, course, ending, is_marked, kept, refused, row_ending}

ok_same : {A : Type 0} {x y : A} → (let r : Result A Reason = Ok x in r) ≡ Ok y → x ≡ y
ok_same e = Prim.cc

not_ok : {A : Type 0} {r : Reason} {y : A} → (let z : Result A Reason = Err r in z) ≡ Ok y → ⊥
not_ok e = Prim.cc

-- each identity has at most one row

abbrev pub Once : List Tracked → Type 0
Once rows = (of : Identity) → length (theirs of rows) ≤ 1

parts : (i of : Identity) (rows : List Tracked) → length (theirs of rows) ≡ length (theirs of (others i rows)) + length (theirs of (theirs i rows))
parts i of [] = refl
parts i of (r ∷ rows) = elim (is_of i r) as (λ a. length (theirs of (r ∷ rows)) ≡ length (theirs of (cond (not a) (r ∷ others i rows) (others i rows))) + length (theirs of (cond a (r ∷ theirs i rows) (theirs i rows)))) [
  | true ↦ elim (is_of of r) as (λ b. length (cond b (r ∷ theirs of rows) (theirs of rows)) ≡ length (theirs of (others i rows)) + length (cond b (r ∷ theirs of (theirs i rows)) (theirs of (theirs i rows)))) [
    | true ↦ omega (arith, parts i of rows)
    | false ↦ parts i of rows
  ]
  | false ↦ elim (is_of of r) as (λ b. length (cond b (r ∷ theirs of rows) (theirs of rows)) ≡ length (cond b (r ∷ theirs of (others i rows)) (theirs of (others i rows))) + length (theirs of (theirs i rows))) [
    | true ↦ omega (arith, parts i of rows)
    | false ↦ parts i of rows
  ]
]

-- a change that keeps whose each row is
kept_count : (f : Tracked → Tracked) (of : Identity) → ((r : Tracked) → is_of of (f r) ≡ is_of of r) → (rows : List Tracked) → length (theirs of (map f rows)) ≡ length (theirs of rows)
kept_count f of same [] = refl
kept_count f of same (r ∷ rows) = ap (λ b. length (cond b (f r ∷ theirs of (map f rows)) (theirs of (map f rows)))) (same r) ∙ elim (is_of of r) as (λ b. length (cond b (f r ∷ theirs of (map f rows)) (theirs of (map f rows))) ≡ length (cond b (r ∷ theirs of rows) (theirs of rows))) [
  | true ↦ ap suc (kept_count f of same rows)
  | false ↦ kept_count f of same rows
]

same_identity_is : (a b : Identity) → (is_named a.file b.file && (is_named a.id b.id && is_named a.author b.author)) ≡ true → a ≡ b
same_identity_is a b h =
    ap (λ f. record a { file = f }) (same_name a.file b.file (and_left _ _ h))
    ∙ ap (λ i. record a { file = b.file; id = i }) (same_name a.id b.id (and_left _ _ (and_right (is_named a.file b.file) _ h)))
    ∙ ap (λ n. record b { author = n }) (same_name a.author b.author (and_right (is_named a.id b.id) _ (and_right (is_named a.file b.file) _ h)))

none_theirs : (of : Identity) (rows : List Tracked) → row_at of rows ≡ None → theirs of rows ≡ []
none_theirs of [] h = refl
none_theirs of (r ∷ rows) h = elim (is_of of r) as (λ b. cond b (Some r) (row_at of rows) ≡ None → cond b (r ∷ theirs of rows) (theirs of rows) ≡ []) [
  | true ↦ λ q. absurd (some_none q)
  | false ↦ λ q. none_theirs of rows q
] h where
  some_none : {A : Type 0} {x : A} → (let o : Option A = Some x in o) ≡ None → ⊥
  some_none e = Prim.cc

one_added : (row : Tracked) (rows : List Tracked) → row_at (identity_of row) rows ≡ None → Once rows → Once (rows ++ row ∷ [])
one_added row rows none once of = by (is_of of row) refl where
  by : (b : Bool) → is_of of row ≡ b → length (theirs of (rows ++ row ∷ [])) ≤ 1
  by false is = subst (λ n. n ≤ 1) (sym (ap length (filter-append (is_of of) rows (row ∷ []) ∙ ap (λ x. theirs of rows ++ cond x (row ∷ []) []) is ∙ append-nil (theirs of rows)))) (once of)
  by true is =
      let same : theirs of rows ≡ [] = ap (λ i. theirs i rows) (sym (same_identity_is (identity_of row) of is)) ∙ none_theirs (identity_of row) rows none in
      subst (λ n. n ≤ 1) (sym (ap length (filter-append (is_of of) rows (row ∷ []) ∙ ap (λ x. theirs of rows ++ cond x (row ∷ []) []) is ∙ ap (λ xs. xs ++ row ∷ []) same))) (omega arith)

renewed_once : (row : Tracked) (i : Identity) (rows : List Tracked) → Once rows → Once (others i rows ++ map (renewed row) (theirs i rows))
renewed_once row i rows once of = omega (arith, once of, parts i of rows, kept_count (renewed row) of (λ r. refl) (theirs i rows), sizes) where
  sizes : length (theirs of (others i rows ++ map (renewed row) (theirs i rows))) ≡ length (theirs of (others i rows)) + length (theirs of (map (renewed row) (theirs i rows)))
  sizes = ap length (filter-append (is_of of) (others i rows) (map (renewed row) (theirs i rows))) ∙ length-append (theirs of (others i rows)) (theirs of (map (renewed row) (theirs i rows)))

filled_once : (i : Identity) (sum : List ℕ) (rows : List Tracked) → Once rows → Once (map (filled i sum) rows)
filled_once i sum rows once of = subst (λ n. n ≤ 1) (sym (kept_count (filled i sum) of (λ r. elim (is_of i r) as (λ b. is_of of (if b then record r { md5sum = Some sum } else r) ≡ is_of of r) [ true ↦ refl | false ↦ refl ]) rows)) (once of)

-- what each kind of turn asks of the rows
abbrev pub IsRight : OnRows → List Tracked → Type 0
IsRight (Inserted row) rows = row_at (identity_of row) rows ≡ None
IsRight (Deleted of) rows = ⊥
IsRight (Tagged of tag) rows = ⊥
IsRight Cleared rows = ⊥
IsRight (Renewed row) rows = Unit {0}
IsRight (Filled of sum) rows = Unit {0}

once_after : (w : OnRows) (rows now : List Tracked) → IsRight w rows → Once rows → rows_after w rows ≡ Ok now → Once now
once_after (Inserted row) rows now right once is = by (nat_le row.order 2147483647) (nat_lt (length rows) 100000) is where
  by : (a b : Bool) → (let r : Result (List Tracked) Reason = if a then (if b then Ok (rows ++ row ∷ []) else Err TooManyRows) else Err TooWide in r) ≡ Ok now → Once now
  by true true e = subst Once (ok_same e) (one_added row rows right once)
  by true false e = absurd (not_ok e)
  by false b e = absurd (not_ok e)
once_after (Renewed row) rows now right once is = by (nat_le row.order 2147483647) is where
  by : (a : Bool) → (let r : Result (List Tracked) Reason = if a then Ok (others (identity_of row) rows ++ map (renewed row) (theirs (identity_of row) rows)) else Err TooWide in r) ≡ Ok now → Once now
  by true e = subst Once (ok_same e) (renewed_once row (identity_of row) rows once)
  by false e = absurd (not_ok e)
once_after (Filled of sum) rows now right once is = subst Once (ok_same is) (filled_once of sum rows once)
once_after (Deleted of) rows now right once is = absurd right
once_after (Tagged of tag) rows now right once is = absurd right
once_after Cleared rows now right once is = absurd right

pub once_ending : (d : Dialect) (turn : Turn) (c : Contents) → IsRight turn.row c.rows → Once c.rows → Once (contents_in (ending d turn c)).rows
once_ending d turn c right once = by (course d turn.statements c.users) where
  by_rows : (users : Catalogue) (q : Result (List Tracked) Reason) → rows_after turn.row c.rows ≡ q
      → Once (contents_in (elim q as (λ _. Ending) [ Ok rows ↦ Finished (record { users = users; rows = rows }) | Err reason ↦ refused d turn.statements (kept d turn turn.statements false) reason c ])).rows
  by_rows users (Ok rows) is = once_after turn.row c.rows rows right once is
  by_rows users (Err reason) is = once

  by : (q : Course) → Once (contents_in (elim q as (λ _. Ending) [ Through users ↦ row_ending d turn users c | Stuck before s reason ↦ refused d before (kept d turn before (is_marked d turn s)) reason c ])).rows
  by (Through users) = by_rows users (rows_after turn.row c.rows) refl
  by (Stuck before s reason) = once

-- rows that differ in their identities

none_behind : (of : Identity) (r : Tracked) (rows : List Tracked) → is_of of r ≡ true → list_any (λ s. same_identity (identity_of r) (identity_of s) || nat_eq r.order s.order) rows ≡ false → theirs of rows ≡ []
none_behind of r [] is apart = refl
none_behind of r (s ∷ rows) is apart = by (none_behind of r rows is (or_right (same_identity (identity_of r) (identity_of s) || nat_eq r.order s.order) _ apart)) (is_of of s) refl where
  by : theirs of rows ≡ [] → (b : Bool) → is_of of s ≡ b → cond b (s ∷ theirs of rows) (theirs of rows) ≡ []
  by rest false at = rest
  by rest true at =
      let differ = or_left (same_identity (identity_of r) (identity_of s)) _ (or_left (same_identity (identity_of r) (identity_of s) || nat_eq r.order s.order) _ apart) in
      let same : identity_of r ≡ identity_of s = same_identity_is (identity_of r) of is ∙ sym (same_identity_is (identity_of s) of at) in
      true_false (one_itself (identity_of s)) (ap (λ i. same_identity i (identity_of s)) (sym same) ∙ differ)

pub once_apart : (rows : List Tracked) → has_twin_rows rows ≡ false → Once rows
once_apart [] apart of = omega arith
once_apart (r ∷ rows) apart of = by (once_apart rows (or_right (list_any (λ s. same_identity (identity_of r) (identity_of s) || nat_eq r.order s.order) rows) _ apart) of) (is_of of r) refl where
  by : length (theirs of rows) ≤ 1 → (b : Bool) → is_of of r ≡ b → length (cond b (r ∷ theirs of rows) (theirs of rows)) ≤ 1
  by rest false at = rest
  by rest true at = subst (λ (rs : List Tracked). length (r ∷ rs) ≤ 1) (sym (none_behind of r rows at (or_left (list_any (λ s. same_identity (identity_of r) (identity_of s) || nat_eq r.order s.order) rows) _ apart))) (omega arith)
