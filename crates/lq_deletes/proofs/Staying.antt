-- What a DELETE leaves, as the rows that stay.
use Rattle.std.proofs.Common.{ap, sym, ◌∙◌, subst, unwrap_or}
use Rattle.std.specs.FinMap.Entries.{below_all, is_sorted}
use Rattle.std.specs.List.{filter}
use Rattle.std.specs.Map.{lookup, set_value}
use Rattle.std.specs.Prelude.{Bool, List, None, Option, Some, T, [], cond, false, map, not, refl, suc, true, zero, ℕ, ⊤, ◌&&◌, ◌∷◌, ◌≡◌}
use Rattle.lq_base.specs.Name.{is_named, name_cmp}
use Rattle.lq_base.specs.declared.name.Name.{Name}
use Rattle.lq_model.specs.Catalogue.{Catalogue, Table, no_table, table_of, the_table, with_table}
use Rattle.lq_model.specs.Rows.{cascaded, deleted, is_lost, row_count, without_lost, without_lost_in, without_taken}
use Rattle.lq_model.specs.Truth.{takes}
use Rattle.lq_model.specs.declared.test.Test.{Test}
use Rattle.lq_model.proofs.Lists.{named_itself, same_name, whether}
use Rattle.lq_model.proofs.Maps.{below_gone, not_some, some_same, sorted-values, sorted_entries}
use Rattle.lq_deletes.specs.Places.{Choice, IsLinked, kept_at, kept_by, outlives, stays}
use Rattle.lq_deletes.proofs.Among.{filter_filter}
use Rattle.lq_deletes.proofs.Rounds.{kept_of, rest_of}

pub front : (a b : Bool) → T (a && b) → T a
front true b h = tt
front false b h = absurd h

pub back : (a b : Bool) → T (a && b) → T b
back true b h = h
back false b h = absurd h

join : (a b : Bool) → T a → T b → T (a && b)
join true b p q = q
join false b p q = absurd p

pub or_other : {X : Type 0} (n k : Name) (x y : X) (es : List (Name × X)) → T (below_all name_cmp k es) → lookup (is_named n) es ≡ Some x → lookup (is_named n) ((k, y) ∷ es) ≡ Some x
or_other n k x y es below h = whether (is_named n k)
    (λ is. not_some (sym h ∙ subst (λ m. lookup (is_named m) es ≡ None) (sym (same_name n k is)) (below_gone k es below)))
    (λ other. ap (λ b. cond b (Some y) (lookup (is_named n) es)) other ∙ h)

-- each entry is found at its name
abbrev pub Found : List (Name × Table) → List (Name × Table) → Type 0
Found all [] = ⊤
Found all (e ∷ es) = (lookup (is_named e.0) all ≡ Some e.1) × Found all es

found_in : (all es : List (Name × Table)) → T (is_sorted name_cmp es) → ((n : Name) (it : Table) → lookup (is_named n) es ≡ Some it → lookup (is_named n) all ≡ Some it) → Found all es
found_in all [] sorted up = tt
found_in all (e ∷ es) sorted up = (
  up e.0 e.1 (ap (λ b. cond b (Some e.1) (lookup (is_named e.0) es)) (named_itself e.0)),
  found_in all es (back (below_all name_cmp e.0 es) _ sorted) (λ n it h. up n it (or_other n e.0 it e.1 es (front _ _ sorted) h)),
)

pub all_found : (es : List (Name × Table)) → T (is_sorted name_cmp es) → Found es es
all_found es sorted = found_in es es sorted (λ n it h. h)

-- the rounds

filter_all : {X : Type 0} (xs : List X) → filter (λ x. true) xs ≡ xs
filter_all [] = refl
filter_all (x ∷ xs) = ap (λ ys. x ∷ ys) (filter_all xs)

filter_same : {X : Type 0} (p q : X → Bool) (xs : List X) → ((x : X) → p x ≡ q x) → filter p xs ≡ filter q xs
filter_same p q [] same = refl
filter_same p q (x ∷ xs) same = λ i. cond (same x i) (x ∷ filter_same p q xs same i) (filter_same p q xs same i)

none_gone : (c : Catalogue) (es : List (Name × Table)) → es ≡ map (kept_of (outlives zero c)) es
none_gone c [] = refl
none_gone c (e ∷ es) = λ i. (e.0, record e.1 { rows = sym (filter_all e.1.rows) i }) ∷ none_gone c es i

round_of : (k : ℕ) (c : Catalogue) (es : List (Name × Table)) → Found c.tables es → map (kept_of (outlives k (without_lost c))) (map (rest_of c) es) ≡ map (kept_of (outlives (suc k) c)) es
round_of k c [] found = refl
round_of k c (e ∷ es) found =
    let rows = filter_filter (λ r. not (is_lost c e.1 r)) (outlives k (without_lost c) e.0) e.1.rows
    ∙ filter_same _ (outlives (suc k) c e.0) e.1.rows (λ r. ap (λ o. not (is_lost c (unwrap_or o no_table) r) && outlives k (without_lost c) e.0 r) (sym found.0)) in
    let more = round_of k c es found.1 in
    λ i. (e.0, record e.1 { rows = rows i }) ∷ more i

pub rounds_leave : (k : ℕ) (c : Catalogue) → T (is_sorted name_cmp c.tables) → cascaded k c ≡ kept_by (outlives k c) c
rounds_leave zero c sorted = λ i. record c { tables = none_gone c c.tables i }
rounds_leave (suc k) c sorted =
    rounds_leave k (without_lost c) (sorted-values (without_lost_in c) c.tables sorted)
    ∙ (λ i. record c { tables = round_of k c c.tables (all_found c.tables sorted) i })

-- the rows taken

below_set : (test : Name → Bool) (k : Name) (es : List (Name × Table)) (y : Table) → T (below_all name_cmp k es) → T (below_all name_cmp k (set_value test es y))
below_set test k [] y h = h
below_set test k (e ∷ es) y h = elim (test e.0) as (λ b. T (below_all name_cmp k (cond b ((e.0, y) ∷ es) (e ∷ set_value test es y)))) [
  | true ↦ h
  | false ↦ join _ _ (front _ _ h) (below_set test k es y (back _ (below_all name_cmp k es) h))
]

pub sorted_set : (test : Name → Bool) (es : List (Name × Table)) (y : Table) → T (is_sorted name_cmp es) → T (is_sorted name_cmp (set_value test es y))
sorted_set test [] y h = h
sorted_set test (e ∷ es) y h = elim (test e.0) as (λ b. T (is_sorted name_cmp (cond b ((e.0, y) ∷ es) (e ∷ set_value test es y)))) [
  | true ↦ h
  | false ↦ join _ _ (below_set test e.0 es y (front _ _ h)) (sorted_set test es y (back (below_all name_cmp e.0 es) _ h))
]

module _ (t : Name) (test : Option Test) (it : Table) (s : Choice) where
  -- who stays, of those that the statement does not take
  abbrev left : Choice
  left n row = not (is_named t n && takes test it.columns row) && s n row

  untaken : (es : List (Name × Table)) → lookup (is_named t) es ≡ None → map (kept_of s) es ≡ map (kept_of left) es
  untaken [] h = refl
  untaken (e ∷ es) h = whether (is_named t e.0)
      (λ is. not_some (sym (ap (λ b. cond b (Some e.1) (lookup (is_named t) es)) is) ∙ h))
      (λ other.
      let rows = filter_same (s e.0) (left e.0) e.1.rows (λ r. ap (λ b. not (b && takes test it.columns r) && s e.0 r) (sym other)) in
      let more = untaken es (sym (ap (λ b. cond b (Some e.1) (lookup (is_named t) es)) other) ∙ h) in
      λ i. (e.0, record e.1 { rows = rows i }) ∷ more i)

  taken_off : (es : List (Name × Table)) → T (is_sorted name_cmp es) → lookup (is_named t) es ≡ Some it → map (kept_of s) (set_value (is_named t) es (without_taken test it)) ≡ map (kept_of left) es
  taken_off [] sorted there = not_some (sym there)
  taken_off (e ∷ es) sorted there = whether (is_named t e.0)
      (λ is.
      let its = some_same (sym (ap (λ b. cond b (Some e.1) (lookup (is_named t) es)) is) ∙ there) in
      let rows = filter_filter (λ r. not (takes test it.columns r)) (s e.0) it.rows ∙ filter_same _ (left e.0) it.rows (λ r. ap (λ b. not (b && takes test it.columns r) && s e.0 r) (sym is)) in
      let more = untaken es (subst (λ n. lookup (is_named n) es ≡ None) (sym (same_name t e.0 is)) (below_gone e.0 es (front _ _ sorted))) in
      ap (λ b. map (kept_of s) (cond b ((e.0, without_taken test it) ∷ es) (e ∷ set_value (is_named t) es (without_taken test it)))) is
      ∙ (λ i. (e.0, record it { rows = rows i }) ∷ more i)
      ∙ ap (λ x. (e.0, kept_at left e.0 x) ∷ map (kept_of left) es) (sym its))
      (λ other.
      let rows = filter_same (s e.0) (left e.0) e.1.rows (λ r. ap (λ b. not (b && takes test it.columns r) && s e.0 r) (sym other)) in
      let more = taken_off es (back (below_all name_cmp e.0 es) _ sorted) (sym (ap (λ b. cond b (Some e.1) (lookup (is_named t) es)) other) ∙ there) in
      ap (λ b. map (kept_of s) (cond b ((e.0, without_taken test it) ∷ es) (e ∷ set_value (is_named t) es (without_taken test it)))) other
      ∙ (λ i. (e.0, record e.1 { rows = rows i }) ∷ more i))

pub leaves_staying : (t : Name) (test : Option Test) (c : Catalogue) → IsLinked c → table_of c t ≡ Some (the_table c t) → deleted t test c ≡ kept_by (stays t test c) c
leaves_staying t test c sound there =
    let it = the_table c t in
    let start = with_table c t (without_taken test it) in
    let sorted = sorted_entries c.tables sound.ordered in
    rounds_leave (row_count c) start (sorted_set (is_named t) c.tables (without_taken test it) sorted)
    ∙ (λ i. record c { tables = taken_off t test it (outlives (row_count c) start) c.tables sorted there i })
