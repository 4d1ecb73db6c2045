-- Lemmas on how many foreign keys target each table.
use Rattle.std.proofs.Common.{Bool, List, None, Option, Some, [], add-one, ap, arith, cond, drop, false, get_or, length, map, not, refl, subst, suc, sym, true, unwrap_or, ℕ, ◌+◌, ◌++◌, ◌-◌, ◌<◌, ◌∙◌, ◌∷◌, ◌≡◌, ◌≤◌, ◌&&◌, ◌||◌}
use Rattle.std.proofs.Math.Seq.{drop-cons}
use Rattle.std.proofs.lemmas.List.Sums.{sum_by-append, sum_by-cons}
use Rattle.std.specs.BTreeMap.{BTreeMap, Updates, get, insert_entry}
use Rattle.std.specs.List.{count_by, list_any}
use Rattle.std.specs.Map.{count_at, lookup, remove_entry, set_value}
use Rattle.std.specs.Ordering.{is_eq, match_ordering}
use Rattle.std.specs.declared.cmp.Ordering.TheVariants.{Equal, Greater, Less}
use Rattle.lq_base.specs.Name.{is_named, name_cmp}
use Rattle.lq_base.specs.declared.name.Name.{Name}
use Rattle.lq_model.specs.Catalogue.{Table}
use Rattle.lq_model.specs.Tables.{targets_table}
use Rattle.lq_model.specs.declared.constraint.ForeignKey.{ForeignKey}
use Rattle.lq_model.proofs.Lists.{same_name, whether}
use Rattle.lq_model.proofs.Maps.{not_some, some_same}
use Rattle.lq_parts.specs.Steps.{Entries, tables_of}
use Rattle.lq_parts.specs.Taken.{AreCounts, CountsLess, CountsMore, HasCounts, TableMap, names_in, targets_inside}
use Rattle.lq_rows.specs.Stored.{Stored}
use Rattle.lq_parts.proofs.TakenLemmas.{either_way}

-- how often a name stands among some, how many of some foreign keys target it, and how many of all tables'

abbrev often : Name → List Name → ℕ
often n ns = count_by (is_named n) ns

abbrev aiming : Name → List ForeignKey → ℕ
aiming n fs = often n (map (λ f. f.table) fs)

abbrev in_all : Name → TableMap → ℕ
in_all n ts = often n (names_in targets_inside ts)

one_often : (n k : Name) → often n (k ∷ []) ≡ cond (is_named n k) 1 0
one_often n k = let step = sum_by-cons (λ m. cond (is_named n m) 1 0) k [] in omega (arith, step)

next_aiming : (n : Name) (f : ForeignKey) (fs : List ForeignKey) → aiming n (f ∷ fs) ≡ cond (is_named n f.table) 1 0 + aiming n fs
next_aiming n f fs = sum_by-cons (λ m. cond (is_named n m) 1 0) f.table (map (λ g. g.table) fs)

next_in_all : (n : Name) (e : Name × Table) (ts : TableMap) → in_all n (e ∷ ts) ≡ aiming n e.1.foreign + in_all n ts
next_in_all n e ts = sum_by-append (λ m. cond (is_named n m) 1 0) (targets_inside e) (names_in targets_inside ts)

-- one more, one less

written : (old new : BTreeMap Name ℕ) (k : Name) (m : ℕ) → Updates name_cmp old new k (Some m) → (n : Name) → count_at (get name_cmp new) n ≡ cond (is_named n k) m (count_at (get name_cmp old) n)
written old new k m up n = ap (λ o. unwrap_or o 0) (up.0 n ∙ ap (λ b. cond b (Some m) (get name_cmp old n)) (either_way k n)) ∙ out (is_named n k) where
  out : (b : Bool) → unwrap_or (cond b (Some m) (get name_cmp old n)) 0 ≡ cond b m (count_at (get name_cmp old) n)
  out true = refl
  out false = refl

pub counted : (old new : BTreeMap Name ℕ) (k : Name) (m : ℕ) → Updates name_cmp old new k (Some m) → m ≡ count_at (get name_cmp old) k + 1 → CountsMore (k ∷ []) old new
counted old new k m up is = record { each = λ n. written old new k m up n ∙ whether (is_named n k) (here n) (there n) } where
  here : (n : Name) → is_named n k ≡ true → cond (is_named n k) m (count_at (get name_cmp old) n) ≡ often n (k ∷ []) + count_at (get name_cmp old) n
  here n so =
      let same : n ≡ k = same_name n k so in
      let one : often n (k ∷ []) ≡ 1 = one_often n k ∙ ap (λ b. cond b 1 0) so in
      let now : m ≡ count_at (get name_cmp old) n + 1 = is ∙ ap (λ x. count_at (get name_cmp old) x + 1) (sym same) in
      ap (λ b. cond b m (count_at (get name_cmp old) n)) so ∙ omega (arith, one, now)

  there : (n : Name) → is_named n k ≡ false → cond (is_named n k) m (count_at (get name_cmp old) n) ≡ often n (k ∷ []) + count_at (get name_cmp old) n
  there n other =
      let none : often n (k ∷ []) ≡ 0 = one_often n k ∙ ap (λ b. cond b 1 0) other in
      ap (λ b. cond b m (count_at (get name_cmp old) n)) other ∙ omega (arith, none)

pub discounted : (old new : BTreeMap Name ℕ) (k : Name) (m : ℕ) → Updates name_cmp old new k (Some m) → m ≡ count_at (get name_cmp old) k - 1 → CountsLess (k ∷ []) old new
discounted old new k m up is = record { each = λ n. written old new k m up n ∙ whether (is_named n k) (here n) (there n) } where
  here : (n : Name) → is_named n k ≡ true → cond (is_named n k) m (count_at (get name_cmp old) n) ≡ count_at (get name_cmp old) n - often n (k ∷ [])
  here n so =
      let same : n ≡ k = same_name n k so in
      let one : often n (k ∷ []) ≡ 1 = one_often n k ∙ ap (λ b. cond b 1 0) so in
      let now : m ≡ count_at (get name_cmp old) n - 1 = is ∙ ap (λ x. count_at (get name_cmp old) x - 1) (sym same) in
      ap (λ b. cond b m (count_at (get name_cmp old) n)) so ∙ omega (arith, one, now)

  there : (n : Name) → is_named n k ≡ false → cond (is_named n k) m (count_at (get name_cmp old) n) ≡ count_at (get name_cmp old) n - often n (k ∷ [])
  there n other =
      let none : often n (k ∷ []) ≡ 0 = one_often n k ∙ ap (λ b. cond b 1 0) other in
      ap (λ b. cond b m (count_at (get name_cmp old) n)) other ∙ omega (arith, none)

-- the foreign keys of a table, one after another: all that are counted, and the rest that is to come
pub record Counting (before : BTreeMap Name ℕ) (all : List ForeignKey) (now : BTreeMap Name ℕ) (rest : List ForeignKey) : Type 0 where
  pub each : (n : Name) → count_at (get name_cmp now) n + aiming n rest ≡ aiming n all + count_at (get name_cmp before) n

pub counting_none : (before : BTreeMap Name ℕ) (all : List ForeignKey) → Counting before all before (drop 0 all)
counting_none before all = record { each = λ n. omega arith }

pub counting_more : (before : BTreeMap Name ℕ) (all : List ForeignKey) (i : ℕ) (d f : ForeignKey) (old new : BTreeMap Name ℕ) → i < length all → f ≡ get_or all i d → Counting before all old (drop i all) → CountsMore (f.table ∷ []) old new → Counting before all new (drop (i + 1) all)
counting_more before all i d f old new within is so more = record {
  each = λ n.
      let split : drop i all ≡ f ∷ drop (suc i) all = drop-cons all i d within ∙ ap (λ x. x ∷ drop (suc i) all) (sym is) in
      let rest = ap (aiming n) split ∙ next_aiming n f (drop (suc i) all) in
      let one = one_often n f.table in let up = more.each n in let was = so.each n in
      rw add-one (omega (arith, rest, one, up, was));
}

pub counting_all : (before : BTreeMap Name ℕ) (all : List ForeignKey) (i : ℕ) (now : BTreeMap Name ℕ) → drop i all ≡ [] → Counting before all now (drop i all) → CountsMore (map (λ f. f.table) all) before now
counting_all before all i now none so = record { each = λ n. let was = so.each n in let over : aiming n (drop i all) ≡ 0 = ap (aiming n) none in omega (arith, was, over) }

-- and the same where they are counted no longer
pub record Discounting (before : BTreeMap Name ℕ) (all : List ForeignKey) (now : BTreeMap Name ℕ) (rest : List ForeignKey) : Type 0 where
  pub each : (n : Name) → count_at (get name_cmp now) n - aiming n rest ≡ count_at (get name_cmp before) n - aiming n all

pub discounting_none : (before : BTreeMap Name ℕ) (all : List ForeignKey) → Discounting before all before (drop 0 all)
discounting_none before all = record { each = λ n. refl }

pub discounting_more : (before : BTreeMap Name ℕ) (all : List ForeignKey) (i : ℕ) (d f : ForeignKey) (old new : BTreeMap Name ℕ) → i < length all → f ≡ get_or all i d → Discounting before all old (drop i all) → CountsLess (f.table ∷ []) old new → Discounting before all new (drop (i + 1) all)
discounting_more before all i d f old new within is so less = record {
  each = λ n.
      let split : drop i all ≡ f ∷ drop (suc i) all = drop-cons all i d within ∙ ap (λ x. x ∷ drop (suc i) all) (sym is) in
      let rest = ap (aiming n) split ∙ next_aiming n f (drop (suc i) all) in
      let one = one_often n f.table in let down = less.each n in let was = so.each n in
      rw add-one (omega (arith, rest, one, down, was));
}

pub discounting_all : (before : BTreeMap Name ℕ) (all : List ForeignKey) (i : ℕ) (now : BTreeMap Name ℕ) → drop i all ≡ [] → Discounting before all now (drop i all) → CountsLess (map (λ f. f.table) all) before now
discounting_all before all i now none so = record { each = λ n. let was = so.each n in let over : aiming n (drop i all) ≡ 0 = ap (aiming n) none in omega (arith, was, over) }

-- the tables, one after another
pub record Seen (all : Entries) (now : BTreeMap Name ℕ) (rest : Entries) : Type 0 where
  pub each : (n : Name) → in_all n (tables_of all) ≡ count_at (get name_cmp now) n + in_all n (tables_of rest)

pub seen_none : (all : Entries) (now : BTreeMap Name ℕ) → now.entries ≡ [] → Seen all now (drop 0 all)
seen_none all now is = record { each = λ n. let none : count_at (get name_cmp now) n ≡ 0 = ap (λ es. unwrap_or (lookup (λ k. is_eq (name_cmp n k)) es) 0) is in omega (arith, none) }

pub seen_more : (all : Entries) (i : ℕ) (d e : Name × Stored) (old new : BTreeMap Name ℕ) → i < length all → e ≡ get_or all i d → Seen all old (drop i all) → CountsMore (map (λ f. f.table) e.1.now.foreign) old new → Seen all new (drop (i + 1) all)
seen_more all i d e old new within is so more = record {
  each = λ n.
      let split : drop i all ≡ e ∷ drop (suc i) all = drop-cons all i d within ∙ ap (λ x. x ∷ drop (suc i) all) (sym is) in
      let rest = ap (λ es. in_all n (tables_of es)) split ∙ next_in_all n (e.0, e.1.now) (tables_of (drop (suc i) all)) in
      let up = more.each n in let was = so.each n in
      rw add-one (omega (arith, rest, up, was));
}

pub seen_all : (all : Entries) (i : ℕ) (now : BTreeMap Name ℕ) → drop i all ≡ [] → Seen all now (drop i all) → HasCounts (names_in targets_inside (tables_of all)) now
seen_all all i now none so = record { each = λ n. let was = so.each n in let over : in_all n (tables_of (drop i all)) ≡ 0 = ap (λ es. in_all n (tables_of es)) none in omega (arith, was, over) }

-- names that are counted, and others beside them

pub count_more : (ns ms : List Name) (old new : BTreeMap Name ℕ) → CountsMore ns old new → HasCounts ms old → HasCounts (ns ++ ms) new
count_more ns ms old new more has = record { each = λ n. let up = more.each n in let was = has.each n in let both = sum_by-append (λ m. cond (is_named n m) 1 0) ns ms in omega (arith, up, was, both) }

pub count_less : (ns ms : List Name) (old new : BTreeMap Name ℕ) → CountsLess ns old new → HasCounts (ns ++ ms) old → HasCounts ms new
count_less ns ms old new less has = record { each = λ n. let down = less.each n in let was = has.each n in let both = sum_by-append (λ m. cond (is_named n m) 1 0) ns ms in omega (arith, down, was, both) }

as_often : (ns ms : List Name) (known : Option (BTreeMap Name ℕ)) → ((n : Name) → often n ns ≡ often n ms) → AreCounts ns known → AreCounts ms known
as_often ns ms None same is = tt
as_often ns ms (Some counts) same is = record { each = λ n. is.each n ∙ same n }

-- a table that comes, goes, or gets another shape

in_put : (n : Name) (ts : TableMap) (k : Name) (it : Table) → lookup (is_named k) ts ≡ None → in_all n (insert_entry name_cmp ts k it) ≡ aiming n it.foreign + in_all n ts
in_put n [] k it none = next_in_all n (k, it) []
in_put n (e ∷ ts) k it none =
    elim (name_cmp k e.0) as (λ r. cond (is_eq r) (Some e.1) (lookup (is_named k) ts) ≡ None → in_all n (match_ordering r ((k, it) ∷ e ∷ ts) ((e.0, it) ∷ ts) (e ∷ insert_entry name_cmp ts k it)) ≡ aiming n it.foreign + in_all n (e ∷ ts)) [
      | Less ↦ λ q. next_in_all n (k, it) (e ∷ ts)
      | Equal ↦ λ q. not_some q
      | Greater ↦ λ q. let first = next_in_all n e (insert_entry name_cmp ts k it) in let rest = in_put n ts k it q in let all = next_in_all n e ts in omega (arith, first, rest, all)
    ] none

in_taken : (n : Name) (ts : TableMap) (k : Name) (was : Table) → lookup (is_named k) ts ≡ Some was → in_all n ts ≡ aiming n was.foreign + in_all n (remove_entry (is_named k) ts)
in_taken n [] k was there = not_some (sym there)
in_taken n (e ∷ ts) k was there =
    elim (is_named k e.0) as (λ b. cond b (Some e.1) (lookup (is_named k) ts) ≡ Some was → in_all n (e ∷ ts) ≡ aiming n was.foreign + in_all n (cond b ts (e ∷ remove_entry (is_named k) ts))) [
      | true ↦ λ q. next_in_all n e ts ∙ ap (λ (t : Table). aiming n t.foreign + in_all n ts) (some_same q)
      | false ↦ λ q. let first = next_in_all n e ts in let rest = in_taken n ts k was q in let all = next_in_all n e (remove_entry (is_named k) ts) in omega (arith, first, rest, all)
    ] there

in_set : (n : Name) (ts : TableMap) (k : Name) (was it : Table) → lookup (is_named k) ts ≡ Some was → in_all n (set_value (is_named k) ts it) ≡ aiming n it.foreign + in_all n (remove_entry (is_named k) ts)
in_set n [] k was it there = not_some (sym there)
in_set n (e ∷ ts) k was it there =
    elim (is_named k e.0) as (λ b. cond b (Some e.1) (lookup (is_named k) ts) ≡ Some was → in_all n (cond b ((e.0, it) ∷ ts) (e ∷ set_value (is_named k) ts it)) ≡ aiming n it.foreign + in_all n (cond b ts (e ∷ remove_entry (is_named k) ts))) [
      | true ↦ λ q. next_in_all n (e.0, it) ts
      | false ↦ λ q. let first = next_in_all n e (set_value (is_named k) ts it) in let rest = in_set n ts k was it q in let all = next_in_all n e (remove_entry (is_named k) ts) in omega (arith, first, rest, all)
    ] there

pub put_counts : (ts : TableMap) (k : Name) (it : Table) (known : Option (BTreeMap Name ℕ)) → lookup (is_named k) ts ≡ None → AreCounts (targets_inside (k, it) ++ names_in targets_inside ts) known → AreCounts (names_in targets_inside (insert_entry name_cmp ts k it)) known
put_counts ts k it known none = as_often (targets_inside (k, it) ++ names_in targets_inside ts) (names_in targets_inside (insert_entry name_cmp ts k it)) known
    (λ n. sum_by-append (λ m. cond (is_named n m) 1 0) (targets_inside (k, it)) (names_in targets_inside ts) ∙ sym (in_put n ts k it none))

pub split_counts : (ts : TableMap) (k : Name) (was : Table) (known : Option (BTreeMap Name ℕ)) → lookup (is_named k) ts ≡ Some was → AreCounts (names_in targets_inside ts) known → AreCounts (targets_inside (k, was) ++ names_in targets_inside (remove_entry (is_named k) ts)) known
split_counts ts k was known there = as_often (names_in targets_inside ts) (targets_inside (k, was) ++ names_in targets_inside (remove_entry (is_named k) ts)) known
    (λ n. in_taken n ts k was there ∙ sym (sum_by-append (λ m. cond (is_named n m) 1 0) (targets_inside (k, was)) (names_in targets_inside (remove_entry (is_named k) ts))))

pub set_counts : (ts : TableMap) (k : Name) (was it : Table) (known : Option (BTreeMap Name ℕ)) → lookup (is_named k) ts ≡ Some was → AreCounts (targets_inside (k, it) ++ names_in targets_inside (remove_entry (is_named k) ts)) known → AreCounts (names_in targets_inside (set_value (is_named k) ts it)) known
set_counts ts k was it known there = as_often (targets_inside (k, it) ++ names_in targets_inside (remove_entry (is_named k) ts)) (names_in targets_inside (set_value (is_named k) ts it)) known
    (λ n. sum_by-append (λ m. cond (is_named n m) 1 0) (targets_inside (k, it)) (names_in targets_inside (remove_entry (is_named k) ts)) ∙ sym (in_set n ts k was it there))

-- a table that only its own foreign keys target

targeted_often : (n : Name) (fs : List ForeignKey) → list_any (λ f. is_named n f.table) fs ≡ true → 1 ≤ aiming n fs
targeted_often n [] is = absurd (Prim.cc is)
targeted_often n (f ∷ fs) is = let all = next_aiming n f fs in whether (is_named n f.table)
    (λ so. let one : (let m : ℕ = cond (is_named n f.table) 1 0 in m) ≡ 1 = ap (λ b. cond b 1 0) so in omega (arith, all, one))
    (λ no. let more = targeted_often n fs (subst (λ b. (b || list_any (λ g. is_named n g.table) fs) ≡ true) no is) in omega (arith, all, more))

own_often : (n : Name) (fs : List ForeignKey) → aiming n fs ≡ count_by (λ f. is_named n f.table) fs
own_often n [] = refl
own_often n (f ∷ fs) = next_aiming n f fs ∙ ap (λ m. cond (is_named n f.table) 1 0 + m) (own_often n fs) ∙ sym (sum_by-cons (λ g. cond (is_named n g.table) 1 0) f fs)

module _ (t : Name) where
  abbrev aims : Name × Table → Bool
  aims e = not (is_named t e.0) && targets_table t e.1

  aims_often : (e : Name × Table) → aims e ≡ true → 1 ≤ aiming t e.1.foreign
  aims_often e is = targeted_often t e.1.foreign (second (not (is_named t e.0)) (targets_table t e.1) is) where
    second : (a b : Bool) → (a && b) ≡ true → b ≡ true
    second true b h = h
    second false b h = absurd (Prim.cc h)

  not_itself : (e : Name × Table) → is_named t e.0 ≡ true → aims e ≡ false
  not_itself e is = ap (λ b. not b && targets_table t e.1) is

  one_often_in : (ts : TableMap) → list_any aims ts ≡ true → 1 ≤ in_all t ts
  one_often_in [] is = absurd (Prim.cc is)
  one_often_in (e ∷ ts) is = let all = next_in_all t e ts in whether (aims e)
      (λ so. let one = aims_often e so in omega (arith, all, one))
      (λ no. let more = one_often_in ts (subst (λ b. (b || list_any aims ts) ≡ true) no is) in omega (arith, all, more))

  own_in : (ts : TableMap) (it : Table) → lookup (is_named t) ts ≡ Some it → aiming t it.foreign ≤ in_all t ts
  own_in ts it there = let all = in_taken t ts t it there in omega (arith, all)

  more_than_own : (ts : TableMap) (it : Table) → lookup (is_named t) ts ≡ Some it → list_any aims ts ≡ true → aiming t it.foreign + 1 ≤ in_all t ts
  more_than_own [] it there is = not_some (sym there)
  more_than_own (e ∷ ts) it there is = let all = next_in_all t e ts in whether (is_named t e.0)
      (λ so.
      let here : e.1 ≡ it = some_same (subst (λ b. cond b (Some e.1) (lookup (is_named t) ts) ≡ Some it) so there) in
      let own = ap (λ (x : Table). aiming t x.foreign) here in
      let more = one_often_in ts (subst (λ b. (b || list_any aims ts) ≡ true) (not_itself e so) is) in omega (arith, all, own, more))
      (λ no.
      let behind : lookup (is_named t) ts ≡ Some it = subst (λ b. cond b (Some e.1) (lookup (is_named t) ts) ≡ Some it) no there in
      whether (aims e)
      (λ so. let one = aims_often e so in let own = own_in ts it behind in omega (arith, all, one, own))
      (λ other. let more = more_than_own ts it behind (subst (λ b. (b || list_any aims ts) ≡ true) other is) in omega (arith, all, more)))

  own_only : (ts : TableMap) (it : Table) → lookup (is_named t) ts ≡ Some it → in_all t ts ≤ count_by (λ f. is_named t f.table) it.foreign → list_any aims ts ≡ false
  own_only ts it there few = whether (list_any aims ts)
      (λ is. let more = more_than_own ts it there is in let own = own_often t it.foreign in absurd (omega (arith, few, more, own)))
      (λ no. no)

  pub own_alone : (ts : TableMap) (it : Table) (fs : List ForeignKey) (all own : ℕ) → lookup (is_named t) ts ≡ Some it → all ≡ in_all t ts → fs ≡ it.foreign → own ≡ count_by (λ f. is_named t f.table) fs → all ≤ own → list_any aims ts ≡ false
  own_alone ts it fs all own there every are of few = let same = ap (λ (gs : List ForeignKey). count_by (λ f. is_named t f.table) gs) are in own_only ts it there (omega (arith, every, same, of, few))
