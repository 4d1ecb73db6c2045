-- Tables that are made one after another.
use Rattle.std.proofs.Common.{ap, arith, subst, sym, ◌∙◌, append_assoc}
use Rattle.std.specs.BTreeMap.{insert_entry}
use Rattle.std.specs.Cmp.Lexicographic.{nat_list_cmp_total}
use Rattle.std.specs.List.{AllByRecursion, flat_map, list_any}
use Rattle.std.specs.List.Sorted.{IsStrictlySortedBy}
use Rattle.std.specs.Map.{keys_of}
use Rattle.std.specs.Ordering.{match_ordering, ordering_reverse}
use Rattle.std.specs.Prelude.{Bool, Err, List, None, Ok, Option, Result, Some, [], cond, false, map, not, refl, true, ℕ, ◌&&◌, ◌+◌, ◌++◌, ◌∷◌, ◌≡◌, ◌≤◌}
use Rattle.std.specs.declared.cmp.Ordering.TheVariants.{Equal, Greater, Less}
use Rattle.lq_base.specs.Name.{is_named, name_cmp}
use Rattle.lq_base.specs.declared.dialect.Dialect.{Dialect}
use Rattle.lq_base.specs.declared.name.Name.{Name}
use Rattle.lq_base.specs.declared.reason.Reason.{Reason}
use Rattle.lq_model.proofs.Counts.{once}
use Rattle.lq_model.proofs.NameCounts.{inner_sum}
use Rattle.lq_model.proofs.Places.{placed_less}
use Rattle.lq_model.proofs.Times.{none_times, times-append}
use Rattle.lq_model.specs.Catalogue.{Catalogue, Sequence, Table, View, with_new, is_in, times, inner_names, key_list, placed}
use Rattle.lq_model.specs.NameSpaces.{names_inside, object_names, shared_names}
use Rattle.lq_model.specs.Step.{run, step}
use Rattle.lq_model.specs.declared.caller.By.TheVariants.{User}
use Rattle.lq_model.specs.declared.column.Column.{Column}
use Rattle.lq_model.specs.declared.constraint.Key.{Key}
use Rattle.lq_model.specs.declared.constraint.Unique.{Unique}
use Rattle.lq_model.specs.declared.index.Index.{Index}
use Rattle.lq_model.specs.declared.statement.Statement.{Statement}
use Rattle.laws_stages.specs.Making.{own_key}

abbrev pub bare : Table → Table
bare it = record { columns = it.columns; key = own_key it; uniques = []; foreign = []; indexes = []; next = 1; rows = [] }

abbrev pub bare_entry : Name × Table → Name × Table
bare_entry e = (e.0, bare e.1)

-- the sequences, and these tables
abbrev pub stage : List (Name × Sequence) → List (Name × Table) → Catalogue
stage ss done = record { tables = map bare_entry done; views = []; sequences = ss }

-- an entry above all others goes last

pub above : (a b : Name) → name_cmp a b ≡ Less → name_cmp b a ≡ Greater
above a b h = nat_list_cmp_total.antisymm b a ∙ ap ordering_reverse h

pub insert_last : {A : Type 0} (done : List (Name × A)) (k : Name) (x : A) → AllByRecursion (λ (e : Name × A). name_cmp e.0 k ≡ Less) done → insert_entry name_cmp done k x ≡ done ++ (k, x) ∷ []
insert_last [] k x h = refl
insert_last (e ∷ es) k x h = rw (above e.0 k h.0) (ap (λ fs. e ∷ fs) (insert_last es k x h.1))

below_one : {A : Type 0} (k : Name) (es : List (Name × A)) (e : Name × A) (more : List (Name × A)) → AllByRecursion (λ m. name_cmp k m ≡ Less) (keys_of (es ++ e ∷ more)) → name_cmp k e.0 ≡ Less
below_one k [] e more h = h.0
below_one k (x ∷ es) e more h = below_one k es e more h.1

pub below : {A : Type 0} (done : List (Name × A)) (e : Name × A) (more : List (Name × A)) → IsStrictlySortedBy name_cmp (keys_of (done ++ e ∷ more)) → AllByRecursion (λ (x : Name × A). name_cmp x.0 e.0 ≡ Less) done
unfolding IsStrictlySortedBy
below [] e more h = tt
below (x ∷ done) e more h = (below_one x.0 done e more h.0, below done e more h.1)

bare_below : (done : List (Name × Table)) (k : Name) → AllByRecursion (λ (x : Name × Table). name_cmp x.0 k ≡ Less) done → AllByRecursion (λ (x : Name × Table). name_cmp x.0 k ≡ Less) (map bare_entry done)
bare_below [] k h = tt
bare_below (x ∷ done) k h = (h.0, bare_below done k h.1)

map_last : (done : List (Name × Table)) (e : Name × Table) → map bare_entry (done ++ e ∷ []) ≡ map bare_entry done ++ bare_entry e ∷ []
map_last [] e = refl
map_last (x ∷ done) e = ap (λ fs. bare_entry x ∷ fs) (map_last done e)

-- one table more
pub next_stage : (ss : List (Name × Sequence)) (done : List (Name × Table)) (e : Name × Table) (more : List (Name × Table)) → IsStrictlySortedBy name_cmp (keys_of (done ++ e ∷ more)) → with_new (stage ss done) e.0 (bare e.1) ≡ stage ss (done ++ e ∷ [])
next_stage ss done e more h = ap (λ ts. record { tables = ts; views = []; sequences = ss }) (insert_last (map bare_entry done) e.0 (bare e.1) (bare_below done e.0 (below done e more h)) ∙ sym (map_last done e))

-- all of them, where each is made
pub stages : (d : Dialect) (makes : Name × Table → Statement) (ss : List (Name × Sequence)) (all done rest : List (Name × Table)) → all ≡ done ++ rest
    → ((done : List (Name × Table)) (e : Name × Table) (more : List (Name × Table)) → all ≡ done ++ e ∷ more → step User d (makes e) (stage ss done) ≡ Ok (stage ss (done ++ e ∷ []), 0))
    → run User d (map makes rest) (stage ss done) ≡ Ok (stage ss all)
stages d makes ss all done [] is each = ap (λ x. Ok (stage ss x)) (sym (is ∙ append_none done)) where
  append_none : {A : Type 0} (xs : List A) → xs ++ [] ≡ xs
  append_none [] = refl
  append_none (x ∷ xs) = ap (λ ys. x ∷ ys) (append_none xs)
stages d makes ss all done (e ∷ more) is each =
    ap (λ (x : Result (Catalogue × ℕ) Reason). elim x [ Ok r ↦ run User d (map makes more) r.0 | Err r ↦ Err r ]) (each done e more is)
    ∙ (stages d makes ss all (done ++ e ∷ []) more (is ∙ sym (append_assoc done (e ∷ []) more)) each)

-- its names are free: they stand in the space once

abbrev pub tables_inner : List (Name × Table) → List Name
tables_inner es = flat_map names_inside es

pub names_same : (n : Name) (done : List (Name × Table)) → map (λ (x : Name × Table). x.0) (map bare_entry done) ≡ map (λ (x : Name × Table). x.0) done
names_same n [] = refl
names_same n (x ∷ done) = ap (λ ns. x.0 ∷ ns) (names_same n done)

inner_fewer : (n : Name) (it : Table) → times n (inner_names (bare it)) ≤ times n (inner_names it)
inner_fewer n it = by (list_any (λ (c : Column). c.numbered) it.columns) where
  key : Bool → List Name
  key b = map (λ (k : Key). k.name) (key_list (cond b it.key None))

  by : (b : Bool) → times n (key b ++ ([] ++ [])) ≤ times n (inner_names it)
  by true = let a = times-append n (key true) [] in let s = inner_sum n it in omega (arith, a, s)
  by false = omega arith

pub inner_all_fewer : (n : Name) (done : List (Name × Table)) → times n (tables_inner (map bare_entry done)) ≤ times n (tables_inner done)
inner_all_fewer n [] = omega arith
inner_all_fewer n (x ∷ done) =
    let a = times-append n (names_inside (bare_entry x)) (tables_inner (map bare_entry done)) in
    let b = times-append n (names_inside x) (tables_inner done) in
    let c = placed_less x.0 (inner_names (bare x.1)) (inner_names x.1) (λ m. inner_fewer m x.1) n in
    let r = inner_all_fewer n done in
    omega (arith, a, b, c, r)

pub inner_split : (n : Name) (done : List (Name × Table)) (more : List (Name × Table)) → times n (tables_inner (done ++ more)) ≡ times n (tables_inner done) + times n (tables_inner more)
inner_split n [] more = omega arith
inner_split n (x ∷ done) more =
    let a = times-append n (names_inside x) (tables_inner (done ++ more)) in
    let b = times-append n (names_inside x) (tables_inner done) in
    let r = inner_split n done more in
    omega (arith, a, b, r)

pub keys_split : (n : Name) (done more : List (Name × Table)) → times n (map (λ (x : Name × Table). x.0) (done ++ more)) ≡ times n (map (λ (x : Name × Table). x.0) done) + times n (map (λ (x : Name × Table). x.0) more)
keys_split n [] more = omega arith
keys_split n (x ∷ done) more = let r = keys_split n done more in omega (arith, r)

-- what stands there, and what the next table brings, is no more than what all have
pub counted : (n : Name) (c : Catalogue) (done : List (Name × Table)) (e : Name × Table) (more : List (Name × Table)) → c.tables ≡ done ++ e ∷ more
    → times n (shared_names (stage c.sequences done)) + (once (is_named n e.0) + times n (placed e.0 (inner_names (bare e.1)))) ≤ times n (shared_names c)
counted n c done e more is =
    let own = map (λ (x : Name × Table). x.0) (map bare_entry done) in
    let vs = map (λ (x : Name × View). x.0) c.views in
    let ss = map (λ (x : Name × Sequence). x.0) c.sequences in
    let all = map (λ (x : Name × Table). x.0) c.tables in
    let a = times-append n (own ++ ([] ++ ss)) (tables_inner (map bare_entry done)) in
    let b = times-append n own ([] ++ ss) in
    let p = times-append n (all ++ (vs ++ ss)) (tables_inner c.tables) in
    let q = times-append n all (vs ++ ss) in
    let r = times-append n vs ss in
    let x = ap (times n) (names_same n done) in
    let y = inner_all_fewer n done in
    let u : times n all ≡ times n (map (λ (x : Name × Table). x.0) (done ++ e ∷ more)) = ap (λ es. times n (map (λ (x : Name × Table). x.0) es)) is in
    let v = keys_split n done (e ∷ more) in
    let w : times n (tables_inner c.tables) ≡ times n (tables_inner (done ++ e ∷ more)) = ap (λ es. times n (tables_inner es)) is in
    let z = inner_split n done (e ∷ more) in
    let f = times-append n (names_inside e) (tables_inner more) in
    let g = placed_less e.0 (inner_names (bare e.1)) (inner_names e.1) (λ m. inner_fewer m e.1) n in
    omega (arith, a, b, p, q, r, x, y, u, v, w, z, f, g)
