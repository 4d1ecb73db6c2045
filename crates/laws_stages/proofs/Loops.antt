-- All that the tables get after they are made, table by table.
use Rattle.std.proofs.Common.{ap, sym, ◌∙◌, append_assoc}
use Rattle.std.specs.List.{flat_map, list_any}
use Rattle.std.specs.Prelude.{Bool, Err, List, None, Ok, Option, Result, Some, [], cond, false, map, refl, true, ℕ, ◌++◌, ◌∷◌, ◌≡◌}
use Rattle.lq_base.specs.declared.dialect.Dialect.{Dialect}
use Rattle.lq_base.specs.declared.name.Name.{Name}
use Rattle.lq_base.specs.declared.reason.Reason.{Reason}
use Rattle.lq_model.specs.Catalogue.{Catalogue, Table}
use Rattle.lq_model.specs.NameSpaces.{is_reserved, takes_lock_key}
use Rattle.lq_model.specs.Sound.{IsSound}
use Rattle.lq_model.specs.Step.{run, step}
use Rattle.lq_model.specs.declared.caller.By.TheVariants.{User}
use Rattle.lq_model.specs.declared.column.Column.{Column}
use Rattle.lq_model.specs.declared.constraint.ForeignKey.{ForeignKey}
use Rattle.lq_model.specs.declared.constraint.Key.{Key}
use Rattle.lq_model.specs.declared.constraint.Unique.{Unique}
use Rattle.lq_model.specs.declared.index.Index.{Index}
use Rattle.lq_model.specs.declared.statement.Statement.{Statement}
use Rattle.lq_model.specs.declared.statement.Statement.TheVariants.{AddForeignKey, AddPrimaryKey, AddUnique, CreateIndex}
use Rattle.laws_stages.proofs.Filled.{index_step, key_step, unique_step, weave}
use Rattle.laws_stages.proofs.Foreign.{aiming, foreign_step, with_some}
use Rattle.laws_stages.specs.Making.{AreFree, Each, aims, filled, filling, full, has_number, key_added, key_statements, keyed, made, on, own_key}

pub append_none : {A : Type 0} (xs : List A) → xs ++ [] ≡ xs
append_none [] = refl
append_none (x ∷ xs) = ap (λ ys. x ∷ ys) (append_none xs)

-- one statement, and then the others
pub first_then : (d : Dialect) (s : Statement) (ss : List Statement) (c g after : Catalogue) → step User d s c ≡ Ok (g, 0) → run User d ss g ≡ Ok after → run User d (s ∷ ss) c ≡ Ok after
first_then d s ss c g after first rest = ap (λ (x : Result (Catalogue × ℕ) Reason). elim x [ Ok r ↦ run User d ss r.0 | Err r ↦ Err r ]) first ∙ rest

-- some statements, and then others
pub both_run : (d : Dialect) (ss ts : List Statement) (c g after : Catalogue) → run User d ss c ≡ Ok g → run User d ts g ≡ Ok after → run User d (ss ++ ts) c ≡ Ok after
both_run d [] ts c g after first rest = ap (run User d ts) (same first) ∙ rest where
  same : {x y : Catalogue} → (let r : Result Catalogue Reason = Ok x in r) ≡ Ok y → x ≡ y
  same e = Prim.cc
both_run d (s ∷ ss) ts c g after first rest = by (step User d s c) first (λ x h. both_run d ss ts x g after h rest) where
  by : (r : Result (Catalogue × ℕ) Reason) → elim r as (λ _. Result Catalogue Reason) [ Ok r ↦ run User d ss r.0 | Err r ↦ Err r ] ≡ Ok g → ((x : Catalogue) → run User d ss x ≡ Ok g → run User d (ss ++ ts) x ≡ Ok after) → elim r as (λ _. Result Catalogue Reason) [ Ok r ↦ run User d (ss ++ ts) r.0 | Err r ↦ Err r ] ≡ Ok after
  by (Ok r) h more = more r.0 h
  by (Err r) h more = absurd Prim.cc

-- things of a list one after another: what stands before each is there
pub listed_run : {A : Type 0} (d : Dialect) (makes : A → Statement) (at : List A → Catalogue) (all done rest : List A) → all ≡ done ++ rest
    → ((done : List A) (x : A) (more : List A) → all ≡ done ++ x ∷ more → step User d (makes x) (at done) ≡ Ok (at (done ++ x ∷ []), 0))
    → run User d (map makes rest) (at done) ≡ Ok (at all)
listed_run d makes at all done [] is each = ap (λ xs. Ok (at xs)) (sym (is ∙ append_none done))
listed_run d makes at all done (x ∷ more) is each =
    first_then d (makes x) (map makes more) (at done) (at (done ++ x ∷ [])) (at all) (each done x more is)
    (listed_run d makes at all (done ++ x ∷ []) more (is ∙ sym (append_assoc done (x ∷ []) more)) each)

module _ (d : Dialect) (c : Catalogue) (sound : IsSound d c) (done : List (Name × Table)) (e : Name × Table) (more : List (Name × Table)) (is : c.tables ≡ done ++ e ∷ more) (free : AreFree d e) where
  abbrev it : Table
  it = e.1

  abbrev at : Table → Catalogue
  at p = weave d c sound done e more is p

  pub key_run : run User d (key_added e) (at (made it)) ≡ Ok (at (filled it it.key [] [] []))
  key_run = by (has_number it) it.key refl refl where
    by : (b : Bool) (key : Option Key) → has_number it ≡ b → it.key ≡ key → run User d (cond b [] (key_statements e.0 key)) (at (made it)) ≡ Ok (at (filled it it.key [] [] []))
    by true key numbered has = ap (λ k. Ok (at (filled it k [] [] []))) (ap (λ b. cond b it.key None) numbered)
    by false None numbered has = ap (λ k. Ok (at (filled it k [] [] []))) (ap (λ b. cond b it.key None) numbered ∙ sym has)
    by false (Some k) numbered has =
        first_then d (AddPrimaryKey e.0 k) [] (at (made it)) (at (filled it it.key [] [] [])) (at (filled it it.key [] [] []))
        (key_step d c sound done e more is k has (ap (λ b. cond b it.key None) numbered) (free.key k has).0 (free.key k has).1) refl

  pub filling_run : run User d (filling e) (at (made it)) ≡ Ok (at (keyed it))
  filling_run =
      both_run d (key_added e) (map (λ u. AddUnique e.0 u) it.uniques ++ map (λ x. CreateIndex e.0 x) it.indexes) (at (made it)) (at (filled it it.key [] [] [])) (at (keyed it)) key_run
      (both_run d (map (λ u. AddUnique e.0 u) it.uniques) (map (λ x. CreateIndex e.0 x) it.indexes) (at (filled it it.key [] [] [])) (at (filled it it.key it.uniques [] [])) (at (keyed it))
      (listed_run d (λ u. AddUnique e.0 u) (λ us. at (filled it it.key us [] [])) it.uniques [] it.uniques refl (λ us u rest has. unique_step d c sound done e more is us u rest has (free.uniques us u rest has).0 (free.uniques us u rest has).1))
      (listed_run d (λ x. CreateIndex e.0 x) (λ xs. at (filled it it.key it.uniques xs [])) it.indexes [] it.indexes refl (λ xs x rest has. index_step d c sound done e more is xs x rest has (free.indexes xs x rest has).0 (free.indexes xs x rest has).1)))

  pub aims_run : run User d (aims e) (aiming d c sound done e more is (keyed it)) ≡ Ok (aiming d c sound done e more is (full it))
  aims_run = listed_run d (λ f. AddForeignKey e.0 f) (λ fs. aiming d c sound done e more is (with_some d c sound done e more is fs)) it.foreign [] it.foreign refl (λ fs f rest has. foreign_step d c sound done e more is fs f rest has (free.foreign fs f rest has))

-- ---- all tables

-- the tables before as F makes them, those behind as B does
abbrev pub between : (Table → Table) → (Table → Table) → Catalogue → List (Name × Table) → List (Name × Table) → Catalogue
between F B c done rest = record { tables = map (on F) done ++ map (on B) rest; views = []; sequences = c.sequences }

pub moved : (F B : Table → Table) (c : Catalogue) (done : List (Name × Table)) (e : Name × Table) (more : List (Name × Table))
    → (let g : Catalogue = record { tables = map (on F) done ++ (e.0, F e.1) ∷ map (on B) more; views = []; sequences = c.sequences } in g) ≡ between F B c (done ++ e ∷ []) more
moved F B c done e more = ap (λ ts. record { tables = ts; views = []; sequences = c.sequences }) (go done) where
  go : (done : List (Name × Table)) → map (on F) done ++ (e.0, F e.1) ∷ map (on B) more ≡ map (on F) (done ++ e ∷ []) ++ map (on B) more
  go [] = refl
  go (x ∷ es) = ap (λ fs. on F x ∷ fs) (go es)

module _ (d : Dialect) (c : Catalogue) (F B : Table → Table) (makes : Name × Table → List Statement)
    (each : (done : List (Name × Table)) (e : Name × Table) (more : List (Name × Table)) → c.tables ≡ done ++ e ∷ more
    → run User d (makes e) (record { tables = map (on F) done ++ (e.0, B e.1) ∷ map (on B) more; views = []; sequences = c.sequences })
    ≡ Ok (record { tables = map (on F) done ++ (e.0, F e.1) ∷ map (on B) more; views = []; sequences = c.sequences })) where
  pub all_run : (done rest : List (Name × Table)) → c.tables ≡ done ++ rest → run User d (flat_map makes rest) (between F B c done rest) ≡ Ok (between F B c c.tables [])
  all_run done [] is = ap (λ ts. Ok (between F B c ts [])) (sym (is ∙ append_none done))
  all_run done (e ∷ more) is =
      both_run d (makes e) (flat_map makes more) (between F B c done (e ∷ more)) (between F B c (done ++ e ∷ []) more) (between F B c c.tables [])
      (each done e more is ∙ ap (λ g. Ok g) (moved F B c done e more))
      (all_run (done ++ e ∷ []) more (is ∙ sym (append_assoc done (e ∷ []) more)))

module _ (d : Dialect) (c : Catalogue) (sound : IsSound d c) (free : Each (AreFree d) c.tables) where
  -- the third changeset, and the fourth

  pub third_run : run User d (flat_map filling c.tables) (between keyed made c [] c.tables) ≡ Ok (between keyed made c c.tables [])
  third_run = all_run d c keyed made filling (λ done e more is. filling_run d c sound done e more is (free done e more is)) [] c.tables refl

  pub fourth_run : run User d (flat_map aims c.tables) (between full keyed c [] c.tables) ≡ Ok (between full keyed c c.tables [])
  fourth_run = all_run d c full keyed aims (λ done e more is. aims_run d c sound done e more is (free done e more is)) [] c.tables refl

  pub third_is_fourth : between keyed made c c.tables [] ≡ between full keyed c [] c.tables
  third_is_fourth = ap (λ ts. record { tables = ts; views = []; sequences = c.sequences }) (append_none (map (on keyed) c.tables))
