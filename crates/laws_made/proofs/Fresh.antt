-- Each change is fresh at its place.
use Rattle.std.proofs.Common.{ap, sym, subst, ◌∙◌, append_assoc}
use Rattle.std.specs.List.{AllByRecursion, flat_map, list_all, list_any}
use Rattle.std.specs.Prelude.{Bool, Err, List, None, Ok, Option, Result, Some, [], cond, false, map, not, refl, true, ℕ, ◌&&◌, ◌++◌, ◌||◌, ◌∷◌, ◌≡◌}
use Rattle.lq_base.specs.Name.{is_named}
use Rattle.lq_base.specs.declared.dialect.Dialect.{Dialect}
use Rattle.lq_base.specs.declared.name.Name.{Name}
use Rattle.lq_base.specs.declared.reason.Reason.{Reason}
use Rattle.lq_any.specs.AnyChange.{effect, gives, is_fresh}
use Rattle.lq_any.specs.declared.any_change.AnyChange.{AnyChange}
use Rattle.lq_model.proofs.Lists.{and_left, and_right, and_true}
use Rattle.lq_model.specs.Catalogue.{Catalogue, Table, no_objects, the_table, is_in, key_list}
use Rattle.lq_model.specs.Sound.{IsSound, IsSoundTable, is_not_null}
use Rattle.lq_model.specs.Step.{run}
use Rattle.lq_model.specs.TakesBack.{is_firm}
use Rattle.lq_model.specs.declared.caller.By.TheVariants.{User}
use Rattle.lq_model.specs.declared.column.Column.{Column}
use Rattle.lq_model.specs.declared.constraint.Key.{Key}
use Rattle.lq_seen.specs.View.{any_meaning}
use Rattle.lq_turns.specs.Set.{all_fresh, effects}
use Rattle.laws_made.specs.CreatedAs.{all_changes, of_aims, of_filling, of_foreign, of_index, of_key, of_own_key, of_sequence, of_table, of_unique, of_view}
use Rattle.laws_made.proofs.Effects.{IsPlain, both_of, each_of, effects_are, filled_plain, lists_of, plain_foreign, plain_own_key, plain_sequence, plain_table, plain_view}
use Rattle.laws_stages.proofs.Filled.{keyed_part, made_part, weave}
use Rattle.laws_stages.proofs.Loops.{between, filling_run, key_run, moved}
use Rattle.laws_stages.proofs.SameTable.{first_not_null, found_not_null}
use Rattle.laws_made.proofs.Whole.{MayMake, fifth, filling_given, fine, first, fourth, own_key_given, second, third}
use Rattle.laws_stages.proofs.Woven.{the_one}
use Rattle.laws_stages.specs.Making.{filled, full, keyed, made, on}

abbrev pub fresh_all : Dialect → List AnyChange → Catalogue → Bool
fresh_all d xs c = all_fresh d any_meaning xs c

same_ok : {x y : Catalogue} → (let r : Result Catalogue Reason = Ok x in r) ≡ Ok y → x ≡ y
same_ok e = Prim.cc

pub fresh_both : (d : Dialect) (xs ys : List AnyChange) (c g : Catalogue) → fresh_all d xs c ≡ true → effects d any_meaning xs c ≡ Ok g → fresh_all d ys g ≡ true → fresh_all d (xs ++ ys) c ≡ true
fresh_both d [] ys c g h is k = ap (fresh_all d ys) (same_ok is) ∙ k
fresh_both d (x ∷ xs) ys c g h is k = by (effect d x c) h is (λ e p q. fresh_both d xs ys e g p q k) where
  by : (r : Result Catalogue Reason) → (is_fresh d x c && elim r as (λ _. Bool) [ Ok e ↦ fresh_all d xs e | Err reason ↦ true ]) ≡ true
      → elim r as (λ _. Result Catalogue Reason) [ Ok e ↦ effects d any_meaning xs e | Err reason ↦ Err reason ] ≡ Ok g
      → ((e : Catalogue) → fresh_all d xs e ≡ true → effects d any_meaning xs e ≡ Ok g → fresh_all d (xs ++ ys) e ≡ true)
      → (is_fresh d x c && elim r as (λ _. Bool) [ Ok e ↦ fresh_all d (xs ++ ys) e | Err reason ↦ true ]) ≡ true
  by (Ok e) p q more = and_true _ _ (and_left (is_fresh d x c) _ p) (more e (and_right (is_fresh d x c) _ p) q)
  by (Err reason) p q more = p

-- what is fresh everywhere
abbrev pub IsNew : Dialect → AnyChange → Type 0
IsNew d x = (c : Catalogue) → is_fresh d x c ≡ true

pub new_all : (d : Dialect) (xs : List AnyChange) (c : Catalogue) → AllByRecursion (IsNew d) xs → fresh_all d xs c ≡ true
new_all d [] c h = refl
new_all d (x ∷ xs) c h = and_true _ _ (h.0 c) (by (effect d x c) (λ e. new_all d xs e h.1)) where
  by : (r : Result Catalogue Reason) → ((e : Catalogue) → fresh_all d xs e ≡ true) → elim r as (λ _. Bool) [ Ok e ↦ fresh_all d xs e | Err reason ↦ true ] ≡ true
  by (Ok e) more = more e
  by (Err reason) more = refl

-- a key: its columns are NOT NULL

firm_columns : (it : Table) (ns : List Name) (cs : List Column) → list_all (is_not_null it) ns ≡ true
    → ((n : Name) → is_not_null it n ≡ true → list_all (λ (c : Column). not (is_named n c.name) || not c.nullable) cs ≡ true)
    → list_all (λ (c : Column). not (is_in c.name ns) || not c.nullable) cs ≡ true
firm_columns it ns [] h firm = refl
firm_columns it ns (c ∷ cs) h firm = and_true _ _ (by (is_in c.name ns) refl) (firm_columns it ns cs h (λ n is. and_right (not (is_named n c.name) || not c.nullable) _ (firm n is))) where
  by : (b : Bool) → is_in c.name ns ≡ b → (not b || not c.nullable) ≡ true
  by false is = refl
  by true is = ap not (first_not_null c _ (firm c.name (found_not_null it ns c.name h is)))

module _ (d : Dialect) (c : Catalogue) (sound : IsSound d c) (may : MayMake d c) (done : List (Name × Table)) (e : Name × Table) (more : List (Name × Table)) (is : c.tables ≡ done ++ e ∷ more) where
  abbrev it : Table
  it = e.1

  abbrev g : Catalogue
  g = weave d c sound done e more is (made it)

  its_fine : IsSoundTable d it
  its_fine = fine d c sound may done e more is

  key_fresh : (k : Key) → it.key ≡ Some k → is_firm e.0 k.columns g ≡ true
  key_fresh k has =
      ap (λ (T : Table). list_all (λ (x : Column). not (is_in x.name k.columns) || not x.nullable) T.columns) (the_one d c done e more is sound.ordered keyed made keyed_part made_part (made it))
      ∙ firm_columns it k.columns it.columns (and_left (list_all (is_not_null it) k.columns) _ (ap (λ key. list_all (λ (k : Key). list_all (is_not_null it) k.columns) (key_list key)) (sym has) ∙ its_fine.key)) (λ n is. is)

  own_key_fresh : fresh_all d (of_own_key d e) g ≡ true
  own_key_fresh = by (list_any (λ (c : Column). c.numbered) it.columns) it.key refl where
    last : (r : Result Catalogue Reason) → elim r as (λ _. Bool) [ Ok e ↦ true | Err reason ↦ true ] ≡ true
    last (Ok e) = refl
    last (Err reason) = refl

    by : (b : Bool) (key : Option Key) → it.key ≡ key → fresh_all d (cond b [] (of_key d e.0 key)) g ≡ true
    by true key has = refl
    by false None has = refl
    by false (Some k) has = and_true _ _ (key_fresh k has) (last _)

  own_key_effects : effects d any_meaning (of_own_key d e) g ≡ Ok (weave d c sound done e more is (filled it it.key [] [] []))
  own_key_effects = effects_are d (of_own_key d e) g (plain_own_key d e) ∙ ap (λ ss. run User d ss g) (own_key_given d e its_fine.key_named) ∙ key_run d c sound done e more is (may.others done e more is)

  pub filling_fresh : fresh_all d (of_filling d e) g ≡ true
  filling_fresh =
      fresh_both d (of_own_key d e) (map (of_unique e.0) it.uniques ++ map (of_index e.0) it.indexes) g (weave d c sound done e more is (filled it it.key [] [] [])) own_key_fresh own_key_effects
      (new_all d (map (of_unique e.0) it.uniques ++ map (of_index e.0) it.indexes) (weave d c sound done e more is (filled it it.key [] [] []))
      (both_of (IsNew d) (map (of_unique e.0) it.uniques) (map (of_index e.0) it.indexes) (each_of (IsNew d) (of_unique e.0) (λ u c. refl) it.uniques) (each_of (IsNew d) (of_index e.0) (λ x c. refl) it.indexes)))

  pub filling_effects : effects d any_meaning (of_filling d e) g ≡ Ok (weave d c sound done e more is (keyed it))
  filling_effects = effects_are d (of_filling d e) g (filled_plain d e) ∙ ap (λ ss. run User d ss g) (filling_given d e its_fine.key_named) ∙ filling_run d c sound done e more is (may.others done e more is)

module _ (d : Dialect) (c : Catalogue) (sound : IsSound d c) (may : MayMake d c) where
  third_fresh : (done rest : List (Name × Table)) → c.tables ≡ done ++ rest → fresh_all d (flat_map (of_filling d) rest) (between keyed made c done rest) ≡ true
  third_fresh done [] is = refl
  third_fresh done (e ∷ more) is =
      fresh_both d (of_filling d e) (flat_map (of_filling d) more) (between keyed made c done (e ∷ more)) (between keyed made c (done ++ e ∷ []) more)
      (filling_fresh d c sound may done e more is)
      (filling_effects d c sound may done e more is ∙ ap (λ g. Ok g) (moved keyed made c done e more))
      (third_fresh (done ++ e ∷ []) more (is ∙ sym (append_assoc done (e ∷ []) more)))

  pub whole_fresh : fresh_all d (all_changes d c) no_objects ≡ true
  whole_fresh =
      let a = map of_sequence c.sequences in
      let b = map (of_table d) c.tables in
      let e = flat_map (of_filling d) c.tables in
      let f = flat_map of_aims c.tables in
      let g = map (of_view d) c.views in
      let at = λ (ts : List (Name × Table)). (let x : Catalogue = record { tables = ts; views = []; sequences = c.sequences } in x) in
      fresh_both d a (b ++ (e ++ (f ++ g))) no_objects (at [])
      (new_all d a no_objects (each_of (IsNew d) of_sequence (λ s c. refl) c.sequences))
      (effects_are d a no_objects (each_of (IsPlain d) of_sequence (plain_sequence d) c.sequences) ∙ first d c sound may)
      (fresh_both d b (e ++ (f ++ g)) (at []) (at (map (on made) c.tables))
      (new_all d b (at []) (each_of (IsNew d) (of_table d) (λ s c. refl) c.tables))
      (effects_are d b (at []) (each_of (IsPlain d) (of_table d) (plain_table d) c.tables) ∙ second d c sound may)
      (fresh_both d e (f ++ g) (at (map (on made) c.tables)) (at (map (on keyed) c.tables))
      (third_fresh [] c.tables refl)
      (effects_are d e (at (map (on made) c.tables)) (lists_of (IsPlain d) (of_filling d) (filled_plain d) c.tables) ∙ third d c sound may)
      (fresh_both d f g (at (map (on keyed) c.tables)) (at (map (on full) c.tables))
      (new_all d f (at (map (on keyed) c.tables)) (lists_of (IsNew d) of_aims (λ e. each_of (IsNew d) (of_foreign e.0) (λ x c. refl) e.1.foreign) c.tables))
      (effects_are d f (at (map (on keyed) c.tables)) (lists_of (IsPlain d) of_aims (λ e. each_of (IsPlain d) (of_foreign e.0) (plain_foreign d e.0) e.1.foreign) c.tables) ∙ fourth d c sound may)
      (new_all d g (at (map (on full) c.tables)) (each_of (IsNew d) (of_view d) (λ v c. refl) c.views)))))
