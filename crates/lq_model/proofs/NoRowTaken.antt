-- An UPDATE that takes no row.
use Rattle.std.proofs.Common.{ap, sym, ◌∙◌}
use Rattle.std.specs.List.{filter}
use Rattle.std.specs.Prelude.{Bool, List, [], cond, false, length, map, refl, true, ◌∷◌, ◌≡◌}
use Rattle.lq_model.specs.Catalogue.{the_table, with_table}
use Rattle.lq_model.specs.Step.{UpdateOfNoRow}
use Rattle.lq_model.specs.Truth.{takes}
use Rattle.lq_model.specs.Rows.{set_all, update}
use Rattle.lq_model.proofs.Decide.{accepted, counted, here}
use Rattle.lq_model.proofs.Kept.{with_table-itself}
use Rattle.lq_model.proofs.Lists.{or_left}

-- what is changed where a test holds that holds nowhere
none_changed : {A : Type 0} (test : A → Bool) (f : A → A) (xs : List A) → length (filter test xs) ≡ 0 → map (λ x. cond (test x) (f x) x) xs ≡ xs
none_changed test f [] none = refl
none_changed test f (x ∷ xs) none =
    elim (test x) as (λ b. length (cond b (x ∷ filter test xs) (filter test xs)) ≡ 0 → cond b (f x) x ∷ map (λ y. cond (test y) (f y) y) xs ≡ x ∷ xs) [
      | true ↦ λ h. absurd Prim.cc
      | false ↦ λ h. ap (λ ys. x ∷ ys) (none_changed test f xs h)
    ] none

pub update_of_none : UpdateOfNoRow
update_of_none by d t sets test c e made =
    let it = the_table c t in
    let p = update by d t sets test c in
    let ok = accepted p e 0 made in
    sym ok.result
    ∙ ap (λ rows. with_table c t (record it { rows = rows })) (none_changed (takes test it.columns) (set_all sets it.columns) it.rows (counted p e 0 made))
    ∙ with_table-itself c t (here c t (or_left _ _ ok.missing))
