-- DELETE: all but children that are left.
use Rattle.std.proofs.Common.{ap, arith, sym, unwrap_or, ◌∙◌}
use Rattle.std.proofs.lemmas.Bool.{le-leb, leb-true}
use Rattle.std.specs.List.{filter, list_any}
use Rattle.std.specs.Option.{option_map}
use Rattle.std.specs.Prelude.{Bool, List, None, Option, Some, [], cond, false, length, map, not, refl, suc, true, zero, ℕ, ◌∷◌, ◌≡◌, ◌≤◌}
use Rattle.lq_base.specs.Name.{is_named}
use Rattle.lq_base.specs.declared.dialect.Dialect.{Dialect}
use Rattle.lq_base.specs.declared.name.Name.{Name}
use Rattle.lq_base.specs.declared.value.Value.{Value}
use Rattle.lq_model.specs.Catalogue.{Catalogue, Table, no_table, table_of, the_table, with_table, same_names, has_bad_null, has_equals, picked, same_values, target_lists}
use Rattle.lq_model.specs.Rows.{cascaded, delete, deleted, is_lost, row_count, without_lost, without_lost_in, without_taken}
use Rattle.lq_model.specs.Plan.{decide, has_null, has_twins, is_full, is_loose, is_overfull, misses_target, most_rows, table_has_null, table_has_twins, unique_lists}
use Rattle.lq_model.specs.Sound.{IsSound}
use Rattle.lq_model.specs.Truth.{takes}
use Rattle.lq_model.specs.declared.caller.By.{By}
use Rattle.lq_model.specs.declared.test.Test.{Test}
use Rattle.lq_model.proofs.Decide.{here}
use Rattle.lq_model.proofs.DropKeeps.{any_filtered}
use Rattle.lq_model.proofs.Kept.{never}
use Rattle.lq_model.proofs.Lists.{any-map, any_less, any_same, not_false, or_false, or_left, or_right}
use Rattle.lq_model.proofs.Maps.{lookup-values}
use Rattle.lq_decide.specs.Faults.{delete_faults, judged}
use Rattle.lq_decide.proofs.Judge.{judge}
use Rattle.lq_decide.proofs.OneTable.{full_is, none_loose, nulls_are, old_nulls, old_size, old_twins, twins_are}

-- a catalogue in which nothing but a parent can be missing
record IsQuiet (c : Catalogue) : Type 0 where
  aimed : is_loose c ≡ false
  no_null : has_null c ≡ false
  no_twins : has_twins c ≡ false
  small : is_overfull c ≡ false

fewer : {A : Type 0} (keep : A → Bool) (xs : List A) → length (filter keep xs) ≤ length xs
fewer keep [] = omega arith
fewer keep (x ∷ xs) = let more = fewer keep xs in elim (keep x) as (λ b. length (cond b (x ∷ filter keep xs) (filter keep xs)) ≤ suc (length xs)) [ true ↦ omega (arith, more) | false ↦ omega (arith, more) ]

equals_filtered : {A : Type 0} (f : A → List Value) (keep : A → Bool) (xs : List A) → has_equals (map f xs) ≡ false → has_equals (map f (filter keep xs)) ≡ false
equals_filtered f keep [] none = refl
equals_filtered f keep (x ∷ xs) none =
    let rest = equals_filtered f keep xs (or_right (list_any (same_values (f x)) (map f xs)) _ none) in
    elim (keep x) as (λ b. has_equals (map f (cond b (x ∷ filter keep xs) (filter keep xs))) ≡ false) [
      | true ↦ or_false _ _ (any-map (same_values (f x)) f (filter keep xs) ∙ any_filtered (λ y. same_values (f x) (f y)) keep xs (sym (any-map (same_values (f x)) f xs) ∙ or_left (list_any (same_values (f x)) (map f xs)) _ none)) rest
      | false ↦ rest
    ]

-- a table with some of its rows
module _ (keep : List Value → Bool) (it : Table) where
  abbrev some : Table
  some = record it { rows = filter keep it.rows }

  some_null : table_has_null it ≡ false → table_has_null some ≡ false
  some_null h = any_filtered (has_bad_null it.columns) keep it.rows h

  some_twins : table_has_twins it ≡ false → table_has_twins some ≡ false
  some_twins h = any_less _ (λ ns. has_equals (map (picked it.columns ns) it.rows)) (unique_lists it) (λ ns g. equals_filtered (picked it.columns ns) keep it.rows g) h

  some_full : is_full it ≡ false → is_full some ≡ false
  some_full h =
      let more = fewer keep it.rows in
      let most = leb-true (length it.rows) most_rows (not_false _ h) in
      ap not (le-leb (length some.rows) most_rows (omega (arith, more, most)))

-- a round takes rows away
module _ (c : Catalogue) (quiet : IsQuiet c) where
  abbrev g : Table → Table
  g x = without_lost_in c x

  looked : (k : Name) → target_lists (the_table (without_lost c) k) ≡ target_lists (the_table c k)
  looked k = ap (λ o. target_lists (unwrap_or o no_table)) (lookup-values (is_named k) g c.tables) ∙ at (table_of c k) where
    at : (o : Option Table) → target_lists (unwrap_or (option_map g o) no_table) ≡ target_lists (unwrap_or o no_table)
    at None = refl
    at (Some x) = refl

  round_quiet : IsQuiet (without_lost c)
  round_quiet = record {
    aimed = any-map (λ (x : Name × Table). list_any (misses_target (without_lost c)) x.1.foreign) (λ (x : Name × Table). (x.0, g x.1)) c.tables
        ∙ any_same _ _ c.tables (λ x. any_same (misses_target (without_lost c)) (misses_target c) x.1.foreign (λ f. ap (λ ls. not (list_any (same_names f.targets) ls)) (looked f.table))) ∙ quiet.aimed;
    no_null = any-map (λ (x : Name × Table). table_has_null x.1) (λ (x : Name × Table). (x.0, g x.1)) c.tables ∙ any_less _ (λ (x : Name × Table). table_has_null x.1) c.tables (λ x h. some_null (λ r. not (is_lost c x.1 r)) x.1 h) quiet.no_null;
    no_twins = any-map (λ (x : Name × Table). table_has_twins x.1) (λ (x : Name × Table). (x.0, g x.1)) c.tables ∙ any_less _ (λ (x : Name × Table). table_has_twins x.1) c.tables (λ x h. some_twins (λ r. not (is_lost c x.1 r)) x.1 h) quiet.no_twins;
    small = any-map (λ (x : Name × Table). is_full x.1) (λ (x : Name × Table). (x.0, g x.1)) c.tables ∙ any_less _ (λ (x : Name × Table). is_full x.1) c.tables (λ x h. some_full (λ r. not (is_lost c x.1 r)) x.1 h) quiet.small;
  }

rounds_quiet : (n : ℕ) (c : Catalogue) → IsQuiet c → IsQuiet (cascaded n c)
rounds_quiet zero c quiet = quiet
rounds_quiet (suc n) c quiet = rounds_quiet n (without_lost c) (round_quiet c quiet)

module _ (d : Dialect) (t : Name) (test : Option Test) (c : Catalogue) (sound : IsSound d c) (there : table_of c t ≡ Some (the_table c t)) where
  abbrev keep : List Value → Bool
  keep r = not (takes test (the_table c t).columns r)

  abbrev new : Table
  new = without_taken test (the_table c t)

  quiet : IsQuiet (deleted t test c)
  quiet = rounds_quiet (row_count c) (with_table c t new) (record {
    aimed = none_loose d c t sound there new (λ ns h. h) (λ p h. h);
    no_null = nulls_are d c t sound there new ∙ some_null keep (the_table c t) (old_nulls d c t sound there new);
    no_twins = twins_are d c t sound there new ∙ some_twins keep (the_table c t) (old_twins d c t sound there new);
    small = full_is d c t sound there new ∙ some_full keep (the_table c t) (old_size d c t sound there new);
  })

pub delete_judged : (by : By) (d : Dialect) (t : Name) (test : Option Test) (c : Catalogue) → IsSound d c → decide (delete by d t test c) ≡ judged (delete by d t test c) (delete_faults t test c)
delete_judged by d t test c sound = judge (delete by d t test c) (delete_faults t test c)
    (λ first. (quiet d t test c sound (here c t (or_left _ _ first.missing))).aimed)
    (λ all.
    let q = quiet d t test c sound (here c t (or_left _ _ all.missing)) in
    record { nulls = q.no_null; twins = q.no_twins; orphans = never (deleted t test c).tables; children = refl; full = q.small })
