-- Lemmas on the new rows of UPDATE in their places, and on the one where the test takes one alone.
use Rattle.std.proofs.Common.{Bool, List, None, Option, Some, [], ap, arith, cond, false, length, map, nat_eq, not, refl, slice_get, subst, sym, true, ℕ, ◌&&◌, ◌||◌, ◌∙◌, ◌∷◌, ◌≡◌}
use Rattle.std.proofs.lemmas.Bool.Decides.{nat_tests}
use Rattle.std.proofs.lemmas.List.{length-map}
use Rattle.std.proofs.lemmas.Option.{same_Some}
use Rattle.std.specs.List.{filter, list_any}
use Rattle.std.specs.Option.{option_and_then}
use Rattle.std.specs.Prelude.{IfSome}
use Rattle.lq_base.specs.declared.literal.Literal.{Literal}
use Rattle.lq_base.specs.declared.name.Name.{Name}
use Rattle.lq_base.specs.declared.value.Value.{Value}
use Rattle.lq_chain.specs.History.{History, changed}
use Rattle.lq_chain.specs.Marks.{replaced}
use Rattle.lq_decide.specs.Faults.{meets, names_set}
use Rattle.lq_model.proofs.Lists.{any_same}
use Rattle.lq_model.specs.Catalogue.{Catalogue, Table, with_table}
use Rattle.lq_model.specs.Plan.{lacks_parent}
use Rattle.lq_model.specs.Truth.{takes}
use Rattle.lq_model.specs.Rows.{edited, set_all}
use Rattle.lq_model.specs.declared.test.Test.{Test}
use Rattle.lq_one_row.proofs.OnlyLemmas.{all_taken, mapped}
use Rattle.lq_one_row.specs.Only.{IsOnly}
use Rattle.lq_parts.proofs.OneRow.{one_replaced}
use Rattle.lq_rows.specs.Stored.{with_all, with_row_at}
use Rattle.lq_rowops.proofs.UpdateLemmas.{any_edits, replaced_edits}
use Rattle.lq_rowops.specs.InsertTests.{aims, edit, is_some_such, strays}

same_nat : (a b : ℕ) → nat_eq a b ≡ true → a ≡ b
same_nat a b is = grind (arith, nat_tests, is)

nat_itself : (n : ℕ) → nat_eq n n ≡ true
nat_itself n = grind (arith, nat_tests)

or_false : (b : Bool) → (b || false) ≡ b
or_false true = refl
or_false false = refl

any_passing : (q p : List Value → Bool) (rows : List (List Value)) → list_any (λ r. q r && p r) rows ≡ list_any p (filter q rows)
any_passing q p [] = refl
any_passing q p (r ∷ rows) = at (q r) (any_passing q p rows) where
  at : (b : Bool) → list_any (λ x. q x && p x) rows ≡ list_any p (filter q rows) → ((b && p r) || list_any (λ x. q x && p x) rows) ≡ list_any p (cond b (r ∷ filter q rows) (filter q rows))
  at true more = ap (λ x. p r || x) more
  at false more = more

module _ (sets : List (Name × Literal)) (test : Option Test) (it : Table) where
  all_edited : (by : List (Option (List Value))) → by ≡ map (edit sets test it.columns) it.rows → with_all (replaced by) it ≡ edited sets test it
  all_edited by is = ap (λ rows. record it { rows = rows }) (ap (λ bs. replaced bs it.rows) is ∙ replaced_edits sets test it.columns it.rows)

  pub all_changed : (by : List (Option (List Value))) → by ≡ map (edit sets test it.columns) it.rows → (t : Name) (c : Catalogue) (h e : History Catalogue) → e ≡ changed h (with_table c t (with_all (replaced by) it)) → e ≡ changed h (with_table c t (edited sets test it))
  all_changed by is t c h e put = put ∙ ap (λ x. changed h (with_table c t x)) (all_edited by is)

  module _ (at : ℕ) (only : IsOnly test it at) where
    one : (row : List Value) × (slice_get it.rows at ≡ Some row) × (filter (takes test it.columns) it.rows ≡ row ∷ [])
    one = all_taken test it at only

    pub one_counted : 1 ≡ length (filter (takes test it.columns) it.rows)
    one_counted = sym (ap length one.2)

    set_here : (i : ℕ) (row : List Value) → slice_get it.rows i ≡ Some row → (b : Bool) → nat_eq i at ≡ b → edit sets test it.columns row ≡ cond b (Some (set_all sets it.columns one.0)) None
    set_here i row there b is = ap (λ (taken : Bool). cond taken (Some (set_all sets it.columns row)) None) (only.only i row there ∙ is) ∙ go b is where
      go : (b : Bool) → nat_eq i at ≡ b → cond b (Some (set_all sets it.columns row)) None ≡ cond b (Some (set_all sets it.columns one.0)) None
      go true same = ap (λ r. Some (set_all sets it.columns r)) (same_Some row one.0 (sym there ∙ ap (slice_get it.rows) (same_nat i at same) ∙ one.1))
      go false same = refl

    one_edited : with_row_at at (set_all sets it.columns one.0) it ≡ edited sets test it
    one_edited =
        ap (λ rows. record it { rows = rows })
        (sym (one_replaced (map (edit sets test it.columns) it.rows) it.rows at (set_all sets it.columns one.0) (length-map it.rows (edit sets test it.columns)) but) ∙ replaced_edits sets test it.columns it.rows) where
          but : (i : ℕ) (new : Option (List Value)) → slice_get (map (edit sets test it.columns) it.rows) i ≡ Some new → new ≡ cond (nat_eq i at) (Some (set_all sets it.columns one.0)) None
          but i new e = let row = mapped (edit sets test it.columns) it.rows i new e in sym row.2 ∙ set_here i row.0 row.1 (nat_eq i at) refl

    module _ (new : Option (List Value)) (is : new ≡ option_and_then (edit sets test it.columns) (slice_get it.rows at)) where
      new_is : new ≡ Some (set_all sets it.columns one.0)
      new_is = is ∙ ap (option_and_then (edit sets test it.columns)) one.1 ∙ set_here at one.0 one.1 true (nat_itself at)

      pub one_changed : (t : Name) (c : Catalogue) (h e : History Catalogue) → IfSome new (λ row. e ≡ changed h (with_table c t (with_row_at at row it))) → e ≡ changed h (with_table c t (edited sets test it))
      one_changed t c h e put = subst (λ (o : Option (List Value)). IfSome o (λ row. e ≡ changed h (with_table c t (with_row_at at row it)))) new_is put ∙ ap (λ x. changed h (with_table c t x)) one_edited

      -- what is asked of the one new row is asked of all
      pub one_such : (p : List Value → Bool) → is_some_such p new ≡ list_any (λ r. takes test it.columns r && p (set_all sets it.columns r)) it.rows
      one_such p =
          ap (is_some_such p) new_is ∙ sym (or_false (p (set_all sets it.columns one.0)))
          ∙ sym (any_passing (takes test it.columns) (λ r. p (set_all sets it.columns r)) it.rows ∙ ap (list_any (λ r. p (set_all sets it.columns r))) one.2)

      pub one_strays : (t : Name) (c : Catalogue) → list_any (strays t sets (new ∷ []) c it.columns) it.foreign ≡ list_any (strays t sets (map (edit sets test it.columns) it.rows) c it.columns) it.foreign
      one_strays t c = any_same (strays t sets (new ∷ []) c it.columns) (strays t sets (map (edit sets test it.columns) it.rows) c it.columns) it.foreign
          (λ f. ap (λ b. not (aims t sets f) && (meets (names_set sets) f.columns && b))
          (or_false (is_some_such (lacks_parent c it.columns f) new) ∙ one_such (lacks_parent c it.columns f) ∙ sym (any_edits sets test it.columns (lacks_parent c it.columns f) it.rows)))
