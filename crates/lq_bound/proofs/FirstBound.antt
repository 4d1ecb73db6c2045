-- The first turn that is planned and that no rollback could take back is that of the first such changeset.
use Rattle.std.proofs.Common.{ap, arith, refl, sym, ◌∙◌}
use Rattle.std.specs.Option.{option_or}
use Rattle.std.specs.Prelude.{Bool, List, None, Option, Some, [], cond, false, if◌then◌else◌, is_none, is_some, not, option_and_then, option_map, slice_get, suc, true, ℕ, ◌+◌, ◌++◌, ◌∷◌, ◌≡◌}
use Rattle.std.specs.List.{find}
use Rattle.lq_back.proofs.Ways.{undoable}
use Rattle.lq_base.specs.declared.identity.Identity.{Identity}
use Rattle.lq_base.specs.declared.tracking.Tracked.{Tracked}
use Rattle.lq_any.specs.declared.any_change.AnyChange.{AnyChange}
use Rattle.lq_kinds.specs.declared.change_set.ChangeSet.{ChangeSet}
use Rattle.lq_model.specs.declared.statement.Statement.{Statement}
use Rattle.lq_plan.specs.Told.{item_at, work_from}
use Rattle.lq_plan.specs.declared.turns.Item.{Item}
use Rattle.lq_expr.specs.declared.options.Options.{Options}
use Rattle.lq_seen.specs.View.{any_meaning, view, views}
use Rattle.lq_turns.specs.Set.{undoing, Set}
use Rattle.lq_turns.specs.Settle.{what}
use Rattle.lq_turns.specs.declared.choice.What.{What}
use Rattle.lq_turns.specs.declared.choice.What.TheVariants.{Again, Fill, New}
use Rattle.lq_bound.specs.Turns.{bound_in, if_bound, is_bound as is_bound_set}
use Rattle.lq_back.specs.Bound.{first_bound, identity_in, is_bound}

none_some : (u : Option (List Statement)) → not (is_some u) ≡ is_none u
none_some None = refl
none_some (Some statements) = refl

no_more : (n : ℕ) → n + 0 ≡ n
no_more n = omega arith

from_none : (k : ℕ) → 0 + k ≡ k
from_none k = omega arith

one_more : (n k : ℕ) → suc n + k ≡ n + suc k
one_more n k = omega arith

abbrev pub named : Option ChangeSet → Option Identity
named o = option_map (λ (x : ChangeSet). x.identity) o

abbrev named_set : Option (Set AnyChange) → Option Identity
named_set o = option_map identity_in o

module _ (options : Options) (sets : List ChangeSet) (rows : List Tracked) where
  agree : (x : ChangeSet) (w : What) → is_bound_set x w ≡ is_bound options.dialect (view options x) (Some w)
  agree x New = ap not (undoable options x) ∙ none_some (undoing options.dialect any_meaning (view options x))
  agree x Again = refl
  agree x Fill = refl

  abbrev test : Set AnyChange → Bool
  test x = is_bound options.dialect x (what x rows)

  abbrev bound : List Item → Option Identity
  bound items = named (bound_in sets items)

  abbrev rest_from : ℕ → List ChangeSet → List Item
  rest_from n xs = work_from (suc n) (views options xs) rows

  abbrev then_found : ChangeSet → List ChangeSet → Bool → Option Identity
  then_found x xs b = named_set (cond b (Some (view options x)) (find test (views options xs)))

  by_test : (n : ℕ) (x : ChangeSet) (xs : List ChangeSet) (b : Bool) → bound (rest_from n xs) ≡ named_set (find test (views options xs))
      → named (option_or (if b then Some x else None) (bound_in sets (rest_from n xs))) ≡ then_found x xs b
  by_test n x xs true more = refl
  by_test n x xs false more = more

  step : (n : ℕ) (x : ChangeSet) (xs : List ChangeSet) → slice_get sets n ≡ Some x → bound (rest_from n xs) ≡ named_set (find test (views options xs))
      → (w : Option What) → what (view options x) rows ≡ w → bound (item_at n w ++ rest_from n xs) ≡ then_found x xs (test (view options x))
  step n x xs here more None is = more ∙ sym (ap (λ (u : Option What). then_found x xs (is_bound options.dialect (view options x) u)) is)
  step n x xs here more (Some w) is =
      ap (λ (q : Option ChangeSet). named (option_or (option_and_then (if_bound w) q) (bound_in sets (rest_from n xs)))) here
      ∙ by_test n x xs (is_bound_set x w) more
      ∙ ap (then_found x xs) (agree x w)
      ∙ sym (ap (λ (u : Option What). then_found x xs (is_bound options.dialect (view options x) u)) is)

  found : (n : ℕ) (xs : List ChangeSet) → ((k : ℕ) → slice_get sets (n + k) ≡ slice_get xs k) → bound (work_from n (views options xs) rows) ≡ named_set (find test (views options xs))
  found n [] at = refl
  found n (x ∷ xs) at =
      step n x xs (ap (slice_get sets) (sym (no_more n)) ∙ at 0) (found (suc n) xs (λ k. ap (slice_get sets) (one_more n k) ∙ at (suc k))) (what (view options x) rows) refl

  pub first_found : (items : List Item) → items ≡ work_from 0 (views options sets) rows → bound items ≡ first_bound options.dialect (views options sets) rows
  first_found items is = ap bound is ∙ found 0 sets (λ k. ap (slice_get sets) (from_none k))
