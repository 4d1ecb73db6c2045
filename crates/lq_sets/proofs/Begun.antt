-- The plan of the turns to come before the first of them.
use Rattle.std.proofs.Common.{ap, arith, length, reverse, sym, refl, ◌≡◌, ◌≤◌, ◌∙◌, ◌+◌, ◌++◌, ◌||◌, ◌&&◌, Bool, false, true, not, List, [], ◌∷◌, None, Option, Some, min, nat_lt, suc, ℕ}
use Rattle.std.proofs.lemmas.Bool.{lt-ltb}
use Rattle.std.proofs.lemmas.List.{length-map, reverse-append}
use Rattle.std.specs.List.{list_all}
use Rattle.lq_base.specs.declared.tracking.Tracked.{Tracked}
use Rattle.lq_expr.specs.declared.options.Options.{Options}
use Rattle.lq_any.specs.declared.any_change.AnyChange.{AnyChange}
use Rattle.lq_kinds.specs.declared.change_set.ChangeSet.{ChangeSet}
use Rattle.lq_model.proofs.Lists.{all-append, all-append_left, all-append_right, and_left, and_true}
use Rattle.lq_plan.specs.Told.{item_at, work, work_from}
use Rattle.lq_plan.specs.declared.turns.Item.{Item}
use Rattle.lq_sets.specs.SetTurns.{ArePlanned}
use Rattle.lq_seen.specs.View.{view, views}
use Rattle.lq_turns.proofs.Known.{faultless_are_apart}
use Rattle.lq_turns.specs.Faults.{faults}
use Rattle.lq_turns.specs.Set.{Set}
use Rattle.lq_turns.specs.Settle.{greatest, what}
use Rattle.lq_turns.specs.declared.choice.What.{What}

-- the items of a plan are places of the changelog

abbrev is_below : ℕ → Item → Bool
is_below count item = nat_lt item.index count

one_below : (n count : ℕ) (w : Option What) → n + 1 ≤ count → list_all (is_below count) (item_at n w) ≡ true
one_below n count None fits = refl
one_below n count (Some w) fits = and_true _ true (lt-ltb n count (omega arith)) refl

all_below : {Key : Type 0} (rows : List Tracked) (xs : List (Set Key)) (n count : ℕ) → n + length xs ≤ count → list_all (is_below count) (work_from n xs rows) ≡ true
all_below rows [] n count fits = refl
all_below rows (x ∷ xs) n count fits =
    all-append (is_below count) (item_at n (what x rows)) (work_from (suc n) xs rows) (one_below n count (what x rows) (omega arith)) (all_below rows xs (suc n) count (omega arith))

all_turned : (p : Item → Bool) (items : List Item) → list_all p (reverse items) ≡ true → list_all p items ≡ true
all_turned p [] all = refl
all_turned p (item ∷ items) all =
    let split : list_all p (reverse items ++ item ∷ []) ≡ true = ap (list_all p) (sym (reverse-append (item ∷ []) items)) ∙ all in
    and_true _ _ (and_left (p item) true (all-append_right p (reverse items) (item ∷ []) split)) (all_turned p items (all-append_left p (reverse items) (item ∷ []) split))

pub places_within : (options : Options) (sets : List ChangeSet) (rows : List Tracked) (items : List Item) → reverse items ≡ work (views options sets) rows → list_all (λ (item : Item). nat_lt item.index (length sets)) items ≡ true
places_within options sets rows items planned =
    let count : length (views options sets) ≡ length sets = length-map sets (view options) in
    all_turned (is_below (length sets)) items (ap (list_all (is_below (length sets))) planned ∙ all_below rows (views options sets) 0 (length sets) (omega arith))

-- a changeset that is selected is for the dialect

selected_here : (options : Options) (sets : List ChangeSet) → list_all (λ (x : Set AnyChange). not x.selected || x.here) (views options sets) ≡ true
selected_here options [] = refl
selected_here options (x ∷ sets) = and_true _ _ (by x.here _) (selected_here options sets) where
  by : (here met : Bool) → (not (here && met) || here) ≡ true
  by true true = refl
  by true false = refl
  by false met = refl

-- where the greatest place has 31 bits
pub begins_planned : (options : Options) (sets : List ChangeSet) (rows : List Tracked) (items : List Item) (last : ℕ) → reverse items ≡ work (views options sets) rows → faults (views options sets) rows ≡ []
    → last ≡ min (greatest rows) 2147483647 → greatest rows ≤ 2147483647 → ArePlanned 0 (views options sets) (reverse items) last rows
begins_planned options sets rows items last planned faultless is small = record {
  work = sym planned;
  apart = faultless_are_apart AnyChange (views options sets) rows (selected_here options sets) faultless;
  last_is = omega arith;
  small = omega arith;
}
