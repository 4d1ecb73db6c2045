-- Lemmas on the record of changes of entries.
use Rattle.std.proofs.Common.{List, None, [], ap, arith, length, reverse, slice_index_or, subst, sym, ℕ, ◌++◌, ◌∷◌, ◌≡◌, ◌≤◌, ◌<◌}
use Rattle.std.proofs.lemmas.List.{reverse-append}
use Rattle.std.specs.BTreeMap.{insert_entry}
use Rattle.std.specs.List.{insert, remove}
use Rattle.std.specs.Map.{lookup}
use Rattle.lq_base.specs.Name.{is_named, name_cmp}
use Rattle.lq_base.specs.declared.name.Name.{Name}
use Rattle.lq_parts.specs.Taken.{IsOrdered, place_of, CanUndo, HasPlace, before, past_entries}
use Rattle.lq_parts.specs.declared.slot.Slot.{Slot}
use Rattle.lq_parts.specs.declared.slot.Slot.TheVariants.{Put, Taken}
use Rattle.lq_parts.proofs.EntryLemmas.{insert-remove, insert_at_place, longer, remove-insert, shorter, within}

module _ {X : Type 0} where
  -- more room serves as well
  pub undo_with_more : (room more : ℕ) (es : List (Name × X)) (ss : List (Slot X)) → room ≤ more → CanUndo room es ss → CanUndo more es ss
  undo_with_more room more es [] le can = tt
  undo_with_more room more es (s ∷ ss) le can = (can.0, omega (arith, le, can.1), can.2, undo_with_more room more (before s es) ss le can.3)

  -- what is recorded last is the newest
  pub newest_first : (s : Slot X) (ss : List (Slot X)) → reverse (ss ++ s ∷ []) ≡ s ∷ reverse ss
  newest_first s ss = reverse-append ss (s ∷ [])

  -- the entries after a change that can be undone
  pub step_undone : (room more : ℕ) (es new : List (Name × X)) (s : Slot X) (ss : List (Slot X)) → before s new ≡ es → HasPlace s new → room ≤ more → length es ≤ more → IsOrdered es → CanUndo room es ss → CanUndo more new (s ∷ ss)
  step_undone room more es new s ss e place le fits order can =
      (place, subst (λ o. length o ≤ more) (sym e) fits, subst IsOrdered (sym e) order, subst (λ o. CanUndo more o ss) (sym e) (undo_with_more room more es ss le can))

  pub step_past : (es new : List (Name × X)) (s : Slot X) (ss : List (Slot X)) → before s new ≡ es → past_entries new (s ∷ ss) ≡ es ∷ past_entries es ss
  step_past es new s ss e = ap (λ o. o ∷ past_entries o ss) e

  pub put_entries : (k : Name) (x : X) (es : List (Name × X)) → lookup (is_named k) es ≡ None → insert es (place_of k es) (k, x) ≡ insert_entry name_cmp es k x
  put_entries k x es none = insert_at_place k x es none

  pub put_back : (k : Name) (x : X) (es : List (Name × X)) → before (Put (place_of k es)) (insert es (place_of k es) (k, x)) ≡ es
  put_back k x es = remove-insert es (place_of k es) (k, x) (within _ es)

  pub put_place : (k : Name) (x : X) (es : List (Name × X)) → HasPlace (Put (place_of k es)) (insert es (place_of k es) (k, x))
  put_place k x es =
      let place : place_of k es ≤ length es = within _ es in
      let long = longer es (place_of k es) (k, x) place in
      omega (arith, place, long)

  pub take_back : (at : ℕ) (e : Name × X) (es : List (Name × X)) → at < length es → e ≡ slice_index_or es at e → before (Taken at e.0 e.1) (remove es at) ≡ es
  take_back at e es less is = insert-remove es at e less is

  pub take_place : (at : ℕ) (e : Name × X) (es : List (Name × X)) → at < length es → HasPlace (Taken at e.0 e.1) (remove es at)
  take_place at e es less = let short = shorter es at less in omega (arith, less, short)
