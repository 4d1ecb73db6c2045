-- A list with its record after a row was taken out or replaced at a place.
use Rattle.std.proofs.Common.{◌≡◌, ℕ, ◌<◌, ◌^◌, List, [], ◌∷◌, ◌++◌, length, Option, Some, None, sym, ap, ◌∙◌, subst}
use Rattle.std.specs.Prelude.{reverse, slice_set}
use Rattle.std.specs.List.{remove}
use Rattle.std.specs.Option.{option_map}
use Rattle.lq_links.specs.declared.node.Node.{Node}
use Rattle.lq_links.specs.declared.node.Spot.{Spot}
use Rattle.lq_links.specs.declared.node.Links.{Links}
use Rattle.lq_links.specs.declared.node.Finger.{Finger}
use Rattle.lq_links.specs.declared.done.Done.{Done}
use Rattle.lq_links.specs.declared.done.Done.TheVariants.{Unlinked, Replaced}
use Rattle.lq_chain.specs.History.{history, IsWhole, seen}
use Rattle.lq_links.specs.State.{Has, node, first_or, last_or, rows, spot_at, IsOn, state_of, Ties, IsList, unlinked, replaced_by, spots, CanRelink}
use Rattle.lq_chain.proofs.StepLemmas.{Made, made_unlinked, made_replaced, node_in}
use Rattle.lq_chain.proofs.ChainLemmas.{unlinked_edit, replaced_edit, step_whole, step_seen}
use Rattle.lq_chain.proofs.FindLemmas.{split, node_at, on_spot, spot_after, rows_removed, rows_set}

module _ {X : Type 0} where
  -- the node at a place of the list can be taken out
  pub can_relink : (l : Links X) (items : List Done) (calls : ℕ) (f : Option Finger) (at : ℕ) (s : Spot) → IsWhole l items calls f → spot_at (spots (state_of l)) at ≡ Some s → CanRelink (state_of l) s
  can_relink l items calls f at s is e = let a = node_at (state_of l) (spots (state_of l)) at s is.1.0 e in (a.node, a.has, a.prev_there, a.next_there)

  pub took : (l l2 : Links X) (items new : List Done) (calls : ℕ) (f f2 : Option Finger) (at : ℕ) (s : Spot) (next : Option Spot)
      → IsWhole l items calls f → (state_of l).len < 2 ^ 64 → spot_at (spots (state_of l)) at ≡ Some s → state_of l2 ≡ unlinked (state_of l) s → Ties l2 → new ≡ items ++ Unlinked s ∷ []
      → ((n : Node X) → Has (state_of l).slots s n → next ≡ n.next) → f2 ≡ option_map (λ t. record { at = at; spot = t }) next
      → IsWhole l2 new calls f2 × (seen l2 new ≡ history (remove (rows (spots (state_of l))) at) (seen l items).past)
  took l l2 items new calls f f2 at s next is fits e became ties es leads on =
      let st = state_of l in let ss = spots st in let cut = split ss at s e in
      let xs = cut.front in let ys = cut.rest in let x : Spot × X = (s, cut.row) in
      let made : Made st (reverse items) (state_of l2) (Unlinked s) (xs ++ ys) = subst (λ t. Made st (reverse items) t (Unlinked s) (xs ++ ys)) (sym became) (made_unlinked st (reverse items) xs x ys is.1 fits cut.is) in
      let has : Has st.slots s (node (last_or xs None) (first_or ys None) cut.row) = node_in st xs x ys (subst (IsList st) cut.is is.1.0) in
      let here : spot_at (xs ++ ys) at ≡ next = sym (ap (spot_at (xs ++ ys)) cut.long) ∙ spot_after xs ys ∙ sym (leads (node (last_or xs None) (first_or ys None) cut.row) has) in
      let there : IsOn (xs ++ ys) f2 = subst (IsOn (xs ++ ys)) (sym on) (on_spot (xs ++ ys) at next here) in
      let left : rows (xs ++ ys) ≡ remove (rows ss) at = rows_removed xs x ys ∙ ap (remove (rows (xs ++ x ∷ ys))) cut.long ∙ ap (λ ts. remove (rows ts) at) (sym cut.is) in (
        step_whole l l2 items new (Unlinked s) (xs ++ ys) calls f f2 (unlinked_edit s) es ties made there is,
        step_seen l l2 items new (Unlinked s) (xs ++ ys) (remove (rows ss) at) (unlinked_edit s) es made left,
      )

  pub placed : (l l2 : Links X) (items new : List Done) (calls : ℕ) (f f2 : Option Finger) (at : ℕ) (s by : Spot) (row : X)
      → IsWhole l items calls f → spot_at (spots (state_of l)) at ≡ Some s → by.id ≡ length (state_of l).slots → state_of l2 ≡ replaced_by (state_of l) s by row → Ties l2 → new ≡ items ++ Replaced s by ∷ []
      → f2 ≡ Some (record { at = at; spot = by })
      → IsWhole l2 new calls f2 × (seen l2 new ≡ history (slice_set (rows (spots (state_of l))) at row) (seen l items).past)
  placed l l2 items new calls f f2 at s by row is e fresh became ties es on =
      let st = state_of l in let ss = spots st in let cut = split ss at s e in
      let xs = cut.front in let ys = cut.rest in let x : Spot × X = (s, cut.row) in let y : Spot × X = (by, row) in
      let made : Made st (reverse items) (state_of l2) (Replaced s by) (xs ++ y ∷ ys) = subst (λ t. Made st (reverse items) t (Replaced s by) (xs ++ y ∷ ys)) (sym became) (made_replaced st (reverse items) xs x ys by row is.1 fresh cut.is) in
      let here : spot_at (xs ++ y ∷ ys) at ≡ Some by = sym (ap (spot_at (xs ++ y ∷ ys)) cut.long) ∙ spot_after xs (y ∷ ys) in
      let there : IsOn (xs ++ y ∷ ys) f2 = subst (IsOn (xs ++ y ∷ ys)) (sym on) here in
      let now : rows (xs ++ y ∷ ys) ≡ slice_set (rows ss) at row = rows_set xs x y ys ∙ ap (λ i. slice_set (rows (xs ++ x ∷ ys)) i row) cut.long ∙ ap (λ ts. slice_set (rows ts) at row) (sym cut.is) in (
        step_whole l l2 items new (Replaced s by) (xs ++ y ∷ ys) calls f f2 (replaced_edit s by) es ties made there is,
        step_seen l l2 items new (Replaced s by) (xs ++ y ∷ ys) (slice_set (rows ss) at row) (replaced_edit s by) es made now,
      )
