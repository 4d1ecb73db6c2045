-- What the builder's values stand for, as collections open and close.
use Rattle.std.proofs.Common.{◌≡◌, ℕ, ◌<◌, ◌≤◌, length, arith, List, [], ◌∷◌, ◌++◌, map, refl, sym, ap, subst, ◌∙◌}
use Rattle.std.proofs.lemmas.List.{map-append, reverse-append}
use Rattle.lq_tree.specs.declared.node.Node.{Node}
use Rattle.lq_yaml.specs.declared.place.Frame as code_frame
use Rattle.lq_yaml.specs.declared.place.Cell as code_cell
use Rattle.lq_yaml.specs.declared.place.Cell.TheVariants as code_cells
use Rattle.lq_yaml.specs.Machine.{Frame, Cell, done, top, settled, place, cell_node, filled}
use Rattle.lq_yaml.specs.View.{part_of, frame_of, cell_of, stack, place_by, settled_place}
use Rattle.lq_yaml.proofs.Complete.{settled_more, settled_here}

pub stack_push : (fs : List code_frame.Frame) (f : code_frame.Frame) → stack (fs ++ f ∷ []) ≡ frame_of f ∷ stack fs
stack_push fs f = rw (map-append frame_of fs (f ∷ []), reverse-append (map frame_of fs) (frame_of f ∷ [])) refl

-- a collection is closed
pub closed : (cell : code_cell.Cell) (all fs : List code_frame.Frame) (f : code_frame.Frame) (node inside : Node) → all ≡ fs ++ f ∷ []
    → inside ≡ cell_node (cell_of cell) → node ≡ filled (part_of f.part) inside
    → (q : ℕ) → q < top (stack all) → settled_place q (place_by (code_cells.Done node) fs) ≡ settled_place q (place_by cell all)
closed cell all fs f node inside is seen made q lt =
    let are : stack all ≡ frame_of f ∷ stack fs = ap stack is ∙ stack_push fs f in
    let lt' : q < f.rank = subst (λ (l : List Frame). q < top l) are lt in
    ap (λ (n : Node). settled q (done n) (stack fs)) (made ∙ ap (λ (n : Node). filled (part_of f.part) n) seen)
    ∙ sym (settled_more q (cell_of cell) (frame_of f) (stack fs) lt')
    ∙ ap (λ (l : List Frame). settled q (cell_of cell) l) (sym are)

-- where no collection is of a greater rank, nothing closes
pub still : (q : ℕ) (c : Cell) (fs : List Frame) → top fs ≤ q → settled q c fs ≡ place c fs
still q c [] le = refl
still q c (f ∷ fs) le = settled_here q c f fs le

pub not_empty : (q : ℕ) (fs : List code_frame.Frame) → q < top (stack fs) → 0 < length fs
not_empty q [] lt = absurd (omega arith)
not_empty q (f ∷ fs) lt = omega arith
