-- What the values of the builder stand for.
use Rattle.std.specs.Prelude.{Bool, List, None, Option, Some, false, map, reverse, true, ℕ, ◌≡◌}
use Rattle.lq_yaml.specs.Machine.{Cell, Frame, Part, Place, block, done, entries, items, none, place, settled}
use Rattle.lq_yaml.specs.declared.part.Part as code_part
use Rattle.lq_yaml.specs.declared.part.Part.TheVariants as code_parts
use Rattle.lq_yaml.specs.declared.place.Cell as code_cell
use Rattle.lq_yaml.specs.declared.place.Cell.TheVariants as code_cells
use Rattle.lq_yaml.specs.declared.place.Frame as code_frame
use Rattle.lq_yaml.specs.declared.place.Place as code_place

abbrev pub part_of : code_part.Part → Part
part_of (code_parts.Items ns) = items ns
part_of (code_parts.Entries map key) = entries map.entries key

abbrev pub frame_of : code_frame.Frame → Frame
frame_of f = record { rank = f.rank; part = part_of f.part }

abbrev pub cell_of : code_cell.Cell → Cell
cell_of code_cells.Empty = none
cell_of (code_cells.Done n) = done n
cell_of (code_cells.Block chomping lines) = block chomping lines

-- innermost first
abbrev pub stack : List code_frame.Frame → List Frame
stack fs = reverse (map frame_of fs)

abbrev pub place_by : code_cell.Cell → List code_frame.Frame → Place
place_by c fs = place (cell_of c) (stack fs)

abbrev pub place_of : code_place.Place → Place
place_of p = place_by p.cell p.frames.items

abbrev pub settled_place : ℕ → Place → Place
settled_place q s = settled q s.cell s.frames

-- whether it was taken, and where that leads
abbrev pub Takes : {A : Type 0} → Bool → Option A → A → Type 0
Takes true meant new = meant ≡ Some new
Takes false meant new = meant ≡ None
