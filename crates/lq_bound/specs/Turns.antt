-- The first turn that no rollback could take back, among those that are planned.
use Rattle.std.specs.Option.{option_or}
use Rattle.std.specs.Prelude.{Bool, List, None, Option, Some, [], false, if◌then◌else◌, not, option_and_then, slice_get, true, ◌∷◌}
use Rattle.lq_back.specs.Reversal.{is_undoable}
use Rattle.lq_kinds.specs.declared.change_set.ChangeSet.{ChangeSet}
use Rattle.lq_plan.specs.declared.turns.Item.{Item}
use Rattle.lq_turns.specs.declared.choice.What.{What}
use Rattle.lq_turns.specs.declared.choice.What.TheVariants.{Again, Fill, New}

-- it would run again, or it is new and nothing takes it back
abbrev pub is_bound : ChangeSet → What → Bool
is_bound x New = not (is_undoable x)
is_bound x Again = true
is_bound x Fill = false

abbrev pub if_bound : What → ChangeSet → Option ChangeSet
if_bound w x = if is_bound x w then Some x else None

abbrev pub bound_at : List ChangeSet → Item → Option ChangeSet
bound_at xs item = option_and_then (if_bound item.what) (slice_get xs item.index)

abbrev pub bound_in : List ChangeSet → List Item → Option ChangeSet
bound_in xs [] = None
bound_in xs (item ∷ items) = option_or (bound_at xs item) (bound_in xs items)
