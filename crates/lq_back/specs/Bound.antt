-- The changesets whose turns no rollback could take back.
use Rattle.std.specs.List.{find}
use Rattle.std.specs.Prelude.{Bool, List, None, Option, Some, false, is_none, option_map, true}
use Rattle.lq_base.specs.declared.dialect.Dialect.{Dialect}
use Rattle.lq_base.specs.declared.identity.Identity.{Identity}
use Rattle.lq_base.specs.declared.tracking.Tracked.{Tracked}
use Rattle.lq_any.specs.declared.any_change.AnyChange.{AnyChange}
use Rattle.lq_seen.specs.View.{any_meaning}
use Rattle.lq_turns.specs.Set.{Set, undoing}
use Rattle.lq_turns.specs.Settle.{what}
use Rattle.lq_turns.specs.declared.choice.What.{What}
use Rattle.lq_turns.specs.declared.choice.What.TheVariants.{Again, Fill, New}

-- it would run again, or it is new and nothing takes it back
abbrev pub is_bound : Dialect → Set AnyChange → Option What → Bool
is_bound d x None = false
is_bound d x (Some Fill) = false
is_bound d x (Some Again) = true
is_bound d x (Some New) = is_none (undoing d any_meaning x)

abbrev pub identity_in : Set AnyChange → Identity
identity_in x = x.identity

-- the first of them that has such a turn on these rows
abbrev pub first_bound : Dialect → List (Set AnyChange) → List Tracked → Option Identity
first_bound d xs rows = option_map identity_in (find (λ x. is_bound d x (what x rows)) xs)
