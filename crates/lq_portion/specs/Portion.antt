-- The part of a changelog that an update runs.
use Rattle.std.specs.List.{position}
use Rattle.std.specs.Prelude.{Bool, List, Option, [], if◌then◌else◌, option_map, suc, take, zero, ℕ, ◌&&◌, ◌∷◌}
use Rattle.lq_base.specs.declared.tracking.Tracked.{Tracked}
use Rattle.lq_expr.specs.declared.options.Options.{Options}
use Rattle.lq_kinds.specs.declared.change_set.ChangeSet.{ChangeSet}
use Rattle.lq_kinds.specs.declared.change_set.Changelog.{Changelog}
use Rattle.lq_seen.specs.View.{tag_of, view_log}
use Rattle.lq_turns.specs.Script.{has_tag}
use Rattle.lq_turns.specs.Set.{Set}
use Rattle.lq_turns.specs.Settle.{what}
use Rattle.lq_turns.specs.Stops.{is_to_run}

-- its first changesets alone
abbrev pub first_sets : ℕ → Changelog → Changelog
first_sets n g = record g { sets = take n g.sets }

-- how many changesets there are up to and with the n-th whose turn on these rows is new or again, or in all
abbrev pub up_to : {Key : Type 0} → ℕ → List (Set Key) → List Tracked → ℕ
up_to zero xs rows = 0
up_to (suc n) [] rows = 0
up_to (suc n) (x ∷ xs) rows = suc (if is_to_run (what x rows) then up_to n xs rows else up_to (suc n) xs rows)

-- the changelog up to and with that changeset
abbrev pub counted : ℕ → Options → Changelog → List Tracked → Changelog
counted n options g rows = first_sets (up_to n (view_log options g).sets rows) g

-- the changeset is here and sets the tag
abbrev pub sets_tag : List ℕ → ChangeSet → Bool
sets_tag tag x = x.here && has_tag tag (tag_of x.changes)

-- the changelog up to and with the changeset at this place, from 0
abbrev pub through : Changelog → ℕ → Changelog
through g place = first_sets (suc place) g

-- the changelog up to and with the first changeset that sets the tag, where there is one
abbrev pub up_to_tag : List ℕ → Changelog → Option Changelog
up_to_tag tag g = option_map (through g) (position (sets_tag tag) g.sets)
