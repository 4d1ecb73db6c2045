-- Validation faults.
use Rattle.std.specs.List.{list_all, list_any}
use Rattle.std.specs.Prelude.{List, None, Option, Some, [], false, if◌then◌else◌, not, true, ℕ, ◌&&◌, ◌++◌, ◌||◌, ◌∷◌, ◌≡◌}
use Rattle.lq_base.specs.declared.identity.Identity.{Identity}
use Rattle.lq_base.specs.declared.tracking.Tracked.{Tracked}
use Rattle.lq_track.specs.Database.{same_identity}
use Rattle.lq_turns.specs.Script.{set_of}
use Rattle.lq_turns.specs.Set.{Set, row_at}
use Rattle.lq_turns.specs.Settle.{has_changed}
use Rattle.lq_turns.specs.Stops.{are_twins}
use Rattle.lq_turns.specs.declared.fault.Fault.{Fault}
use Rattle.lq_turns.specs.declared.fault.Fault.TheVariants.{Changed, Twice}

module _ {Key : Type 0} where
  abbrev pub changed_by : Set Key → Option (List ℕ) → List Fault
  changed_by x None = []
  changed_by x (Some was) = if has_changed x (Some was) && not x.run_on_change then Changed x.identity was (x.sum_like was) ∷ [] else []

  abbrev pub changed_at : Set Key → Option Tracked → List Fault
  changed_at x None = []
  changed_at x (Some row) = changed_by x row.md5sum

  -- of the changesets that are here, behind others that are here
  abbrev pub faults_behind : List Identity → List (Set Key) → List Tracked → List Fault
  faults_behind earlier [] rows = []
  faults_behind earlier (x ∷ xs) rows =
      if x.here
      then (if list_any (same_identity x.identity) earlier then Twice x.identity ∷ [] else []) ++ changed_at x (row_at x.identity rows) ++ faults_behind (x.identity ∷ earlier) xs rows
      else faults_behind earlier xs rows

  abbrev pub faults : List (Set Key) → List Tracked → List Fault
  faults xs rows = faults_behind [] xs rows

-- A changelog without validation faults knows its changesets by their identities.

-- without faults, a changeset that is here is the one of its identity
abbrev pub FaultlessKnows : Type 0 → Type 0
FaultlessKnows Key = (before after : List (Set Key)) (x : Set Key) (rows : List Tracked)
    → x.here ≡ true → faults (before ++ x ∷ after) rows ≡ [] → set_of (before ++ x ∷ after) x.identity ≡ Some x

-- without faults, no two selected changesets have one identity, where those that are selected are here
abbrev pub FaultlessAreApart : Type 0 → Type 0
FaultlessAreApart Key = (xs : List (Set Key)) (rows : List Tracked) → list_all (λ (x : Set Key). not x.selected || x.here) xs ≡ true → faults xs rows ≡ [] → are_twins xs ≡ false
