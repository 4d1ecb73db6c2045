-- What a lock tells of the part of a changeset that a stop left without a row.
use Rattle.std.specs.List.{before_first, filter}
use Rattle.std.specs.Prelude.{Bool, List, None, Option, Some, [], false, if◌then◌else◌, nat_le, nat_lt, option_and_then, true, ℕ, ◌&&◌, ◌∷◌}
use Rattle.laws_repair.specs.Repair.{by_of, is_named_so}
use Rattle.lq_base.specs.declared.tracking.Lock.{Lock}
use Rattle.lq_base.specs.declared.tracking.Tracked.{Tracked}
use Rattle.lq_expr.specs.declared.options.Options.{Options}
use Rattle.lq_any.specs.declared.any_change.AnyChange.{AnyChange}
use Rattle.lq_kinds.specs.declared.change_set.ChangeSet.{ChangeSet}
use Rattle.lq_report.specs.Mark.{Marked, lock_mark}
use Rattle.lq_report.specs.declared.mark.Form.{Form}
use Rattle.lq_report.specs.declared.mark.Form.TheVariants.{Back, Run, Undo}
use Rattle.lq_seen.specs.View.{view, views}
use Rattle.lq_turns.specs.Set.{Set}
use Rattle.lq_words.specs.Words.{is_bar}

-- a statement of a changeset was run, or taken back without a row; not one that takes a row back
abbrev pub is_part : Form → Bool
is_part Run = true
is_part Back = true
is_part Undo = false

abbrev pub is_back : Form → Bool
is_back Back = true
is_back Run = false
is_back Undo = false

abbrev pub if_part : Marked → Option Marked
if_part mark = if is_part mark.1 then Some mark else None

-- the mark of a held lock at such a statement
abbrev pub part_mark : Lock → Option Marked
part_mark lock = if lock.locked then option_and_then if_part (lock_mark lock) else None

-- who holds the lock
abbrev pub holder : Lock → List ℕ
holder lock = before_first is_bar (by_of lock)

-- the number is that of one of so many statements; one of more than 38 digits never is
abbrev pub counts_in : ℕ → Option ℕ → Bool
counts_in many None = false
counts_in many (Some k) = nat_lt 0 k && nat_le k many

abbrev pub number_in : Option ℕ → ℕ
number_in None = 0
number_in (Some k) = k

-- the changesets of that name, where this is the first of them and these stand behind it
abbrev pub named_from : Options → List ℕ → List Tracked → Option (ChangeSet × List ChangeSet) → List (Set AnyChange)
named_from options name rows None = []
named_from options name rows (Some found) = view options found.0 ∷ filter (is_named_so name rows) (views options found.1)
