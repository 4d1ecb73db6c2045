-- What a way of taking a row back tells, and for which dialect are the turns back.
use Rattle.std.specs.List.{list_all, slice_get}
use Rattle.std.specs.Prelude.{List, Some, false, true, ℕ, ◌≡◌}
use Rattle.lq_back.specs.Reversal.{goes_back, taken_back}
use Rattle.lq_kept.specs.declared.way.TakenBack.TheVariants.{By}
use Rattle.lq_base.specs.declared.dialect.Dialect.{Dialect}
use Rattle.lq_base.specs.declared.tracking.Tracked.{Tracked}
use Rattle.lq_expr.specs.declared.options.Options.{Options}
use Rattle.lq_kinds.specs.ReadFor.{AreFor}
use Rattle.lq_kinds.specs.declared.change_set.ChangeSet.{ChangeSet}
use Rattle.lq_kinds.specs.declared.change_set.Changelog.{Changelog}
use Rattle.lq_seen.specs.View.{any_meaning, view, views}
use Rattle.lq_track.specs.Log.{identity_of}
use Rattle.lq_turns.specs.Script.{is_mark_ran, set_of, undo_turns}
use Rattle.lq_turns.specs.declared.turn.Turn.{Turn}

-- at the place of a row that goes by a changeset stands the changeset of the row's identity
abbrev pub PlacesAreKnown : Type 0
PlacesAreKnown = (options : Options) (xs : List ChangeSet) (row : Tracked) (n : ℕ) → taken_back xs row ≡ Some (By n)
    → (x : ChangeSet) × (slice_get xs n ≡ Some x) × (set_of (views options xs) (identity_of row) ≡ Some (view options x)) × (is_mark_ran row.exec ≡ false)

-- the statements of the turns that take rows back are statements of the dialect, and each deletes its row
abbrev pub TurnsBackAreSpelled : Type 0
TurnsBackAreSpelled = (d : Dialect) (options : Options) (g : Changelog) (rows : List Tracked) (turns : List Turn) → AreFor d g → undo_turns d any_meaning (views options g.sets) rows ≡ Some turns
    → list_all (goes_back d) turns ≡ true
