-- What holds of undo-unrecorded.
use Rattle.std.specs.List.{list_any}
use Rattle.std.specs.Prelude.{List, Option, Some, false, suc, take, true, ℕ, ◌<◌, ◌==◌, ◌^◌, ◌≡◌}
use Rattle.laws_repair.specs.Repair.{IsPartly, IsWhole, Mark, by_of, is_mark_text, marked_set, repair_calls, standing}
use Rattle.lq_base.specs.Name.{identity_text}
use Rattle.lq_expr.specs.declared.options.Options.{Options}
use Rattle.lq_any.specs.declared.any_change.AnyChange.{AnyChange}
use Rattle.lq_kinds.specs.declared.change_set.Changelog.{Changelog}
use Rattle.lq_mending.specs.Undoes.{made_in, sets_in, undo_script}
use Rattle.lq_track.specs.Database.{Database}
use Rattle.lq_turns.specs.Deed.{Contents}
use Rattle.lq_turns.specs.Session.{left_by}
use Rattle.lq_turns.specs.Set.{Set}
use Rattle.lq_turns.specs.Within.{marks_last}
use Rattle.lq_turns.specs.declared.deed.Deed.{Deed}

-- Where the mark of a held lock names a changeset, the calls are the repair of laws_repair: its laws hold of them.
abbrev pub CallsRepair : Type 0
CallsRepair = (o : Options) (g : Changelog) (last : Option (List ℕ)) (database : Database) (mark : Mark database.lock) (x : Set AnyChange)
    → database.lock.locked ≡ true → marked_set mark.name database.rows (sets_in o g) ≡ Some x
    → undo_script o g last database
    ≡ repair_calls o.dialect mark.who x.identity (take (standing mark.is_back (is_mark_text o.dialect (by_of database.lock) last) (suc mark.k)) (made_in o x)) database

-- Where a part of a changeset stands without a row, and the last text sets the mark exactly where the last deed does: the calls are the repair of that part, and leave what stood before its turn, with a free lock.
abbrev pub UndoLeaves : Type 0
UndoLeaves = (o : Options) (g : Changelog) (last : Option (List ℕ)) (at : ℕ) (who : List ℕ) (x : Set AnyChange) (c : Contents) (deed : Option Deed) (now : Database)
    (partly : IsPartly o.dialect at who x.identity (made_in o x) c deed now) → list_any (λ b. b == 124) who ≡ false → partly.k < 2 ^ 64
    → marked_set (identity_text x.identity) now.rows (sets_in o g) ≡ Some x → is_mark_text o.dialect (by_of now.lock) last ≡ marks_last (by_of now.lock) deed
    → (undo_script o g last now ≡ repair_calls o.dialect who x.identity partly.first now) × IsWhole c (left_by o.dialect (undo_script o g last now) now)
