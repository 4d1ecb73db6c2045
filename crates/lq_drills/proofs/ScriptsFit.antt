-- The calls of each command fit, and keep a database clean.
use Rattle.std.proofs.Common.{refl}
use Rattle.std.specs.List.{All}
use Rattle.std.specs.Prelude.{List, None, Option, Some, [], ℕ, ◌≡◌, ◌≤◌}
use Rattle.lq_back.specs.Laws.{TurnsBackAreSpelled}
use Rattle.lq_base.specs.declared.command.Command.TheVariants.{Release, Rollback, Status, Sync, Tag, Update, Validate}
use Rattle.lq_base.specs.declared.command.Command.{Command}
use Rattle.lq_base.specs.declared.dialect.Dialect.{Dialect}
use Rattle.lq_base.specs.declared.tracking.Tracked.{Tracked}
use Rattle.lq_beside.proofs.OtherFits.{release_fits, rollback_fits, sync_fits, tag_fits}
use Rattle.lq_beside.proofs.UpdateFits.{update_fits}
use Rattle.lq_changelog.specs.Gathers.{HasShortTexts}
use Rattle.lq_commands.proofs.Planned.{kept, return_too}
use Rattle.lq_commands.proofs.ViewsRead.{views_are_read}
use Rattle.lq_expr.specs.declared.options.Options.{Options}
use Rattle.lq_kinds.specs.ReadFor.{AreFor}
use Rattle.lq_any.specs.declared.any_change.AnyChange.{AnyChange}
use Rattle.lq_kinds.specs.declared.change_set.Changelog.{Changelog}
use Rattle.lq_model.specs.Catalogue.{Catalogue}
use Rattle.lq_players.proofs.LoadedTexts.{view_has}
use Rattle.lq_players.specs.AtOnce.{HasShortTag}
use Rattle.lq_seen.specs.View.{any_meaning, view_log}
use Rattle.lq_stand.proofs.FirstRows.{release_is_first, sync_is_first, tag_is_first, undone_is_first, update_is_first}
use Rattle.lq_stand.proofs.StaysClean.{IsGood}
use Rattle.lq_track.specs.Database.{Database}
use Rattle.lq_turns.specs.Schedule.{StandsFor}
use Rattle.lq_turns.specs.Jobs.{script_of}
use Rattle.lq_turns.specs.Laws.{rollback_calls}
use Rattle.lq_turns.specs.Script.{rollback_of, rows_kept, rows_undone, undo_turns}
use Rattle.lq_turns.specs.Session.{session_on}
use Rattle.lq_turns.specs.Set.{Changelog as Log}
use Rattle.lq_turns.specs.declared.call.Call.{Call}
use Rattle.lq_turns.specs.declared.stamp.Stamp.{Stamp}
use Rattle.lq_turns.specs.declared.turn.Turn.{Turn}
use Rattle.lq_drills.proofs.DrillFits.{KeepFit}

module _ (spelled : TurnsBackAreSpelled) (d : Dialect) (options : Options) (changelog : Changelog) (read : AreFor d changelog) (short : All HasShortTexts changelog.sets) (stamp : Stamp) (time : stamp.reading ≤ 253402300799999)
    (x : Database) (catalogue : Catalogue) (stands : StandsFor d catalogue x) (good : IsGood d x) where
  abbrev g : Log AnyChange
  g = view_log options changelog

  by_turns : (rows : List Tracked) (o : Option (List Turn)) → undo_turns d any_meaning g.sets rows ≡ o → KeepFit d (elim o as (λ _. List Call) [ Some turns ↦ rollback_of d stamp turns x | None ↦ [] ]) (session_on x)
  by_turns rows None is_none = (refl, refl)
  by_turns rows (Some turns) is_some = (
    rollback_fits d stamp turns x time (return_too d turns (spelled d options changelog rows turns read is_some)),
    undone_is_first d any_meaning stamp g.sets rows turns x is_some,
  )

  by_target : (o : Option ℕ) → KeepFit d (elim o as (λ _. List Call) [ Some stay ↦ rollback_calls d any_meaning stamp g.sets stay x | None ↦ [] ]) (session_on x)
  by_target None = (refl, refl)
  by_target (Some stay) = by_turns (rows_undone stay x.rows) (undo_turns d any_meaning g.sets (rows_undone stay x.rows)) refl

  pub script_fits : (c : Command) → HasShortTag c → KeepFit d (script_of d any_meaning c stamp g x) (session_on x)
  script_fits Update fine = (
    update_fits any_meaning kept d stamp g x good.sound good.fine.differ time (views_are_read d options changelog read) (view_has options changelog short),
    update_is_first any_meaning kept d stamp g x good.sound (views_are_read d options changelog read),
  )
  script_fits Sync fine = (sync_fits AnyChange d stamp g x time (view_has options changelog short), sync_is_first AnyChange d stamp g x)
  script_fits (Rollback target) fine = by_target (rows_kept target x.rows)
  script_fits (Tag tag) fine = (tag_fits d tag catalogue x stands fine, tag_is_first d tag x)
  script_fits Release fine = (release_fits d catalogue x stands, release_is_first d x)
  script_fits Validate fine = (refl, refl)
  script_fits Status fine = (refl, refl)
