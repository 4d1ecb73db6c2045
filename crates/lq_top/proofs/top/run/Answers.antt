use Rattle.std.proofs.Common.{ap, refl}
use Rattle.std.specs.Option.{option_copied}
use Rattle.std.specs.Prelude.{map, string_bytes}
use Rattle.lq_cli.specs.Line.{line_of}
use Rattle.lq_commands.specs.Stamp.{stamp_of}
use Rattle.lq_tell.specs.declared.status.Status.TheVariants as status
use Rattle.lq_top.proofs.Alone.{takes_steps}
use Rattle.lq_top.proofs.ClearedFile.{has_cleared}
use Rattle.lq_jobs.proofs.DamagedFiles.{spares_damage}
use Rattle.lq_top.proofs.DrillRuns.{ends_formless, runs_drill, settled_as}
use Rattle.lq_top.proofs.ForDialect.{asked_for}
use Rattle.lq_top.proofs.Logged.{has_warned, has_warned_at_full, has_warned_at_full_in_part, has_warned_in_part}
use Rattle.lq_jobs.proofs.OpensAgain.{crash_opens}
use Rattle.lq_top.proofs.RehearsedFile.{has_rehearsed, is_rehearsed}
use Rattle.lq_top.proofs.Resumed.{crash_marked, has_gone_on_back, has_mended, has_resumed, leaves_marked}
use Rattle.lq_top.proofs.Said.{comes_again, has_said, said_in_part, succeeds}
use Rattle.lq_top.proofs.SoakSays.{says_soak}
use Rattle.lq_top.proofs.TakenBack.{has_taken_back}
use Rattle.lq_top.proofs.SnapshotOpens.{crash_opens as snapshot_crash_opens}
use Rattle.lq_top.proofs.SnapshotRuns.{crash_snapped, has_snapped, snapshot_safe}
use Rattle.lq_top.proofs.UndoneOpens.{undone_crash_opens}
use Rattle.lq_top.proofs.UndoneRuns.{crash_undone, has_undone, undone_safe}
use Rattle.lq_jobs.proofs.Written.{IsWritten, cause, ends_in_vain, ends_unread, gone_back, had_missed, has_run, has_synced, has_updated, is_logged, is_logged_part, no_files_left, no_words, tag_so, tells_damage, was_over, written_fault}
use Rattle.lq_top.proofs.top.run.Goals as goal
use Rattle.lq_jobs.specs.Asks.{asked_tag}
use Rattle.lq_jobs.specs.Run.{is_over}

pub returns-clause-usage : goal.returns-clause-usage
returns-clause-usage g c =
    let by : IsWritten c.work-disk.result.done c.tell-status.result = record { kind = c.work-disk.ensures.kind; ended = c.tell-status.ensures.status; cut = c.tell-status.ensures.cut; had = c.tell-status.ensures.had } in
    λ is. (c.work-disk.ensures.usage (cause c.work-disk.result.done c.tell-status.result status.Usage by refl is)).0

pub returns-clause-usage_only : goal.returns-clause-usage_only
returns-clause-usage_only g c =
    let by : IsWritten c.work-disk.result.done c.tell-status.result = record { kind = c.work-disk.ensures.kind; ended = c.tell-status.ensures.status; cut = c.tell-status.ensures.cut; had = c.tell-status.ensures.had } in
    λ none. no_words c.work-disk.result.done c.tell-status.result by (c.work-disk.ensures.usage_only none)

pub returns-clause-read : goal.returns-clause-read
returns-clause-read g c =
    let by : IsWritten c.work-disk.result.done c.tell-status.result = record { kind = c.work-disk.ensures.kind; ended = c.tell-status.ensures.status; cut = c.tell-status.ensures.cut; had = c.tell-status.ensures.had } in
    λ is. c.work-disk.ensures.read (cause c.work-disk.result.done c.tell-status.result status.ReadFault by refl is)

pub returns-clause-changelog : goal.returns-clause-changelog
returns-clause-changelog g c =
    let by : IsWritten c.work-disk.result.done c.tell-status.result = record { kind = c.work-disk.ensures.kind; ended = c.tell-status.ensures.status; cut = c.tell-status.ensures.cut; had = c.tell-status.ensures.had } in
    λ fault is. c.work-disk.ensures.changelog fault (cause c.work-disk.result.done c.tell-status.result (status.Changelog fault) by refl is)

pub returns-clause-changelog_only : goal.returns-clause-changelog_only
returns-clause-changelog_only g c =
    let by : IsWritten c.work-disk.result.done c.tell-status.result = record { kind = c.work-disk.ensures.kind; ended = c.tell-status.ensures.status; cut = c.tell-status.ensures.cut; had = c.tell-status.ensures.had } in
    λ fault has. ends_unread fault c.work-disk.result.done c.tell-status.result by (c.work-disk.ensures.not_loaded fault has)

pub returns-clause-damaged : goal.returns-clause-damaged
returns-clause-damaged g c =
    let by : IsWritten c.work-disk.result.done c.tell-status.result = record { kind = c.work-disk.ensures.kind; ended = c.tell-status.ensures.status; cut = c.tell-status.ensures.cut; had = c.tell-status.ensures.had } in
    λ line is. tells_damage line.options.dialect (g.D.Disk.told c.args.disk) c.work-disk.result.done c.tell-status.result by (c.work-disk.ensures.damaged line is)

pub returns-clause-damaged_only : goal.returns-clause-damaged_only
returns-clause-damaged_only g c =
    let by : IsWritten c.work-disk.result.done c.tell-status.result = record { kind = c.work-disk.ensures.kind; ended = c.tell-status.ensures.status; cut = c.tell-status.ensures.cut; had = c.tell-status.ensures.had } in
    λ line place is beside damaged. spares_damage line.job place (g.D.Disk.told c.args.disk) c.work-disk.result.done (g.D.Disk.told c.work-disk.result.disk) c.tell-status.result by (c.work-disk.ensures.damaged_only line place is beside damaged)

pub returns-clause-missed : goal.returns-clause-missed
returns-clause-missed g c =
    let by : IsWritten c.work-disk.result.done c.tell-status.result = record { kind = c.work-disk.ensures.kind; ended = c.tell-status.ensures.status; cut = c.tell-status.ensures.cut; had = c.tell-status.ensures.had } in
    λ line is_line missed. c.work-disk.ensures.missed line is_line (had_missed line.job c.work-disk.result.done c.tell-status.result by missed)

pub returns-clause-in_vain : goal.returns-clause-in_vain
returns-clause-in_vain g c =
    let by : IsWritten c.work-disk.result.done c.tell-status.result = record { kind = c.work-disk.ensures.kind; ended = c.tell-status.ensures.status; cut = c.tell-status.ensures.cut; had = c.tell-status.ensures.had } in
    λ asks. ends_in_vain c.work-disk.result.done c.tell-status.result by c.args.disk c.work-disk.result.disk (c.work-disk.ensures.in_vain asks)

pub returns-clause-disk : goal.returns-clause-disk
returns-clause-disk g c =
    let by : IsWritten c.work-disk.result.done c.tell-status.result = record { kind = c.work-disk.ensures.kind; ended = c.tell-status.ensures.status; cut = c.tell-status.ensures.cut; had = c.tell-status.ensures.had } in
    λ is. c.work-disk.ensures.fault (cause c.work-disk.result.done c.tell-status.result status.DiskFault by refl is)

pub returns-clause-write : goal.returns-clause-write
returns-clause-write g c =
    λ is. written_fault c.work-disk.result.done c.work-disk.ensures.kind (c.tell-status.ensures.write is)

pub returns-clause-runs : goal.returns-clause-runs
returns-clause-runs g c =
    let by : IsWritten c.work-disk.result.done c.tell-status.result = record { kind = c.work-disk.ensures.kind; ended = c.tell-status.ensures.status; cut = c.tell-status.ensures.cut; had = c.tell-status.ensures.had } in
    λ asks. has_run (stamp_of c.args.who.now (g.C.Clock.last c.work-disk.new.clock)) (g.D.Disk.told c.args.disk) c.work-disk.result.done (g.D.Disk.told c.work-disk.result.disk) c.tell-status.result by asks (c.work-disk.ensures.does asks)

pub returns-clause-untouched : goal.returns-clause-untouched
returns-clause-untouched g c =
    let by : IsWritten c.work-disk.result.done c.tell-status.result = record { kind = c.work-disk.ensures.kind; ended = c.tell-status.ensures.status; cut = c.tell-status.ensures.cut; had = c.tell-status.ensures.had } in
    λ unread. no_files_left c.work-disk.result.done c.tell-status.result by unread (λ usage. (c.work-disk.ensures.usage usage).1) c.work-disk.ensures.untouched

pub returns-clause-any_moment : goal.returns-clause-any_moment
returns-clause-any_moment g c = λ asks. c.work-disk.ensures.any_moment asks

pub returns-clause-opens_at_crash : goal.returns-clause-opens_at_crash
returns-clause-opens_at_crash g c = λ asks bytes. crash_opens asks (stamp_of c.args.who.now (g.C.Clock.last c.work-disk.new.clock)) (g.D.Disk.told c.args.disk) (asked_for c.what_is_given_is_for_the_dialect.ensures asks) bytes

pub returns-clause-safe : goal.returns-clause-safe
returns-clause-safe g c =
    let by : IsWritten c.work-disk.result.done c.tell-status.result = record { kind = c.work-disk.ensures.kind; ended = c.tell-status.ensures.status; cut = c.tell-status.ensures.cut; had = c.tell-status.ensures.had } in
    λ asks command over. c.work-disk.ensures.safe asks command (was_over c.work-disk.result.done c.tell-status.result by over)

pub returns-clause-rollback : goal.returns-clause-rollback
returns-clause-rollback g c =
    let by : IsWritten c.work-disk.result.done c.tell-status.result = record { kind = c.work-disk.ensures.kind; ended = c.tell-status.ensures.status; cut = c.tell-status.ensures.cut; had = c.tell-status.ensures.had } in
    λ back. gone_back (stamp_of c.args.who.now (g.C.Clock.last c.work-disk.new.clock)) (g.D.Disk.told c.args.disk) c.work-disk.result.done (g.D.Disk.told c.work-disk.result.disk) c.tell-status.result by back (c.work-disk.ensures.does back.asks)

pub returns-clause-update : goal.returns-clause-update
returns-clause-update g c =
    let by : IsWritten c.work-disk.result.done c.tell-status.result = record { kind = c.work-disk.ensures.kind; ended = c.tell-status.ensures.status; cut = c.tell-status.ensures.cut; had = c.tell-status.ensures.had } in
    λ asks. has_updated (stamp_of c.args.who.now (g.C.Clock.last c.work-disk.new.clock)) (g.D.Disk.told c.args.disk) c.work-disk.result.done (g.D.Disk.told c.work-disk.result.disk) c.tell-status.result by asks (c.work-disk.ensures.does asks)

pub returns-clause-sync : goal.returns-clause-sync
returns-clause-sync g c =
    let by : IsWritten c.work-disk.result.done c.tell-status.result = record { kind = c.work-disk.ensures.kind; ended = c.tell-status.ensures.status; cut = c.tell-status.ensures.cut; had = c.tell-status.ensures.had } in
    λ asks. has_synced (stamp_of c.args.who.now (g.C.Clock.last c.work-disk.new.clock)) (g.D.Disk.told c.args.disk) c.work-disk.result.done (g.D.Disk.told c.work-disk.result.disk) c.tell-status.result by asks (c.work-disk.ensures.does asks)

pub returns-clause-logged : goal.returns-clause-logged
returns-clause-logged g c =
    let by : IsWritten c.work-disk.result.done c.tell-status.result = record { kind = c.work-disk.ensures.kind; ended = c.tell-status.ensures.status; cut = c.tell-status.ensures.cut; had = c.tell-status.ensures.had } in
    λ sound. is_logged (option_copied c.text_of.result) (asked_tag (line_of (map (λ word. string_bytes word) c.args.words.now))) c.work-disk.result.done c.tell-status.result (g.L.Sink.told c.args.log.now) (g.L.Sink.told c.tell-status.new.log) by
    (tag_so (option_copied c.text_of.result) c.work-disk.result.tag _ c.text_of.ensures c.work-disk.ensures.tag) (c.tell-status.ensures.logged sound)

pub returns-clause-warns : goal.returns-clause-warns
returns-clause-warns g c =
    let by : IsWritten c.work-disk.result.done c.tell-status.result = record { kind = c.work-disk.ensures.kind; ended = c.tell-status.ensures.status; cut = c.tell-status.ensures.cut; had = c.tell-status.ensures.had } in
    λ asks sound. has_warned asks (stamp_of c.args.who.now (g.C.Clock.last c.work-disk.new.clock)) (g.D.Disk.told c.args.disk) (g.D.Disk.told c.work-disk.result.disk) c.work-disk.result.done c.tell-status.result
    (option_copied c.text_of.result) (g.L.Sink.told c.args.log.now) (g.L.Sink.told c.tell-status.new.log) by (c.work-disk.ensures.does asks)
    (tag_so (option_copied c.text_of.result) c.work-disk.result.tag _ c.text_of.ensures c.work-disk.ensures.tag) (c.tell-status.ensures.logged sound)

pub returns-clause-says : goal.returns-clause-says
returns-clause-says g c =
    let by : IsWritten c.work-disk.result.done c.tell-status.result = record { kind = c.work-disk.ensures.kind; ended = c.tell-status.ensures.status; cut = c.tell-status.ensures.cut; had = c.tell-status.ensures.had } in
    λ asks. has_said asks (stamp_of c.args.who.now (g.C.Clock.last c.work-disk.new.clock)) (g.D.Disk.told c.args.disk) (g.D.Disk.told c.work-disk.result.disk) c.work-disk.result.done c.tell-status.result
    (g.O.Sink.told c.args.out.now) (g.O.Sink.told c.tell-status.new.out) by (c.work-disk.ensures.does asks) c.tell-status.ensures.whole c.tell-status.ensures.silent

pub returns-clause-success : goal.returns-clause-success
returns-clause-success g c =
    let by : IsWritten c.work-disk.result.done c.tell-status.result = record { kind = c.work-disk.ensures.kind; ended = c.tell-status.ensures.status; cut = c.tell-status.ensures.cut; had = c.tell-status.ensures.had } in
    let stamp = stamp_of c.args.who.now (g.C.Clock.last c.work-disk.new.clock) in
    let file = g.D.Disk.told c.args.disk in
    let left = g.D.Disk.told c.work-disk.result.disk in
    λ back. succeeds back stamp c.tell-status.result left (g.O.Sink.told c.args.out.now) (g.O.Sink.told c.tell-status.new.out)
    (has_run stamp file c.work-disk.result.done left c.tell-status.result by back.asks (c.work-disk.ensures.does back.asks))
    (has_said back.asks stamp file left c.work-disk.result.done c.tell-status.result (g.O.Sink.told c.args.out.now) (g.O.Sink.told c.tell-status.new.out) by (c.work-disk.ensures.does back.asks) c.tell-status.ensures.whole c.tell-status.ensures.silent)

pub returns-clause-alone : goal.returns-clause-alone
returns-clause-alone g c =
    let by : IsWritten c.work-disk.result.done c.tell-status.result = record { kind = c.work-disk.ensures.kind; ended = c.tell-status.ensures.status; cut = c.tell-status.ensures.cut; had = c.tell-status.ensures.had } in
    let stamp = stamp_of c.args.who.now (g.C.Clock.last c.work-disk.new.clock) in
    let file = g.D.Disk.told c.args.disk in
    let left = g.D.Disk.told c.work-disk.result.disk in
    λ asks. takes_steps asks stamp file c.tell-status.result left (g.O.Sink.told c.args.out.now) (g.O.Sink.told c.tell-status.new.out)
    (has_run stamp file c.work-disk.result.done left c.tell-status.result by asks (c.work-disk.ensures.does asks))
    (has_said asks stamp file left c.work-disk.result.done c.tell-status.result (g.O.Sink.told c.args.out.now) (g.O.Sink.told c.tell-status.new.out) by (c.work-disk.ensures.does asks) c.tell-status.ensures.whole c.tell-status.ensures.silent)

pub returns-clause-resumed_update : goal.returns-clause-resumed_update
returns-clause-resumed_update g c =
    let by : IsWritten c.work-disk.result.done c.tell-status.result = record { kind = c.work-disk.ensures.kind; ended = c.tell-status.ensures.status; cut = c.tell-status.ensures.cut; had = c.tell-status.ensures.had } in
    let stamp = stamp_of c.args.who.now (g.C.Clock.last c.work-disk.new.clock) in
    let file = g.D.Disk.told c.args.disk in
    let left = g.D.Disk.told c.work-disk.result.disk in
    λ asks. has_resumed asks stamp file c.work-disk.result.done c.tell-status.result left (g.O.Sink.told c.args.out.now) (g.O.Sink.told c.tell-status.new.out) by (c.work-disk.ensures.does asks)
    (has_run stamp file c.work-disk.result.done left c.tell-status.result by asks (c.work-disk.ensures.does asks))
    (has_said asks stamp file left c.work-disk.result.done c.tell-status.result (g.O.Sink.told c.args.out.now) (g.O.Sink.told c.tell-status.new.out) by (c.work-disk.ensures.does asks) c.tell-status.ensures.whole c.tell-status.ensures.silent)

pub returns-clause-resumed_rollback : goal.returns-clause-resumed_rollback
returns-clause-resumed_rollback g c =
    let by : IsWritten c.work-disk.result.done c.tell-status.result = record { kind = c.work-disk.ensures.kind; ended = c.tell-status.ensures.status; cut = c.tell-status.ensures.cut; had = c.tell-status.ensures.had } in
    let stamp = stamp_of c.args.who.now (g.C.Clock.last c.work-disk.new.clock) in
    let file = g.D.Disk.told c.args.disk in
    let left = g.D.Disk.told c.work-disk.result.disk in
    λ asks. has_gone_on_back asks stamp file c.work-disk.result.done c.tell-status.result left (has_run stamp file c.work-disk.result.done left c.tell-status.result by asks (c.work-disk.ensures.does asks))

pub returns-clause-marked : goal.returns-clause-marked
returns-clause-marked g c =
    λ asks. leaves_marked asks (stamp_of c.args.who.now (g.C.Clock.last c.work-disk.new.clock)) (g.D.Disk.told c.args.disk) c.work-disk.result.done (g.D.Disk.told c.work-disk.result.disk) (c.work-disk.ensures.does asks)

pub returns-clause-marked_at_crash : goal.returns-clause-marked_at_crash
returns-clause-marked_at_crash g c =
    λ asks bytes. crash_marked asks (stamp_of c.args.who.now (g.C.Clock.last c.work-disk.new.clock)) (g.D.Disk.told c.args.disk) (asked_for c.what_is_given_is_for_the_dialect.ensures asks) bytes

pub returns-clause-formless : goal.returns-clause-formless
returns-clause-formless g c =
    let by : IsWritten c.work-disk.result.done c.tell-status.result = record { kind = c.work-disk.ensures.kind; ended = c.tell-status.ensures.status; cut = c.tell-status.ensures.cut; had = c.tell-status.ensures.had } in
    λ has. ends_formless c.work-disk.result.done c.tell-status.result by (c.work-disk.ensures.formless has)

pub returns-clause-drill : goal.returns-clause-drill
returns-clause-drill g c =
    let by : IsWritten c.work-disk.result.done c.tell-status.result = record { kind = c.work-disk.ensures.kind; ended = c.tell-status.ensures.status; cut = c.tell-status.ensures.cut; had = c.tell-status.ensures.had } in
    λ asks. runs_drill asks c.args.who.now (g.C.Clock.to_come c.args.clock.now) (g.C.Clock.to_come c.work-disk.new.clock) (g.D.Disk.told c.args.disk) (g.D.Disk.crashes c.args.disk) c.work-disk.result.done c.tell-status.result (g.D.Disk.told c.work-disk.result.disk) (g.D.Disk.crashes c.work-disk.result.disk)
    (g.O.Sink.told c.args.out.now) (g.O.Sink.told c.tell-status.new.out) by (c.work-disk.ensures.drills asks) c.tell-status.ensures.whole c.tell-status.ensures.part (settled_as g.D.Disk.told g.D.Disk.faults g.D.Disk.crashes c.work-disk.result.done c.work-disk.result.disk (c.work-disk.ensures.settled asks))

pub returns-clause-says_part : goal.returns-clause-says_part
returns-clause-says_part g c =
    let by : IsWritten c.work-disk.result.done c.tell-status.result = record { kind = c.work-disk.ensures.kind; ended = c.tell-status.ensures.status; cut = c.tell-status.ensures.cut; had = c.tell-status.ensures.had } in
    λ asks is. said_in_part asks (stamp_of c.args.who.now (g.C.Clock.last c.work-disk.new.clock)) (g.D.Disk.told c.args.disk) (g.D.Disk.told c.work-disk.result.disk) c.work-disk.result.done
    (g.O.Sink.told c.args.out.now) (g.O.Sink.told c.tell-status.new.out) (c.work-disk.ensures.does asks) (was_over c.work-disk.result.done c.tell-status.result by (ap is_over is)) c.tell-status.ensures.part

pub returns-clause-log_part : goal.returns-clause-log_part
returns-clause-log_part g c =
    let by : IsWritten c.work-disk.result.done c.tell-status.result = record { kind = c.work-disk.ensures.kind; ended = c.tell-status.ensures.status; cut = c.tell-status.ensures.cut; had = c.tell-status.ensures.had } in
    is_logged_part (option_copied c.text_of.result) (asked_tag (line_of (map (λ word. string_bytes word) c.args.words.now))) c.work-disk.result.done c.tell-status.result (g.L.Sink.told c.args.log.now) (g.L.Sink.told c.tell-status.new.log) by
    (tag_so (option_copied c.text_of.result) c.work-disk.result.tag _ c.text_of.ensures c.work-disk.ensures.tag) c.tell-status.ensures.log_part

pub returns-clause-soaks : goal.returns-clause-soaks
returns-clause-soaks g c =
    let by : IsWritten c.work-disk.result.done c.tell-status.result = record { kind = c.work-disk.ensures.kind; ended = c.tell-status.ensures.status; cut = c.tell-status.ensures.cut; had = c.tell-status.ensures.had } in
    λ line is number sets soak. says_soak line.options.dialect number sets (stamp_of c.args.who.now (g.C.Clock.last c.work-disk.new.clock)) c.work-disk.result.done c.tell-status.result (g.O.Sink.told c.args.out.now) (g.O.Sink.told c.tell-status.new.out) by
    (c.work-disk.ensures.soaks line is number sets soak) c.tell-status.ensures.whole c.tell-status.ensures.part

pub returns-clause-again : goal.returns-clause-again
returns-clause-again g c =
    let by : IsWritten c.work-disk.result.done c.tell-status.result = record { kind = c.work-disk.ensures.kind; ended = c.tell-status.ensures.status; cut = c.tell-status.ensures.cut; had = c.tell-status.ensures.had } in
    λ asks. comes_again asks (stamp_of c.args.who.now (g.C.Clock.last c.work-disk.new.clock)) (g.D.Disk.told c.args.disk) (g.D.Disk.told c.work-disk.result.disk) c.work-disk.result.done c.tell-status.result by (c.work-disk.ensures.does asks)

pub returns-clause-cleared : goal.returns-clause-cleared
returns-clause-cleared g c =
    let by : IsWritten c.work-disk.result.done c.tell-status.result = record { kind = c.work-disk.ensures.kind; ended = c.tell-status.ensures.status; cut = c.tell-status.ensures.cut; had = c.tell-status.ensures.had } in
    let stamp = stamp_of c.args.who.now (g.C.Clock.last c.work-disk.new.clock) in
    let file = g.D.Disk.told c.args.disk in
    let left = g.D.Disk.told c.work-disk.result.disk in
    λ asks. has_cleared asks stamp file c.tell-status.result left (has_run stamp file c.work-disk.result.done left c.tell-status.result by asks (c.work-disk.ensures.does asks))

pub returns-clause-rehearsed : goal.returns-clause-rehearsed
returns-clause-rehearsed g c =
    let by : IsWritten c.work-disk.result.done c.tell-status.result = record { kind = c.work-disk.ensures.kind; ended = c.tell-status.ensures.status; cut = c.tell-status.ensures.cut; had = c.tell-status.ensures.had } in
    let stamp = stamp_of c.args.who.now (g.C.Clock.last c.work-disk.new.clock) in
    let file = g.D.Disk.told c.args.disk in
    let left = g.D.Disk.told c.work-disk.result.disk in
    λ it. is_rehearsed stamp file c.work-disk.result.done left c.tell-status.result by it (c.work-disk.ensures.does it.asks) (g.O.Sink.told c.args.out.now) (g.O.Sink.told c.tell-status.new.out)
    (has_run stamp file c.work-disk.result.done left c.tell-status.result by it.asks (c.work-disk.ensures.does it.asks))
    (has_said it.asks stamp file left c.work-disk.result.done c.tell-status.result (g.O.Sink.told c.args.out.now) (g.O.Sink.told c.tell-status.new.out) by (c.work-disk.ensures.does it.asks) c.tell-status.ensures.whole c.tell-status.ensures.silent)

pub returns-clause-rehearsal : goal.returns-clause-rehearsal
returns-clause-rehearsal g c =
    let by : IsWritten c.work-disk.result.done c.tell-status.result = record { kind = c.work-disk.ensures.kind; ended = c.tell-status.ensures.status; cut = c.tell-status.ensures.cut; had = c.tell-status.ensures.had } in
    let stamp = stamp_of c.args.who.now (g.C.Clock.last c.work-disk.new.clock) in
    let file = g.D.Disk.told c.args.disk in
    let left = g.D.Disk.told c.work-disk.result.disk in
    λ it. has_rehearsed stamp file c.work-disk.result.done left c.tell-status.result by it (c.work-disk.ensures.does it.asks)
    (has_run stamp file c.work-disk.result.done left c.tell-status.result by it.asks (c.work-disk.ensures.does it.asks))

pub returns-clause-undone : goal.returns-clause-undone
returns-clause-undone g c =
    let by : IsWritten c.work-disk.result.done c.tell-status.result = record { kind = c.work-disk.ensures.kind; ended = c.tell-status.ensures.status; cut = c.tell-status.ensures.cut; had = c.tell-status.ensures.had } in
    λ asks. has_undone g.D.Disk.told g.D.Disk.faults g.D.Disk.crashes asks c.args.disk c.work-disk.result.done c.work-disk.result.disk (c.work-disk.ensures.undone asks) c.tell-status.result by (g.O.Sink.told c.args.out.now) (g.O.Sink.told c.tell-status.new.out) c.tell-status.ensures.whole

pub returns-clause-undone_at_crash : goal.returns-clause-undone_at_crash
returns-clause-undone_at_crash g c = λ asks. crash_undone g.D.Disk.told g.D.Disk.faults g.D.Disk.crashes asks c.args.disk c.work-disk.result.done c.work-disk.result.disk (c.work-disk.ensures.undone asks) (g.met.D.Disk.sound c.args.disk)

pub returns-clause-undone_safe : goal.returns-clause-undone_safe
returns-clause-undone_safe g c =
    let by : IsWritten c.work-disk.result.done c.tell-status.result = record { kind = c.work-disk.ensures.kind; ended = c.tell-status.ensures.status; cut = c.tell-status.ensures.cut; had = c.tell-status.ensures.had } in
    λ asks. undone_safe g.D.Disk.told g.D.Disk.faults g.D.Disk.crashes asks c.args.disk c.work-disk.result.done c.work-disk.result.disk (c.work-disk.ensures.undone asks) c.tell-status.result by

pub returns-clause-undone_opens : goal.returns-clause-undone_opens
returns-clause-undone_opens g c = λ asks bytes. undone_crash_opens asks (g.D.Disk.told c.args.disk) bytes

pub returns-clause-snapshots : goal.returns-clause-snapshots
returns-clause-snapshots g c =
    let by : IsWritten c.work-disk.result.done c.tell-status.result = record { kind = c.work-disk.ensures.kind; ended = c.tell-status.ensures.status; cut = c.tell-status.ensures.cut; had = c.tell-status.ensures.had } in
    λ asks. has_snapped g.D.Disk.told g.D.Disk.faults g.D.Disk.crashes asks c.args.disk c.work-disk.result.done c.work-disk.result.disk (c.work-disk.ensures.snapped asks) c.tell-status.result by (g.O.Sink.told c.args.out.now) (g.O.Sink.told c.tell-status.new.out) c.tell-status.ensures.whole c.tell-status.ensures.part

pub returns-clause-snapshot_at_crash : goal.returns-clause-snapshot_at_crash
returns-clause-snapshot_at_crash g c = λ asks. crash_snapped g.D.Disk.told g.D.Disk.faults g.D.Disk.crashes asks c.args.disk c.work-disk.result.done c.work-disk.result.disk (c.work-disk.ensures.snapped asks) (g.met.D.Disk.sound c.args.disk)

pub returns-clause-snapshot_safe : goal.returns-clause-snapshot_safe
returns-clause-snapshot_safe g c =
    let by : IsWritten c.work-disk.result.done c.tell-status.result = record { kind = c.work-disk.ensures.kind; ended = c.tell-status.ensures.status; cut = c.tell-status.ensures.cut; had = c.tell-status.ensures.had } in
    λ asks. snapshot_safe g.D.Disk.told g.D.Disk.faults g.D.Disk.crashes asks c.args.disk c.work-disk.result.done c.work-disk.result.disk (c.work-disk.ensures.snapped asks) c.tell-status.result by

pub returns-clause-snapshot_opens : goal.returns-clause-snapshot_opens
returns-clause-snapshot_opens g c = λ asks bytes. snapshot_crash_opens asks (g.D.Disk.told c.args.disk) bytes

pub returns-clause-taken_back : goal.returns-clause-taken_back
returns-clause-taken_back g c =
    let by : IsWritten c.work-disk.result.done c.tell-status.result = record { kind = c.work-disk.ensures.kind; ended = c.tell-status.ensures.status; cut = c.tell-status.ensures.cut; had = c.tell-status.ensures.had } in
    λ asks. has_taken_back c.parts_are_taken_back.ensures asks (g.D.Disk.told c.args.disk) c.tell-status.result (g.D.Disk.told c.work-disk.result.disk) (g.O.Sink.told c.args.out.now) (g.O.Sink.told c.tell-status.new.out)
    (has_undone g.D.Disk.told g.D.Disk.faults g.D.Disk.crashes asks c.args.disk c.work-disk.result.done c.work-disk.result.disk (c.work-disk.ensures.undone asks) c.tell-status.result by (g.O.Sink.told c.args.out.now) (g.O.Sink.told c.tell-status.new.out) c.tell-status.ensures.whole)

pub returns-clause-mended : goal.returns-clause-mended
returns-clause-mended g c =
    let by : IsWritten c.work-disk.result.done c.tell-status.result = record { kind = c.work-disk.ensures.kind; ended = c.tell-status.ensures.status; cut = c.tell-status.ensures.cut; had = c.tell-status.ensures.had } in
    let stamp = stamp_of c.args.who.now (g.C.Clock.last c.work-disk.new.clock) in
    let file = g.D.Disk.told c.args.disk in
    let left = g.D.Disk.told c.work-disk.result.disk in
    λ asks. has_mended asks stamp file c.work-disk.result.done c.tell-status.result left c.undo_mends.ensures (g.O.Sink.told c.args.out.now) (g.O.Sink.told c.tell-status.new.out) by (c.work-disk.ensures.does asks)
    (has_run stamp file c.work-disk.result.done left c.tell-status.result by asks (c.work-disk.ensures.does asks))
    (has_said asks stamp file left c.work-disk.result.done c.tell-status.result (g.O.Sink.told c.args.out.now) (g.O.Sink.told c.tell-status.new.out) by (c.work-disk.ensures.does asks) c.tell-status.ensures.whole c.tell-status.ensures.silent)

pub returns-clause-warns_part : goal.returns-clause-warns_part
returns-clause-warns_part g c =
    let by : IsWritten c.work-disk.result.done c.tell-status.result = record { kind = c.work-disk.ensures.kind; ended = c.tell-status.ensures.status; cut = c.tell-status.ensures.cut; had = c.tell-status.ensures.had } in
    λ asks. has_warned_in_part asks (stamp_of c.args.who.now (g.C.Clock.last c.work-disk.new.clock)) (g.D.Disk.told c.args.disk) (g.D.Disk.told c.work-disk.result.disk) c.work-disk.result.done c.tell-status.result
    (option_copied c.text_of.result) (g.L.Sink.told c.args.log.now) (g.L.Sink.told c.tell-status.new.log) by (c.work-disk.ensures.does asks)
    (tag_so (option_copied c.text_of.result) c.work-disk.result.tag _ c.text_of.ensures c.work-disk.ensures.tag) c.tell-status.ensures.log_part

pub returns-clause-warns_at_full : goal.returns-clause-warns_at_full
returns-clause-warns_at_full g c =
    let by : IsWritten c.work-disk.result.done c.tell-status.result = record { kind = c.work-disk.ensures.kind; ended = c.tell-status.ensures.status; cut = c.tell-status.ensures.cut; had = c.tell-status.ensures.had } in
    λ asks sound. has_warned_at_full asks (stamp_of c.args.who.now (g.C.Clock.last c.work-disk.new.clock)) (g.D.Disk.told c.args.disk) (g.D.Disk.told c.work-disk.result.disk) c.work-disk.result.done c.tell-status.result
    (option_copied c.text_of.result) (g.L.Sink.told c.args.log.now) (g.L.Sink.told c.tell-status.new.log) by (c.work-disk.ensures.does asks)
    (tag_so (option_copied c.text_of.result) c.work-disk.result.tag _ c.text_of.ensures c.work-disk.ensures.tag) (c.tell-status.ensures.logged sound)

pub returns-clause-warns_at_full_part : goal.returns-clause-warns_at_full_part
returns-clause-warns_at_full_part g c =
    let by : IsWritten c.work-disk.result.done c.tell-status.result = record { kind = c.work-disk.ensures.kind; ended = c.tell-status.ensures.status; cut = c.tell-status.ensures.cut; had = c.tell-status.ensures.had } in
    λ asks. has_warned_at_full_in_part asks (stamp_of c.args.who.now (g.C.Clock.last c.work-disk.new.clock)) (g.D.Disk.told c.args.disk) (g.D.Disk.told c.work-disk.result.disk) c.work-disk.result.done c.tell-status.result
    (option_copied c.text_of.result) (g.L.Sink.told c.args.log.now) (g.L.Sink.told c.tell-status.new.log) by (c.work-disk.ensures.does asks)
    (tag_so (option_copied c.text_of.result) c.work-disk.result.tag _ c.text_of.ensures c.work-disk.ensures.tag) c.tell-status.ensures.log_part
