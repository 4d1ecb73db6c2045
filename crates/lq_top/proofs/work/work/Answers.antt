use Rattle.std.proofs.Common.{ap, inl, inr, refl, subst, sym, ◌∙◌}
use Rattle.std.specs.Prelude.{Err, List, None, Ok, Result, Some, [], false, map, string_bytes, true, ℕ, ◌≡◌}
use Rattle.lq_cli.specs.declared.line.Job.TheVariants.{Drill, Snapshot, UndoUnrecorded}
use Rattle.lq_cli.specs.declared.line.Line.{Line}
use Rattle.lq_commands.specs.Rehearsal.{part_for}
use Rattle.lq_commands.specs.Stamp.{stamp_of}
use Rattle.lq_commands.specs.Works.{is_finished}
use Rattle.lq_kinds.specs.declared.change_set.Changelog.{Changelog}
use Rattle.lq_sources.specs.Faults.{IsTold, Source}
use Rattle.lq_outside.specs.Crash.{Settled}
use Rattle.lq_tell.specs.Texts.{status_done}
use Rattle.lq_tell.specs.declared.done.Done.{Done}
use Rattle.lq_tell.specs.declared.status.Status.{Status}
use Rattle.lq_tell.specs.declared.status.Status.TheVariants as status
use Rattle.lq_jobs.proofs.DamagedFiles.{memory_spares, spares_as}
use Rattle.lq_drills.proofs.DrillIdle.{unused_drill}
use Rattle.lq_top.proofs.DrillLines.{by_job, drill_given, fault_given, fault_there}
use Rattle.lq_top.proofs.Handing.{line_crashes, unused_crashes}
use Rattle.lq_jobs.proofs.InPart.{in_vain_goes_on, no_goal}
use Rattle.lq_top.proofs.Loading.{false_true, is_failed, is_usage, line_does, line_fails, memory_no_changelog, no_line, no_usage, not_less, of_line_is, other, refused_kind, refused_whole, words_kind}
use Rattle.lq_drills.proofs.Readings.{at_most_once, unread}
use Rattle.lq_drills.proofs.ShortTag.{short_tag}
use Rattle.lq_top.proofs.SoakSays.{refused_tells}
use Rattle.lq_top.proofs.SnapshotRuns.{drill_no_snapshot}
use Rattle.lq_top.proofs.UndoneRuns.{drill_not_undo}
use Rattle.lq_top.proofs.work.work.Goals as goal
use Rattle.lq_jobs.specs.Asks.{HasNoPart, asked_tag, asks_drill, given_to}
use Rattle.lq_jobs.specs.Bytes.{IsDamagedAt, TellsDamage}
use Rattle.lq_drills.specs.Drilled.{DoesDrill, IsFormless, IsSettled}
use Rattle.lq_jobs.specs.Drills.{drill_of}
use Rattle.lq_jobs.specs.Jobs.{goes_on, is_apart, is_on_file, is_own}
use Rattle.lq_jobs.specs.Worked.{InVain, SnappedBy, Spares, UndoneBy, has_missed}
use Rattle.lq_soak.specs.Soaked.{TellsSoakOf}
use Rattle.lq_jobs.specs.declared.entrants.Drilling.{Drilling}

pub on_line-requires : goal.on_line-requires
on_line-requires g c = record { tag = short_tag (map (λ word. string_bytes word) c.args.words.now) c.in-Ok.line c.in-Ok.ensures.line }

pub returns-in-Ok-clause-usage : goal.returns-in-Ok-clause-usage
returns-in-Ok-clause-usage g c = λ is. by_job c.in-Ok.line.job
    (λ no. absurd (no_usage c.on_line.result.done (c.on_line.ensures.worked no).kind is))
    (λ runs drill. (
      λ line is_line. of_line_is (map (λ word. string_bytes word) c.args.words.now) (g.F.Files.told c.args.files.now) c.in-Ok.line c.in-Ok.ensures.line
          (λ (l : Line). (runs : List ℕ) × (l.job ≡ Drill runs) × ((source : Source) → IsTold (g.F.Files.told c.args.files.now) source → drill_of source l.options.dialect l.path runs ≡ Ok None)) (runs, drill, (c.on_line.ensures.drilled runs drill).usage is) line is_line,
      (c.on_line.ensures.drilled runs drill).untouched (inr is),
    ))

pub returns-in-Ok-clause-usage_only : goal.returns-in-Ok-clause-usage_only
returns-in-Ok-clause-usage_only g c = λ none. no_line (map (λ word. string_bytes word) c.args.words.now) c.in-Ok.line none c.in-Ok.ensures.line

pub returns-in-Ok-clause-changelog : goal.returns-in-Ok-clause-changelog
returns-in-Ok-clause-changelog g c = λ fault is line is_line.
    of_line_is (map (λ word. string_bytes word) c.args.words.now) (g.F.Files.told c.args.files.now) c.in-Ok.line c.in-Ok.ensures.line (λ (l : Line). (source : Source) → IsTold (g.F.Files.told c.args.files.now) source → given_to source l ≡ Err fault)
    (by_job c.in-Ok.line.job (λ no. (c.on_line.ensures.worked no).changelog fault is) (λ runs drill source told. drill_given source c.in-Ok.line runs drill ∙ fault_given (drill_of source c.in-Ok.line.options.dialect c.in-Ok.line.path runs) fault ((c.on_line.ensures.drilled runs drill).changelog fault is source told))) line is_line

pub returns-in-Ok-clause-not_loaded : goal.returns-in-Ok-clause-not_loaded
returns-in-Ok-clause-not_loaded g c = λ fault has. line_fails (map (λ word. string_bytes word) c.args.words.now) (g.F.Files.told c.args.files.now) c.in-Ok.line c.in-Ok.ensures.line c.on_line.result.done
    (by_job c.in-Ok.line.job (λ no. (c.on_line.ensures.worked no).not_loaded) (λ runs drill source told fault gives. (c.on_line.ensures.drilled runs drill).not_loaded source told fault (fault_there (drill_of source c.in-Ok.line.options.dialect c.in-Ok.line.path runs) fault (sym (drill_given source c.in-Ok.line runs drill) ∙ gives)))) fault has

pub returns-in-Ok-clause-kind : goal.returns-in-Ok-clause-kind
returns-in-Ok-clause-kind g c = by_job c.in-Ok.line.job (λ no. words_kind c.on_line.result.done (c.on_line.ensures.worked no).kind) (λ runs drill. (c.on_line.ensures.drilled runs drill).kind)

pub returns-in-Ok-clause-does : goal.returns-in-Ok-clause-does
returns-in-Ok-clause-does g c = λ asks. line_does (map (λ word. string_bytes word) c.args.words.now) (g.F.Files.told c.args.files.now) c.in-Ok.line c.in-Ok.ensures.line (stamp_of c.args.who.now (g.C.Clock.last c.on_line.new.clock)) (g.D.Disk.told c.args.disk) c.on_line.result.done (g.D.Disk.told c.on_line.result.disk)
    (by_job c.in-Ok.line.job (λ no. (c.on_line.ensures.worked no).does) (λ runs drill source whole g told gives is_part on. absurd (false_true (sym (ap is_on_file drill) ∙ on)))) asks

pub returns-in-Ok-clause-untouched : goal.returns-in-Ok-clause-untouched
returns-in-Ok-clause-untouched g c = by_job c.in-Ok.line.job (λ no. (c.on_line.ensures.worked no).untouched) (λ runs drill files. (c.on_line.ensures.drilled runs drill).untouched (inl files))

pub returns-in-Ok-clause-any_moment : goal.returns-in-Ok-clause-any_moment
returns-in-Ok-clause-any_moment g c = λ asks.
    line_crashes (map (λ word. string_bytes word) c.args.words.now) (g.F.Files.told c.args.files.now) c.in-Ok.line c.in-Ok.ensures.line (stamp_of c.args.who.now (g.C.Clock.last c.on_line.new.clock)) (g.D.Disk.told c.args.disk) (g.D.Disk.crashes c.args.disk) (g.D.Disk.crashes c.on_line.result.disk)
    (by_job c.in-Ok.line.job (λ no. (c.on_line.ensures.worked no).any_moment) (λ runs drill source whole g told gives is_part on. absurd (false_true (sym (ap is_on_file drill) ∙ on)))) (g.met.D.Disk.sound c.args.disk) asks

pub returns-in-Ok-clause-safe : goal.returns-in-Ok-clause-safe
returns-in-Ok-clause-safe g c = λ asks.
    of_line_is (map (λ word. string_bytes word) c.args.words.now) (g.F.Files.told c.args.files.now) c.in-Ok.line c.in-Ok.ensures.line (λ (l : Line). is_own l.job ≡ true → is_finished (status_done c.on_line.result.done) ≡ true → Settled (g.D.Disk.told c.on_line.result.disk) (g.D.Disk.crashes c.on_line.result.disk))
    (by_job c.in-Ok.line.job (λ no. (c.on_line.ensures.worked no).used.safe) (λ runs drill command. absurd (false_true (sym (ap is_own drill) ∙ command)))) asks.line asks.is_line

pub returns-in-Ok-clause-later : goal.returns-in-Ok-clause-later
returns-in-Ok-clause-later g c = by_job c.in-Ok.line.job (λ no. (c.on_line.ensures.worked no).used.later) (λ runs drill. (c.on_line.ensures.drilled runs drill).used.later)

pub returns-in-Ok-clause-fault : goal.returns-in-Ok-clause-fault
returns-in-Ok-clause-fault g c = by_job c.in-Ok.line.job (λ no. (c.on_line.ensures.worked no).used.fault) (λ runs drill. (c.on_line.ensures.drilled runs drill).used.fault)

pub returns-in-Ok-clause-damaged : goal.returns-in-Ok-clause-damaged
returns-in-Ok-clause-damaged g c = λ line is_line. of_line_is (map (λ word. string_bytes word) c.args.words.now) (g.F.Files.told c.args.files.now) c.in-Ok.line c.in-Ok.ensures.line (λ (l : Line). TellsDamage l.options.dialect (g.D.Disk.told c.args.disk) c.on_line.result.done)
    (by_job c.in-Ok.line.job (λ no. (c.on_line.ensures.worked no).used.damaged) (λ runs drill. (c.on_line.ensures.drilled runs drill).used.damaged)) line is_line

pub returns-in-Ok-clause-damaged_only : goal.returns-in-Ok-clause-damaged_only
returns-in-Ok-clause-damaged_only g c = λ line place is_line. of_line_is (map (λ word. string_bytes word) c.args.words.now) (g.F.Files.told c.args.files.now) c.in-Ok.line c.in-Ok.ensures.line
    (λ (l : Line). is_apart l.job ≡ false → IsDamagedAt l.options.dialect (g.D.Disk.told c.args.disk) place → Spares l.job place (g.D.Disk.told c.args.disk) c.on_line.result.done (g.D.Disk.told c.on_line.result.disk))
    (by_job c.in-Ok.line.job (λ no beside. (c.on_line.ensures.worked no).used.spares beside place) (λ runs drill beside damaged. spares_as (Drill []) c.in-Ok.line.job place (g.D.Disk.told c.args.disk) c.on_line.result.done (g.D.Disk.told c.on_line.result.disk) refl ((c.on_line.ensures.drilled runs drill).used.spares refl place damaged))) line is_line

pub returns-in-Ok-clause-missed : goal.returns-in-Ok-clause-missed
returns-in-Ok-clause-missed g c = λ line is_line. of_line_is (map (λ word. string_bytes word) c.args.words.now) (g.F.Files.told c.args.files.now) c.in-Ok.line c.in-Ok.ensures.line
    (λ (l : Line). has_missed l.job c.on_line.result.done ≡ true → HasNoPart (g.F.Files.told c.args.files.now) l × (c.on_line.result.disk ≡ c.args.disk))
    (by_job c.in-Ok.line.job (λ no. (c.on_line.ensures.worked no).missed) (λ runs drill missed. absurd (false_true (sym (no_goal c.in-Ok.line.job c.on_line.result.done (ap goes_on drill)) ∙ missed)))) line is_line

pub returns-in-Ok-clause-in_vain : goal.returns-in-Ok-clause-in_vain
returns-in-Ok-clause-in_vain g c = λ asks. of_line_is (map (λ word. string_bytes word) c.args.words.now) (g.F.Files.told c.args.files.now) c.in-Ok.line c.in-Ok.ensures.line
    (λ (l : Line). (source : Source) (whole : Changelog) → IsTold (g.F.Files.told c.args.files.now) source → given_to source l ≡ Ok whole → part_for l.job whole ≡ None → InVain c.on_line.result.done c.args.disk c.on_line.result.disk)
    (by_job c.in-Ok.line.job (λ no. (c.on_line.ensures.worked no).in_vain) (λ runs drill source whole told gives none. absurd (false_true (sym (ap goes_on drill) ∙ in_vain_goes_on c.in-Ok.line.job whole none)))) asks.line asks.is_line asks.source asks.whole asks.told asks.gives asks.no_part

pub returns-in-Ok-clause-undone : goal.returns-in-Ok-clause-undone
returns-in-Ok-clause-undone g c = λ asks. of_line_is (map (λ word. string_bytes word) c.args.words.now) (g.F.Files.told c.args.files.now) c.in-Ok.line c.in-Ok.ensures.line
    (λ (l : Line). (source : Source) (whole part : Changelog) → IsTold (g.F.Files.told c.args.files.now) source → given_to source l ≡ Ok whole → part_for l.job whole ≡ Some part → l.job ≡ UndoUnrecorded → UndoneBy g.D.Disk.told g.D.Disk.faults g.D.Disk.crashes l.options part c.args.disk c.on_line.result.done c.on_line.result.disk)
    (by_job c.in-Ok.line.job (λ no. (c.on_line.ensures.worked no).undone) (λ runs drill source whole part told gives is_part is. absurd (drill_not_undo (sym drill ∙ is)))) asks.line asks.is_line asks.source asks.whole asks.changelog asks.told asks.gives asks.is_part

pub returns-in-Err-Usage-clause-undone : goal.returns-in-Err-Usage-clause-undone
returns-in-Err-Usage-clause-undone g c = λ asks. no_line (map (λ word. string_bytes word) c.args.words.now) asks.line (c.in-Err-Usage.ensures.usage c.in-Err-Usage.field-0-is) asks.is_line

pub returns-in-Err-OutOfMemory-clause-undone : goal.returns-in-Err-OutOfMemory-clause-undone
returns-in-Err-OutOfMemory-clause-undone g c = λ asks is. inl (inr c.refused-in-Err-OutOfMemory.ensures.done, c.refused-in-Err-OutOfMemory.ensures.disk)

pub returns-in-Ok-clause-snapped : goal.returns-in-Ok-clause-snapped
returns-in-Ok-clause-snapped g c = λ asks. of_line_is (map (λ word. string_bytes word) c.args.words.now) (g.F.Files.told c.args.files.now) c.in-Ok.line c.in-Ok.ensures.line
    (λ (l : Line). (source : Source) (whole part : Changelog) → IsTold (g.F.Files.told c.args.files.now) source → given_to source l ≡ Ok whole → part_for l.job whole ≡ Some part → l.job ≡ Snapshot → SnappedBy g.D.Disk.told g.D.Disk.faults g.D.Disk.crashes l.options.dialect c.args.disk c.on_line.result.done c.on_line.result.disk)
    (by_job c.in-Ok.line.job (λ no. (c.on_line.ensures.worked no).snapped) (λ runs drill source whole part told gives is_part is. absurd (drill_no_snapshot (sym drill ∙ is)))) asks.line asks.is_line asks.source asks.whole asks.changelog asks.told asks.gives asks.is_part

pub returns-in-Err-Usage-clause-snapped : goal.returns-in-Err-Usage-clause-snapped
returns-in-Err-Usage-clause-snapped g c = λ asks. no_line (map (λ word. string_bytes word) c.args.words.now) asks.line (c.in-Err-Usage.ensures.usage c.in-Err-Usage.field-0-is) asks.is_line

pub returns-in-Err-OutOfMemory-clause-snapped : goal.returns-in-Err-OutOfMemory-clause-snapped
returns-in-Err-OutOfMemory-clause-snapped g c = λ asks is. inl (inr c.refused-in-Err-OutOfMemory.ensures.done, c.refused-in-Err-OutOfMemory.ensures.disk)

pub returns-in-Err-Usage-clause-missed : goal.returns-in-Err-Usage-clause-missed
returns-in-Err-Usage-clause-missed g c = λ line is_line. no_line (map (λ word. string_bytes word) c.args.words.now) line (c.in-Err-Usage.ensures.usage c.in-Err-Usage.field-0-is) is_line

pub returns-in-Err-Usage-clause-in_vain : goal.returns-in-Err-Usage-clause-in_vain
returns-in-Err-Usage-clause-in_vain g c = λ asks. no_line (map (λ word. string_bytes word) c.args.words.now) asks.line (c.in-Err-Usage.ensures.usage c.in-Err-Usage.field-0-is) asks.is_line

pub returns-in-Err-OutOfMemory-clause-missed : goal.returns-in-Err-OutOfMemory-clause-missed
returns-in-Err-OutOfMemory-clause-missed g c = λ line is_line missed. absurd (false_true (sym (ap (has_missed line.job) c.refused-in-Err-OutOfMemory.ensures.done) ∙ missed))

pub returns-in-Err-OutOfMemory-clause-in_vain : goal.returns-in-Err-OutOfMemory-clause-in_vain
returns-in-Err-OutOfMemory-clause-in_vain g c = λ asks. (inr (inr c.refused-in-Err-OutOfMemory.ensures.done), c.refused-in-Err-OutOfMemory.ensures.disk)

pub returns-in-Ok-clause-off : goal.returns-in-Ok-clause-off
returns-in-Ok-clause-off g c = λ line is_line. of_line_is (map (λ word. string_bytes word) c.args.words.now) (g.F.Files.told c.args.files.now) c.in-Ok.line c.in-Ok.ensures.line (λ (l : Line). is_apart l.job ≡ true → c.on_line.result.disk ≡ c.args.disk)
    (by_job c.in-Ok.line.job (λ no. (c.on_line.ensures.worked no).used.off) (λ runs drill off. absurd (false_true (sym (ap is_apart drill) ∙ off)))) line is_line

pub returns-in-Ok-clause-tag : goal.returns-in-Ok-clause-tag
returns-in-Ok-clause-tag g c = inl (c.on_line.ensures.tag ∙ sym (ap asked_tag c.in-Ok.ensures.line))

pub returns-in-Err-Usage-clause-usage : goal.returns-in-Err-Usage-clause-usage
returns-in-Err-Usage-clause-usage g c = λ is. (λ line is_line. no_line (map (λ word. string_bytes word) c.args.words.now) line (c.in-Err-Usage.ensures.usage c.in-Err-Usage.field-0-is) is_line, c.refused.ensures.disk)

pub returns-in-Err-Usage-clause-usage_only : goal.returns-in-Err-Usage-clause-usage_only
returns-in-Err-Usage-clause-usage_only g c = λ none. inl c.refused.ensures.done

pub returns-in-Err-Usage-clause-read : goal.returns-in-Err-Usage-clause-read
returns-in-Err-Usage-clause-read g c = λ is. other is_failed c.refused.ensures.done is refl refl

pub returns-in-Err-Usage-clause-changelog : goal.returns-in-Err-Usage-clause-changelog
returns-in-Err-Usage-clause-changelog g c = λ fault is line is_line. no_line (map (λ word. string_bytes word) c.args.words.now) line (c.in-Err-Usage.ensures.usage c.in-Err-Usage.field-0-is) is_line

pub returns-in-Err-Usage-clause-not_loaded : goal.returns-in-Err-Usage-clause-not_loaded
returns-in-Err-Usage-clause-not_loaded g c = λ fault has. no_line (map (λ word. string_bytes word) c.args.words.now) has.line (c.in-Err-Usage.ensures.usage c.in-Err-Usage.field-0-is) has.is_line

pub returns-in-Err-Usage-clause-kind : goal.returns-in-Err-Usage-clause-kind
returns-in-Err-Usage-clause-kind g c = refused_kind c.refused.result.done status.Usage c.refused.ensures.done refl

pub returns-in-Err-Usage-clause-does : goal.returns-in-Err-Usage-clause-does
returns-in-Err-Usage-clause-does g c = λ asks. no_line (map (λ word. string_bytes word) c.args.words.now) asks.line (c.in-Err-Usage.ensures.usage c.in-Err-Usage.field-0-is) asks.is_line

pub returns-in-Err-Usage-clause-any_moment : goal.returns-in-Err-Usage-clause-any_moment
returns-in-Err-Usage-clause-any_moment g c = λ asks. no_line (map (λ word. string_bytes word) c.args.words.now) asks.line (c.in-Err-Usage.ensures.usage c.in-Err-Usage.field-0-is) asks.is_line

pub returns-in-Err-Usage-clause-safe : goal.returns-in-Err-Usage-clause-safe
returns-in-Err-Usage-clause-safe g c = λ asks. no_line (map (λ word. string_bytes word) c.args.words.now) asks.line (c.in-Err-Usage.ensures.usage c.in-Err-Usage.field-0-is) asks.is_line

pub returns-in-Err-Usage-clause-damaged : goal.returns-in-Err-Usage-clause-damaged
returns-in-Err-Usage-clause-damaged g c = λ line is_line. refused_whole line.options.dialect (g.D.Disk.told c.args.disk) c.refused.result.done status.Usage c.refused.ensures.done tt

pub returns-in-Err-Usage-clause-damaged_only : goal.returns-in-Err-Usage-clause-damaged_only
returns-in-Err-Usage-clause-damaged_only g c = λ line place is_line. no_line (map (λ word. string_bytes word) c.args.words.now) line (c.in-Err-Usage.ensures.usage c.in-Err-Usage.field-0-is) is_line

pub returns-in-Err-Usage-clause-tag : goal.returns-in-Err-Usage-clause-tag
returns-in-Err-Usage-clause-tag g c = inl (c.refused.ensures.tag ∙ sym (ap asked_tag (c.in-Err-Usage.ensures.usage c.in-Err-Usage.field-0-is)))

pub returns-in-Err-Usage-clause-later : goal.returns-in-Err-Usage-clause-later
returns-in-Err-Usage-clause-later g c = not_less (ap g.D.Disk.faults c.refused.ensures.disk)

pub returns-in-Err-Usage-clause-fault : goal.returns-in-Err-Usage-clause-fault
returns-in-Err-Usage-clause-fault g c = λ is. other is_failed c.refused.ensures.done is refl refl

pub returns-in-Err-OutOfMemory-clause-usage : goal.returns-in-Err-OutOfMemory-clause-usage
returns-in-Err-OutOfMemory-clause-usage g c = λ is. other is_usage c.refused-in-Err-OutOfMemory.ensures.done is refl refl

pub returns-in-Err-OutOfMemory-clause-usage_only : goal.returns-in-Err-OutOfMemory-clause-usage_only
returns-in-Err-OutOfMemory-clause-usage_only g c = λ none. inr c.refused-in-Err-OutOfMemory.ensures.done

pub returns-in-Err-OutOfMemory-clause-read : goal.returns-in-Err-OutOfMemory-clause-read
returns-in-Err-OutOfMemory-clause-read g c = λ is. other is_failed c.refused-in-Err-OutOfMemory.ensures.done is refl refl

pub returns-in-Err-OutOfMemory-clause-changelog : goal.returns-in-Err-OutOfMemory-clause-changelog
returns-in-Err-OutOfMemory-clause-changelog g c = λ fault is. memory_no_changelog c.refused-in-Err-OutOfMemory.result.done fault c.refused-in-Err-OutOfMemory.ensures.done is

pub returns-in-Err-OutOfMemory-clause-not_loaded : goal.returns-in-Err-OutOfMemory-clause-not_loaded
returns-in-Err-OutOfMemory-clause-not_loaded g c = λ fault has. inr (inr c.refused-in-Err-OutOfMemory.ensures.done)

pub returns-in-Err-OutOfMemory-clause-kind : goal.returns-in-Err-OutOfMemory-clause-kind
returns-in-Err-OutOfMemory-clause-kind g c = refused_kind c.refused-in-Err-OutOfMemory.result.done status.OutOfMemory c.refused-in-Err-OutOfMemory.ensures.done refl

pub returns-in-Err-OutOfMemory-clause-does : goal.returns-in-Err-OutOfMemory-clause-does
returns-in-Err-OutOfMemory-clause-does g c = λ asks on database opens. inl (inr c.refused-in-Err-OutOfMemory.ensures.done, ap g.D.Disk.told c.refused-in-Err-OutOfMemory.ensures.disk)

pub returns-in-Err-OutOfMemory-clause-any_moment : goal.returns-in-Err-OutOfMemory-clause-any_moment
returns-in-Err-OutOfMemory-clause-any_moment g c = λ asks.
    unused_crashes g.D.Disk.told g.D.Disk.crashes c.args.disk c.refused-in-Err-OutOfMemory.result.disk c.refused-in-Err-OutOfMemory.ensures.disk (g.met.D.Disk.sound c.args.disk) asks (stamp_of c.args.who.now (g.C.Clock.last c.args.clock.now))

pub returns-in-Err-OutOfMemory-clause-safe : goal.returns-in-Err-OutOfMemory-clause-safe
returns-in-Err-OutOfMemory-clause-safe g c = λ asks command finished. absurd (false_true (sym (ap (λ (r : Result Done Status). is_finished (status_done r)) c.refused-in-Err-OutOfMemory.ensures.done) ∙ finished))

pub returns-in-Err-OutOfMemory-clause-damaged : goal.returns-in-Err-OutOfMemory-clause-damaged
returns-in-Err-OutOfMemory-clause-damaged g c = λ line is_line. refused_whole line.options.dialect (g.D.Disk.told c.args.disk) c.refused-in-Err-OutOfMemory.result.done status.OutOfMemory c.refused-in-Err-OutOfMemory.ensures.done tt

pub returns-in-Err-OutOfMemory-clause-damaged_only : goal.returns-in-Err-OutOfMemory-clause-damaged_only
returns-in-Err-OutOfMemory-clause-damaged_only g c = λ line place is_line beside damaged.
    let ran = c.refused-in-Err-OutOfMemory in
    memory_spares line.job place (g.D.Disk.told c.args.disk) ran.result.done (g.D.Disk.told ran.result.disk) status.OutOfMemory refl ran.ensures.done (ap g.D.Disk.told ran.ensures.disk)

pub returns-in-Err-OutOfMemory-clause-tag : goal.returns-in-Err-OutOfMemory-clause-tag
returns-in-Err-OutOfMemory-clause-tag g c = inr c.refused-in-Err-OutOfMemory.ensures.done

pub returns-in-Err-OutOfMemory-clause-later : goal.returns-in-Err-OutOfMemory-clause-later
returns-in-Err-OutOfMemory-clause-later g c = not_less (ap g.D.Disk.faults c.refused-in-Err-OutOfMemory.ensures.disk)

pub returns-in-Err-OutOfMemory-clause-fault : goal.returns-in-Err-OutOfMemory-clause-fault
returns-in-Err-OutOfMemory-clause-fault g c = λ is. other is_failed c.refused-in-Err-OutOfMemory.ensures.done is refl refl

pub returns-in-Ok-clause-formless : goal.returns-in-Ok-clause-formless
returns-in-Ok-clause-formless g c = λ has. of_line_is (map (λ word. string_bytes word) c.args.words.now) (g.F.Files.told c.args.files.now) c.in-Ok.line c.in-Ok.ensures.line
    (λ (l : Line). (runs : List ℕ) → l.job ≡ Drill runs → (source : Source) → IsTold (g.F.Files.told c.args.files.now) source → drill_of source l.options.dialect l.path runs ≡ Ok None → IsFormless c.on_line.result.done)
    (λ runs drill. (c.on_line.ensures.drilled runs drill).formless) has.line has.is_line has.runs has.is_drill has.source has.told has.gives

pub returns-in-Ok-clause-once : goal.returns-in-Ok-clause-once
returns-in-Ok-clause-once g c = λ no. c.on_line.ensures.once (sym (ap asks_drill c.in-Ok.ensures.line) ∙ no)

pub returns-in-Ok-clause-reads : goal.returns-in-Ok-clause-reads
returns-in-Ok-clause-reads g c = by_job c.in-Ok.line.job (λ no. at_most_once (g.C.Clock.to_come c.args.clock.now) (g.C.Clock.to_come c.on_line.new.clock) (g.C.Clock.last c.on_line.new.clock) (c.on_line.ensures.once no)) (λ runs drill. (c.on_line.ensures.drilled runs drill).reads)

pub returns-in-Ok-clause-drills : goal.returns-in-Ok-clause-drills
returns-in-Ok-clause-drills g c = λ asks. of_line_is (map (λ word. string_bytes word) c.args.words.now) (g.F.Files.told c.args.files.now) c.in-Ok.line c.in-Ok.ensures.line
    (λ (l : Line). (runs : List ℕ) → l.job ≡ Drill runs → (source : Source) (drill : Drilling) → IsTold (g.F.Files.told c.args.files.now) source → drill_of source l.options.dialect l.path runs ≡ Ok (Some drill)
    → DoesDrill l.options.dialect c.args.who.now drill (g.C.Clock.to_come c.args.clock.now) (g.C.Clock.to_come c.on_line.new.clock) (g.D.Disk.told c.args.disk) (g.D.Disk.crashes c.args.disk) c.on_line.result.done (g.D.Disk.told c.on_line.result.disk) (g.D.Disk.crashes c.on_line.result.disk))
    (λ runs drill. (c.on_line.ensures.drilled runs drill).does) asks.line asks.is_line asks.runs asks.is_drill asks.source asks.drill asks.told asks.gives

pub returns-in-Ok-clause-settled : goal.returns-in-Ok-clause-settled
returns-in-Ok-clause-settled g c = λ asks. of_line_is (map (λ word. string_bytes word) c.args.words.now) (g.F.Files.told c.args.files.now) c.in-Ok.line c.in-Ok.ensures.line (λ (l : Line). (runs : List ℕ) → l.job ≡ Drill runs → IsSettled g.D.Disk.told g.D.Disk.faults g.D.Disk.crashes c.on_line.result.done c.on_line.result.disk)
    (λ runs drill. (c.on_line.ensures.drilled runs drill).settled) asks.line asks.is_line asks.runs asks.is_drill

pub returns-in-Err-Usage-clause-formless : goal.returns-in-Err-Usage-clause-formless
returns-in-Err-Usage-clause-formless g c = λ has. no_line (map (λ word. string_bytes word) c.args.words.now) has.line (c.in-Err-Usage.ensures.usage c.in-Err-Usage.field-0-is) has.is_line

pub returns-in-Err-Usage-clause-once : goal.returns-in-Err-Usage-clause-once
returns-in-Err-Usage-clause-once g c = λ no. inl refl

pub returns-in-Err-Usage-clause-reads : goal.returns-in-Err-Usage-clause-reads
returns-in-Err-Usage-clause-reads g c = unread 64 (g.C.Clock.to_come c.args.clock.now)

pub returns-in-Err-Usage-clause-drills : goal.returns-in-Err-Usage-clause-drills
returns-in-Err-Usage-clause-drills g c = λ asks. no_line (map (λ word. string_bytes word) c.args.words.now) asks.line (c.in-Err-Usage.ensures.usage c.in-Err-Usage.field-0-is) asks.is_line

pub returns-in-Err-Usage-clause-settled : goal.returns-in-Err-Usage-clause-settled
returns-in-Err-Usage-clause-settled g c = λ asks. no_line (map (λ word. string_bytes word) c.args.words.now) asks.line (c.in-Err-Usage.ensures.usage c.in-Err-Usage.field-0-is) asks.is_line

pub returns-in-Err-OutOfMemory-clause-formless : goal.returns-in-Err-OutOfMemory-clause-formless
returns-in-Err-OutOfMemory-clause-formless g c = λ has. inr (inr c.refused-in-Err-OutOfMemory.ensures.done)

pub returns-in-Err-OutOfMemory-clause-once : goal.returns-in-Err-OutOfMemory-clause-once
returns-in-Err-OutOfMemory-clause-once g c = λ no. inl refl

pub returns-in-Err-OutOfMemory-clause-reads : goal.returns-in-Err-OutOfMemory-clause-reads
returns-in-Err-OutOfMemory-clause-reads g c = unread 64 (g.C.Clock.to_come c.args.clock.now)

pub returns-in-Err-OutOfMemory-clause-drills : goal.returns-in-Err-OutOfMemory-clause-drills
returns-in-Err-OutOfMemory-clause-drills g c = λ asks.
    let coming = g.C.Clock.to_come c.args.clock.now in
    let ran = c.refused-in-Err-OutOfMemory in
    unused_drill g.D.Disk.told g.D.Disk.crashes asks.line.options.dialect c.args.who.now asks.drill coming c.args.disk ran.result.disk ran.ensures.disk ran.result.done status.OutOfMemory ran.ensures.done (inl refl) tt

pub returns-in-Err-OutOfMemory-clause-settled : goal.returns-in-Err-OutOfMemory-clause-settled
returns-in-Err-OutOfMemory-clause-settled g c = λ asks. subst (λ r. IsSettled g.D.Disk.told g.D.Disk.faults g.D.Disk.crashes r c.refused-in-Err-OutOfMemory.result.disk) (sym c.refused-in-Err-OutOfMemory.ensures.done) tt

pub returns-in-Ok-clause-soaks : goal.returns-in-Ok-clause-soaks
returns-in-Ok-clause-soaks g c = λ line is_line. of_line_is (map (λ word. string_bytes word) c.args.words.now) (g.F.Files.told c.args.files.now) c.in-Ok.line c.in-Ok.ensures.line
    (λ (l : Line). TellsSoakOf l.job l.options.dialect (stamp_of c.args.who.now (g.C.Clock.last c.on_line.new.clock)) c.on_line.result.done) c.on_line.ensures.soaks line is_line

pub returns-in-Err-Usage-clause-soaks : goal.returns-in-Err-Usage-clause-soaks
returns-in-Err-Usage-clause-soaks g c = λ line is_line. no_line (map (λ word. string_bytes word) c.args.words.now) line (c.in-Err-Usage.ensures.usage c.in-Err-Usage.field-0-is) is_line

pub returns-in-Err-OutOfMemory-clause-soaks : goal.returns-in-Err-OutOfMemory-clause-soaks
returns-in-Err-OutOfMemory-clause-soaks g c = λ line is_line.
    refused_tells line.job line.options.dialect (stamp_of c.args.who.now (g.C.Clock.last c.args.clock.now)) c.refused-in-Err-OutOfMemory.result.done c.refused-in-Err-OutOfMemory.ensures.done
