-- Texts without control characters.
use Rattle.std.specs.List.{before_first}
use Rattle.std.specs.Prelude.{Bool, List, None, Option, Some, codes, encode_utf8_all, false, if◌then◌else◌, map, true, ℕ, ℤ, ◌++◌, ◌==◌}
use Rattle.std.specs.Str.{chars}
use denote.Ref.{Bor}
use Rattle.lq_base.specs.Moment.{moment_text}
use Rattle.lq_base.specs.Name.{identity_text, reason_text}
use Rattle.lq_base.specs.Number.{is_control}
use Rattle.lq_base.specs.declared.command.Command.{Command}
use Rattle.lq_base.specs.declared.command.Command.TheVariants as command
use Rattle.lq_base.specs.declared.command.Target.{Target}
use Rattle.lq_base.specs.declared.command.Target.TheVariants as target
use Rattle.lq_base.specs.declared.identity.Identity.{Identity}
use Rattle.lq_base.specs.declared.run.Did.{Did}
use Rattle.lq_base.specs.declared.run.Did.TheVariants.{Marked, Ran, RanAgain, RolledBack, Skipped}
use Rattle.lq_base.specs.declared.run.Why.{Why}
use Rattle.lq_base.specs.declared.run.Why.TheVariants as why
use Rattle.lq_base.specs.declared.tracking.Lock.{Lock}

-- a control character counts as `_`
abbrev pub shown : ℕ → ℕ
shown c = if is_control c then 95 else c

-- each control character is `_`, and any other character stays
unfoldable pub plain : List ℕ → List ℕ
plain text = encode_utf8_all (map shown (chars text))

-- The words that the texts of commands are made of.

-- what was done with a changeset
abbrev pub did_text : Did → List ℕ
did_text Ran = codes "ran"
did_text RanAgain = codes "ran again"
did_text Marked = codes "marked"
did_text Skipped = codes "skipped"
did_text RolledBack = codes "rolled back"

abbrev pub is_did : Did → Did → Bool
is_did Ran Ran = true
is_did RanAgain RanAgain = true
is_did Marked Marked = true
is_did Skipped Skipped = true
is_did RolledBack RolledBack = true
is_did _ _ = false

-- the word by which a command is asked for
abbrev pub rollback_word : Target → List ℕ
rollback_word (target.Tag tag) = codes "rollback"
rollback_word (target.Count count) = codes "rollback-count"
rollback_word (target.Date date) = codes "rollback-to-date"

abbrev pub command_word : Command → List ℕ
command_word command.Validate = codes "validate"
command_word command.Status = codes "status"
command_word command.Update = codes "update"
command_word (command.Tag tag) = codes "tag"
command_word (command.Rollback back) = rollback_word back
command_word command.Sync = codes "changelog-sync"
command_word command.Release = codes "release-locks"

-- where a precondition stands: at a changeset, or at the head of the changelog
abbrev pub place_text : Option (Bor Identity) → List ℕ
place_text (Some identity) = identity_text identity.now
place_text None = codes "the changelog"

-- why a precondition stopped a run
abbrev pub why_text : Why → List ℕ
why_text why.Failed = codes "precondition failed"
why_text (why.Error reason) = codes "precondition error: " ++ reason_text reason

abbrev pub is_bar : ℕ → Bool
is_bar b = b == 124

-- who holds the lock: what stands before the first `|` of LOCKEDBY
abbrev pub who_text : Option (List ℕ) → List ℕ
who_text (Some by) = before_first is_bar by
who_text None = codes "unknown"

-- since when
abbrev pub granted_text : Option ℤ → List ℕ
granted_text (Some moment) = moment_text moment
granted_text None = codes "unknown"

-- `WHO since MOMENT`
unfoldable pub held_text : Lock → List ℕ
held_text lock = who_text lock.by ++ codes " since " ++ granted_text lock.granted
