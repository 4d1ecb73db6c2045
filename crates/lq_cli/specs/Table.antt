-- The commands, and the options that each one takes.
use Rattle.std.specs.Map.{lookup}
use Rattle.std.specs.Prelude.{Bool, List, Option, [], codes, false, true, ℕ, ◌∷◌}
use Rattle.std.specs.Str.{bytes_eq}
use Rattle.lq_cli.specs.declared.verb.Verb.{Verb}
use Rattle.lq_cli.specs.declared.verb.Verb.TheVariants.{ChangelogSync, ClearChecksums, Drill, GenerateChangelog, History, ReleaseLocks, Rollback, RollbackCount, RollbackSql, RollbackToDate, Snapshot, Soak, Status, Tag, UndoUnrecorded, Update, UpdateCount, UpdateSql, UpdateTestingRollback, UpdateToTag, Validate}

-- the names of the options
abbrev pub url : List ℕ
url = codes "url"

abbrev pub changelog_file : List ℕ
changelog_file = codes "changelog-file"

abbrev pub context_filter : List ℕ
context_filter = codes "context-filter"

abbrev pub label_filter : List ℕ
label_filter = codes "label-filter"

abbrev pub tag : List ℕ
tag = codes "tag"

abbrev pub count : List ℕ
count = codes "count"

abbrev pub date : List ℕ
date = codes "date"

abbrev pub runs : List ℕ
runs = codes "runs"

abbrev pub author : List ℕ
author = codes "author"

abbrev pub number : List ℕ
number = codes "number"

abbrev pub sets : List ℕ
sets = codes "sets"

-- the options that have to be given, those that may be given, and whether `-D` may be
pub record Form : Type 0 where
  pub required : List (List ℕ)
  pub optional : List (List ℕ)
  pub defines : Bool

abbrev pub takes : List (List ℕ) → List (List ℕ) → Bool → Form
takes required optional defines = record { required = required; optional = optional; defines = defines }

-- with filters of contexts and labels, and with `-D`
abbrev pub filtered : List (List ℕ) → Form
filtered required = takes required (context_filter ∷ label_filter ∷ []) true

abbrev pub form_of : Verb → Form
form_of Validate = takes (url ∷ changelog_file ∷ []) [] true
form_of Status = filtered (url ∷ changelog_file ∷ [])
form_of Update = filtered (url ∷ changelog_file ∷ [])
form_of UpdateSql = filtered (url ∷ changelog_file ∷ [])
form_of UpdateCount = filtered (url ∷ changelog_file ∷ count ∷ [])
form_of UpdateToTag = filtered (url ∷ changelog_file ∷ tag ∷ [])
form_of UpdateTestingRollback = filtered (url ∷ changelog_file ∷ [])
form_of ChangelogSync = filtered (url ∷ changelog_file ∷ [])
form_of Rollback = takes (url ∷ changelog_file ∷ tag ∷ []) [] true
form_of RollbackCount = takes (url ∷ changelog_file ∷ count ∷ []) [] true
form_of RollbackToDate = takes (url ∷ changelog_file ∷ date ∷ []) [] true
form_of RollbackSql = takes (url ∷ changelog_file ∷ []) (tag ∷ count ∷ date ∷ []) true
form_of Tag = takes (url ∷ tag ∷ []) [] false
form_of ClearChecksums = takes (url ∷ []) [] false
form_of ReleaseLocks = takes (url ∷ []) [] false
form_of UndoUnrecorded = takes (url ∷ changelog_file ∷ []) [] true
form_of Snapshot = takes (url ∷ []) [] false
form_of History = takes (url ∷ []) [] false
form_of GenerateChangelog = takes (url ∷ author ∷ []) [] false
form_of Drill = takes (url ∷ runs ∷ []) [] false
form_of Soak = takes (url ∷ number ∷ sets ∷ []) [] false

-- the names of the commands
abbrev pub verbs : List (List ℕ × Verb)
verbs =
    (codes "validate", Validate) ∷ (codes "status", Status) ∷ (codes "update", Update)
    ∷ (codes "update-sql", UpdateSql) ∷ (codes "update-count", UpdateCount)
    ∷ (codes "update-to-tag", UpdateToTag) ∷ (codes "update-testing-rollback", UpdateTestingRollback)
    ∷ (codes "changelog-sync", ChangelogSync)
    ∷ (codes "rollback", Rollback) ∷ (codes "rollback-count", RollbackCount)
    ∷ (codes "rollback-to-date", RollbackToDate) ∷ (codes "rollback-sql", RollbackSql)
    ∷ (codes "clear-checksums", ClearChecksums)
    ∷ (codes "tag", Tag) ∷ (codes "release-locks", ReleaseLocks)
    ∷ (codes "undo-unrecorded", UndoUnrecorded) ∷ (codes "snapshot", Snapshot)
    ∷ (codes "history", History)
    ∷ (codes "generate-changelog", GenerateChangelog)
    ∷ (codes "drill", Drill) ∷ (codes "soak", Soak) ∷ []

-- the command of this name
unfoldable pub verb_of : List ℕ → Option Verb
verb_of word = lookup (bytes_eq word) verbs
