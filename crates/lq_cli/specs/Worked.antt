-- Command lines with what they ask for, and words that are none.
use Rattle.std.specs.List.{list_all}
use Rattle.std.specs.Prelude.{List, None, Option, Some, [], codes, is_none, is_some, true, ℕ, ◌∷◌, ◌≡◌}
use Rattle.lq_base.specs.declared.command.Command.TheVariants as command
use Rattle.lq_base.specs.declared.command.Target.TheVariants as target
use Rattle.lq_base.specs.declared.dialect.Dialect.{Dialect}
use Rattle.lq_base.specs.declared.dialect.Dialect.TheVariants.{Mysql, Postgresql}
use Rattle.lq_cli.specs.Line.{line_of}
use Rattle.lq_cli.specs.declared.line.Job.{Job}
use Rattle.lq_cli.specs.declared.line.Job.TheVariants.{Drill, Generate, RollbackSql, Run, Soak}
use Rattle.lq_cli.specs.declared.line.Line.{Line}
use Rattle.lq_expr.specs.declared.expr.Expr.TheVariants.{Name}

abbrev pub Words : Type 0
Words = List (List ℕ)

-- a line without contexts, labels and properties
abbrev pub plain_line : Dialect → Job → Option (List ℕ) → Line
plain_line dialect job root = record {
  job = job;
  path = codes "f";
  options = record { dialect = dialect; contexts = []; labels = None };
  root = root;
  given = [];
}

-- options in any order, as one word or as two
abbrev pub UpdateIsRead : Type 0
UpdateIsRead =
    line_of (codes "update" ∷ codes "-Dx=1" ∷ codes "--context-filter" ∷ codes " a , b" ∷ codes "--url=mysql:f" ∷ codes "--label-filter=c" ∷ codes "-Dy==" ∷ codes "--changelog-file" ∷ codes "" ∷ [])
    ≡ Some (record {
      job = Run command.Update;
      path = codes "f";
      options = record { dialect = Mysql; contexts = codes "a" ∷ codes "b" ∷ []; labels = Some (Name (codes "c")) };
      root = Some [];
      given = (codes "x", codes "1") ∷ (codes "y", codes "=") ∷ [];
    })

abbrev pub ReleaseIsRead : Type 0
ReleaseIsRead = line_of (codes "release-locks" ∷ codes "--url" ∷ codes "postgresql:f" ∷ []) ≡ Some (plain_line Postgresql (Run command.Release) None)

abbrev pub TagIsRead : Type 0
TagIsRead = line_of (codes "tag" ∷ codes "--tag=v=1" ∷ codes "--url=mysql:f" ∷ []) ≡ Some (plain_line Mysql (Run (command.Tag (codes "v=1"))) None)

abbrev pub TargetIsRead : Type 0
TargetIsRead = line_of (codes "rollback-sql" ∷ codes "--url=mysql:f" ∷ codes "--changelog-file=c" ∷ codes "--count=0" ∷ []) ≡ Some (plain_line Mysql (RollbackSql (target.Count 0)) (Some (codes "c")))

abbrev pub DrillIsRead : Type 0
DrillIsRead = line_of (codes "drill" ∷ codes "--runs" ∷ codes "a/r" ∷ codes "--url=mysql:f" ∷ []) ≡ Some (plain_line Mysql (Drill (codes "a/r")) None)

abbrev pub GenerateIsRead : Type 0
GenerateIsRead = line_of (codes "generate-changelog" ∷ codes "--author=a b" ∷ codes "--url=mysql:f" ∷ []) ≡ Some (plain_line Mysql (Generate (codes "a b")) None)

abbrev pub SoakIsRead : Type 0
SoakIsRead = line_of (codes "soak" ∷ codes "--url=mysql:f" ∷ codes "--sets=10000" ∷ codes "--number=18446744073709551615" ∷ []) ≡ Some (plain_line Mysql (Soak 18446744073709551615 10000) None)

-- the required options that most commands share
abbrev pub with_changelog : List ℕ → Words → Words
with_changelog name more = name ∷ codes "--url=postgresql:f" ∷ codes "--changelog-file=c" ∷ more

-- each command that takes no date, with its required options alone
abbrev pub RequiredSuffice : Type 0
RequiredSuffice = list_all (λ words. is_some (line_of words)) (
    with_changelog (codes "validate") []
    ∷ with_changelog (codes "status") []
    ∷ with_changelog (codes "update") []
    ∷ with_changelog (codes "update-sql") []
    ∷ with_changelog (codes "update-count") (codes "--count=1" ∷ [])
    ∷ with_changelog (codes "update-to-tag") (codes "--tag=v1" ∷ [])
    ∷ with_changelog (codes "changelog-sync") []
    ∷ with_changelog (codes "rollback") (codes "--tag=v1" ∷ [])
    ∷ with_changelog (codes "rollback-count") (codes "--count=1" ∷ [])
    ∷ with_changelog (codes "rollback-sql") (codes "--tag=v1" ∷ [])
    ∷ (codes "tag" ∷ codes "--url=mysql:f" ∷ codes "--tag=v1" ∷ [])
    ∷ (codes "clear-checksums" ∷ codes "--url=mysql:f" ∷ [])
    ∷ with_changelog (codes "undo-unrecorded") []
    ∷ (codes "release-locks" ∷ codes "--url=mysql:f" ∷ [])
    ∷ (codes "snapshot" ∷ codes "--url=mysql:f" ∷ [])
    ∷ (codes "history" ∷ codes "--url=mysql:f" ∷ [])
    ∷ (codes "generate-changelog" ∷ codes "--url=mysql:f" ∷ codes "--author=a" ∷ [])
    ∷ (codes "drill" ∷ codes "--url=mysql:f" ∷ codes "--runs=r" ∷ [])
    ∷ (codes "soak" ∷ codes "--url=mysql:f" ∷ codes "--number=0" ∷ codes "--sets=1" ∷ [])
    ∷ []) ≡ true

-- each of these is no command line
abbrev pub AreNone : List Words → Type 0
AreNone all = list_all (λ words. is_none (line_of words)) all ≡ true

-- `rollback-count` with some words behind its other options
abbrev pub counting : Words → Words
counting more = codes "rollback-count" ∷ codes "--url=mysql:f" ∷ codes "--changelog-file=c" ∷ more

-- an option that is missing, stands twice or has no value, a value that begins with `-`, a word or an option that the
-- command does not take, and what only looks like an option
abbrev pub OptionsAreRefused : Type 0
OptionsAreRefused = AreNone (
    counting []
    ∷ counting (codes "--count=1" ∷ codes "--count=1" ∷ [])
    ∷ counting (codes "--count" ∷ [])
    ∷ counting (codes "--count" ∷ codes "-1" ∷ [])
    ∷ counting (codes "--count" ∷ codes "--count=1" ∷ [])
    ∷ counting (codes "--count=1" ∷ codes "c" ∷ [])
    ∷ counting (codes "--count=1" ∷ codes "--tag=v1" ∷ [])
    ∷ counting (codes "--count=1" ∷ codes "--help" ∷ [])
    ∷ counting (codes "--count=1" ∷ codes "-" ∷ [])
    ∷ counting (codes "--count=1" ∷ codes "--" ∷ [])
    ∷ counting (codes "--count=1" ∷ codes "-D" ∷ codes "x=1" ∷ [])
    ∷ counting (codes "--count=1" ∷ codes "-D=x=1" ∷ [])
    ∷ counting (codes "--count=1" ∷ codes "-Dx" ∷ [])
    ∷ counting (codes "--count=1" ∷ codes "-h" ∷ [])
    ∷ [])

-- a count with a sign, with a leading zero, of more than 32 bits or of nothing
abbrev pub CountsAreRefused : Type 0
CountsAreRefused = AreNone (
    counting (codes "--count=+1" ∷ [])
    ∷ counting (codes "--count=01" ∷ [])
    ∷ counting (codes "--count=4294967296" ∷ [])
    ∷ counting (codes "--count=" ∷ [])
    ∷ [])

-- no command, one that there is not, two or none of the three targets, a value that says nothing, a count or a tag that
-- is missing, `-D` or a changelog where it is not taken, and a drill without its file or with a changelog
abbrev pub CommandsAreRefused : Type 0
CommandsAreRefused = AreNone (
    []
    ∷ (codes "Update" ∷ codes "--url=mysql:f" ∷ codes "--changelog-file=c" ∷ [])
    ∷ (codes "rollback-sql" ∷ codes "--url=mysql:f" ∷ codes "--changelog-file=c" ∷ codes "--tag=v1" ∷ codes "--count=1" ∷ [])
    ∷ (codes "rollback-sql" ∷ codes "--url=mysql:f" ∷ codes "--changelog-file=c" ∷ [])
    ∷ (codes "release-locks" ∷ codes "--url=oracle:f" ∷ [])
    ∷ (codes "release-locks" ∷ codes "--url=mysql:" ∷ [])
    ∷ (codes "status" ∷ codes "--url=mysql:f" ∷ codes "--changelog-file=c" ∷ codes "--label-filter=" ∷ [])
    ∷ (codes "tag" ∷ codes "--url=mysql:f" ∷ codes "--tag=" ∷ [])
    ∷ (codes "tag" ∷ codes "--url=mysql:f" ∷ codes "--tag=v1" ∷ codes "-Dx=1" ∷ [])
    ∷ with_changelog (codes "clear-checksums") []
    ∷ (codes "undo-unrecorded" ∷ codes "--url=mysql:f" ∷ [])
    ∷ with_changelog (codes "undo-unrecorded") (codes "--context-filter=a" ∷ [])
    ∷ with_changelog (codes "snapshot") []
    ∷ (codes "snapshot" ∷ codes "--url=mysql:f" ∷ codes "-Dx=1" ∷ [])
    ∷ with_changelog (codes "update-count") []
    ∷ with_changelog (codes "update-to-tag") []
    ∷ with_changelog (codes "update-to-tag") (codes "--count=1" ∷ [])
    ∷ (codes "generate-changelog" ∷ codes "--url=mysql:f" ∷ [])
    ∷ (codes "generate-changelog" ∷ codes "--url=mysql:f" ∷ codes "--author=" ∷ [])
    ∷ (codes "history" ∷ codes "--url=mysql:f" ∷ codes "-Dx=1" ∷ [])
    ∷ (codes "history" ∷ codes "--url=mysql:f" ∷ codes "--changelog-file=c" ∷ [])
    ∷ (codes "drill" ∷ codes "--url=mysql:f" ∷ [])
    ∷ (codes "drill" ∷ codes "--url=mysql:f" ∷ codes "--runs=r" ∷ codes "--changelog-file=c" ∷ [])
    ∷ (codes "soak" ∷ codes "--url=mysql:f" ∷ codes "--number=0" ∷ codes "--sets=0" ∷ [])
    ∷ [])
