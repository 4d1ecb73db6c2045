-- The line of a command, from its parts.
use Rattle.std.proofs.Common.{◌≡◌, ℕ, List, Option, Some, option_and_then, refl}
use Rattle.clap.specs.Walk.{Row}
use Rattle.lq_base.specs.declared.dialect.Dialect.{Dialect}
use Rattle.lq_expr.specs.declared.expr.Expr.{Expr}
use Rattle.lq_cli.specs.declared.line.Job.{Job}
use Rattle.lq_cli.specs.declared.verb.Verb.{Verb}
use Rattle.lq_cli.specs.Line.{job_of, line_with}
use Rattle.lq_cli.specs.Options.{definitions, value, contexts_of, labels_of, properties_of, url_of}
use Rattle.lq_cli.specs.Table.{changelog_file, context_filter, label_filter, url}

pub line_is : (verb : Verb) (given : List Row) (dialect : Dialect) (file : List ℕ) (job : Job) (contexts : List (List ℕ)) (labels : Option Expr) (root : Option (List ℕ)) (properties : List (List ℕ × List ℕ))
    → option_and_then url_of (value given url) ≡ Some (dialect, file)
    → job_of verb given ≡ Some job
    → contexts_of (value given context_filter) ≡ Some contexts
    → labels_of (value given label_filter) ≡ Some labels
    → properties_of (definitions given) ≡ Some properties
    → value given changelog_file ≡ root
    → line_with verb given ≡ Some (record {
      job = job;
      path = file;
      options = record { dialect = dialect; contexts = contexts; labels = labels };
      root = root;
      given = properties;
    })
unfolding line_with
line_is verb given dialect file job contexts labels root properties place does filter expr defined from =
    rw (place, does, filter, expr, defined, from) refl
