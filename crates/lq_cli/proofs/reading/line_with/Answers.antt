use Rattle.std.proofs.Common.{◌≡◌, ◌∙◌, rules, ap, sym, Some, option_and_then}
use Rattle.lq_cli.specs.Line.{job_of}
use Rattle.lq_cli.specs.Options.{definitions, value, contexts_of, labels_of, properties_of, url_of}
use Rattle.lq_cli.specs.Table.{changelog_file, context_filter, label_filter, url}
use Rattle.lq_cli.proofs.Lines.{line_is}
use Rattle.lq_cli.proofs.reading.line_with.Goals as goal

pub returns : goal.returns
returns c =
    let place : option_and_then url_of (value c.args.given.now url) ≡ Some (c.in-Some.dialect, c.in_ok-new.field-0) = search rules in
    let does : job_of c.args.verb c.args.given.now ≡ Some c.in_ok-job.job = search rules in
    let filter : contexts_of (value c.args.given.now context_filter) ≡ Some c.in_ok-contexts.contexts = ap contexts_of (sym c.value.ensures) ∙ c.in_ok-contexts.ensures in
    let expr : labels_of (value c.args.given.now label_filter) ≡ Some c.in_ok-labels.labels = search rules in
    let defined : properties_of (definitions c.args.given.now) ≡ Some c.in_ok-properties.properties = search rules in
    let from : value c.args.given.now changelog_file ≡ c.in_ok-copied.field-0 = sym c.value-3.ensures ∙ sym c.in_ok-copied.ensures in
    line_is c.args.verb c.args.given.now c.in-Some.dialect c.in_ok-new.field-0 c.in_ok-job.job c.in_ok-contexts.contexts c.in_ok-labels.labels c.in_ok-copied.field-0 c.in_ok-properties.properties place does filter expr defined from
