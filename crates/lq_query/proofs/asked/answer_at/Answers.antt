use Rattle.std.proofs.Common.{◌∙◌, ap, sym}
use Rattle.lq_query.specs.Source.{shown_columns, shown_rows}
use Rattle.lq_query.proofs.AskedLemmas.{with_columns}
use Rattle.lq_query.proofs.asked.answer_at.Goals as goal

pub returns-in_default : goal.returns-in_default
returns-in_default c =
    let s = c.args.source in
    with_columns c.args.by c.args.query.now s.columns.now (shown_columns s.view s.columns.now) (shown_rows s.view s.columns.now s.rows) c.answer_of.result
    (ap (λ v. shown_columns v s.columns.now) (sym c.in_default.is)) c.answer_of.ensures

pub returns-in-Ok : goal.returns-in-Ok
returns-in-Ok c =
    let s = c.args.source in
    with_columns c.args.by c.args.query.now c.as_slice.result.now (shown_columns s.view s.columns.now) (shown_rows s.view s.columns.now s.rows) c.answer_of-in-Ok.result
    (c.as_slice.ensures ∙ c.in-Ok.ensures ∙ ap (λ v. shown_columns v s.columns.now) (sym c.in-Some.is)) c.answer_of-in-Ok.ensures
