use Rattle.std.proofs.Common.{ap, rules, sym, ◌∙◌, ◌≡◌, ◌∷◌}
use Rattle.std.specs.List.{list_all}
use Rattle.lq_model.proofs.Lists.{and_left, and_right}
use Rattle.lq_model.specs.Step.{is_statement}
use Rattle.lq_model.specs.StatementText.{text_of}
use Rattle.lq_seen.proofs.Mapped.{all_mapped, more_mapped}
use Rattle.lq_seen.proofs.printing.texts_of.Goals as goal

pub print-requires : goal.print-requires
print-requires g c =
    let d = g.P.SqlText.dialect in
    let is : c.loop-statement.rest.now ≡ c.in-Some.statement.now ∷ c.in-Some.after.now = search rules in
    and_left (is_statement d c.in-Some.statement.now) _ (sym (ap (list_all (is_statement d)) is) ∙ c.loop-statement.invariant.1)

pub loop-statement-preserved : goal.loop-statement-preserved
loop-statement-preserved g c =
    let d = g.P.SqlText.dialect in
    let is : c.loop-statement.rest.now ≡ c.in-Some.statement.now ∷ c.in-Some.after.now = search rules in (
      more_mapped (text_of d) c.loop-statement.rest.now c.in-Some.after.now c.in-Some.statement.now c.loop-statement.texts c.push.new.self _ _ is c.in_ok-push.ensures.ok c.in_ok-print.ensures c.loop-statement.invariant.0,
      and_right (is_statement d c.in-Some.statement.now) _ (sym (ap (list_all (is_statement d)) is) ∙ c.loop-statement.invariant.1),
    )

pub returns : goal.returns
returns g c = all_mapped (text_of g.P.SqlText.dialect) c.loop-statement.rest.now c.loop-statement.texts _ (search rules) c.loop-statement.invariant.0
