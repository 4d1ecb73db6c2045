use Rattle.std.proofs.Common.{rules, sym, ◌∙◌}
use Rattle.std.specs.Prelude.{false, true, ◌∷◌, ◌≡◌}
use Rattle.lq_model.proofs.Lists.{true_false}
use Rattle.lq_players.proofs.RowsApart.{all_passed, behind_so, follows_so, none_passed, one_passed}
use Rattle.lq_players.proofs.row_order.are_apart.Goals as goal

pub loop-row-init : goal.loop-row-init
loop-row-init c = (none_passed c.args.rows.now _, λ behind. behind)

pub loop-row-preserved : goal.loop-row-preserved
loop-row-preserved c =
    let is : c.loop-row.rest.now ≡ c.in-Some.row.now ∷ c.in-Some.after.now = search rules in
    let yes : c.follows.result ≡ true = search rules in (
      one_passed c.args.rows.now c.loop-row.rest.now c.in-Some.after.now c.in-Some.row.now c.loop-row.last c.loop-row.invariant.0 is (sym (c.follows.ensures c.args.rows.now c.in_ok-index.ensures) ∙ yes),
      λ behind. behind_so c.loop-row.rest.now c.in-Some.after.now c.in-Some.row.now c.loop-row.last is (c.loop-row.invariant.1 behind),
    )

pub returns-clause-apart : goal.returns-clause-apart
returns-clause-apart c = λ apart. all_passed c.args.rows.now c.loop-row.rest.now c.loop-row.last c.loop-row.invariant.0 c.in_default.ensures.cases

pub returns-then-not-follows-clause-all : goal.returns-then-not-follows-clause-all
returns-then-not-follows-clause-all c = λ behind apart.
    let is : c.loop-row.rest.now ≡ c.in-Some.row.now ∷ c.in-Some.after.now = search rules in
    let no : c.follows.result ≡ false = search rules in
    true_false (follows_so c.args.rows.now c.loop-row.rest.now c.in-Some.after.now c.in-Some.row.now c.loop-row.last c.loop-row.invariant.0 is apart (c.loop-row.invariant.1 behind)) (sym (c.follows.ensures c.args.rows.now c.in_ok-index.ensures) ∙ no)
