use Rattle.std.proofs.Common.{arith, rules, sym, ◌∙◌, ◌≡◌, ◌∷◌}
use Rattle.lq_commands.proofs.Inserted.{few_before, none_out, out_found, out_later}
use Rattle.lq_commands.proofs.sync.first_out.Goals as goal

pub overflow_add-count : goal.overflow_add-count
overflow_add-count c = omega (arith, few_before c.loop-row.count c.in-Some.row.now (sym c.goes_in.ensures ∙ c.if-not-goes_in.false))

pub returns-then-not-goes_in : goal.returns-then-not-goes_in
returns-then-not-goes_in c =
    let is : c.loop-row.rest.now ≡ c.in-Some.row.now ∷ c.in-Some.after.now = search rules in
    out_found c.loop-row.count c.args.before.now c.args.rows.now c.loop-row.rest.now c.in-Some.after.now c.in-Some.row.now c.goes_in.result is c.goes_in.ensures c.loop-row.invariant c.if-not-goes_in.true

pub loop-row-preserved : goal.loop-row-preserved
loop-row-preserved c =
    let is : c.loop-row.rest.now ≡ c.in-Some.row.now ∷ c.in-Some.after.now = search rules in
    out_later c.loop-row.count c.args.before.now c.args.rows.now c.loop-row.rest.now c.in-Some.after.now c.in-Some.row.now c.goes_in.result is c.goes_in.ensures c.loop-row.invariant c.if-not-goes_in.false

pub returns : goal.returns
returns c = none_out c.loop-row.count c.args.before.now c.args.rows.now c.loop-row.rest.now (search rules) c.loop-row.invariant
