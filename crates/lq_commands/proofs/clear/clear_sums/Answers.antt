use Rattle.std.proofs.Common.{rules, sym, ◌∙◌}
use Rattle.lq_commands.proofs.Cleared.{cleared_told}
use Rattle.lq_commands.proofs.Commanded.{kept_none, lacking_by, none_of, passed, refused_as}
use Rattle.lq_commands.proofs.Endings.{untouched_crashes, untouched_works}
use Rattle.lq_commands.specs.Refusals.{held}
use Rattle.lq_turns.specs.Script.{clear_calls}
use Rattle.lq_commands.proofs.clear.clear_sums.Goals as goal

pub clear_these-requires-clause-rows : goal.clear_these-requires-clause-rows
clear_these-requires-clause-rows g c = λ database has. c.in_ok-rows.ensures.rows database has ∙ sym c.as_slice.ensures

pub returns-clause-tells : goal.returns-clause-tells
returns-clause-tells g c =
    cleared_told c.args.dialect (g.S.Store.state c.args.store.now) c.as_slice.result.now c.clear_these.result
    (λ database has. c.in_ok-rows.ensures.rows database has ∙ sym c.as_slice.ensures) c.clear_these.ensures.tells

pub returns-clause-answers : goal.returns-clause-answers
returns-clause-answers g c = λ database has. passed (held database) tt c.clear_these.result (c.in_ok-check_lock.ensures database has) c.clear_these.ensures.answers

pub returns-clause-refused : goal.returns-clause-refused
returns-clause-refused g c = λ database has. kept_none (held database) c.args.store.now c.clear_these.new.store (none_of (held database) tt (c.in_ok-check_lock.ensures database has))

-- a check that refuses leaves what was there

pub returns-in_err-check_lock-clause-answers : goal.returns-in_err-check_lock-clause-answers
returns-in_err-check_lock-clause-answers g c = λ database has. refused_as _ (held database) c.in_err-check_lock.field-0.0 _ (c.in_err-check_lock.ensures database has) (search rules)

pub returns-in_err-check_lock-clause-works : goal.returns-in_err-check_lock-clause-works
returns-in_err-check_lock-clause-works g c = λ database has.
    untouched_works c.args.dialect (clear_calls database) database (g.S.Store.state c.args.store.now) _ c.in_err-check_lock.field-0.0 (search rules) has

pub returns-in_err-check_lock-clause-any_moment : goal.returns-in_err-check_lock-clause-any_moment
returns-in_err-check_lock-clause-any_moment g c = λ database has.
    untouched_crashes c.args.dialect (clear_calls database) database (g.S.Store.state c.args.store.now) (g.S.Store.crashes c.args.store.now)

pub returns-in_err-rows-clause-answers : goal.returns-in_err-rows-clause-answers
returns-in_err-rows-clause-answers g c = λ database has. lacking_by (held database) c.in_err-rows.field-0.0 _ c.in_err-rows.ensures.passes (search rules)

pub returns-in_err-rows-clause-works : goal.returns-in_err-rows-clause-works
returns-in_err-rows-clause-works g c = λ database has.
    untouched_works c.args.dialect (clear_calls database) database (g.S.Store.state c.args.store.now) _ c.in_err-rows.field-0.0 (search rules) has

pub returns-in_err-rows-clause-any_moment : goal.returns-in_err-rows-clause-any_moment
returns-in_err-rows-clause-any_moment g c = λ database has.
    untouched_crashes c.args.dialect (clear_calls database) database (g.S.Store.state c.args.store.now) (g.S.Store.crashes c.args.store.now)
