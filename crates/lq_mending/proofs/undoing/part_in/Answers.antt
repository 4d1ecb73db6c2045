use Rattle.std.proofs.Common.{rules, sym, ◌∙◌}
use Rattle.lq_mending.proofs.Passing.{no_memory}
use Rattle.lq_mending.proofs.Undone.{lock_is, part_there, passes_there}
use Rattle.lq_mending.specs.Undoes.{refusal}
use Rattle.lq_mending.proofs.undoing.part_in.Goals as goal

pub returns-in_err-rows-clause-passes : goal.returns-in_err-rows-clause-passes
returns-in_err-rows-clause-passes g c = λ database has. no_memory (refusal c.args.options.now c.args.changelog.now database.lock database.rows) c.from_residual.result (search rules)

pub returns-clause-passes : goal.returns-clause-passes
returns-clause-passes g c =
    let d = c.args.options.now.dialect in
    let x = g.S.Store.state c.args.store.now in
    passes_there c.args.options.now c.args.changelog.now c.lock.result.now c.as_slice-rows.result.now x c.part_of.result
    (λ database has. (lock_is d x database c.lock.result.now has (c.lock.ensures c.requires.ready.has.live), c.in_ok-rows.ensures database has ∙ sym c.as_slice-rows.ensures)) c.part_of.ensures.passes

pub returns-clause-part : goal.returns-clause-part
returns-clause-part g c =
    let d = c.args.options.now.dialect in
    let x = g.S.Store.state c.args.store.now in
    part_there c.args.options.now c.args.changelog.now c.args.last.now c.lock.result.now c.as_slice-rows.result.now x c.part_of.result
    (λ database has. (lock_is d x database c.lock.result.now has (c.lock.ensures c.requires.ready.has.live), c.in_ok-rows.ensures database has ∙ sym c.as_slice-rows.ensures)) c.part_of.ensures.part
