use Rattle.std.proofs.Common.{rules, subst, sym, ◌∙◌, ◌≡◌, ◌∷◌}
use Rattle.lq_back.proofs.Synced.{Syncs, adds_on, all_made, are_dated, starts}
use Rattle.lq_back.proofs.sync_rows.rows_to_sync.Goals as goal

pub loop-set-init : goal.loop-set-init
loop-set-init c =
    subst (λ xs. Syncs c.args.options.now c.args.reading c.args.rows.now c.args.changelog.now.sets xs c.none_made-made.result) (sym c.as_slice-rest.ensures)
    (starts c.args.options.now c.args.reading c.args.rows.now c.args.changelog.now.sets c.none_made-made.result c.none_made-made.ensures.none c.none_made-made.ensures.at)

pub loop-set-preserved : goal.loop-set-preserved
loop-set-preserved c =
    let is : c.loop-set.rest.now ≡ c.in-Some.set.now ∷ c.in-Some.after.now = search rules in
    adds_on c.args.options.now c.args.reading c.args.rows.now c.args.changelog.now.sets c.loop-set.rest.now c.in-Some.after.now c.in-Some.set.now c.loop-set.made c.add_unless_there.new.made is c.loop-set.invariant
    (c.in_ok-add_unless_there.ensures c.args.rows.now c.in_ok-index.ensures c.loop-set.invariant.at)

pub returns-clause-rows : goal.returns-clause-rows
returns-clause-rows c =
    c.rows_of.ensures ∙ all_made c.args.options.now c.args.reading c.args.rows.now c.args.changelog.now.sets c.loop-set.rest.now c.loop-set.made (search rules) c.loop-set.invariant

pub returns-clause-dated : goal.returns-clause-dated
returns-clause-dated c =
    are_dated c.args.options.now c.args.reading c.args.rows.now c.args.changelog.now.sets c.rows_of.result c.requires.moment
    (c.rows_of.ensures ∙ all_made c.args.options.now c.args.reading c.args.rows.now c.args.changelog.now.sets c.loop-set.rest.now c.loop-set.made (search rules) c.loop-set.invariant)
