use Rattle.std.proofs.Common.{ap, cond, rules, sym, true, ◌≡◌, ◌∙◌}
use Rattle.lq_sources.specs.Items.{so_far, with_set}
use Rattle.lq_sources.specs.Walk.{is_set}
use Rattle.lq_sources.proofs.gathering.count_item.Goals as goal

pub returns-then-eq : goal.returns-then-eq
returns-then-eq c =
    let is : is_set c.args.key.now ≡ true = search rules in
    c.count_set.ensures ∙ ap (λ b. cond b (with_set (so_far c.args.reading.now)) (so_far c.args.reading.now)) (sym is)
