use Rattle.std.proofs.Common.{ap, cond, rules, ◌∙◌, ◌≡◌}
use Rattle.lq_sources.specs.Items.{so_far, with_set}
use Rattle.lq_sources.specs.Walk.{held, is_set}
use Rattle.lq_sources.proofs.Steps.{gathered_answer}
use Rattle.lq_sources.proofs.gathering.gather_item.Goals as goal

pub returns-clause-reads : goal.returns-clause-reads
returns-clause-reads g c =
    let key : c.as_str-2.result.now ≡ c.args.entry.now.0 = search rules in
    gathered_answer (g.G.Gather.means c.args.gather.now) c.args.is_root c.args.path.now c.args.i c.args.entry.now.0 c.args.entry.now.1 _ (held c.args.reading.now c.args.gathered.now) (held c.take_wanted.new.reading c.take_wanted.new.gathered) (so_far c.count_item.new.reading) (search rules)
    (c.count_item.ensures ∙ ap (λ k. cond (is_set k) (with_set (so_far c.take_wanted.new.reading)) (so_far c.take_wanted.new.reading)) key) c.in_ok-take_wanted.ensures.reads
