use Rattle.std.proofs.Common.{refl, sym, ◌∙◌, ◌&&◌}
use Rattle.lq_seen.proofs.Shown.{forgotten, not_kept}
use Rattle.lq_sets.proofs.set_turns.forget_texts.Goals as goal
use Rattle.lq_sets.specs.Counting.{runs}

pub returns-then-keeps : goal.returns-then-keeps
returns-then-keeps c = forgotten (c.args.prints && runs c.args.choice) c.args.texts.now c.pop.new.self (sym c.keeps.ensures ∙ c.if-keeps.true) c.pop.result c.pop.ensures

pub returns-else-keeps : goal.returns-else-keeps
returns-else-keeps c = not_kept (c.args.prints && runs c.args.choice) c.args.texts.now c.args.texts.now (sym c.keeps.ensures ∙ c.if-keeps.false) refl
