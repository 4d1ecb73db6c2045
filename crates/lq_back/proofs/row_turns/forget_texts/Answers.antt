use Rattle.std.proofs.Common.{refl}
use Rattle.lq_seen.proofs.Shown.{forgotten, not_kept}
use Rattle.lq_back.proofs.row_turns.forget_texts.Goals as goal

pub returns-then-prints : goal.returns-then-prints
returns-then-prints c = forgotten c.args.prints c.args.texts.now c.pop.new.self c.if-prints.true c.pop.result c.pop.ensures

pub returns-else-prints : goal.returns-else-prints
returns-else-prints c = not_kept c.args.prints c.args.texts.now c.args.texts.now c.if-prints.false refl
