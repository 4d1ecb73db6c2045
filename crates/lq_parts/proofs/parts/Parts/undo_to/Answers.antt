use Rattle.std.proofs.Common.{◌-◌, ◌∙◌}
use Rattle.lq_chain.specs.History.{marked}
use Rattle.lq_chain.proofs.HistoryLemmas.{ago_is_back}
use Rattle.lq_parts.proofs.parts.Parts.undo_to.Goals as goal

pub returns : goal.returns
returns c = c.undo_to.ensures ∙ ago_is_back (marked c.args.self.now - c.args.mark) c.args.self.now
