use Rattle.std.proofs.Common.{rules, ◌≡◌}
use Rattle.lq_parts.proofs.EntryLemmas.{ordered_set}
use Rattle.lq_parts.proofs.StepLemmas as lemma
use Rattle.lq_parts.proofs.tables.forget_at.Goals as goal

pub returns-clause-tables : goal.returns-clause-tables
returns-clause-tables c =
    let same : c.forget.new.self.now ≡ c.index_mut.result.now.1.now = search rules in
    lemma.set_same c.args.entries.now.items c.args.at c.index_mut.result.now c.forget.new.self c.index_mut.ensures.value same

pub returns-clause-ordered : goal.returns-clause-ordered
returns-clause-ordered c = λ order. ordered_set c.args.entries.now.items c.args.at c.index_mut.result.now c.forget.new.self c.index_mut.ensures.value order
