use Rattle.std.proofs.Common.{ap, is_some, sym, ◌∙◌}
use Rattle.lq_shapes.specs.Created.{kind_at}
use Rattle.lq_shapes.proofs.KindLemmas as lemma
use Rattle.lq_shapes.proofs.columns.put_kind.Goals as goal

pub returns-then-contains_key : goal.returns-then-contains_key
returns-then-contains_key c = lemma.was_there c.args.kinds.now c.args.column.now (ap (λ n. is_some (kind_at c.args.kinds.now n)) (sym c.as_key-key.ensures.value) ∙ sym c.contains_key.ensures ∙ c.if-contains_key.true)

pub returns-in-Ok : goal.returns-in-Ok
returns-in-Ok c = lemma.came_in c.args.kinds.now c.insert.new.self c.as_key-key.result c.args.column.now c.as_key-key.ensures.value
    (ap (λ n. is_some (kind_at c.args.kinds.now n)) (sym c.as_key-key.ensures.value) ∙ sym c.contains_key.ensures ∙ c.if-contains_key.false) c.in-Ok.ensures.updates
