use Rattle.std.specs.Prelude.{[], ◌∷◌}
use Rattle.lq_model.specs.declared.canon.Begun.TheVariants as begun_of
use Rattle.lq_model.proofs.WentOn.{after, map_err, on_err, over, stays}
use Rattle.lq_load.proofs.written.write_row.Goals as goal

pub returns-in_err-begin_list-clause-front : goal.returns-in_err-begin_list-clause-front
returns-in_err-begin_list-clause-front c = on_err _ _ (stays _ _ c.in_err-begin_list.ensures.unchanged)

pub returns-in_err-write_texts-clause-front : goal.returns-in_err-write_texts-clause-front
returns-in_err-write_texts-clause-front c = on_err _ _ (after c.args.to.now c.begin_list.new.self c.write_texts.new.to _ (begun_of.List ∷ []) c.in_ok-begin_list.ensures.written c.in_ok-begin_list.ensures.begun c.in_err-write_texts.ensures.front)

pub returns-clause-front : goal.returns-clause-front
returns-clause-front c = map_err _ _ _ (λ is. after c.args.to.now c.begin_list.new.self c.end_list.new.self _ (begun_of.List ∷ []) c.in_ok-begin_list.ensures.written c.in_ok-begin_list.ensures.begun (over c.begin_list.new.self c.write_texts.new.to c.end_list.new.self _ c.in_ok-write_texts.ensures.written c.in_ok-write_texts.ensures.begun (stays _ _ is))) c.end_list.ensures.unchanged
