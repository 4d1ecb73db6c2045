use Rattle.std.specs.Prelude.{[], ◌∷◌}
use Rattle.lq_model.specs.declared.canon.Begun.TheVariants as begun_of
use Rattle.lq_model.proofs.WentOn.{after, map_err, on_err, over, stays}
use Rattle.lq_load.proofs.written.write_list.Goals as goal

pub returns-in_err-begin_list-clause-front : goal.returns-in_err-begin_list-clause-front
returns-in_err-begin_list-clause-front c = on_err _ _ (stays _ _ c.in_err-begin_list.ensures.unchanged)

pub returns-in_err-write_rows-clause-front : goal.returns-in_err-write_rows-clause-front
returns-in_err-write_rows-clause-front c = on_err _ _ (after c.args.to.now c.begin_list.new.self c.write_rows.new.to _ (begun_of.List ∷ []) c.in_ok-begin_list.ensures.written c.in_ok-begin_list.ensures.begun c.in_err-write_rows.ensures.front)

pub returns-clause-front : goal.returns-clause-front
returns-clause-front c = map_err _ _ _ (λ is. after c.args.to.now c.begin_list.new.self c.end_list.new.self _ (begun_of.List ∷ []) c.in_ok-begin_list.ensures.written c.in_ok-begin_list.ensures.begun (over c.begin_list.new.self c.write_rows.new.to c.end_list.new.self _ c.in_ok-write_rows.ensures.written c.in_ok-write_rows.ensures.begun (stays _ _ is))) c.end_list.ensures.unchanged
