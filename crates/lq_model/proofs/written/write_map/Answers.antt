use Rattle.std.specs.Prelude.{[], ◌∷◌}
use Rattle.lq_model.specs.declared.canon.Begun.TheVariants as begun_of
use Rattle.lq_model.proofs.WentOn.{after, map_err, on_err, over, stays}
use Rattle.lq_model.proofs.written.write_map.Goals as goal

pub returns-in_err-begin_map-clause-front : goal.returns-in_err-begin_map-clause-front
returns-in_err-begin_map-clause-front g c = on_err _ _ (stays _ _ c.in_err-begin_map.ensures.unchanged)

pub returns-in_err-write-clause-front : goal.returns-in_err-write-clause-front
returns-in_err-write-clause-front g c = on_err _ _ (after c.args.to.now c.begin_map.new.self c.write.new.to _ (begun_of.Map ∷ []) c.in_ok-begin_map.ensures.written c.in_ok-begin_map.ensures.begun c.in_err-write.ensures.front)

pub returns-clause-front : goal.returns-clause-front
returns-clause-front g c = map_err _ _ _ (λ is. after c.args.to.now c.begin_map.new.self c.end_map.new.self _ (begun_of.Map ∷ []) c.in_ok-begin_map.ensures.written c.in_ok-begin_map.ensures.begun (over c.begin_map.new.self c.write.new.to c.end_map.new.self _ c.in_ok-write.ensures.written c.in_ok-write.ensures.begun (stays _ _ is))) c.end_map.ensures.unchanged
