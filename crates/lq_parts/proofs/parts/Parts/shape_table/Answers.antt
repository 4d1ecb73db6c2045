use Rattle.std.proofs.Common.{refl, unwrap_or}
use Rattle.std.specs.Map.{lookup}
use Rattle.lq_base.specs.Name.{is_named}
use Rattle.lq_model.specs.Catalogue.{no_table}
use Rattle.lq_parts.proofs.TakenLemmas.{shaped_known}
use Rattle.lq_parts.proofs.parts.Parts.shape_table.Goals as goal
use Rattle.lq_rows.specs.Stored.{with_shape}

pub invariant_of-self-in-Ok : goal.invariant_of-self-in-Ok
invariant_of-self-in-Ok c =
    let before = c.self.inside.tables in
    let it = with_shape c.args.shape (unwrap_or (lookup (is_named c.args.name.now) before.now) no_table) in
    shaped_known before c.shape.new.self c.args.name.now it c.learn_shape.new.names c.in-Ok.ensures.ok (c.learn_shape.ensures it refl c.self.invariant)

pub invariant_of-self-in-Err : goal.invariant_of-self-in-Err
invariant_of-self-in-Err c = c.forget.ensures c.shape.new.self.now
