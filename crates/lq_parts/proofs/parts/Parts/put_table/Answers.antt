use Rattle.std.proofs.Common.{None, rules, ◌≡◌}
use Rattle.std.specs.Map.{lookup}
use Rattle.lq_base.specs.Name.{is_named}
use Rattle.lq_parts.proofs.TakenLemmas.{put_known}
use Rattle.lq_parts.proofs.parts.Parts.put_table.Goals as goal

pub invariant_of-self-in-Ok : goal.invariant_of-self-in-Ok
invariant_of-self-in-Ok c =
    let before = c.self.inside.tables in
    let none : lookup (is_named c.args.name) before.now ≡ None = search rules in
    put_known before c.put.new.self c.args.name c.args.held.now c.add.new.self c.in-Ok.ensures.ok (c.add.ensures before.now c.args.held.now c.shape.ensures none c.self.invariant)

pub invariant_of-self-in-Err : goal.invariant_of-self-in-Err
invariant_of-self-in-Err c = c.forget.ensures c.put.new.self.now
