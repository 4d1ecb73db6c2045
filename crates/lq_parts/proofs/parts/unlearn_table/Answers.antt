use Rattle.std.proofs.Common.{Some, rules, ◌≡◌}
use Rattle.std.specs.Map.{lookup}
use Rattle.lq_base.specs.Name.{is_named}
use Rattle.lq_parts.proofs.parts.unlearn_table.Goals as goal

pub returns : goal.returns
returns c =
    let ts = c.args.tables.now.now in
    let was = c.in-Some.held.now.now in
    let there : lookup (is_named c.args.name.now) ts ≡ Some was = search rules in
    λ known. c.take.ensures ts c.args.name.now was c.shape.ensures there known
