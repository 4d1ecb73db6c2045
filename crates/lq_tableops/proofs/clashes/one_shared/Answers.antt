use Rattle.std.proofs.Common.{ap, ◌||◌}
use Rattle.lq_model.specs.NameSpaces.{shared_names}
use Rattle.lq_model.specs.Catalogue.{is_in}
use Rattle.lq_tableops.proofs.ClashLemmas.{shared_inside}
use Rattle.lq_tableops.proofs.clashes.one_shared.Goals as goal

pub returns-clause-found : goal.returns-clause-found
returns-clause-found c =
    let db = c.args.parts.now.now in
    rw (c.in_ok-own.ensures.found, c.in_ok-inner.ensures.found) (ap (λ b. is_in c.args.table.now (shared_names db) || b) (rw (c.in_ok-own.ensures.same) (shared_inside db c.args.table.now c.args.names.now)))
