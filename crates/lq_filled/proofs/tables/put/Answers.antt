use Rattle.std.proofs.Common.{ap, ◌∙◌}
use Rattle.lq_chain.specs.History.{History}
use Rattle.lq_model.specs.Catalogue.{Catalogue, Table, with_new}
use Rattle.lq_filled.proofs.tables.put.Goals as goal

pub returns : goal.returns
returns c =
    ap (λ (h : History Catalogue). h.now) c.in_ok-put_table.ensures.ok
    ∙ ap (λ (t : Table). with_new c.args.parts.now.now c.args.name t) c.in_ok-held.ensures
