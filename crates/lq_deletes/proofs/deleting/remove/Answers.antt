use Rattle.std.proofs.Common.{ap, sym, ◌∙◌, ◌≡◌}
use Rattle.lq_chain.specs.History.{History}
use Rattle.lq_deletes.specs.Places.{cascades_at}
use Rattle.lq_deletes.proofs.DeleteLemmas.{found, none_goes}
use Rattle.lq_deletes.proofs.deleting.remove.Goals as goal

pub returns-clause-ok : goal.returns-clause-ok
returns-clause-ok c =
    let db = c.args.parts.now.now in
    let t = c.args.table.now in
    let test = c.args.test.now in
    let cascades : c.cascades_at.result ≡ cascades_at t db = c.cascades_at.ensures in
    ap (λ (h : History _). h.now) c.in_ok-take.ensures.ok ∙ sym (none_goes t test db c.requires.linked (found t db c.requires.there) (sym cascades ∙ c.if-cascades_at.false))

pub cascades_at-requires : goal.cascades_at-requires
cascades_at-requires c = c.requires.linked.aimed
