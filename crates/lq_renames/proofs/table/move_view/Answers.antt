use Rattle.std.proofs.Common.{sym}
use Rattle.lq_chain.specs.History.{changed}
use Rattle.lq_model.specs.Catalogue.{with_view, without_view}
use Rattle.lq_rows.proofs.Continued.{goes_on, goes_one_further}
use Rattle.lq_renames.proofs.Renamed.{view_moves}
use Rattle.lq_renames.proofs.table.move_view.Goals as goal

pub put_view-requires : goal.put_view-requires
put_view-requires c = rw (c.in_ok-take_view.ensures.ok, c.in_ok-name.ensures) c.requires.absent

pub returns-clause-ok : goal.returns-clause-ok
returns-clause-ok c = rw (c.in_ok-put_view.ensures.ok, c.in_ok-take_view.ensures.ok, c.in_ok-name.ensures) (sym (view_moves c.args.view.now c.args.to.now c.args.parts.now.now c.in_ok-copy.copy c.in_ok-copy.ensures))

pub returns-clause-goes : goal.returns-clause-goes
returns-clause-goes c =
    let old = c.args.parts.now in
    let less = without_view old.now c.args.view.now in
    rw (c.in_ok-put_view.ensures.ok, c.in_ok-take_view.ensures.ok) (goes_one_further old (changed old less) (with_view less c.in_ok-name.name c.in_ok-copy.copy) (goes_on old less))
