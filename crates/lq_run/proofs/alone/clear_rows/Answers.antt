use Rattle.lq_run.proofs.Behind.{clear_behind}
use Rattle.lq_run.proofs.Left.{clear_leaves}
use Rattle.lq_run.proofs.Stopping.{cleared}
use Rattle.lq_run.proofs.alone.clear_rows.Goals as goal

pub returns-clause-leaves : goal.returns-clause-leaves
returns-clause-leaves g c = clear_leaves c.args.dialect c.args.session (g.S.Store.state c.args.store.now) (g.S.Store.state c.do_alone.new.store) c.do_alone.result c.do_alone.ensures.does

pub returns-clause-any_moment : goal.returns-clause-any_moment
returns-clause-any_moment g c = cleared c.statements_read_back.ensures c.args.dialect c.args.session (g.S.Store.state c.args.store.now) (g.S.Store.crashes c.args.store.now) (g.S.Store.crashes c.do_alone.new.store) c.do_alone.ensures.crash

pub returns-clause-behind : goal.returns-clause-behind
returns-clause-behind g c =
    clear_behind c.statements_read_back.ensures c.args.dialect (g.S.Store.state c.args.store.now) (g.S.Store.state c.do_alone.new.store) c.do_alone.result
    (clear_leaves c.args.dialect c.args.session (g.S.Store.state c.args.store.now) (g.S.Store.state c.do_alone.new.store) c.do_alone.result c.do_alone.ensures.does)
