use Rattle.lq_run.proofs.Behind.{release_behind}
use Rattle.lq_run.proofs.Left.{release_leaves}
use Rattle.lq_run.proofs.Stopping.{released}
use Rattle.lq_run.proofs.alone.free_lock.Goals as goal

pub returns-clause-leaves : goal.returns-clause-leaves
returns-clause-leaves g c = release_leaves c.args.dialect c.args.session (g.S.Store.state c.args.store.now) (g.S.Store.state c.do_alone.new.store) c.do_alone.result c.do_alone.ensures.does

pub returns-clause-any_moment : goal.returns-clause-any_moment
returns-clause-any_moment g c = released c.statements_read_back.ensures c.args.dialect c.args.session (g.S.Store.state c.args.store.now) (g.S.Store.crashes c.args.store.now) (g.S.Store.crashes c.do_alone.new.store) c.do_alone.ensures.crash

pub returns-clause-behind : goal.returns-clause-behind
returns-clause-behind g c =
    release_behind c.statements_read_back.ensures c.args.dialect (g.S.Store.state c.args.store.now) (g.S.Store.state c.do_alone.new.store) c.do_alone.result
    (release_leaves c.args.dialect c.args.session (g.S.Store.state c.args.store.now) (g.S.Store.state c.do_alone.new.store) c.do_alone.result c.do_alone.ensures.does)
