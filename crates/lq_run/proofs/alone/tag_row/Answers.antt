use Rattle.lq_run.proofs.Behind.{tag_behind}
use Rattle.lq_run.proofs.Left.{tag_leaves}
use Rattle.lq_run.proofs.Stopping.{tagged}
use Rattle.lq_run.proofs.alone.tag_row.Goals as goal

pub returns-clause-leaves : goal.returns-clause-leaves
returns-clause-leaves g c = tag_leaves c.args.dialect c.args.session (g.S.Store.state c.args.store.now) (g.S.Store.state c.do_alone.new.store) c.do_alone.result c.args.of c.args.tag c.do_alone.ensures.does

pub returns-clause-any_moment : goal.returns-clause-any_moment
returns-clause-any_moment g c = tagged c.statements_read_back.ensures c.args.dialect c.args.session (g.S.Store.state c.args.store.now) (g.S.Store.crashes c.args.store.now) (g.S.Store.crashes c.do_alone.new.store) c.args.of c.args.tag c.do_alone.ensures.crash

pub returns-clause-behind : goal.returns-clause-behind
returns-clause-behind g c =
    tag_behind c.statements_read_back.ensures c.args.dialect (g.S.Store.state c.args.store.now) (g.S.Store.state c.do_alone.new.store) c.do_alone.result c.args.of c.args.tag
    (tag_leaves c.args.dialect c.args.session (g.S.Store.state c.args.store.now) (g.S.Store.state c.do_alone.new.store) c.do_alone.result c.args.of c.args.tag c.do_alone.ensures.does)
