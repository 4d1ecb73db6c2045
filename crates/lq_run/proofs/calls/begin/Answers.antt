use Rattle.lq_run.proofs.ToldCalls.{begin_told}
use Rattle.lq_run.proofs.Since.{keeps_call, leave_alone}
use Rattle.lq_run.proofs.Beside.{begin_beside, begin_opens}
use Rattle.lq_run.proofs.calls.begin.Goals as goal

pub returns-clause-does : goal.returns-clause-does
returns-clause-does g c = begin_told c.args.dialect c.args.session (g.S.Store.state c.args.store.now) (g.S.Store.state c.begin.new.self) c.begin.result c.requires.closed c.begin.ensures.does

pub returns-clause-crash : goal.returns-clause-crash
returns-clause-crash g c = leave_alone (g.S.Store.state c.args.store.now).entries (g.S.Store.crashes c.args.store.now) (g.S.Store.crashes c.begin.new.self) c.begin.ensures.crash

pub returns-clause-beside : goal.returns-clause-beside
returns-clause-beside g c = begin_beside c.args.session (g.S.Store.state c.args.store.now) (g.S.Store.state c.begin.new.self) c.requires.live c.begin.result c.requires.closed c.begin.ensures.does

pub returns-clause-leaves_open : goal.returns-clause-leaves_open
returns-clause-leaves_open g c = begin_opens c.args.session (g.S.Store.state c.args.store.now) (g.S.Store.state c.begin.new.self) c.requires.live c.begin.result c.begin.ensures.does

pub returns-clause-keeps : goal.returns-clause-keeps
returns-clause-keeps g c = keeps_call (g.S.Store.state c.args.store.now).entries _ (g.S.Store.crashes c.args.store.now) (g.S.Store.crashes c.begin.new.self) c.begin.ensures.crash
