use Rattle.lq_run.proofs.ToldCalls.{abort_told}
use Rattle.lq_run.proofs.Since.{keeps_call, leave_alone}
use Rattle.lq_run.proofs.Beside.{abort_beside, abort_opens}
use Rattle.lq_run.proofs.calls.abort.Goals as goal

pub returns-clause-does : goal.returns-clause-does
returns-clause-does g c = abort_told c.args.dialect c.args.session (g.S.Store.state c.args.store.now) (g.S.Store.state c.abort.new.self) c.abort.ensures.does

pub returns-clause-crash : goal.returns-clause-crash
returns-clause-crash g c = leave_alone (g.S.Store.state c.args.store.now).entries (g.S.Store.crashes c.args.store.now) (g.S.Store.crashes c.abort.new.self) c.abort.ensures.crash

pub returns-clause-beside : goal.returns-clause-beside
returns-clause-beside g c = abort_beside c.args.session (g.S.Store.state c.args.store.now) (g.S.Store.state c.abort.new.self) c.requires.live c.requires.open_here c.abort.ensures.does

pub returns-clause-shuts : goal.returns-clause-shuts
returns-clause-shuts g c = abort_opens c.args.session (g.S.Store.state c.args.store.now) (g.S.Store.state c.abort.new.self) c.requires.live c.abort.ensures.does

pub returns-clause-keeps : goal.returns-clause-keeps
returns-clause-keeps g c = keeps_call (g.S.Store.state c.args.store.now).entries _ (g.S.Store.crashes c.args.store.now) (g.S.Store.crashes c.abort.new.self) c.abort.ensures.crash
