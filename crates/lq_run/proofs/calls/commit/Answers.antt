use Rattle.lq_run.proofs.ToldCalls.{commit_told}
use Rattle.lq_run.proofs.CallCrashes.{commit_crash}
use Rattle.lq_run.proofs.Beside.{commit_beside, commit_opens}
use Rattle.lq_run.proofs.Since.{keeps_call}
use Rattle.lq_run.proofs.calls.commit.Goals as goal

pub returns-clause-does : goal.returns-clause-does
returns-clause-does g c = commit_told c.args.dialect c.args.session (g.S.Store.state c.args.store.now) (g.S.Store.state c.commit.new.self) c.commit.result c.requires.open_here c.commit.ensures.does

pub returns-clause-crash : goal.returns-clause-crash
returns-clause-crash g c = commit_crash c.args.dialect c.args.session (g.S.Store.state c.args.store.now) (g.S.Store.crashes c.args.store.now) (g.S.Store.crashes c.commit.new.self) c.requires.open_here c.commit.ensures.crash

pub returns-clause-beside : goal.returns-clause-beside
returns-clause-beside g c = commit_beside c.args.session (g.S.Store.state c.args.store.now) (g.S.Store.state c.commit.new.self) c.requires.live c.commit.result c.requires.open_here c.commit.ensures.does

pub returns-clause-leaves_open : goal.returns-clause-leaves_open
returns-clause-leaves_open g c = commit_opens c.args.session (g.S.Store.state c.args.store.now) (g.S.Store.state c.commit.new.self) c.requires.live c.commit.result c.requires.open_here c.commit.ensures.does

pub returns-clause-keeps : goal.returns-clause-keeps
returns-clause-keeps g c = keeps_call (g.S.Store.state c.args.store.now).entries _ (g.S.Store.crashes c.args.store.now) (g.S.Store.crashes c.commit.new.self) c.commit.ensures.crash
