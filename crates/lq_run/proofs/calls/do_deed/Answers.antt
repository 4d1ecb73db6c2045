use Rattle.std.specs.Prelude.{Err, Ok}
use Rattle.lq_run.proofs.ToldCalls.{deed_told, is_read}
use Rattle.lq_run.proofs.CallCrashes.{deed_crash}
use Rattle.lq_run.proofs.Beside.{deed_beside, deed_opens}
use Rattle.lq_run.proofs.Since.{keeps_call}
use Rattle.lq_run.proofs.calls.do_deed.Goals as goal

pub returns-in-Ok-clause-does : goal.returns-in-Ok-clause-does
returns-in-Ok-clause-does g c =
    deed_told c.args.dialect c.args.session (g.S.Store.state c.args.store.now) (g.S.Store.state c.execute.new.self) c.args.deed.now _ _ (Ok c.in-Ok.field-0) (is_read c.args.dialect c.args.deed.now _ c.requires.reads) (c.caller.ensures c.args.dialect)
    c.requires.reads.0 c.requires.open_here c.in-Ok.ensures.does

pub returns-in-Err-clause-does : goal.returns-in-Err-clause-does
returns-in-Err-clause-does g c =
    deed_told c.args.dialect c.args.session (g.S.Store.state c.args.store.now) (g.S.Store.state c.execute.new.self) c.args.deed.now _ _ (Err c.in-Err.fault) (is_read c.args.dialect c.args.deed.now _ c.requires.reads) (c.caller.ensures c.args.dialect)
    c.requires.reads.0 c.requires.open_here c.in-Err.ensures.does

pub returns-in-Ok-clause-crash : goal.returns-in-Ok-clause-crash
returns-in-Ok-clause-crash g c =
    deed_crash c.args.dialect c.args.session (g.S.Store.state c.args.store.now) (g.S.Store.crashes c.args.store.now) (g.S.Store.crashes c.execute.new.self) c.args.deed.now _ _ (is_read c.args.dialect c.args.deed.now _ c.requires.reads) (c.caller.ensures c.args.dialect)
    c.requires.reads.0 c.requires.open_here c.in-Ok.ensures.crash

pub returns-in-Err-clause-crash : goal.returns-in-Err-clause-crash
returns-in-Err-clause-crash g c =
    deed_crash c.args.dialect c.args.session (g.S.Store.state c.args.store.now) (g.S.Store.crashes c.args.store.now) (g.S.Store.crashes c.execute.new.self) c.args.deed.now _ _ (is_read c.args.dialect c.args.deed.now _ c.requires.reads) (c.caller.ensures c.args.dialect)
    c.requires.reads.0 c.requires.open_here c.in-Err.ensures.crash

pub returns-in-Ok-clause-beside : goal.returns-in-Ok-clause-beside
returns-in-Ok-clause-beside g c = deed_beside c.args.session (g.S.Store.state c.args.store.now) (g.S.Store.state c.execute.new.self) c.requires.live c.caller.result c.args.text.now (Ok c.in-Ok.field-0) c.in-Ok.ensures.does

pub returns-in-Ok-clause-leaves_open : goal.returns-in-Ok-clause-leaves_open
returns-in-Ok-clause-leaves_open g c = deed_opens c.args.session (g.S.Store.state c.args.store.now) (g.S.Store.state c.execute.new.self) c.requires.live c.caller.result c.args.text.now (Ok c.in-Ok.field-0) c.requires.open_here c.in-Ok.ensures.does

pub returns-in-Err-clause-beside : goal.returns-in-Err-clause-beside
returns-in-Err-clause-beside g c = deed_beside c.args.session (g.S.Store.state c.args.store.now) (g.S.Store.state c.execute.new.self) c.requires.live c.caller.result c.args.text.now (Err c.in-Err.fault) c.in-Err.ensures.does

pub returns-in-Err-clause-leaves_open : goal.returns-in-Err-clause-leaves_open
returns-in-Err-clause-leaves_open g c = deed_opens c.args.session (g.S.Store.state c.args.store.now) (g.S.Store.state c.execute.new.self) c.requires.live c.caller.result c.args.text.now (Err c.in-Err.fault) c.requires.open_here c.in-Err.ensures.does

pub returns-in-Ok-clause-keeps : goal.returns-in-Ok-clause-keeps
returns-in-Ok-clause-keeps g c = keeps_call (g.S.Store.state c.args.store.now).entries _ (g.S.Store.crashes c.args.store.now) (g.S.Store.crashes c.execute.new.self) c.in-Ok.ensures.crash

pub returns-in-Err-clause-keeps : goal.returns-in-Err-clause-keeps
returns-in-Err-clause-keeps g c = keeps_call (g.S.Store.state c.args.store.now).entries _ (g.S.Store.crashes c.args.store.now) (g.S.Store.crashes c.execute.new.self) c.in-Err.ensures.crash
