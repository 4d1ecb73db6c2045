use Rattle.std.proofs.Common.{ap, ◌∙◌}
use Rattle.std.specs.Prelude.{◌++◌}
use Rattle.lq_run.specs.Stands.{texts_of}
use Rattle.lq_run.proofs.ToldCalls.{alone_told}
use Rattle.lq_run.proofs.CallCrashes.{alone_crash}
use Rattle.lq_run.proofs.Beside.{alone_beside, alone_shuts}
use Rattle.lq_run.proofs.Since.{keeps_call}
use Rattle.lq_run.proofs.calls.do_alone.Goals as goal

pub returns-clause-does : goal.returns-clause-does
returns-clause-does g c =
    alone_told c.args.dialect c.args.session (g.S.Store.state c.args.store.now) (g.S.Store.state c.alone.new.self) c.args.deeds.now _ c.args.room _ c.in-Ok.ensures.read
    (c.as_slice.ensures ∙ c.in-Ok.ensures.texts ∙ ap (λ z. z ++ texts_of c.args.dialect c.args.deeds.now) c.new-texts.ensures) c.requires.fills c.requires.closed c.alone.ensures.does

pub returns-clause-crash : goal.returns-clause-crash
returns-clause-crash g c =
    alone_crash c.args.dialect c.args.session (g.S.Store.state c.args.store.now) (g.S.Store.crashes c.args.store.now) (g.S.Store.crashes c.alone.new.self) c.args.deeds.now _ c.args.room c.in-Ok.ensures.read
    (c.as_slice.ensures ∙ c.in-Ok.ensures.texts ∙ ap (λ z. z ++ texts_of c.args.dialect c.args.deeds.now) c.new-texts.ensures) c.requires.closed c.alone.ensures.crash

pub returns-clause-beside : goal.returns-clause-beside
returns-clause-beside g c = alone_beside c.args.session (g.S.Store.state c.args.store.now) (g.S.Store.state c.alone.new.self) c.requires.live c.as_slice.result.now c.args.room c.requires.closed c.alone.result c.alone.ensures.does

pub returns-clause-shuts : goal.returns-clause-shuts
returns-clause-shuts g c = alone_shuts c.args.session (g.S.Store.state c.args.store.now) (g.S.Store.state c.alone.new.self) c.requires.live c.as_slice.result.now c.args.room c.requires.closed c.alone.result c.alone.ensures.does

pub returns-clause-keeps : goal.returns-clause-keeps
returns-clause-keeps g c = keeps_call (g.S.Store.state c.args.store.now).entries _ (g.S.Store.crashes c.args.store.now) (g.S.Store.crashes c.alone.new.self) c.alone.ensures.crash
