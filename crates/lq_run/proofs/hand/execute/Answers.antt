use Rattle.std.proofs.Common.{refl, subst, sym}
use Rattle.lq_run.proofs.Makes.{deed_makes, lack_makes, never_lacks}
use Rattle.lq_run.specs.Moves.{Makes, WasOpen}
use Rattle.lq_turns.specs.declared.call.Call.TheVariants.{Execute}
use Rattle.lq_run.proofs.CallCrashes.{none_for}
use Rattle.lq_run.proofs.Beside.{move_beside, stays}
use Rattle.lq_run.proofs.Since.{leave_none}
use Rattle.lq_store.specs.Journal.{Keeps}
use Rattle.lq_run.proofs.hand.execute.Goals as goal

pub returns-in-Ok-clause-makes : goal.returns-in-Ok-clause-makes
returns-in-Ok-clause-makes g c = λ stamp.
    subst (λ r. Makes c.args.dialect g.T.Source.meaning stamp c.args.session (Execute c.args.deed.now) (g.S.Store.state c.args.store.now) r (g.S.Store.state c.do_deed.new.store)) (sym c.move_of.ensures)
    (deed_makes _ _ stamp c.args.session _ _ c.args.deed.now _ c.requires.open_here c.do_deed.ensures.does)

pub returns-in-Ok-clause-lack : goal.returns-in-Ok-clause-lack
returns-in-Ok-clause-lack g c =
    subst (λ r. WasOpen c.args.session (g.S.Store.state c.args.store.now) r (g.S.Store.state c.do_deed.new.store)) (sym c.move_of.ensures) (never_lacks c.args.session _ _ _)

pub returns-in-Err-clause-makes : goal.returns-in-Err-clause-makes
returns-in-Err-clause-makes g c = λ stamp. lack_makes c.args.dialect g.T.Source.meaning stamp c.args.session (g.S.Store.state c.args.store.now) (g.S.Store.state c.args.store.now) c.args.deed.now c.requires.open_here refl

pub returns-in-Err-clause-crash : goal.returns-in-Err-clause-crash
returns-in-Err-clause-crash g c = none_for c.args.dialect c.args.session (g.S.Store.state c.args.store.now) (g.S.Store.crashes c.args.store.now) (Execute c.args.deed.now)

pub returns-in-Ok-clause-beside : goal.returns-in-Ok-clause-beside
returns-in-Ok-clause-beside g c = move_beside c.args.session (g.S.Store.state c.args.store.now) (g.S.Store.state c.do_deed.new.store) c.do_deed.result c.move_of.result c.move_of.ensures c.do_deed.ensures.beside

pub returns-in-Err-clause-beside : goal.returns-in-Err-clause-beside
returns-in-Err-clause-beside g c = stays c.args.session (g.S.Store.state c.args.store.now) c.requires.live

pub returns-in-Err-clause-keeps : goal.returns-in-Err-clause-keeps
returns-in-Err-clause-keeps g c = leave_none (g.S.Store.state c.args.store.now).entries Keeps (g.S.Store.crashes c.args.store.now)
