use Rattle.std.proofs.Common.{subst, sym}
use Rattle.lq_run.proofs.CallCrashes.{alone_for}
use Rattle.lq_run.specs.Moves.{Makes}
use Rattle.lq_turns.specs.declared.call.Call.TheVariants.{Begin}
use Rattle.lq_run.specs.Crashing.{CrashesFor}
use Rattle.lq_run.proofs.Beside.{move_beside, opens_begin, opens_commit, opens_deed}
use Rattle.lq_run.proofs.hand.make.Goals as goal

pub returns-in-Execute-clause-makes : goal.returns-in-Execute-clause-makes
returns-in-Execute-clause-makes g c = λ stamp.
    subst (λ k. Makes c.args.dialect g.T.Source.meaning stamp c.args.session k (g.S.Store.state c.args.store.now) c.execute.result (g.S.Store.state c.execute.new.store)) (sym c.in-Execute.is) (c.execute.ensures.makes stamp)

pub returns-in-Execute-clause-crash : goal.returns-in-Execute-clause-crash
returns-in-Execute-clause-crash g c = subst (λ k. CrashesFor c.args.dialect c.args.session k (g.S.Store.state c.args.store.now) (g.S.Store.crashes c.args.store.now) (g.S.Store.crashes c.execute.new.store)) (sym c.in-Execute.is) c.execute.ensures.crash

pub returns-in-Commit-clause-crash : goal.returns-in-Commit-clause-crash
returns-in-Commit-clause-crash g c = subst (λ k. CrashesFor c.args.dialect c.args.session k (g.S.Store.state c.args.store.now) (g.S.Store.crashes c.args.store.now) (g.S.Store.crashes c.commit.new.store)) (sym c.in-Commit.is) c.commit.ensures.crash

pub returns-in-Begin-clause-crash : goal.returns-in-Begin-clause-crash
returns-in-Begin-clause-crash g c = subst (λ k. CrashesFor c.args.dialect c.args.session k (g.S.Store.state c.args.store.now) (g.S.Store.crashes c.args.store.now) (g.S.Store.crashes c.begin.new.store)) (sym c.in-Begin.is) (alone_for c.args.dialect c.args.session (g.S.Store.state c.args.store.now) (g.S.Store.crashes c.args.store.now) (g.S.Store.crashes c.begin.new.store) Begin c.begin.ensures.crash)

pub returns-in-Begin-clause-beside : goal.returns-in-Begin-clause-beside
returns-in-Begin-clause-beside g c = move_beside c.args.session (g.S.Store.state c.args.store.now) (g.S.Store.state c.begin.new.store) c.begin.result c.move_of.result c.move_of.ensures c.begin.ensures.beside

pub returns-in-Begin-clause-leaves_open : goal.returns-in-Begin-clause-leaves_open
returns-in-Begin-clause-leaves_open g c = λ none live. opens_begin c.args.session (g.S.Store.state c.begin.new.store) c.move_of.result c.args.call.now c.in-Begin.is (c.begin.ensures.leaves_open none)

pub returns-in-Execute-clause-leaves_open : goal.returns-in-Execute-clause-leaves_open
returns-in-Execute-clause-leaves_open g c = λ none live. opens_deed c.args.session (g.S.Store.state c.execute.new.store) c.execute.result c.args.call.now _ c.in-Execute.is (c.execute.ensures.leaves_open live)

pub returns-in-Commit-clause-beside : goal.returns-in-Commit-clause-beside
returns-in-Commit-clause-beside g c = move_beside c.args.session (g.S.Store.state c.args.store.now) (g.S.Store.state c.commit.new.store) c.commit.result c.move_of-in-Commit.result c.move_of-in-Commit.ensures c.commit.ensures.beside

pub returns-in-Commit-clause-leaves_open : goal.returns-in-Commit-clause-leaves_open
returns-in-Commit-clause-leaves_open g c = λ none live. opens_commit c.args.session (g.S.Store.state c.commit.new.store) c.move_of-in-Commit.result c.args.call.now c.commit.result c.in-Commit.is c.move_of-in-Commit.ensures (c.commit.ensures.leaves_open live)
