use Rattle.std.proofs.Common.{ap}
use Rattle.lq_hand.specs.declared.hand.Hand.{Hand}
use Rattle.lq_run.proofs.UnderWay.{back_under}
use Rattle.lq_run.proofs.Stepping.{back_crash, not_between, steps_back}
use Rattle.lq_run.specs.Steps.{standing}
use Rattle.lq_run.proofs.Beside.{set_none}
use Rattle.lq_store.specs.Journal.{is_open}
use Rattle.lq_run.proofs.runner.Runner.give_up.Goals as goal

pub returns-clause-steps : goal.returns-clause-steps
returns-clause-steps g c = steps_back c.args.self.now.dialect g.T.Source.meaning c.args.self.now.stamp c.args.session (standing g.T.Source.left g.T.Source.way c.args.self.now) c.no_turn.result (g.S.Store.state c.args.store.now) (g.S.Store.state c.abort.new.store) c.requires.gives_up c.no_turn.ensures c.abort.ensures.does

pub returns-clause-lost : goal.returns-clause-lost
returns-clause-lost g c = λ there. absurd (not_between c.args.self.now.hand c.requires.gives_up there)

pub returns-clause-crash : goal.returns-clause-crash
returns-clause-crash g c = back_crash c.args.self.now.dialect g.T.Source.meaning c.args.self.now.stamp c.args.session (standing g.T.Source.left g.T.Source.way c.args.self.now) c.args.self.now.fault (g.S.Store.state c.args.store.now) (g.S.Store.crashes c.args.store.now) (g.S.Store.crashes c.abort.new.store) c.requires.gives_up c.abort.ensures.crash

pub returns-clause-beside : goal.returns-clause-beside
returns-clause-beside g c = c.abort.ensures.beside

pub returns-clause-asks : goal.returns-clause-asks
returns-clause-asks g c = λ none live. set_none c.args.self.now.dialect c.no_turn.result (is_open c.args.session (g.S.Store.state c.abort.new.store).begun) c.no_turn.ensures c.abort.ensures.shuts

pub returns-clause-under_way : goal.returns-clause-under_way
returns-clause-under_way g c =
    let r = c.args.self.now in
    λ start s told is held met. back_under r.fault r.hand c.no_turn.result (g.T.Source.way r.source r.dialect r.stamp told) (ap (λ (h : Hand). h.calls) c.no_turn.ensures) met
