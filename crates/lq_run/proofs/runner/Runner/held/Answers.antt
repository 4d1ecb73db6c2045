use Rattle.lq_hand.specs.Way.{IsUnderWay}
use Rattle.lq_run.proofs.UnderWay.{stays_stopped}
use Rattle.std.proofs.Common.{subst, sym, ◌∙◌}
use Rattle.lq_run.proofs.Stepping.{steps_stopped, stopped_crash}
use Rattle.lq_run.specs.Steps.{standing}
use Rattle.lq_run.proofs.runner.Runner.held.Goals as goal

pub enter-requires-clause-enters : goal.enter-requires-clause-enters
enter-requires-clause-enters g c = sym c.may_enter.ensures ∙ c.if-may_enter.true

pub returns-else-may_enter-clause-steps : goal.returns-else-may_enter-clause-steps
returns-else-may_enter-clause-steps g c =
    let r = c.args.self.now in
    steps_stopped r.dialect g.T.Source.meaning r.stamp c.args.session (standing g.T.Source.left g.T.Source.way r) (g.S.Store.state c.args.store.now) c.requires.inside c.requires.none_left c.requires.closed (standing g.T.Source.left g.T.Source.way c.end.new.self) (g.S.Store.state c.end.new.store) c.end.result (sym c.may_enter.ensures ∙ c.if-may_enter.false)
    (λ told o tells. subst (λ z. (g.T.Source.way z r.dialect r.stamp told).tells o) (sym c.end.ensures.source) tells) c.end.ensures.ends

pub returns-else-may_enter-clause-crash : goal.returns-else-may_enter-clause-crash
returns-else-may_enter-clause-crash g c =
    stopped_crash c.args.self.now.dialect g.T.Source.meaning c.args.self.now.stamp c.args.session (standing g.T.Source.left g.T.Source.way c.args.self.now) (g.S.Store.state c.args.store.now) c.requires.inside c.requires.none_left c.requires.closed (sym c.may_enter.ensures ∙ c.if-may_enter.false) c.end.new.self.fault (g.S.Store.crashes c.args.store.now) (g.S.Store.crashes c.end.new.store) c.end.ensures.stays c.end.ensures.crash

pub returns-else-may_enter-clause-stops : goal.returns-else-may_enter-clause-stops
returns-else-may_enter-clause-stops g c = λ met. c.end.ensures.stops c.args.self.now.fault met

pub returns-else-may_enter-clause-under_way : goal.returns-else-may_enter-clause-under_way
returns-else-may_enter-clause-under_way g c =
    let r = c.args.self.now in
    stays_stopped r.dialect g.T.Source.meaning r.stamp c.args.session (standing g.T.Source.left g.T.Source.way r) (g.S.Store.state c.args.store.now) c.requires.inside c.requires.none_left c.requires.closed (standing g.T.Source.left g.T.Source.way c.end.new.self) (g.S.Store.state c.end.new.store) c.end.result
    (λ told under. subst (λ z. IsUnderWay (g.T.Source.way z r.dialect r.stamp told)) (sym c.end.ensures.source) under) r.fault r.refused c.end.ensures.ends
