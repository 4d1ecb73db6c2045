use Rattle.std.specs.Prelude.{Some}
use Rattle.lq_hand.specs.Way.{IsUnderWay}
use Rattle.lq_model.specs.declared.fault.StoreFault.TheVariants as fault
use Rattle.lq_run.proofs.UnderWay.{stays_ended, stays_entered, stays_short}
use Rattle.std.proofs.Common.{refl, subst, sym}
use Rattle.lq_run.proofs.Stepping.{ended_crash, entered_crash, short_crash, steps_ended, steps_entered, steps_short}
use Rattle.lq_run.specs.Steps.{standing}
use Rattle.lq_run.proofs.runner.Runner.enter.Goals as goal

pub returns-in-Turn-clause-steps : goal.returns-in-Turn-clause-steps
returns-in-Turn-clause-steps g c =
    steps_entered c.args.self.now.dialect g.T.Source.meaning c.args.self.now.stamp c.args.session (standing g.T.Source.left g.T.Source.way c.args.self.now) (g.S.Store.state c.args.store.now) c.requires.inside c.requires.none_left c.requires.closed c.requires.enters c.in-Turn.hand (g.T.Source.left c.next.new.source) (g.T.Source.way c.next.new.source) c.none-self.result
    (standing g.T.Source.left g.T.Source.way c.inside.new.self) (g.S.Store.state c.inside.new.store) c.inside.result c.none-self.ensures c.in-Turn.ensures.enters c.inside.ensures.steps

pub returns-in-NoTurn-clause-steps : goal.returns-in-NoTurn-clause-steps
returns-in-NoTurn-clause-steps g c =
    steps_ended c.args.self.now.dialect g.T.Source.meaning c.args.self.now.stamp c.args.session (standing g.T.Source.left g.T.Source.way c.args.self.now) (g.S.Store.state c.args.store.now) c.requires.inside c.requires.none_left c.requires.closed (standing g.T.Source.left g.T.Source.way c.end.new.self) (g.S.Store.state c.end.new.store) c.end.result c.requires.enters (g.T.Source.left c.next.new.source) (g.T.Source.way c.next.new.source c.args.self.now.dialect c.args.self.now.stamp)
    c.in-NoTurn.ensures.enters (λ told r tells. subst (λ z. (g.T.Source.way z c.args.self.now.dialect c.args.self.now.stamp told).tells r) (sym c.end.ensures.source) tells) c.end.ensures.ends

pub returns-in-Lack-clause-steps : goal.returns-in-Lack-clause-steps
returns-in-Lack-clause-steps g c =
    steps_short c.args.self.now.dialect g.T.Source.meaning c.args.self.now.stamp c.args.session (standing g.T.Source.left g.T.Source.way c.args.self.now) (g.S.Store.state c.args.store.now) c.requires.inside c.requires.none_left c.requires.closed (standing g.T.Source.left g.T.Source.way c.end-in-Lack.new.self) (g.S.Store.state c.end-in-Lack.new.store) c.end-in-Lack.result c.end-in-Lack.ensures.ends

pub returns-in-Turn-clause-crash : goal.returns-in-Turn-clause-crash
returns-in-Turn-clause-crash g c =
    entered_crash c.args.self.now.dialect g.T.Source.meaning c.args.self.now.stamp c.args.session (standing g.T.Source.left g.T.Source.way c.args.self.now) (g.S.Store.state c.args.store.now) c.requires.inside c.requires.none_left c.requires.closed c.requires.enters c.in-Turn.hand (g.T.Source.left c.next.new.source) (g.T.Source.way c.next.new.source) c.in-Turn.ensures.enters
    c.inside.new.self.fault (g.S.Store.crashes c.args.store.now) (g.S.Store.crashes c.inside.new.store) c.inside.ensures.crash

pub returns-in-NoTurn-clause-crash : goal.returns-in-NoTurn-clause-crash
returns-in-NoTurn-clause-crash g c =
    ended_crash c.args.self.now.dialect g.T.Source.meaning c.args.self.now.stamp c.args.session (standing g.T.Source.left g.T.Source.way c.args.self.now) (g.S.Store.state c.args.store.now) c.requires.inside c.requires.none_left c.requires.closed c.requires.enters (g.T.Source.left c.next.new.source) (g.T.Source.way c.next.new.source c.args.self.now.dialect c.args.self.now.stamp)
    c.end.new.self.fault (g.S.Store.crashes c.args.store.now) (g.S.Store.crashes c.end.new.store) c.in-NoTurn.ensures.enters c.end.ensures.stays c.end.ensures.crash

pub returns-in-Lack-clause-crash : goal.returns-in-Lack-clause-crash
returns-in-Lack-clause-crash g c =
    short_crash c.args.self.now.dialect g.T.Source.meaning c.args.self.now.stamp c.args.session (standing g.T.Source.left g.T.Source.way c.args.self.now) (g.S.Store.state c.args.store.now) c.requires.inside c.requires.none_left c.requires.closed c.end-in-Lack.new.self.fault (g.S.Store.crashes c.args.store.now) (g.S.Store.crashes c.end-in-Lack.new.store) (c.end-in-Lack.ensures.stays refl) c.end-in-Lack.ensures.crash

pub returns-in-NoTurn-clause-stops : goal.returns-in-NoTurn-clause-stops
returns-in-NoTurn-clause-stops g c = λ met. c.end.ensures.stops c.args.self.now.fault met

pub returns-in-Lack-clause-stays : goal.returns-in-Lack-clause-stays
returns-in-Lack-clause-stays g c = λ met. c.end-in-Lack.ensures.stays refl

pub returns-in-Lack-clause-stops : goal.returns-in-Lack-clause-stops
returns-in-Lack-clause-stops g c = λ met. c.end-in-Lack.ensures.stops c.args.self.now.fault met

pub returns-in-Turn-clause-under_way : goal.returns-in-Turn-clause-under_way
returns-in-Turn-clause-under_way g c =
    let r = c.args.self.now in
    stays_entered r.dialect g.T.Source.meaning r.stamp c.args.session (standing g.T.Source.left g.T.Source.way r) (g.S.Store.state c.args.store.now) c.requires.inside c.requires.none_left c.requires.closed c.requires.enters c.in-Turn.hand (g.T.Source.left c.next.new.source) (g.T.Source.way c.next.new.source) c.none-self.result
    (standing g.T.Source.left g.T.Source.way c.inside.new.self) c.inside.result c.none-self.ensures c.in-Turn.ensures.enters c.inside.ensures.under_way

pub returns-in-NoTurn-clause-under_way : goal.returns-in-NoTurn-clause-under_way
returns-in-NoTurn-clause-under_way g c =
    let r = c.args.self.now in
    stays_ended r.dialect g.T.Source.meaning r.stamp c.args.session (standing g.T.Source.left g.T.Source.way r) (g.S.Store.state c.args.store.now) c.requires.inside c.requires.none_left c.requires.closed (standing g.T.Source.left g.T.Source.way c.end.new.self) (g.S.Store.state c.end.new.store) c.end.result c.requires.enters
    (g.T.Source.left c.next.new.source) (g.T.Source.way c.next.new.source r.dialect r.stamp) c.in-NoTurn.ensures.enters (λ told under. subst (λ z. IsUnderWay (g.T.Source.way z r.dialect r.stamp told)) (sym c.end.ensures.source) under) r.fault r.refused c.end.ensures.ends

pub returns-in-Lack-clause-under_way : goal.returns-in-Lack-clause-under_way
returns-in-Lack-clause-under_way g c =
    let r = c.args.self.now in
    stays_short r.dialect g.T.Source.meaning r.stamp c.args.session (standing g.T.Source.left g.T.Source.way r) (g.S.Store.state c.args.store.now) c.requires.inside c.requires.none_left c.requires.closed (standing g.T.Source.left g.T.Source.way c.end-in-Lack.new.self) (g.S.Store.state c.end-in-Lack.new.store) c.end-in-Lack.result c.requires.enters
    (g.T.Source.left c.next.new.source) (g.T.Source.way c.next.new.source r.dialect r.stamp) c.in-Lack.ensures.enters (λ told under. subst (λ z. IsUnderWay (g.T.Source.way z r.dialect r.stamp told)) (sym c.end-in-Lack.ensures.source) under) (Some fault.OutOfMemory) r.refused c.end-in-Lack.ensures.ends
