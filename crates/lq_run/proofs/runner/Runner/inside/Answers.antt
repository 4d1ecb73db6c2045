use Rattle.lq_run.proofs.UnderWay.{stays_shown}
use Rattle.lq_run.proofs.Stepping.{steps_shown}
use Rattle.lq_run.specs.Steps.{enters_turns, standing}
use Rattle.std.proofs.Common.{subst}
use Rattle.lq_hand.specs.Hand.{place_of}
use Rattle.lq_run.specs.Crashing.{CrashesNext}
use Rattle.lq_turns.specs.Rest.{if_goes_on}
use Rattle.lq_run.proofs.runner.Runner.inside.Goals as goal

pub returns-clause-steps : goal.returns-clause-steps
returns-clause-steps g c =
    steps_shown c.args.self.now.dialect g.T.Source.meaning c.args.self.now.stamp c.args.session (standing g.T.Source.left g.T.Source.way c.args.self.now) (standing g.T.Source.left g.T.Source.way c.advance.new.self) (g.T.Source.left c.show.new.source) (g.T.Source.way c.show.new.source) c.next_coming-call.result
    (g.S.Store.state c.args.store.now) (g.S.Store.state c.advance.new.store) c.advance.result c.requires.inside c.requires.left c.show.ensures.left c.next_coming-call.ensures
    (λ showing. c.show.ensures.shows showing c.args.self.now.stamp) c.advance.ensures.steps

pub returns-clause-lost : goal.returns-clause-lost
returns-clause-lost g c = λ there. absurd (c.requires.left there.1)

pub returns-clause-crash : goal.returns-clause-crash
returns-clause-crash g c =
    let r = c.args.self.now in
    subst (λ t. CrashesNext r.dialect g.T.Source.meaning r.stamp c.args.session (place_of r.hand (if_goes_on (enters_turns r.fault r.refused) t)) (g.S.Store.state c.args.store.now) (g.S.Store.crashes c.args.store.now) (g.S.Store.crashes c.advance.new.store)) c.show.ensures.left c.advance.ensures.crash

pub returns-clause-under_way : goal.returns-clause-under_way
returns-clause-under_way g c =
    let r = c.args.self.now in
    stays_shown r.dialect g.T.Source.meaning r.stamp c.args.session (standing g.T.Source.left g.T.Source.way r) (standing g.T.Source.left g.T.Source.way c.advance.new.self) (g.T.Source.left c.show.new.source) (g.T.Source.way c.show.new.source) c.next_coming-call.result
    (g.S.Store.state c.args.store.now) c.advance.result c.requires.inside c.requires.left c.show.ensures.left c.next_coming-call.ensures (λ showing. c.show.ensures.shows showing r.stamp) c.advance.ensures.under_way
