use Rattle.lq_hand.specs.Way.{IsUnderWay}
use Rattle.lq_hand.specs.declared.hand.Hand.{Hand}
use Rattle.lq_model.specs.declared.fault.StoreFault.TheVariants as fault
use Rattle.lq_run.proofs.UnderWay.{stays_failed, stays_lacked, stays_on}
use Rattle.lq_run.specs.Steps.{StaysShown, StepsShown, standing, stopped_by, turns_of}
use Rattle.std.proofs.Common.{ap, refl, subst, sym, ◌∙◌}
use Rattle.std.specs.Prelude.{IsTrue, Some, is_some, true, ◌≡◌, false}
use Rattle.lq_run.proofs.Stepping.{lack_crash, steps_failed, steps_lacked, steps_on, steps_refused}
use Rattle.lq_store.specs.Journal.{is_open}
use Rattle.lq_run.proofs.Beside.{failed_beside, set_back, set_failed, set_inside, set_none}
use Rattle.lq_hand.specs.Hand.{calls_left}
use Rattle.lq_run.specs.Beside.{Beside, is_disk_step, StopsAs}
use Rattle.lq_run.proofs.Since.{keeps_then}
use Rattle.lq_run.proofs.runner.Runner.advance.Goals as goal

pub returns-in-On-clause-steps : goal.returns-in-On-clause-steps
returns-in-On-clause-steps g c =
    steps_on c.args.self.now.dialect g.T.Source.meaning c.args.self.now.stamp c.args.session (standing g.T.Source.left g.T.Source.way c.args.self.now) c.take.new.hand (g.T.Source.left c.taken.new.source) (g.T.Source.way c.taken.new.source) c.args.call c.with_accepted-self.result
    (g.S.Store.state c.args.store.now) (g.S.Store.state c.take.new.store)
    c.requires.inside c.requires.left c.in-On.ensures.phase c.in-On.ensures.same c.taken.ensures.left (c.taken.ensures.knows c.args.self.now.dialect c.args.self.now.stamp) c.requires.call c.with_accepted-self.ensures (c.in-On.ensures.takes c.args.self.now.stamp)

pub returns-in-Refused-clause-steps : goal.returns-in-Refused-clause-steps
returns-in-Refused-clause-steps g c =
    steps_refused c.args.self.now.dialect g.T.Source.meaning c.args.self.now.stamp c.args.session (standing g.T.Source.left g.T.Source.way c.args.self.now) c.take.new.hand (g.T.Source.left c.refused.new.self) (g.T.Source.way c.refused.new.self) c.args.call c.with_refused-self.result c.in-Refused.reason c.stopped_by-self.result
    (g.S.Store.state c.args.store.now) (g.S.Store.state c.take.new.store)
    c.requires.inside c.requires.left c.in-Refused.ensures.phase c.in-Refused.ensures.same c.refused.ensures.left (c.refused.ensures.gives_up c.args.self.now.dialect c.args.self.now.stamp) c.requires.call c.with_refused-self.ensures
    (c.stopped_by-self.ensures ∙ ap (λ w. stopped_by (Some w) c.take.new.hand.goes_on c.args.self.now.refused) c.refusal.ensures) (c.in-Refused.ensures.takes c.args.self.now.stamp)

pub returns-in-Failed-clause-steps : goal.returns-in-Failed-clause-steps
returns-in-Failed-clause-steps g c =
    steps_failed c.args.self.now.dialect g.T.Source.meaning c.args.self.now.stamp c.args.session (standing g.T.Source.left g.T.Source.way c.args.self.now) (standing g.T.Source.left g.T.Source.way c.fail.new.self) c.take.new.hand c.in-Failed.fault (g.S.Store.state c.args.store.now) (g.S.Store.state c.take.new.store) c.fail.result (c.in-Failed.ensures.takes c.args.self.now.stamp) c.fail.ensures.fails

pub take_back-requires-clause-live : goal.take_back-requires-clause-live
take_back-requires-clause-live g c = subst (λ z. IsTrue z.live) (sym c.in-Lack.ensures.lack.0) c.requires.live

pub take_back-requires-clause-open_here : goal.take_back-requires-clause-open_here
take_back-requires-clause-open_here g c = subst (λ z. is_open c.args.session z.begun ≡ true) (sym c.in-Lack.ensures.lack.0) c.in-Lack.ensures.lack.1

pub returns-in-Lack-clause-steps : goal.returns-in-Lack-clause-steps
returns-in-Lack-clause-steps g c =
    subst (λ w. StepsShown c.args.self.now.dialect g.T.Source.meaning c.args.self.now.stamp c.args.session (standing g.T.Source.left g.T.Source.way c.args.self.now) (standing g.T.Source.left g.T.Source.way c.take_back.new.self) (g.S.Store.state c.args.store.now) w (g.S.Store.state c.take_back.new.store)) (sym c.take_back.ensures.result)
    (steps_lacked c.args.self.now.dialect g.T.Source.meaning c.args.self.now.stamp c.args.session (standing g.T.Source.left g.T.Source.way c.args.self.now) (standing g.T.Source.left g.T.Source.way c.take_back.new.self) c.take.new.hand (g.S.Store.state c.args.store.now) (g.S.Store.state c.take.new.store) (g.S.Store.state c.take_back.new.store) (c.in-Lack.ensures.takes c.args.self.now.stamp) c.take_back.ensures.aborts c.take_back.ensures.hand c.take_back.ensures.fault)

pub returns-in-On-clause-crash : goal.returns-in-On-clause-crash
returns-in-On-clause-crash g c = c.in-On.ensures.crash c.args.self.now.stamp (turns_of (standing g.T.Source.left g.T.Source.way c.args.self.now))

pub returns-in-Refused-clause-crash : goal.returns-in-Refused-clause-crash
returns-in-Refused-clause-crash g c = c.in-Refused.ensures.crash c.args.self.now.stamp (turns_of (standing g.T.Source.left g.T.Source.way c.args.self.now))

pub returns-in-Failed-clause-crash : goal.returns-in-Failed-clause-crash
returns-in-Failed-clause-crash g c = c.in-Failed.ensures.crash c.args.self.now.stamp (turns_of (standing g.T.Source.left g.T.Source.way c.args.self.now))

pub returns-in-Lack-clause-crash : goal.returns-in-Lack-clause-crash
returns-in-Lack-clause-crash g c =
    lack_crash c.args.self.now.dialect g.T.Source.meaning c.args.self.now.stamp c.args.session c.args.self.now.hand (turns_of (standing g.T.Source.left g.T.Source.way c.args.self.now)) (g.S.Store.state c.args.store.now) (g.S.Store.state c.take.new.store) (g.S.Store.crashes c.args.store.now) (g.S.Store.crashes c.take.new.store) (g.S.Store.crashes c.take_back.new.store)
    c.requires.inside c.requires.left c.in-Lack.ensures.lack.0 (c.in-Lack.ensures.crash c.args.self.now.stamp) c.take_back.ensures.crash

pub returns-in-On-clause-beside : goal.returns-in-On-clause-beside
returns-in-On-clause-beside g c = c.in-On.ensures.beside

pub returns-in-On-clause-asks : goal.returns-in-On-clause-asks
returns-in-On-clause-asks g c = λ none live. set_inside c.args.self.now.dialect c.take.new.hand.phase (calls_left c.take.new.hand) (is_open c.args.session (g.S.Store.state c.take.new.store).begun) c.in-On.ensures.phase (c.in-On.ensures.asks none live)

pub returns-in-Refused-clause-beside : goal.returns-in-Refused-clause-beside
returns-in-Refused-clause-beside g c = c.in-Refused.ensures.beside

pub returns-in-Refused-clause-asks : goal.returns-in-Refused-clause-asks
returns-in-Refused-clause-asks g c = λ none live. set_back c.args.self.now.dialect c.take.new.hand.phase (calls_left c.take.new.hand) (is_open c.args.session (g.S.Store.state c.take.new.store).begun) c.in-Refused.ensures.phase (c.in-Refused.ensures.asks none live)

pub returns-in-Failed-clause-beside : goal.returns-in-Failed-clause-beside
returns-in-Failed-clause-beside g c = failed_beside c.args.session (g.S.Store.state c.args.store.now) (g.S.Store.state c.take.new.store) c.in-Failed.fault c.fail.result c.fail.ensures.told c.in-Failed.ensures.beside

pub returns-in-Failed-clause-asks : goal.returns-in-Failed-clause-asks
returns-in-Failed-clause-asks g c = λ none live.
    set_failed c.args.self.now.dialect c.in-Failed.fault c.fail.new.self.hand.phase (calls_left c.fail.new.self.hand) c.fail.new.self.fault c.fail.result (is_open c.args.session (g.S.Store.state c.take.new.store).begun) (g.S.Store.state c.take.new.store).live c.fail.ensures.fails c.in-Failed.ensures.beside.live live (c.in-Failed.ensures.asks none live)

pub returns-in-Lack-clause-beside : goal.returns-in-Lack-clause-beside
returns-in-Lack-clause-beside g c =
    subst (λ r. Beside c.args.session (is_disk_step r) (g.S.Store.state c.args.store.now) (g.S.Store.state c.take_back.new.store)) (sym c.take_back.ensures.result)
    (subst (λ z. Beside c.args.session false z (g.S.Store.state c.take_back.new.store)) c.in-Lack.ensures.lack.0 c.take_back.ensures.beside)

pub returns-in-Lack-clause-asks : goal.returns-in-Lack-clause-asks
returns-in-Lack-clause-asks g c = λ none live. set_none c.args.self.now.dialect c.take_back.new.self.hand (is_open c.args.session (g.S.Store.state c.take_back.new.store).begun) c.take_back.ensures.hand c.take_back.ensures.shuts

pub returns-in-Lack-clause-keeps : goal.returns-in-Lack-clause-keeps
returns-in-Lack-clause-keeps g c = keeps_then (g.S.Store.state c.args.store.now) (g.S.Store.state c.take.new.store) (g.S.Store.crashes c.args.store.now) (g.S.Store.crashes c.take.new.store) (g.S.Store.crashes c.take_back.new.store) c.in-Lack.ensures.lack.0 c.in-Lack.ensures.keeps c.take_back.ensures.keeps

pub returns-in-Lack-clause-stays : goal.returns-in-Lack-clause-stays
returns-in-Lack-clause-stays g c = λ met. ap is_some c.take_back.ensures.fault

pub returns-in-Lack-clause-stops : goal.returns-in-Lack-clause-stops
returns-in-Lack-clause-stops g c = λ met. subst (StopsAs c.args.self.now.fault) (sym c.take_back.ensures.result) tt

pub returns-in-On-clause-under_way : goal.returns-in-On-clause-under_way
returns-in-On-clause-under_way g c =
    let r = c.args.self.now in
    stays_on r.dialect g.T.Source.meaning r.stamp c.args.session (standing g.T.Source.left g.T.Source.way r)
    (record { hand = c.take.new.hand; turns = g.T.Source.left c.taken.new.source; way = g.T.Source.way c.taken.new.source; progress = c.with_accepted-self.result; fault = r.fault; refused = r.refused })
    (g.S.Store.state c.args.store.now) c.requires.inside c.requires.left refl

pub returns-in-Refused-clause-under_way : goal.returns-in-Refused-clause-under_way
returns-in-Refused-clause-under_way g c =
    let r = c.args.self.now in
    stays_on r.dialect g.T.Source.meaning r.stamp c.args.session (standing g.T.Source.left g.T.Source.way r)
    (record { hand = c.take.new.hand; turns = g.T.Source.left c.refused.new.self; way = g.T.Source.way c.refused.new.self; progress = c.with_refused-self.result; fault = r.fault; refused = c.stopped_by-self.result })
    (g.S.Store.state c.args.store.now) c.requires.inside c.requires.left refl

pub returns-in-Failed-clause-under_way : goal.returns-in-Failed-clause-under_way
returns-in-Failed-clause-under_way g c =
    let r = c.args.self.now in
    stays_failed r.dialect g.T.Source.meaning r.stamp c.args.session (standing g.T.Source.left g.T.Source.way r) (standing g.T.Source.left g.T.Source.way c.fail.new.self) c.in-Failed.fault (g.S.Store.state c.args.store.now) c.fail.result c.requires.inside c.requires.left
    (λ told under. subst (λ z. IsUnderWay (g.T.Source.way z r.dialect r.stamp told)) (sym c.fail.ensures.source) under) c.fail.ensures.fails

pub returns-in-Lack-clause-under_way : goal.returns-in-Lack-clause-under_way
returns-in-Lack-clause-under_way g c =
    let r = c.args.self.now in
    subst (λ w. StaysShown r.dialect g.T.Source.meaning r.stamp c.args.session (standing g.T.Source.left g.T.Source.way r) (standing g.T.Source.left g.T.Source.way c.take_back.new.self) (g.S.Store.state c.args.store.now) w) (sym c.take_back.ensures.result)
    (stays_lacked r.dialect g.T.Source.meaning r.stamp c.args.session (standing g.T.Source.left g.T.Source.way r) (standing g.T.Source.left g.T.Source.way c.take_back.new.self) fault.OutOfMemory (g.S.Store.state c.args.store.now) c.requires.inside c.requires.left
    (λ told under. subst (λ z. IsUnderWay (g.T.Source.way z r.dialect r.stamp told)) (sym c.take_back.ensures.source) under) (ap (λ (h : Hand). h.calls) c.take_back.ensures.hand) c.take_back.ensures.fault)
