use Rattle.std.proofs.Common.{ap, subst, sym}
use Rattle.lq_hand.specs.Hand.{IsReady}
use Rattle.lq_run.proofs.Ending.{ready_at}
use Rattle.lq_run.specs.Crashing.{CrashesStep}
use Rattle.lq_run.specs.Ends.{disk_failed}
use Rattle.lq_run.specs.Steps.{Stays, Steps, is_over, place, standing}
use Rattle.lq_run.specs.declared.runner.Step.TheVariants as step
use Rattle.lq_running.proofs.Broken.{crash_off, ends_off, no_other, none_before, none_made, opened_as, reached, tells_off, under_after}
use Rattle.lq_store.specs.Journal.{is_open}
use Rattle.lq_running.proofs.breaking.break_off.Goals as goal

pub take_back-requires-clause-live : goal.take_back-requires-clause-live
take_back-requires-clause-live g c = c.requires.runs.is.there.at.stands.live

pub take_back-requires-clause-opens : goal.take_back-requires-clause-opens
take_back-requires-clause-opens g c =
    let r = c.args.runner.now in
    opened_as r.dialect g.T.Source.meaning r.stamp c.args.session (standing g.T.Source.left g.T.Source.way r) c.requires.runs.told c.requires.runs.start c.requires.runs.session (g.S.Store.state c.args.store.now) c.requires.runs.is

pub step-requires-clause-reads : goal.step-requires-clause-reads
step-requires-clause-reads g c =
    subst (λ d. g.T.Source.reads c.take_back.new.runner.source d) (sym c.take_back.ensures.same.0) (subst (λ source. g.T.Source.reads source c.args.runner.now.dialect) (sym c.take_back.ensures.source) c.requires.reads)

pub step-requires-clause-live : goal.step-requires-clause-live
step-requires-clause-live g c =
    let r = c.args.runner.now in
    let it = c.requires.runs in
    (reached r.dialect g.T.Source.meaning r.stamp c.args.session (standing g.T.Source.left g.T.Source.way r) it.told it.start it.session (g.S.Store.state c.args.store.now) it.is
    (standing g.T.Source.left g.T.Source.way c.take_back.new.runner) (g.S.Store.state c.take_back.new.store) c.take_back.ensures.hand c.take_back.ensures.fault c.take_back.ensures.taken_back it.session it.session (none_made r.dialect it.session) (none_before it.session)).is.there.at.stands.live

pub step-requires-clause-ready : goal.step-requires-clause-ready
step-requires-clause-ready g c =
    let r = c.args.runner.now in
    let it = c.requires.runs in
    let after = standing g.T.Source.left g.T.Source.way c.take_back.new.runner in
    let here = reached r.dialect g.T.Source.meaning r.stamp c.args.session (standing g.T.Source.left g.T.Source.way r) it.told it.start it.session (g.S.Store.state c.args.store.now) it.is
    after (g.S.Store.state c.take_back.new.store) c.take_back.ensures.hand c.take_back.ensures.fault c.take_back.ensures.taken_back it.session it.session (none_made r.dialect it.session) (none_before it.session)
    in
    subst (λ d. IsReady d (is_open c.args.session (g.S.Store.state c.take_back.new.store).begun) (place after)) (sym c.take_back.ensures.same.0)
    (ready_at r.dialect g.T.Source.meaning r.stamp c.args.session (place after) it.start (g.S.Store.state c.take_back.new.store) here.session here.is.there.at)

pub step-requires-clause-begun : goal.step-requires-clause-begun
step-requires-clause-begun g c = ap (λ hand. is_over hand.phase) c.take_back.ensures.hand

pub step-requires-clause-disk : goal.step-requires-clause-disk
step-requires-clause-disk g c = ap disk_failed c.take_back.ensures.fault

pub unreachable-requires : goal.unreachable-requires
unreachable-requires g c =
    let r = c.args.runner.now in
    let it = c.requires.runs in
    let after = standing g.T.Source.left g.T.Source.way c.take_back.new.runner in
    let next = standing g.T.Source.left g.T.Source.way c.step.new.self in
    no_other r.dialect g.T.Source.meaning r.stamp c.args.session (standing g.T.Source.left g.T.Source.way r) it.told it.start it.session (g.S.Store.state c.args.store.now) it.is
    after (g.S.Store.state c.take_back.new.store) c.take_back.ensures.hand c.take_back.ensures.fault c.take_back.ensures.taken_back it.session it.session (none_made r.dialect it.session) (none_before it.session)
    next (g.S.Store.state c.step.new.store) c.in-Going.ensures.going
    (subst (λ d. Steps d g.T.Source.meaning r.stamp c.args.session after next (g.S.Store.state c.take_back.new.store) step.Going (g.S.Store.state c.step.new.store)) c.take_back.ensures.same.0
    (subst (λ t. Steps c.take_back.new.runner.dialect g.T.Source.meaning t c.args.session after next (g.S.Store.state c.take_back.new.store) step.Going (g.S.Store.state c.step.new.store)) c.take_back.ensures.same.1 c.in-Going.ensures.steps))

pub returns-clause-ends : goal.returns-clause-ends
returns-clause-ends g c =
    let r = c.args.runner.now in
    let after = standing g.T.Source.left g.T.Source.way c.take_back.new.runner in
    let next = standing g.T.Source.left g.T.Source.way c.step.new.self in
    λ start first last s told is came way met. ends_off r.dialect g.T.Source.meaning r.stamp c.args.session (standing g.T.Source.left g.T.Source.way r) told start s (g.S.Store.state c.args.store.now) is
    after (g.S.Store.state c.take_back.new.store) c.take_back.ensures.hand c.take_back.ensures.fault c.take_back.ensures.taken_back first last came way next (g.S.Store.state c.step.new.store) c.in-Ended.end
    (subst (λ d. Steps d g.T.Source.meaning r.stamp c.args.session after next (g.S.Store.state c.take_back.new.store) (step.Ended c.in-Ended.end) (g.S.Store.state c.step.new.store)) c.take_back.ensures.same.0
    (subst (λ t. Steps c.take_back.new.runner.dialect g.T.Source.meaning t c.args.session after next (g.S.Store.state c.take_back.new.store) (step.Ended c.in-Ended.end) (g.S.Store.state c.step.new.store)) c.take_back.ensures.same.1 c.in-Ended.ensures.steps))
    met

pub returns-clause-crash : goal.returns-clause-crash
returns-clause-crash g c =
    let r = c.args.runner.now in
    let after = standing g.T.Source.left g.T.Source.way c.take_back.new.runner in
    λ start first last s told is came way. crash_off r.dialect g.T.Source.meaning r.stamp c.args.session (standing g.T.Source.left g.T.Source.way r) told start s (g.S.Store.state c.args.store.now) is
    after (g.S.Store.state c.take_back.new.store) c.take_back.ensures.hand c.take_back.ensures.fault c.take_back.ensures.taken_back first last came way c.step.new.self.fault
    (g.S.Store.crashes c.args.store.now) (g.S.Store.crashes c.take_back.new.store) (g.S.Store.crashes c.step.new.store) c.take_back.ensures.crash
    (subst (λ d. CrashesStep d g.T.Source.meaning r.stamp c.args.session after c.step.new.self.fault (g.S.Store.state c.take_back.new.store) (g.S.Store.crashes c.take_back.new.store) (g.S.Store.crashes c.step.new.store)) c.take_back.ensures.same.0
    (subst (λ t. CrashesStep c.take_back.new.runner.dialect g.T.Source.meaning t c.args.session after c.step.new.self.fault (g.S.Store.state c.take_back.new.store) (g.S.Store.crashes c.take_back.new.store) (g.S.Store.crashes c.step.new.store)) c.take_back.ensures.same.1 c.in-Ended.ensures.crash))

pub returns-clause-tells : goal.returns-clause-tells
returns-clause-tells g c =
    let r = c.args.runner.now in
    let before = standing g.T.Source.left g.T.Source.way r in
    let after = standing g.T.Source.left g.T.Source.way c.take_back.new.runner in
    let next = standing g.T.Source.left g.T.Source.way c.step.new.self in
    λ start s told is met. tells_off r.dialect g.T.Source.meaning r.stamp c.args.session before told start s (g.S.Store.state c.args.store.now) is
    after (g.S.Store.state c.take_back.new.store) c.take_back.ensures.hand c.take_back.ensures.fault c.take_back.ensures.taken_back s s (none_made r.dialect s) (none_before s) next (g.S.Store.state c.step.new.store) c.in-Ended.end
    (subst (λ d. Steps d g.T.Source.meaning r.stamp c.args.session after next (g.S.Store.state c.take_back.new.store) (step.Ended c.in-Ended.end) (g.S.Store.state c.step.new.store)) c.take_back.ensures.same.0
    (subst (λ t. Steps c.take_back.new.runner.dialect g.T.Source.meaning t c.args.session after next (g.S.Store.state c.take_back.new.store) (step.Ended c.in-Ended.end) (g.S.Store.state c.step.new.store)) c.take_back.ensures.same.1 c.in-Ended.ensures.steps))
    (subst (λ d. Stays d g.T.Source.meaning r.stamp c.args.session after next (g.S.Store.state c.take_back.new.store) (step.Ended c.in-Ended.end)) c.take_back.ensures.same.0
    (subst (λ t. Stays c.take_back.new.runner.dialect g.T.Source.meaning t c.args.session after next (g.S.Store.state c.take_back.new.store) (step.Ended c.in-Ended.end)) c.take_back.ensures.same.1 c.in-Ended.ensures.under_way))
    (under_after r.dialect g.T.Source.meaning r.stamp c.args.session before told start s (g.S.Store.state c.args.store.now) is after (g.S.Store.state c.take_back.new.store) c.take_back.ensures.hand c.take_back.ensures.fault c.take_back.ensures.taken_back
    (λ d stamp told. ap (λ source. g.T.Source.way source d stamp told) c.take_back.ensures.source) c.requires.begun met)
