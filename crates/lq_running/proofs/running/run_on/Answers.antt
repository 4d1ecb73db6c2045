use Rattle.std.proofs.Common.{inl, inr, le_trans, refl, rules, subst, sym, ◌∙◌}
use Rattle.std.specs.Prelude.{[]}
use Rattle.lq_hand.specs.Hand.{IsReady}
use Rattle.lq_run.proofs.Counting.{rose_later}
use Rattle.lq_run.proofs.Ending.{before_last, ends, reaches, ready_at, tells}
use Rattle.lq_run.proofs.RunCrashes.{step_crash}
use Rattle.lq_run.proofs.Since.{leave_none, leave_then}
use Rattle.lq_run.specs.Crashing.{CrashesStep, LeftInRun}
use Rattle.lq_run.specs.Ends.{Runs, TellsOn, at_end}
use Rattle.lq_run.specs.Steps.{Steps, place, standing, Stays}
use Rattle.lq_run.specs.declared.runner.Step.TheVariants as step
use Rattle.lq_running.specs.Breaking.{BreaksOff, CrashesOff}
use Rattle.lq_store.specs.Journal.{is_open}
use Rattle.lq_running.proofs.running.run_on.Goals as goal

pub loop-init : goal.loop-init
loop-init g c = record { valid = c.requires.valid; dialect = refl; stamp = refl; reads = c.requires.reads; begun = c.requires.begun; disk = c.requires.runs.is.disk; later = search rules; reaches = λ start s told is. (record { session = s; came = record { calls = []; is = refl }; is = is; way = inl refl }, λ used next same. inr same); under_way = λ start s told is met. met; crash = λ start s told is. leave_none start.entries _ (g.S.Store.crashes c.args.store.now) }

pub step-requires-clause-live : goal.step-requires-clause-live
step-requires-clause-live g c = (c.loop.invariant.reaches c.requires.runs.start c.requires.runs.session c.requires.runs.told c.requires.runs.is).0.is.there.at.stands.live

pub step-requires-clause-ready : goal.step-requires-clause-ready
step-requires-clause-ready g c =
    let k = c.loop.invariant in
    let here = (k.reaches c.requires.runs.start c.requires.runs.session c.requires.runs.told c.requires.runs.is).0 in
    let r = c.args.runner.now in
    subst (λ d. IsReady d (is_open c.args.session (g.S.Store.state c.loop.store).begun) (place (standing g.T.Source.left g.T.Source.way c.loop.runner))) (sym k.dialect)
    (ready_at r.dialect g.T.Source.meaning r.stamp c.args.session (place (standing g.T.Source.left g.T.Source.way c.loop.runner)) c.requires.runs.start (g.S.Store.state c.loop.store) here.session here.is.there.at)

pub loop-preserved : goal.loop-preserved
loop-preserved g c =
    let k = c.loop.invariant in
    let r = c.args.runner.now in
    let same = c.in-Going.ensures.same in
    let now = standing g.T.Source.left g.T.Source.way c.loop.runner in
    let next = standing g.T.Source.left g.T.Source.way c.step.new.self in
    let steps : Steps r.dialect g.T.Source.meaning r.stamp c.args.session now next (g.S.Store.state c.loop.store) step.Going (g.S.Store.state c.step.new.store) =
    subst (λ d. Steps d g.T.Source.meaning r.stamp c.args.session now next (g.S.Store.state c.loop.store) step.Going (g.S.Store.state c.step.new.store)) k.dialect
    (subst (λ t. Steps c.loop.runner.dialect g.T.Source.meaning t c.args.session now next (g.S.Store.state c.loop.store) step.Going (g.S.Store.state c.step.new.store)) k.stamp c.in-Going.ensures.steps)
    in
    record {
      valid = c.in-Going.ensures.valid;
      dialect = same.0 ∙ k.dialect;
      stamp = same.1 ∙ k.stamp;
      reads = c.in-Going.ensures.reads;
      begun = c.in-Going.ensures.going;
      disk = c.in-Going.ensures.disk;
      later = le_trans k.later c.in-Going.ensures.later;
      reaches = λ start s told is. reaches r.dialect g.T.Source.meaning r.stamp c.args.session now told start s (at_end r.dialect g.T.Source.meaning r.stamp c.args.session (place (standing g.T.Source.left g.T.Source.way r)) s)
          (g.S.Store.state c.loop.store) (g.S.Store.state c.step.new.store) (k.reaches start s told is).0 r.fault (k.reaches start s told is).1 next c.in-Going.ensures.going steps;
      under_way = λ start s told is met.
          let here = (k.reaches start s told is).0 in
          (subst (λ d. Stays d g.T.Source.meaning r.stamp c.args.session now next (g.S.Store.state c.loop.store) step.Going) k.dialect
          (subst (λ t. Stays c.loop.runner.dialect g.T.Source.meaning t c.args.session now next (g.S.Store.state c.loop.store) step.Going) k.stamp c.in-Going.ensures.under_way))
          start here.session told here.is.there (λ there. here.is.committed) (k.under_way start s told is met);
      crash = λ start s told is. leave_then start.entries (LeftInRun r.dialect r.stamp s (at_end r.dialect g.T.Source.meaning r.stamp c.args.session (place (standing g.T.Source.left g.T.Source.way r)) s)) (g.S.Store.crashes c.args.store.now) (g.S.Store.crashes c.loop.store) (g.S.Store.crashes c.step.new.store) (k.crash start s told is)
          (step_crash r.dialect g.T.Source.meaning r.stamp c.args.session now told start s (at_end r.dialect g.T.Source.meaning r.stamp c.args.session (place (standing g.T.Source.left g.T.Source.way r)) s) (g.S.Store.state c.loop.store) (k.reaches start s told is).0 c.step.new.self.fault (g.S.Store.crashes c.loop.store) (g.S.Store.crashes c.step.new.store)
          (subst (λ d. CrashesStep d g.T.Source.meaning r.stamp c.args.session now c.step.new.self.fault (g.S.Store.state c.loop.store) (g.S.Store.crashes c.loop.store) (g.S.Store.crashes c.step.new.store)) k.dialect
          (subst (λ t. CrashesStep c.loop.runner.dialect g.T.Source.meaning t c.args.session now c.step.new.self.fault (g.S.Store.state c.loop.store) (g.S.Store.crashes c.loop.store) (g.S.Store.crashes c.step.new.store)) k.stamp c.in-Going.ensures.crash)));
    }

pub returns-in-Ended-clause-ends : goal.returns-in-Ended-clause-ends
returns-in-Ended-clause-ends g c =
    let k = c.loop.invariant in
    let r = c.args.runner.now in
    let now = standing g.T.Source.left g.T.Source.way c.loop.runner in
    let next = standing g.T.Source.left g.T.Source.way c.step.new.self in
    λ start s told is. ends r.dialect g.T.Source.meaning r.stamp c.args.session now told start s (at_end r.dialect g.T.Source.meaning r.stamp c.args.session (place (standing g.T.Source.left g.T.Source.way r)) s)
    (g.S.Store.state c.loop.store) (g.S.Store.state c.step.new.store) (k.reaches start s told is).0 r.fault (k.reaches start s told is).1 next c.in-Ended.end
    (subst (λ d. Steps d g.T.Source.meaning r.stamp c.args.session now next (g.S.Store.state c.loop.store) (step.Ended c.in-Ended.end) (g.S.Store.state c.step.new.store)) k.dialect
    (subst (λ t. Steps c.loop.runner.dialect g.T.Source.meaning t c.args.session now next (g.S.Store.state c.loop.store) (step.Ended c.in-Ended.end) (g.S.Store.state c.step.new.store)) k.stamp c.in-Ended.ensures.steps))

pub returns-in-Ended-clause-tells : goal.returns-in-Ended-clause-tells
returns-in-Ended-clause-tells g c =
    let k = c.loop.invariant in
    let r = c.args.runner.now in
    let now = standing g.T.Source.left g.T.Source.way c.loop.runner in
    let next = standing g.T.Source.left g.T.Source.way c.step.new.self in
    λ start s told is met. (
      tells r.dialect g.T.Source.meaning r.stamp c.args.session now told start s (at_end r.dialect g.T.Source.meaning r.stamp c.args.session (place (standing g.T.Source.left g.T.Source.way r)) s)
          (g.S.Store.state c.loop.store) (g.S.Store.state c.step.new.store) (k.reaches start s told is).0 next c.in-Ended.end
          (subst (λ d. Steps d g.T.Source.meaning r.stamp c.args.session now next (g.S.Store.state c.loop.store) (step.Ended c.in-Ended.end) (g.S.Store.state c.step.new.store)) k.dialect
          (subst (λ t. Steps c.loop.runner.dialect g.T.Source.meaning t c.args.session now next (g.S.Store.state c.loop.store) (step.Ended c.in-Ended.end) (g.S.Store.state c.step.new.store)) k.stamp c.in-Ended.ensures.steps)),
      (let here = (k.reaches start s told is).0 in
          (subst (λ d. Stays d g.T.Source.meaning r.stamp c.args.session now next (g.S.Store.state c.loop.store) (step.Ended c.in-Ended.end)) k.dialect
          (subst (λ t. Stays c.loop.runner.dialect g.T.Source.meaning t c.args.session now next (g.S.Store.state c.loop.store) (step.Ended c.in-Ended.end)) k.stamp c.in-Ended.ensures.under_way))
          start here.session told here.is.there (λ there. here.is.committed) (k.under_way start s told is met)),
    )

pub break_off-requires-clause-runs : goal.break_off-requires-clause-runs
break_off-requires-clause-runs g c =
    let k = c.loop.invariant in
    let r = c.args.runner.now in
    let here = (k.reaches c.requires.runs.start c.requires.runs.session c.requires.runs.told c.requires.runs.is).0 in
    subst (λ d. Runs d g.T.Source.meaning c.loop.runner.stamp c.args.session (standing g.T.Source.left g.T.Source.way c.loop.runner) (g.S.Store.state c.loop.store)) (sym k.dialect)
    (subst (λ t. Runs r.dialect g.T.Source.meaning t c.args.session (standing g.T.Source.left g.T.Source.way c.loop.runner) (g.S.Store.state c.loop.store)) (sym k.stamp)
    (record { start = c.requires.runs.start; session = here.session; told = c.requires.runs.told; is = here.is }))

pub returns-clause-ends : goal.returns-clause-ends
returns-clause-ends g c =
    let k = c.loop.invariant in
    let r = c.args.runner.now in
    let now = standing g.T.Source.left g.T.Source.way c.loop.runner in
    λ start s told is.
    let here = (k.reaches start s told is).0 in
    let last = at_end r.dialect g.T.Source.meaning r.stamp c.args.session (place (standing g.T.Source.left g.T.Source.way r)) s in
    (subst (λ d. BreaksOff d g.T.Source.meaning r.stamp c.args.session now (g.S.Store.state c.loop.store) c.break_off.result (g.S.Store.state c.break_off.new.store)) k.dialect
    (subst (λ t. BreaksOff c.loop.runner.dialect g.T.Source.meaning t c.args.session now (g.S.Store.state c.loop.store) c.break_off.result (g.S.Store.state c.break_off.new.store)) k.stamp c.break_off.ensures.ends))
    start s last here.session told here.is here.came (before_last r.dialect g.T.Source.meaning r.stamp c.args.session now here.session last here.way) r.fault

pub returns-clause-crash : goal.returns-clause-crash
returns-clause-crash g c =
    let k = c.loop.invariant in
    let r = c.args.runner.now in
    let now = standing g.T.Source.left g.T.Source.way c.loop.runner in
    λ start s told is.
    let here = (k.reaches start s told is).0 in
    let last = at_end r.dialect g.T.Source.meaning r.stamp c.args.session (place (standing g.T.Source.left g.T.Source.way r)) s in
    leave_then start.entries (LeftInRun r.dialect r.stamp s last) (g.S.Store.crashes c.args.store.now) (g.S.Store.crashes c.loop.store) (g.S.Store.crashes c.break_off.new.store) (k.crash start s told is)
    ((subst (λ d. CrashesOff d g.T.Source.meaning r.stamp c.args.session now (g.S.Store.state c.loop.store) (g.S.Store.crashes c.loop.store) (g.S.Store.crashes c.break_off.new.store)) k.dialect
    (subst (λ t. CrashesOff c.loop.runner.dialect g.T.Source.meaning t c.args.session now (g.S.Store.state c.loop.store) (g.S.Store.crashes c.loop.store) (g.S.Store.crashes c.break_off.new.store)) k.stamp c.break_off.ensures.crash))
    start s last here.session told here.is here.came (before_last r.dialect g.T.Source.meaning r.stamp c.args.session now here.session last here.way))

pub returns-clause-tells : goal.returns-clause-tells
returns-clause-tells g c =
    let k = c.loop.invariant in
    let r = c.args.runner.now in
    let now = standing g.T.Source.left g.T.Source.way c.loop.runner in
    λ start s told is met.
    let here = (k.reaches start s told is).0 in
    (subst (λ d. TellsOn d g.T.Source.meaning r.stamp c.args.session now (g.S.Store.state c.loop.store) c.break_off.result (g.T.Source.way c.break_off.new.runner.source)) k.dialect
    (subst (λ t. TellsOn c.loop.runner.dialect g.T.Source.meaning t c.args.session now (g.S.Store.state c.loop.store) c.break_off.result (g.T.Source.way c.break_off.new.runner.source)) k.stamp c.break_off.ensures.tells))
    start here.session told here.is (k.under_way start s told is met)

pub returns-clause-rose : goal.returns-clause-rose
returns-clause-rose g c = λ is. rose_later (g.S.Store.faults c.args.store.now) (g.S.Store.faults c.loop.store) (g.S.Store.faults c.break_off.new.store) c.loop.invariant.later (c.break_off.ensures.rose is)

pub returns-in-Ended-clause-rose : goal.returns-in-Ended-clause-rose
returns-in-Ended-clause-rose g c = λ is. rose_later (g.S.Store.faults c.args.store.now) (g.S.Store.faults c.loop.store) (g.S.Store.faults c.step.new.store) c.loop.invariant.later (c.in-Ended.ensures.rose is)

pub returns-in-Ended-clause-crash : goal.returns-in-Ended-clause-crash
returns-in-Ended-clause-crash g c =
    let k = c.loop.invariant in
    let r = c.args.runner.now in
    let now = standing g.T.Source.left g.T.Source.way c.loop.runner in
    λ start s told is. leave_then start.entries (LeftInRun r.dialect r.stamp s (at_end r.dialect g.T.Source.meaning r.stamp c.args.session (place (standing g.T.Source.left g.T.Source.way r)) s)) (g.S.Store.crashes c.args.store.now) (g.S.Store.crashes c.loop.store) (g.S.Store.crashes c.step.new.store) (k.crash start s told is)
    (step_crash r.dialect g.T.Source.meaning r.stamp c.args.session now told start s (at_end r.dialect g.T.Source.meaning r.stamp c.args.session (place (standing g.T.Source.left g.T.Source.way r)) s) (g.S.Store.state c.loop.store) (k.reaches start s told is).0 c.step.new.self.fault (g.S.Store.crashes c.loop.store) (g.S.Store.crashes c.step.new.store)
    (subst (λ d. CrashesStep d g.T.Source.meaning r.stamp c.args.session now c.step.new.self.fault (g.S.Store.state c.loop.store) (g.S.Store.crashes c.loop.store) (g.S.Store.crashes c.step.new.store)) k.dialect
    (subst (λ t. CrashesStep c.loop.runner.dialect g.T.Source.meaning t c.args.session now c.step.new.self.fault (g.S.Store.state c.loop.store) (g.S.Store.crashes c.loop.store) (g.S.Store.crashes c.step.new.store)) k.stamp c.in-Ended.ensures.crash)))
