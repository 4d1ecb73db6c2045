use Rattle.std.proofs.Common.{◌≡◌, ap, inl, inr, le_trans, refl, rules, subst, sym, ◌∙◌}
use Rattle.std.specs.Prelude.{Err}
use Rattle.lq_alone.proofs.Along.{begun_with, crashes_none, crashes_on, goes_on, leaves_all, none_of, none_open, stops_at}
use Rattle.lq_alone.specs.One.{RanAlone}
use Rattle.lq_store.specs.Journal.{is_open}
use Rattle.lq_turns.specs.Schedule.{StandsFor}
use Rattle.lq_alone.proofs.stepping.alone.Goals as goal

pub loop-init : goal.loop-init
loop-init g c =
    let r = g.R.Player.standing c.args.player.now in
    let x = g.S.Store.state c.args.store.now in
    record {
      valid = c.requires.valid;
      live = c.requires.live;
      ready = c.requires.ready;
      shut = λ some. c.requires.new.opens;
      others = λ n apart. ap (is_open n) c.requires.closed;
      later = search rules;
      follows = λ database stands_for. begun_with _ _ _ g.R.Player.failed r.job x database r c.requires.live c.requires.closed c.requires.new refl stands_for;
      idle = λ database stands_for none. refl;
      crash = λ database stands_for. crashes_none _ _ _ g.R.Player.failed r.job x database _ (g.S.Store.crashes c.args.store.now);
    }

pub loop-preserved : goal.loop-preserved
loop-preserved g c =
    let k = c.loop.invariant in
    let r = g.R.Player.standing c.args.player.now in
    let old = g.R.Player.standing c.loop.player in
    let new = g.R.Player.standing c.step.new.self in
    let x = g.S.Store.state c.args.store.now in
    let w = g.S.Store.state c.loop.store in
    let z = g.S.Store.state c.step.new.store in
    record {
      valid = c.in_ok-step.ensures.valid;
      live = c.in_ok-step.ensures.live refl;
      ready = record { ready = c.in_ok-step.ensures.ready; dialect = c.in_ok-step.ensures.dialect ∙ k.ready.dialect; opens = c.in_ok-step.ensures.opens (c.in_ok-step.ensures.live refl) };
      shut = c.in_ok-step.ensures.shut;
      others = λ n apart. c.in_ok-step.ensures.lets_be.others (c.in_ok-step.ensures.live refl) n apart ∙ k.others n apart;
      later = le_trans k.later c.in_ok-step.ensures.later;
      follows = λ database stands_for. goes_on _ _ _ g.R.Player.failed r.job x database old new w z (sym c.requires.sql ∙ sym k.ready.dialect) c.in_ok-step.ensures.faulted (k.follows database stands_for) (none_of _ (sym c.has_answered.ensures ∙ c.if-has_answered.false)) (λ why h. g.met.R.Player.owed c.step.new.self why h) c.in_ok-step.ensures.moves c.in_ok-step.ensures.ends;
      idle = λ database stands_for none. leaves_all _ _ _ g.R.Player.failed r.job x database old w (k.follows database stands_for) (none_of _ (sym c.has_answered.ensures ∙ c.if-has_answered.false)) none _ c.loop.store c.step.new.store (ap (λ s. (g.S.Store.state s).dialect) (k.idle database stands_for none) ∙ sym c.requires.sql ∙ sym k.ready.dialect)
          (subst (λ s. StandsFor (g.S.Store.state s).dialect (g.S.Store.state s).committed database) (sym (k.idle database stands_for none)) stands_for) c.in_ok-step.ensures.idle ∙ k.idle database stands_for none;
      crash = λ database stands_for. crashes_on _ _ _ g.R.Player.failed r.job x database old new w z (sym c.requires.sql ∙ sym k.ready.dialect) c.in_ok-step.ensures.faulted (k.follows database stands_for) (g.S.Store.crashes c.args.store.now) (g.S.Store.crashes c.loop.store) (g.S.Store.crashes c.step.new.store)
          (k.crash database stands_for) c.in_ok-step.ensures.crash;
    }

pub returns-in_err-step-clause-idle : goal.returns-in_err-step-clause-idle
returns-in_err-step-clause-idle g c =
    let k = c.loop.invariant in
    let r = g.R.Player.standing c.args.player.now in
    λ database stands_for none. leaves_all _ _ _ g.R.Player.failed r.job (g.S.Store.state c.args.store.now) database (g.R.Player.standing c.loop.player) (g.S.Store.state c.loop.store) (k.follows database stands_for) (none_of _ (sym c.has_answered.ensures ∙ c.if-has_answered.false)) none _ c.loop.store c.step.new.store (ap (λ s. (g.S.Store.state s).dialect) (k.idle database stands_for none) ∙ sym c.requires.sql ∙ sym k.ready.dialect)
    (subst (λ s. StandsFor (g.S.Store.state s).dialect (g.S.Store.state s).committed database) (sym (k.idle database stands_for none)) stands_for) c.in_err-step.ensures.idle ∙ k.idle database stands_for none

pub returns-in_err-step-clause-runs : goal.returns-in_err-step-clause-runs
returns-in_err-step-clause-runs g c =
    let k = c.loop.invariant in
    let r = g.R.Player.standing c.args.player.now in
    let is : c.from_residual.result ≡ Err c.in_err-step.field-0.0 = search rules in
    λ database stands_for.
    subst (λ q. RanAlone g.R.Player.failed r.job (g.S.Store.state c.args.store.now) database (g.R.Player.standing c.step.new.self) q (g.S.Store.state c.step.new.store)) (sym is)
    (inl (stops_at _ _ _ g.R.Player.failed r.job (g.S.Store.state c.args.store.now) database (g.R.Player.standing c.loop.player) (g.R.Player.standing c.step.new.self) (g.S.Store.state c.loop.store) (g.S.Store.state c.step.new.store)
    (sym c.requires.sql ∙ sym k.ready.dialect) c.in_err-step.ensures.faulted (k.follows database stands_for) c.in_err-step.field-0.0 (none_of _ (sym c.has_answered.ensures ∙ c.if-has_answered.false)) c.in_err-step.ensures.moves c.in_err-step.ensures.ends c.in_err-step.ensures.lets_be.grows))

pub returns-in_err-step-clause-crash : goal.returns-in_err-step-clause-crash
returns-in_err-step-clause-crash g c =
    let k = c.loop.invariant in
    let r = g.R.Player.standing c.args.player.now in
    λ database stands_for. crashes_on _ _ _ g.R.Player.failed r.job (g.S.Store.state c.args.store.now) database (g.R.Player.standing c.loop.player) (g.R.Player.standing c.step.new.self) (g.S.Store.state c.loop.store) (g.S.Store.state c.step.new.store)
    (sym c.requires.sql ∙ sym k.ready.dialect) c.in_err-step.ensures.faulted (k.follows database stands_for) (g.S.Store.crashes c.args.store.now) (g.S.Store.crashes c.loop.store) (g.S.Store.crashes c.step.new.store)
    (k.crash database stands_for) c.in_err-step.ensures.crash

pub returns-then-has_answered-clause-shut : goal.returns-then-has_answered-clause-shut
returns-then-has_answered-clause-shut g c =
    let k = c.loop.invariant in
    λ some lives. none_open (g.S.Store.state c.loop.store).begun (k.ready.opens ∙ k.shut some) k.others

pub returns-in_err-step-clause-shut : goal.returns-in_err-step-clause-shut
returns-in_err-step-clause-shut g c =
    let k = c.loop.invariant in
    λ some lives. none_open (g.S.Store.state c.step.new.store).begun (c.in_err-step.ensures.opens lives ∙ c.in_err-step.ensures.shut some) (λ n apart. c.in_err-step.ensures.lets_be.others lives n apart ∙ k.others n apart)

pub returns-clause-shut : goal.returns-clause-shut
returns-clause-shut g c =
    let k = c.loop.invariant in
    λ some lives. none_open (g.S.Store.state c.loop.store).begun (k.ready.opens ∙ k.shut some) k.others

pub returns-clause-runs : goal.returns-clause-runs
returns-clause-runs g c = λ database stands_for. inr (refl, c.loop.invariant.follows database stands_for)
