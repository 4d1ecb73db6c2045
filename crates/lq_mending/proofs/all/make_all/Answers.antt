use Rattle.std.proofs.Common.{ap, arith, refl, rules, subst, sym, ◌∙◌}
use Rattle.std.specs.Prelude.{[], reverse, ◌≡◌}
use Rattle.lq_hand.specs.Hand.{IsReady, calls_left, hand_place, place_of}
use Rattle.lq_run.proofs.Counting.{rose_later}
use Rattle.lq_run.proofs.Ending.{ready_at}
use Rattle.lq_run.proofs.Since.{leave_none, leave_then}
use Rattle.lq_run.specs.Stands.{no_changes}
use Rattle.lq_store.specs.Journal.{is_open}
use Rattle.lq_turns.specs.Rest.{NoMore}
use Rattle.lq_mending.proofs.Crashed.{taken_crash}
use Rattle.lq_mending.proofs.Making.{here, is_disk_made, met, reaches, shorter}
use Rattle.lq_mending.specs.Comes.{EndsAs, LeftOf, at_end}
use Rattle.lq_mending.proofs.all.make_all.Goals as goal

pub loop-alloc-init : goal.loop-alloc-init
loop-alloc-init g c = record {
  valid = c.requires.valid;
  inside = c.requires.inside;
  reached = λ stamp start s at. record { session = s; inside = c.requires.inside; at = at; are_made = here c.args.dialect (calls_left c.args.hand.now) s };
  crash = λ stamp start s tail at. leave_none start.entries (LeftOf c.args.dialect (at_end c.args.dialect (calls_left c.args.hand.now) tail s)) (g.S.Store.crashes c.args.store.now);
  later = search rules;
}

pub take-requires-clause-valid : goal.take-requires-clause-valid
take-requires-clause-valid g c = c.loop-alloc.invariant.valid

pub take-requires-clause-live : goal.take-requires-clause-live
take-requires-clause-live g c = (c.loop-alloc.invariant.reached c.requires.comes.stamp c.requires.comes.start c.requires.comes.session c.requires.comes.at).at.stands.live

pub take-requires-clause-inside : goal.take-requires-clause-inside
take-requires-clause-inside g c = c.loop-alloc.invariant.inside

pub take-requires-clause-turns : goal.take-requires-clause-turns
take-requires-clause-turns g c =
    let k = c.loop-alloc.invariant.reached c.requires.comes.stamp c.requires.comes.start c.requires.comes.session c.requires.comes.at in
    let hand = c.loop-alloc.hand in
    let x = g.S.Store.state c.loop-alloc.store in
    subst (λ p. IsReady c.args.dialect (is_open c.args.session x.begun) (hand_place p (calls_left hand) hand.goes_on NoMore)) c.loop-alloc.invariant.inside
    (ready_at c.args.dialect no_changes c.requires.comes.stamp c.args.session (place_of hand NoMore) c.requires.comes.start x k.session k.at)

pub loop-alloc-smaller : goal.loop-alloc-smaller
loop-alloc-smaller g c =
    let k = c.loop-alloc.invariant.reached c.requires.comes.stamp c.requires.comes.start c.requires.comes.session c.requires.comes.at in
    let took = c.in-On.ensures.takes c.requires.comes.stamp NoMore c.requires.comes.start k.session k.at in
    shorter took.goes.went.call (calls_left c.loop-alloc.hand) (calls_left c.take.new.hand) took.first

pub loop-alloc-preserved : goal.loop-alloc-preserved
loop-alloc-preserved g c = record {
  valid = c.in-On.ensures.valid;
  inside = c.in-On.ensures.phase;
  reached = λ stamp start s at.
      let k = c.loop-alloc.invariant.reached stamp start s at in
      reaches c.args.dialect stamp c.args.session start s (calls_left c.args.hand.now) c.loop-alloc.hand c.take.new.hand (g.S.Store.state c.loop-alloc.store) (g.S.Store.state c.take.new.store) k c.in-On.ensures.phase
      (c.in-On.ensures.takes stamp NoMore start k.session k.at);
  crash = λ stamp start s tail at.
      let k = c.loop-alloc.invariant.reached stamp start s at in
      leave_then start.entries (LeftOf c.args.dialect (at_end c.args.dialect (calls_left c.args.hand.now) tail s)) (g.S.Store.crashes c.args.store.now) (g.S.Store.crashes c.loop-alloc.store) (g.S.Store.crashes c.take.new.store)
      (c.loop-alloc.invariant.crash stamp start s tail at)
      (taken_crash c.args.dialect stamp c.args.session start s (calls_left c.args.hand.now) tail c.loop-alloc.hand (g.S.Store.state c.loop-alloc.store) k (g.S.Store.crashes c.loop-alloc.store) (g.S.Store.crashes c.take.new.store) (c.take.ensures.crash stamp));
  later = omega (arith, c.loop-alloc.invariant.later, c.take.ensures.later);
}

pub returns-in-Refused-clause-ends : goal.returns-in-Refused-clause-ends
returns-in-Refused-clause-ends g c = λ stamp start s at.
    let k = c.loop-alloc.invariant.reached stamp start s at in
    (c.loop-alloc.hand, g.S.Store.state c.loop-alloc.store, k, (c.in-Refused.ensures.takes stamp NoMore start k.session k.at, c.in-Refused.ensures.phase))

pub returns-in-Failed-clause-ends : goal.returns-in-Failed-clause-ends
returns-in-Failed-clause-ends g c = λ stamp start s at.
    let k = c.loop-alloc.invariant.reached stamp start s at in (
      c.loop-alloc.hand,
      g.S.Store.state c.loop-alloc.store,
      k,
      subst (λ m. EndsAs c.args.dialect stamp c.args.session start c.loop-alloc.hand (g.S.Store.state c.loop-alloc.store) k.session m c.take.new.hand (g.S.Store.state c.take.new.store)) (sym c.made_of.ensures)
          (met c.args.dialect stamp c.args.session start c.loop-alloc.hand c.take.new.hand (g.S.Store.state c.loop-alloc.store) (g.S.Store.state c.take.new.store) k.session c.in-Failed.fault (c.in-Failed.ensures.takes stamp NoMore start k.session k.at)),
    )

pub returns-in-Failed-clause-rose : goal.returns-in-Failed-clause-rose
returns-in-Failed-clause-rose g c = λ is. rose_later (g.S.Store.faults c.args.store.now) (g.S.Store.faults c.loop-alloc.store) (g.S.Store.faults c.take.new.store) c.loop-alloc.invariant.later
    (c.in-Failed.ensures.rose (is_disk_made c.in-Failed.fault (sym c.made_of.ensures ∙ is)))

pub returns-in-Lack-clause-ends : goal.returns-in-Lack-clause-ends
returns-in-Lack-clause-ends g c = λ stamp start s at.
    let k = c.loop-alloc.invariant.reached stamp start s at in
    (c.loop-alloc.hand, g.S.Store.state c.loop-alloc.store, k, c.in-Lack.ensures.takes stamp NoMore start k.session k.at)

pub returns-in-Refused-clause-crash : goal.returns-in-Refused-clause-crash
returns-in-Refused-clause-crash g c = λ stamp start s tail at.
    let k = c.loop-alloc.invariant.reached stamp start s at in
    leave_then start.entries (LeftOf c.args.dialect (at_end c.args.dialect (calls_left c.args.hand.now) tail s)) (g.S.Store.crashes c.args.store.now) (g.S.Store.crashes c.loop-alloc.store) (g.S.Store.crashes c.take.new.store)
    (c.loop-alloc.invariant.crash stamp start s tail at)
    (taken_crash c.args.dialect stamp c.args.session start s (calls_left c.args.hand.now) tail c.loop-alloc.hand (g.S.Store.state c.loop-alloc.store) k (g.S.Store.crashes c.loop-alloc.store) (g.S.Store.crashes c.take.new.store) (c.take.ensures.crash stamp))

pub returns-in-Refused-clause-later : goal.returns-in-Refused-clause-later
returns-in-Refused-clause-later g c = omega (arith, c.loop-alloc.invariant.later, c.take.ensures.later)

pub returns-in-Failed-clause-crash : goal.returns-in-Failed-clause-crash
returns-in-Failed-clause-crash g c = λ stamp start s tail at.
    let k = c.loop-alloc.invariant.reached stamp start s at in
    leave_then start.entries (LeftOf c.args.dialect (at_end c.args.dialect (calls_left c.args.hand.now) tail s)) (g.S.Store.crashes c.args.store.now) (g.S.Store.crashes c.loop-alloc.store) (g.S.Store.crashes c.take.new.store)
    (c.loop-alloc.invariant.crash stamp start s tail at)
    (taken_crash c.args.dialect stamp c.args.session start s (calls_left c.args.hand.now) tail c.loop-alloc.hand (g.S.Store.state c.loop-alloc.store) k (g.S.Store.crashes c.loop-alloc.store) (g.S.Store.crashes c.take.new.store) (c.take.ensures.crash stamp))

pub returns-in-Failed-clause-later : goal.returns-in-Failed-clause-later
returns-in-Failed-clause-later g c = omega (arith, c.loop-alloc.invariant.later, c.take.ensures.later)

pub returns-in-Lack-clause-crash : goal.returns-in-Lack-clause-crash
returns-in-Lack-clause-crash g c = λ stamp start s tail at.
    let k = c.loop-alloc.invariant.reached stamp start s at in
    leave_then start.entries (LeftOf c.args.dialect (at_end c.args.dialect (calls_left c.args.hand.now) tail s)) (g.S.Store.crashes c.args.store.now) (g.S.Store.crashes c.loop-alloc.store) (g.S.Store.crashes c.take.new.store)
    (c.loop-alloc.invariant.crash stamp start s tail at)
    (taken_crash c.args.dialect stamp c.args.session start s (calls_left c.args.hand.now) tail c.loop-alloc.hand (g.S.Store.state c.loop-alloc.store) k (g.S.Store.crashes c.loop-alloc.store) (g.S.Store.crashes c.take.new.store) (c.take.ensures.crash stamp))

pub returns-in-Lack-clause-later : goal.returns-in-Lack-clause-later
returns-in-Lack-clause-later g c = omega (arith, c.loop-alloc.invariant.later, c.take.ensures.later)

pub returns-clause-valid : goal.returns-clause-valid
returns-clause-valid g c = c.loop-alloc.invariant.valid

pub returns-clause-ends : goal.returns-clause-ends
returns-clause-ends g c = λ stamp start s at.
    let k = c.loop-alloc.invariant.reached stamp start s at in
    let none : c.loop-alloc.hand.calls ≡ [] = search rules in
    (c.loop-alloc.hand, g.S.Store.state c.loop-alloc.store, k, (ap reverse none, refl))

pub returns-clause-crash : goal.returns-clause-crash
returns-clause-crash g c = c.loop-alloc.invariant.crash

pub returns-clause-later : goal.returns-clause-later
returns-clause-later g c = c.loop-alloc.invariant.later
