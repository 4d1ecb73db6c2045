use Rattle.tests_play.specs.Noted.{IsNoted}
use Rattle.tests_play.proofs.script.play.Given as goal

abbrev pub invariant-loop-line : goal.invariant-loop-line
invariant-loop-line g l = record {
  next : (goal.iterator-loop-line g).can_next l.line-iterator;
  finite : (goal.iterator-loop-line g).is_finite l.line-iterator;
  valid : g.S.Store.valid l.store;
  noted : IsNoted l.holder (g.S.Store.state l.store);
}
