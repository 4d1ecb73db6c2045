use Rattle.std.proofs.Common.{Some, ap, sym, ◌∙◌}
use Rattle.lq_sets.proofs.set_hand.turn_for.Goals as goal
use Rattle.lq_seen.specs.View.{any_meaning, view}
use Rattle.lq_turns.specs.Script.{turn_by}

pub returns-in_ok-turn-in-Fills : goal.returns-in_ok-turn-in-Fills
returns-in_ok-turn-in-Fills c = record {
  made = λ options rows last. ap (turn_by c.args.making.now.dialect any_meaning c.args.making.now.stamp.now (view options c.args.set.now) rows) c.in-Fills.is ∙ ap (λ t. Some t) (sym (c.in_ok-turn-in-Fills.ensures options));
}

pub returns-in_ok-turn-in-Marks : goal.returns-in_ok-turn-in-Marks
returns-in_ok-turn-in-Marks c = record {
  made = λ options rows last. ap (turn_by c.args.making.now.dialect any_meaning c.args.making.now.stamp.now (view options c.args.set.now) rows) c.in-Marks.is ∙ ap (λ t. Some t) (sym (c.in_ok-turn-in-Marks.ensures options rows last));
}

pub returns-in_ok-turn-in-Runs : goal.returns-in_ok-turn-in-Runs
returns-in_ok-turn-in-Runs c = record {
  made = λ options rows last. ap (turn_by c.args.making.now.dialect any_meaning c.args.making.now.stamp.now (view options c.args.set.now) rows) c.in-Runs.is ∙ ap (λ t. Some t) (sym (c.in_ok-turn-in-Runs.ensures options rows last));
}
