use Rattle.std.proofs.Common.{ap, List, ◌++◌, ◌∙◌}
use Rattle.std.specs.List.{list_all}
use Rattle.lq_base.specs.declared.run.Printed.{Printed}
use Rattle.lq_model.specs.Step.{is_statement}
use Rattle.lq_sets.proofs.TurnMade.{can_be_made, texts_made}
use Rattle.lq_sets.proofs.set_hand.hand_for.Goals as goal

pub keep_texts-requires : goal.keep_texts-requires
keep_texts-requires g c =
    let can = can_be_made c.args.making.now.dialect c.args.making.now.stamp.now c.args.set.now c.args.making.now.last c.requires.read c.requires.moment c.args.choice c.in_ok-turn.turn c.in_ok-turn.ensures.made in
    ap (λ d. list_all (is_statement d) c.as_slice.result.now) c.requires.sql ∙ (ap (list_all (is_statement c.args.making.now.dialect)) c.as_slice.ensures ∙ can.0)

pub of_turn-requires-clause-statements : goal.of_turn-requires-clause-statements
of_turn-requires-clause-statements g c = (can_be_made c.args.making.now.dialect c.args.making.now.stamp.now c.args.set.now c.args.making.now.last c.requires.read c.requires.moment c.args.choice c.in_ok-turn.turn c.in_ok-turn.ensures.made).0

pub of_turn-requires-clause-row : goal.of_turn-requires-clause-row
of_turn-requires-clause-row g c = (can_be_made c.args.making.now.dialect c.args.making.now.stamp.now c.args.set.now c.args.making.now.last c.requires.read c.requires.moment c.args.choice c.in_ok-turn.turn c.in_ok-turn.ensures.made).1

pub returns-clause-hand : goal.returns-clause-hand
returns-clause-hand g c = record {
  made = λ options rows last. (c.in_ok-turn.turn, c.in_ok-turn.ensures.made options rows last, c.in_ok-hand.ensures.calls, c.in_ok-hand.ensures.refused);
  goes_on = c.in_ok-hand.ensures.goes_on;
  is = c.in_ok-hand.ensures.turn;
}

pub returns-clause-texts : goal.returns-clause-texts
returns-clause-texts g c =
    c.in_ok-keep_texts.ensures
    ∙ ap (λ (ps : List Printed). c.args.texts.now ++ ps)
    (texts_made c.args.making.now.dialect c.args.making.now.stamp.now c.args.set.now c.args.making.now.last c.requires.read c.requires.moment c.args.choice c.in_ok-turn.turn c.in_ok-turn.ensures.made
    c.args.making.now.prints g.P.SqlText.dialect c.requires.sql c.as_slice.result.now c.as_slice.ensures c.keeps.result c.keeps.ensures)
