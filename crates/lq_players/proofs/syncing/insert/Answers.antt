use Rattle.std.proofs.Common.{ap, refl, sym, ◌∙◌}
use Rattle.std.specs.Prelude.{None}
use Rattle.lq_base.specs.declared.dialect.Dialect.TheVariants.{Postgresql}
use Rattle.lq_players.proofs.OneStepChecked.{true_not}
use Rattle.lq_players.specs.Syncing.{refused_at}
use Rattle.lq_turns.specs.Laws.{insert_stop, marked_by}
use Rattle.lq_players.proofs.syncing.insert.Goals as goal

pub returns-then-is_empty : goal.returns-then-is_empty
returns-then-is_empty c = (c.is_empty.ensures.0 c.if-is_empty.true, refl)

pub returns : goal.returns
returns c = record {
  some = λ none. true_not (sym (c.is_empty.ensures.1 none) ∙ c.if-is_empty.false);
  inside = (c.in_ok-hand.ensures.turn Postgresql).inside;
  turn = λ d. (c.in_ok-hand.ensures.turn d).turn;
  calls = c.in_ok-hand.ensures.calls;
  stops = c.in_ok-hand.ensures.goes_on;
  of_is = c.in_ok-of.ensures ∙ ap (λ rows. refused_at (insert_stop rows c.args.before.now)) c.as_slice.ensures;
  marked_is = c.in_ok-marked.ensures ∙ ap (marked_by None) c.as_slice-2.ensures;
}
