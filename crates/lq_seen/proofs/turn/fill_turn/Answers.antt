use Rattle.std.proofs.Common.{ap, ◌∙◌, List, ℕ}
use Rattle.lq_base.specs.declared.identity.Identity.{Identity}
use Rattle.lq_seen.proofs.turn.fill_turn.Goals as goal
use Rattle.lq_seen.specs.View.{view}
use Rattle.lq_turns.specs.Settle.{row_turn}
use Rattle.lq_turns.specs.declared.deed.OnRows.TheVariants.{Filled}

pub returns : goal.returns
returns c = λ options. c.in_ok-turn.ensures options
    ∙ (ap (λ (of : Identity). row_turn (view options c.args.set.now) (Filled of c.in_ok-sum.sum)) c.in_ok-identity.ensures
    ∙ ap (λ (sum : List ℕ). row_turn (view options c.args.set.now) (Filled c.args.set.now.identity sum)) c.in_ok-sum.ensures)
