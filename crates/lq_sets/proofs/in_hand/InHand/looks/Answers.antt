use Rattle.std.proofs.Common.{ap, Option, ℕ, ◌∙◌, ◌+◌}
use Rattle.lq_seen.specs.Telling.{bounded}
use Rattle.lq_sets.proofs.Stale.{has_looked}
use Rattle.lq_sets.proofs.in_hand.InHand.looks.Goals as goal
use Rattle.lq_sets.specs.Counting.{stale_at}

pub returns-clause-looked : goal.returns-clause-looked
returns-clause-looked g c =
    let d = c.args.dialect in
    let xs = c.args.set.now.changes in
    let seen = g.K.Look.catalogue c.args.look.now in
    let turn = c.args.self.now in
    has_looked d xs seen turn (record turn { beginnings = c.next_beginning-beginning.new.beginnings; not_fresh = c.counted-self.result }) c.next_beginning-beginning.ensures.rest
    (c.counted-self.ensures ∙ ap (λ (n : ℕ). bounded (turn.not_fresh + n)) (c.stale_at-stale.ensures ∙ ap (λ (b : Option ℕ). stale_at d xs b seen) c.next_beginning-beginning.ensures.first))
