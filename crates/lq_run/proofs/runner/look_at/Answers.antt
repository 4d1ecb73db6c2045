use Rattle.std.proofs.Common.{subst}
use Rattle.lq_hand.specs.Way.{Looks}
use Rattle.lq_run.proofs.Known.{not_busy}
use Rattle.lq_run.proofs.runner.look_at.Goals as goal

pub returns-in-Ok-clause-looks : goal.returns-in-Ok-clause-looks
returns-in-Ok-clause-looks g c = λ showing stamp told.
    subst (λ z. Looks c.args.dialect z (g.T.Source.way c.args.source.now c.args.dialect stamp told) (g.T.Source.way c.looks.new.self c.args.dialect stamp told)) c.in-Ok.ensures.seen (c.looks.ensures.looks stamp told)

pub returns-in-Err-clause-looks : goal.returns-in-Err-clause-looks
returns-in-Err-clause-looks g c = λ showing stamp told. absurd (not_busy c.args.session (g.S.Store.state c.args.store.now) _ showing c.in-Err.ensures.seen)
