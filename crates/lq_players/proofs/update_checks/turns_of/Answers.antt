use Rattle.std.proofs.Common.{ap, subst, sym, ◌∙◌}
use Rattle.lq_players.proofs.UpdateTurns.{warned_turns}
use Rattle.lq_players.specs.Updating.{HasTurns, with_warned}
use Rattle.lq_sets.specs.SetTurns.{IsReadFor}
use Rattle.lq_sets.specs.declared.set_turns.SetTurns.{SetTurns}
use Rattle.lq_players.proofs.update_checks.turns_of.Goals as goal

pub returns-in-Ok-new-clause-reads : goal.returns-in-Ok-new-clause-reads
returns-in-Ok-new-clause-reads c =
    subst (λ (s : SetTurns). IsReadFor s c.args.asked.options.dialect) (sym c.warns.ensures)
    (record { dialect = c.in-Ok-new.ensures.reads.dialect; read = c.in-Ok-new.ensures.reads.read; within = c.in-Ok-new.ensures.reads.within; room = c.in-Ok-new.ensures.reads.room })

pub returns-in-Ok-new-clause-turns : goal.returns-in-Ok-new-clause-turns
returns-in-Ok-new-clause-turns c =
    subst (λ (s : SetTurns). HasTurns c.args.asked c.args.rows.now c.args.own s) (sym (c.warns.ensures ∙ ap (λ w. with_warned w c.in-Ok-new.source) c.in-Ok.ensures))
    (warned_turns c.args.asked c.args.rows.now c.args.own c.in-Ok-new.source c.in-Ok-new.ensures.left c.in-Ok-new.ensures.knows)
