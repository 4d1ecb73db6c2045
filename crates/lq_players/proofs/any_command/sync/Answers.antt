use Rattle.std.proofs.Common.{ap, subst, sym, ◌∙◌}
use Rattle.std.specs.List.{All}
use Rattle.lq_base.specs.declared.command.Command.TheVariants.{Sync}
use Rattle.lq_beside.specs.Replays.{HasTexts}
use Rattle.lq_players.proofs.Synced.{same_log}
use Rattle.lq_players.specs.Tasks.{work_of}
use Rattle.lq_any.specs.declared.any_change.AnyChange.{AnyChange}
use Rattle.lq_run.specs.Stands.{IsHeld}
use Rattle.lq_turns.specs.Set.{Changelog}
use Rattle.lq_players.proofs.any_command.sync.Goals as goal

pub new-requires-clause-reads : goal.new-requires-clause-reads
new-requires-clause-reads c =
    subst (λ (log : Changelog AnyChange). All HasTexts log.sets) (sym (same_log c.new-syncing.result c.args.options c.args.changelog c.new-syncing.ensures.options c.new-syncing.ensures.changelog)) c.requires.texts

pub returns : goal.returns
returns c = λ prints. record {
  unstarted = record { new = c.new.ensures.new; ready = c.new.ensures.ready; dialect = c.new.ensures.dialect };
  job = c.new.ensures.job
      ∙ ap (λ (log : Changelog AnyChange). work_of prints c.args.dialect (record { command = Sync; changelog = log; stamp = c.args.stamp }))
      (same_log c.new-syncing.result c.args.options c.args.changelog c.new-syncing.ensures.options c.new-syncing.ensures.changelog);
  owns = λ lock held. subst (λ stamp. IsHeld stamp lock) c.new.ensures.stamp held;
}
