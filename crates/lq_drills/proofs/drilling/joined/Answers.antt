use Rattle.std.proofs.Common.{ap, arith, subst, sym, ◌∙◌}
use Rattle.std.specs.Prelude.{[], false, length, suc, ◌+◌, ◌++◌, ◌∷◌, ◌≡◌}
use Rattle.lq_commands.specs.Stamp.{numbered_stamp}
use Rattle.lq_players.specs.AnyCommand.{Starts}
use Rattle.lq_players.specs.Tasks.{task_for}
use Rattle.lq_playing.specs.Under.{IsPlain}
use Rattle.lq_drills.proofs.DrillPlayers.{numbered_bare}
use Rattle.lq_turns.specs.declared.stamp.Stamp.{Stamp}
use Rattle.lq_drills.proofs.drilling.joined.Goals as goal

pub new-player-requires-clause-short : goal.new-player-requires-clause-short
new-player-requires-clause-short c = c.requires.is.short

pub new-player-requires-clause-plain : goal.new-player-requires-clause-plain
new-player-requires-clause-plain c =
    subst (λ (stamp : Stamp). IsPlain stamp) (sym c.in_ok-stamp.ensures.stamp)
    (numbered_bare c.args.name.now (c.len.result + 1) (omega (arith, c.len.ensures, c.requires.few)) c.requires.name)

pub returns : goal.returns
returns c =
    let e = c.args.entrant in
    let made = c.new-player.ensures in
    let number : c.len.result + 1 ≡ suc (length c.args.cast.players.items) = omega (arith, c.len.ensures) in
    let same = c.in_ok-stamp.ensures.stamp ∙ ap (λ n. numbered_stamp c.args.name.now n c.args.reading) number in
    record {
      player = c.new-player.result;
      players = c.in_ok-push-2.ensures.items;
      commands = c.in_ok-push.ensures.ok ∙ ap (λ command. c.args.cast.commands ++ command ∷ []) c.in_ok-command_again.ensures;
      starts = subst (λ stamp. Starts false c.args.dialect (task_for e.command e.asked.options e.asked.changelog stamp) c.new-player.result) same (record { unstarted = made.unstarted; job = made.job; owns = made.owns });
    }
