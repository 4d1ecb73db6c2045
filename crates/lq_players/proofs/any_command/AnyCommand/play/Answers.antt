use Rattle.std.proofs.Common.{ap, subst, sym, ◌∙◌}
use Rattle.std.specs.Prelude.{None, ◌≡◌}
use Rattle.lq_drill.specs.Player.{LeavesAll}
use Rattle.lq_players.specs.AnyCommand.{command_stands}
use Rattle.lq_players.specs.declared.any_command.AnyCommand.TheVariants as any
use Rattle.lq_playing.specs.Playing.{Took}
use Rattle.lq_players.proofs.any_command.AnyCommand.play.Goals as goal

pub step-requires-clause-sql : goal.step-requires-clause-sql
step-requires-clause-sql g c = c.requires.sql ∙ ap (λ p. (command_stands p).dialect) c.in-AtOnce.is

pub step-requires-clause-ready : goal.step-requires-clause-ready
step-requires-clause-ready g c = subst (λ p. (command_stands p).ready) c.in-AtOnce.is c.requires.ready

pub step-requires-clause-opens : goal.step-requires-clause-opens
step-requires-clause-opens g c = c.requires.opens ∙ ap (λ p. (command_stands p).opens) c.in-AtOnce.is

pub step-requires-clause-going : goal.step-requires-clause-going
step-requires-clause-going g c = subst (λ p. (command_stands p).answer ≡ None) c.in-AtOnce.is c.requires.going

pub returns-in-AtOnce-clause-took : goal.returns-in-AtOnce-clause-took
returns-in-AtOnce-clause-took g c =
    subst (λ p. Took c.args.session (command_stands p) (command_stands (any.AtOnce c.step.new.self)) (g.S.Store.state c.args.store.now) (g.S.Store.state c.step.new.store) (g.S.Store.crashes c.args.store.now) (g.S.Store.crashes c.step.new.store) c.step.result) (sym c.in-AtOnce.is) (record {
      live = c.step.ensures.live;
      dialect = c.step.ensures.dialect;
      ready = c.step.ensures.ready;
      opens = c.step.ensures.opens;
      shut = c.step.ensures.shut;
      lets_be = c.step.ensures.lets_be;
      owns = c.step.ensures.owns;
      faulted = c.step.ensures.faulted;
      met = c.step.ensures.met;
      ends = c.step.ensures.ends;
      moves = c.step.ensures.moves;
      crash = c.step.ensures.crash;
    })

pub step-requires-in-Update-clause-sql : goal.step-requires-in-Update-clause-sql
step-requires-in-Update-clause-sql g c = c.requires.sql ∙ ap (λ p. (command_stands p).dialect) c.in-Update.is

pub step-requires-in-Update-clause-ready : goal.step-requires-in-Update-clause-ready
step-requires-in-Update-clause-ready g c = subst (λ p. (command_stands p).ready) c.in-Update.is c.requires.ready

pub step-requires-in-Update-clause-opens : goal.step-requires-in-Update-clause-opens
step-requires-in-Update-clause-opens g c = c.requires.opens ∙ ap (λ p. (command_stands p).opens) c.in-Update.is

pub step-requires-in-Update-clause-going : goal.step-requires-in-Update-clause-going
step-requires-in-Update-clause-going g c = subst (λ p. (command_stands p).answer ≡ None) c.in-Update.is c.requires.going

pub returns-in-Update-clause-took : goal.returns-in-Update-clause-took
returns-in-Update-clause-took g c =
    subst (λ p. Took c.args.session (command_stands p) (command_stands (any.Update c.step-in-Update.new.self)) (g.S.Store.state c.args.store.now) (g.S.Store.state c.step-in-Update.new.store) (g.S.Store.crashes c.args.store.now) (g.S.Store.crashes c.step-in-Update.new.store) c.step-in-Update.result) (sym c.in-Update.is) (record {
      live = c.step-in-Update.ensures.live;
      dialect = c.step-in-Update.ensures.dialect;
      ready = c.step-in-Update.ensures.ready;
      opens = c.step-in-Update.ensures.opens;
      shut = c.step-in-Update.ensures.shut;
      lets_be = c.step-in-Update.ensures.lets_be;
      owns = c.step-in-Update.ensures.owns;
      faulted = c.step-in-Update.ensures.faulted;
      met = c.step-in-Update.ensures.met;
      ends = c.step-in-Update.ensures.ends;
      moves = c.step-in-Update.ensures.moves;
      crash = c.step-in-Update.ensures.crash;
    })

pub step-requires-in-Rollback-clause-sql : goal.step-requires-in-Rollback-clause-sql
step-requires-in-Rollback-clause-sql g c = c.requires.sql ∙ ap (λ p. (command_stands p).dialect) c.in-Rollback.is

pub step-requires-in-Rollback-clause-ready : goal.step-requires-in-Rollback-clause-ready
step-requires-in-Rollback-clause-ready g c = subst (λ p. (command_stands p).ready) c.in-Rollback.is c.requires.ready

pub step-requires-in-Rollback-clause-opens : goal.step-requires-in-Rollback-clause-opens
step-requires-in-Rollback-clause-opens g c = c.requires.opens ∙ ap (λ p. (command_stands p).opens) c.in-Rollback.is

pub step-requires-in-Rollback-clause-going : goal.step-requires-in-Rollback-clause-going
step-requires-in-Rollback-clause-going g c = subst (λ p. (command_stands p).answer ≡ None) c.in-Rollback.is c.requires.going

pub returns-in-Rollback-clause-took : goal.returns-in-Rollback-clause-took
returns-in-Rollback-clause-took g c =
    subst (λ p. Took c.args.session (command_stands p) (command_stands (any.Rollback c.step-in-Rollback.new.self)) (g.S.Store.state c.args.store.now) (g.S.Store.state c.step-in-Rollback.new.store) (g.S.Store.crashes c.args.store.now) (g.S.Store.crashes c.step-in-Rollback.new.store) c.step-in-Rollback.result) (sym c.in-Rollback.is) (record {
      live = c.step-in-Rollback.ensures.live;
      dialect = c.step-in-Rollback.ensures.dialect;
      ready = c.step-in-Rollback.ensures.ready;
      opens = c.step-in-Rollback.ensures.opens;
      shut = c.step-in-Rollback.ensures.shut;
      lets_be = c.step-in-Rollback.ensures.lets_be;
      owns = c.step-in-Rollback.ensures.owns;
      faulted = c.step-in-Rollback.ensures.faulted;
      met = c.step-in-Rollback.ensures.met;
      ends = c.step-in-Rollback.ensures.ends;
      moves = c.step-in-Rollback.ensures.moves;
      crash = c.step-in-Rollback.ensures.crash;
    })

pub step-requires-in-Sync-clause-sql : goal.step-requires-in-Sync-clause-sql
step-requires-in-Sync-clause-sql g c = c.requires.sql ∙ ap (λ p. (command_stands p).dialect) c.in-Sync.is

pub step-requires-in-Sync-clause-ready : goal.step-requires-in-Sync-clause-ready
step-requires-in-Sync-clause-ready g c = subst (λ p. (command_stands p).ready) c.in-Sync.is c.requires.ready

pub step-requires-in-Sync-clause-opens : goal.step-requires-in-Sync-clause-opens
step-requires-in-Sync-clause-opens g c = c.requires.opens ∙ ap (λ p. (command_stands p).opens) c.in-Sync.is

pub step-requires-in-Sync-clause-going : goal.step-requires-in-Sync-clause-going
step-requires-in-Sync-clause-going g c = subst (λ p. (command_stands p).answer ≡ None) c.in-Sync.is c.requires.going

pub returns-in-Sync-clause-took : goal.returns-in-Sync-clause-took
returns-in-Sync-clause-took g c =
    subst (λ p. Took c.args.session (command_stands p) (command_stands (any.Sync c.step-in-Sync.new.self)) (g.S.Store.state c.args.store.now) (g.S.Store.state c.step-in-Sync.new.store) (g.S.Store.crashes c.args.store.now) (g.S.Store.crashes c.step-in-Sync.new.store) c.step-in-Sync.result) (sym c.in-Sync.is) (record {
      live = c.step-in-Sync.ensures.live;
      dialect = c.step-in-Sync.ensures.dialect;
      ready = c.step-in-Sync.ensures.ready;
      opens = c.step-in-Sync.ensures.opens;
      shut = c.step-in-Sync.ensures.shut;
      lets_be = c.step-in-Sync.ensures.lets_be;
      owns = c.step-in-Sync.ensures.owns;
      faulted = c.step-in-Sync.ensures.faulted;
      met = c.step-in-Sync.ensures.met;
      ends = c.step-in-Sync.ensures.ends;
      moves = c.step-in-Sync.ensures.moves;
      crash = c.step-in-Sync.ensures.crash;
    })

pub returns-in-AtOnce-clause-idle : goal.returns-in-AtOnce-clause-idle
returns-in-AtOnce-clause-idle g c = subst (λ p. LeavesAll (command_stands p) (g.S.Store.state c.args.store.now) c.args.store.now c.step.new.store) (sym c.in-AtOnce.is) c.step.ensures.idle

pub returns-in-Update-clause-idle : goal.returns-in-Update-clause-idle
returns-in-Update-clause-idle g c = subst (λ p. LeavesAll (command_stands p) (g.S.Store.state c.args.store.now) c.args.store.now c.step-in-Update.new.store) (sym c.in-Update.is) c.step-in-Update.ensures.idle

pub returns-in-Rollback-clause-idle : goal.returns-in-Rollback-clause-idle
returns-in-Rollback-clause-idle g c = subst (λ p. LeavesAll (command_stands p) (g.S.Store.state c.args.store.now) c.args.store.now c.step-in-Rollback.new.store) (sym c.in-Rollback.is) c.step-in-Rollback.ensures.idle

pub returns-in-Sync-clause-idle : goal.returns-in-Sync-clause-idle
returns-in-Sync-clause-idle g c = subst (λ p. LeavesAll (command_stands p) (g.S.Store.state c.args.store.now) c.args.store.now c.step-in-Sync.new.store) (sym c.in-Sync.is) c.step-in-Sync.ensures.idle
