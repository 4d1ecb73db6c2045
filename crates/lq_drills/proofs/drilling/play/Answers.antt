use Rattle.std.proofs.Common.{ap, refl, subst}
use Rattle.std.specs.Prelude.{Err}
use Rattle.lq_drill.specs.Drill.{FailsBy}
use Rattle.lq_players.specs.AnyCommand.{command_stands, works}
use Rattle.lq_playing.specs.Answers.{as_failed}
use Rattle.lq_drills.proofs.DrillAnswers.{fault_answers, told_answers}
use Rattle.lq_drills.proofs.DrillPlayed.{disk_fault, fault_full, fault_kind, played_ends, played_kind, tells_no_disk, tells_not_full}
use Rattle.lq_drills.proofs.drilling.play.Goals as goal
use Rattle.lq_drills.specs.Players.{PlayEnds}

pub returns-in-Ok-clause-plays : goal.returns-in-Ok-clause-plays
returns-in-Ok-clause-plays g c =
    let ran = c.drill_commands in
    let x = g.S.Store.state c.args.store.now in
    record {
      last = ran.new.players.items;
      as_many = ran.ensures.count;
      kind = played_kind c.args.cast.commands c.deref.result.now c.tell.result c.tell.ensures.done c.tell.ensures.no_memory;
      met = ran.ensures.met;
      ends = subst (λ last. PlayEnds c.args.cast.commands last (g.S.Store.state ran.new.store) c.tell.result) c.deref.ensures.value (played_ends c.args.cast.commands c.deref.result.now (g.S.Store.state ran.new.store) c.tell.result (c.in-Ok.ensures.live refl) c.tell.ensures.done);
      answered = told_answers ran.new.players.items c.tell.result c.tell.ensures.no_memory c.in-Ok.ensures.ends;
      clean = ran.ensures.clean;
      until = ran.ensures.until;
      crash = ran.ensures.crash;
      left = ran.ensures.left;
      cause = λ tasks database stands have. tells_not_full c.tell.result c.tell.ensures.no_memory (FailsBy command_stands (works x.dialect tasks) x database as_failed c.args.steps.now ran.new.players.items (g.S.Store.state ran.new.store));
      serial = ran.ensures.serial;
      in_turn = ran.ensures.in_turn;
    }

pub returns-in-Ok-clause-rose : goal.returns-in-Ok-clause-rose
returns-in-Ok-clause-rose g c = λ is. absurd (tells_no_disk c.tell.result c.tell.ensures.no_memory is)

pub returns-in-Err-clause-plays : goal.returns-in-Err-clause-plays
returns-in-Err-clause-plays g c =
    let ran = c.drill_commands in
    let x = g.S.Store.state c.args.store.now in
    record {
      last = ran.new.players.items;
      as_many = ran.ensures.count;
      kind = fault_kind c.in-Err.fault c.drill_status.result c.drill_status.ensures;
      met = ran.ensures.met;
      ends = tt;
      answered = fault_answers ran.new.players.items c.in-Err.fault c.drill_status.result c.drill_status.ensures c.in-Err.ensures.ends;
      clean = ran.ensures.clean;
      until = ran.ensures.until;
      crash = ran.ensures.crash;
      left = ran.ensures.left;
      cause = λ tasks database stands have. fault_full c.in-Err.fault c.drill_status.result c.drill_status.ensures (FailsBy command_stands (works x.dialect tasks) x database as_failed c.args.steps.now ran.new.players.items (g.S.Store.state ran.new.store)) (c.in-Err.ensures.cause tasks database stands have);
      serial = ran.ensures.serial;
      in_turn = ran.ensures.in_turn;
    }

pub returns-in-Err-clause-rose : goal.returns-in-Err-clause-rose
returns-in-Err-clause-rose g c = λ is. c.in-Err.ensures.rose (ap Err (disk_fault c.in-Err.fault c.drill_status.result c.drill_status.ensures is))
