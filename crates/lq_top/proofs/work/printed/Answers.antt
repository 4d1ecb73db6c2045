use Rattle.lq_commands.specs.Stamp.{stamp_of}
use Rattle.lq_jobs.proofs.DamagedFiles.{spares_by}
use Rattle.lq_jobs.proofs.InPart.{no_goal}
use Rattle.lq_jobs.proofs.LeftOnFile.{read_since}
use Rattle.lq_jobs.proofs.SnappedOn.{prints_no_snapshot}
use Rattle.lq_jobs.proofs.Unchanged.{printed_does, prints_no_command, prints_no_goal, prints_on_file}
use Rattle.lq_jobs.proofs.UndoneOn.{prints_no_undo}
use Rattle.lq_top.proofs.work.printed.Goals as goal
use Rattle.lq_jobs.specs.Bytes.{given_at, job_of}
use Rattle.lq_jobs.specs.Jobs.{JobLeaves}

pub returns-clause-worked : goal.returns-clause-worked
returns-clause-worked g c =
    let ran = c.on_copy-done in
    let given = given_at c.args.asked (stamp_of c.args.who.now (g.C.Clock.last ran.new.clock)) in
    let told = g.D.Disk.told c.args.disk in
    record {
      used = record {
        damaged = ran.ensures.damaged;
        spares = λ beside place damaged. spares_by (job_of c.args.printing) place told ran.result (g.D.Disk.told ran.new.disk) (ran.ensures.fails place damaged) ran.ensures.told;
        safe = λ command finished. prints_no_command c.args.printing command;
        off = λ off. prints_on_file c.args.printing off;
        later = ran.ensures.later;
        fault = ran.ensures.fault;
      };
      kind = ran.ensures.kind;
      has_part = no_goal (job_of c.args.printing) ran.result (prints_no_goal c.args.printing);
      does = λ on database opens.
          printed_does c.args.printing given database told ran.result (g.D.Disk.told ran.new.disk) opens (ran.ensures.answers database opens) (ran.ensures.tells database opens) ran.ensures.room ran.ensures.told;
      any_moment = λ on database opens.
          read_since given.options.dialect (JobLeaves (job_of c.args.printing) given database told) told (g.D.Disk.crashes c.args.disk) (g.met.D.Disk.sound c.args.disk) (g.D.Disk.crashes ran.new.disk) ran.ensures.any_moment;
      undone = λ is. prints_no_undo c.args.printing is;
      snapped = λ is. prints_no_snapshot c.args.printing is;
    }
