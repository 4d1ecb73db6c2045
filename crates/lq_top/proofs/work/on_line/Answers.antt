use Rattle.std.proofs.Common.{ap, sym, ◌∙◌}
use Rattle.std.specs.Prelude.{List, ℕ}
use Rattle.lq_commands.specs.Stamp.{stamp_of}
use Rattle.lq_top.proofs.DrillLines.{meant_same, other_given}
use Rattle.lq_top.proofs.work.on_line.Goals as goal
use Rattle.lq_jobs.specs.Asks.{given_to, loaded}

pub returns-in_default : goal.returns-in_default
returns-in_default g c =
    let line = c.args.line in
    let ran = c.on_command in
    record {
      read = ran.ensures.read;
      worked = λ plain.
          meant_same g.D.Disk.told g.D.Disk.faults g.D.Disk.crashes (g.F.Files.told c.args.files.now) (λ source. loaded source line.options.dialect c.as_slice.result.now line.root) (λ source. given_to source line)
          (λ source. ap (λ (given : List (List ℕ × List ℕ)). loaded source line.options.dialect given line.root) c.as_slice.ensures ∙ sym (other_given line.job source line plain)) line.job line.options
          (stamp_of c.args.who.now (g.C.Clock.last ran.new.clock)) c.args.disk ran.result.done ran.result.disk ran.ensures.worked;
      drilled = λ runs is. absurd (c.in_default.not-Drill runs is);
      soaks = ran.ensures.soaks;
      tag = ran.ensures.tag;
      once = λ plain. ran.ensures.once;
    }
