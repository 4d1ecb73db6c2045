use Rattle.std.proofs.Common.{ap, List, ◌++◌}
use Rattle.std.specs.Prelude.{reverse}
use Rattle.lq_base.specs.declared.run.Printed.{Printed}
use Rattle.lq_seen.proofs.Leading.{leads_begin}
use Rattle.lq_seen.specs.Telling.{shown}
use Rattle.lq_back.proofs.RowsBack.{of_dialect}
use Rattle.lq_back.proofs.Spelled.{turns_back_spelled}
use Rattle.lq_back.proofs.row_turns.RowTurns.new.Goals as goal
use Rattle.lq_turns.specs.Printed.{printed_back}
use Rattle.lq_turns.specs.Script.{all_rolled}

pub returns-clause-turns : goal.returns-clause-turns
returns-clause-turns c = c.in_ok-turns.ensures

pub returns-clause-knows : goal.returns-clause-knows
returns-clause-knows c = λ z.
    let turns = reverse c.in_ok-turns.turns in
    record {
      settles = leads_begin c.new-outcome.result (all_rolled c.args.dialect turns z) c.new-outcome.ensures.done.0 c.new-outcome.ensures.done.1 c.new-outcome.ensures.done.2 c.new-outcome.ensures.unstopped.0 c.new-outcome.ensures.unstopped.1;
      prints = ap (λ (ps : List Printed). ps ++ shown c.args.prints c.args.dialect (printed_back c.args.dialect turns z)) c.new-outcome.ensures.unprinted;
    }

pub returns-clause-reads : goal.returns-clause-reads
returns-clause-reads c =
    turns_back_spelled c.args.dialect (of_dialect c.args.dialect) c.args.changelog.now (reverse c.args.rows.now) (reverse c.in_ok-turns.turns) c.requires.read (c.in_ok-turns.ensures (of_dialect c.args.dialect))
