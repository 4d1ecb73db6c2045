use Rattle.std.proofs.Common.{ap, sym, ◌∙◌}
use Rattle.lq_store.specs.Journal.{is_open}
use Rattle.tests_players.proofs.alone.by_itself.Goals as goal

pub run_alone-requires-clause-ready : goal.run_alone-requires-clause-ready
run_alone-requires-clause-ready g c =
    let waits = c.requires.unstarted in
    record { ready = waits.ready; dialect = waits.dialect; opens = ap (is_open 1) c.requires.closed ∙ sym (waits.new 1).opens }

pub run_alone-requires-clause-new : goal.run_alone-requires-clause-new
run_alone-requires-clause-new g c = c.requires.unstarted.new 1
