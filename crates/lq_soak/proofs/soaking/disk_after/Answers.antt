use Rattle.lq_commands.specs.Stamp.{stamp_of}
use Rattle.lq_soak.proofs.Results.{ok_map}
use Rattle.lq_jobs.proofs.Ready.{is_ready}
use Rattle.lq_soak.proofs.SoakRuns.{did_so}
use Rattle.lq_soak.proofs.SoakStops.{ended_so, err_map}
use Rattle.lq_soak.proofs.soaking.disk_after.Goals as goal

pub on_loaded-requires-clause-ready : goal.on_loaded-requires-clause-ready
on_loaded-requires-clause-ready g c = is_ready _ _ _ _ _ _ c.in-Ok.ensures.valid c.in-Ok.ensures.new c.in-Ok.ensures.clean

pub returns-in-Ok-clause-did : goal.returns-in-Ok-clause-did
returns-in-Ok-clause-did g c =
    let soaker = c.args.soaker in
    ok_map c.on_loaded.result _ _ c.on_loaded.ensures.did (λ after does.
    did_so soaker.dialect soaker.seed.number soaker.seed.sets (stamp_of soaker.who.now soaker.reading) c.args.command.now c.in_ok-given.given _ _ _ after.left.rows after.left.tables
    c.in_ok-given.ensures.given c.in_ok-given.ensures.made c.in-Ok.ensures.told does)

pub returns-in-Ok-clause-ends : goal.returns-in-Ok-clause-ends
returns-in-Ok-clause-ends g c =
    let soaker = c.args.soaker in
    err_map c.on_loaded.result _ _ c.on_loaded.ensures.ends (λ s ended.
    ended_so soaker.dialect soaker.seed.number soaker.seed.sets (stamp_of soaker.who.now soaker.reading) c.args.command.now c.in_ok-given.given _ _ s c.in_ok-given.ensures.given c.in_ok-given.ensures.made c.in-Ok.ensures.told ended)
