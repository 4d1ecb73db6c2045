use Rattle.std.proofs.Common.{refl, sym, ◌∙◌}
use Rattle.lq_rehearsal.proofs.RehearsalJobs.{again_run}
use Rattle.lq_rehearsal.proofs.Rehearsed.{lacking_run}
use Rattle.lq_commands.specs.Rehearsal.{updates_again}
use Rattle.lq_rehearsal.proofs.rehearsal.update_again.Goals as goal

pub returns-in-Err-clause-did : goal.returns-in-Err-clause-did
returns-in-Err-clause-did g c =
    lacking_run g.S.Store.state g.S.Store.crashes c.args.given.options.dialect (updates_again c.args.given) c.args.store.now _ refl

pub update_on-requires-clause-rows : goal.update_on-requires-clause-rows
update_on-requires-clause-rows g c = λ database has. c.in-Ok.ensures.rows database has ∙ sym c.as_slice.ensures

pub returns-clause-did : goal.returns-clause-did
returns-clause-did g c =
    again_run g.S.Store.state g.S.Store.crashes c.args.given c.args.store.now c.update_on.new.store c.update_on.result c.requires.ready c.update_on.ensures.answers c.update_on.ensures.works c.update_on.ensures.any_moment c.update_on.ensures.tells
