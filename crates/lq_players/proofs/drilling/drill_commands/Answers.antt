use Rattle.lq_players.proofs.Drilled.{all_new, all_ready, begins_with, none_is_early}
use Rattle.lq_players.specs.AnyCommand.{works}
use Rattle.lq_players.proofs.drilling.drill_commands.Goals as goal

pub drill-requires-clause-ready : goal.drill-requires-clause-ready
drill-requires-clause-ready g c = all_ready g.P.SqlText.dialect c.args.players.now.items c.requires.unstarted (g.S.Store.state c.args.store.now) c.requires.closed

pub drill-requires-clause-new : goal.drill-requires-clause-new
drill-requires-clause-new g c = all_new g.P.SqlText.dialect c.args.players.now.items c.requires.unstarted

pub returns-clause-clean : goal.returns-clause-clean
returns-clause-clean g c = λ tasks database stands have faultless.
    let origin = g.S.Store.state c.args.store.now in
    c.drill.ensures.clean (works origin.dialect tasks) database (begins_with c.names_are_apart.ensures origin tasks database c.args.players.now.items stands have) faultless

pub returns-clause-until : goal.returns-clause-until
returns-clause-until g c = λ tasks database stands have.
    let origin = g.S.Store.state c.args.store.now in
    c.drill.ensures.until (works origin.dialect tasks) database (begins_with c.names_are_apart.ensures origin tasks database c.args.players.now.items stands have)

pub returns-clause-serial : goal.returns-clause-serial
returns-clause-serial g c = λ tasks database stands have faultless none.
    let origin = g.S.Store.state c.args.store.now in
    c.drill.ensures.serial (works origin.dialect tasks) database (begins_with c.names_are_apart.ensures origin tasks database c.args.players.now.items stands have) faultless (none_is_early origin.dialect tasks database c.args.steps.now none)

pub returns-clause-in_turn : goal.returns-clause-in_turn
returns-clause-in_turn g c = λ tasks database stands have faultless in_turn.
    let origin = g.S.Store.state c.args.store.now in
    c.drill.ensures.serial (works origin.dialect tasks) database (begins_with c.names_are_apart.ensures origin tasks database c.args.players.now.items stands have) faultless in_turn

pub returns-clause-crash : goal.returns-clause-crash
returns-clause-crash g c = λ tasks database stands have.
    let origin = g.S.Store.state c.args.store.now in
    c.drill.ensures.crash (works origin.dialect tasks) database (begins_with c.names_are_apart.ensures origin tasks database c.args.players.now.items stands have)

pub returns-clause-left : goal.returns-clause-left
returns-clause-left g c = λ tasks database stands have.
    let origin = g.S.Store.state c.args.store.now in
    c.drill.ensures.left (works origin.dialect tasks) database (begins_with c.names_are_apart.ensures origin tasks database c.args.players.now.items stands have)

pub returns-clause-cause : goal.returns-clause-cause
returns-clause-cause g c = λ tasks database stands have.
    let origin = g.S.Store.state c.args.store.now in
    c.drill.ensures.cause (works origin.dialect tasks) database (begins_with c.names_are_apart.ensures origin tasks database c.args.players.now.items stands have)
