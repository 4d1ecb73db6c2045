use Rattle.lq_hand.specs.Hand.{calls_left}
use Rattle.lq_run.proofs.Behind.{none_left}
use Rattle.lq_run.specs.Commands.{LeavesAs}
use Rattle.lq_run.specs.Crashes.{LeftBehind}
use Rattle.lq_commands.proofs.Endings.{untouched_crashes}
use Rattle.lq_commands.proofs.Inserted.{turn_ends, turn_fits, turn_holds, turn_so}
use Rattle.lq_commands.specs.Scripts.{sync_script}
use Rattle.lq_commands.specs.Works.{CrashesIn, FullAs}
use Rattle.lq_commands.proofs.sync.run.Goals as goal

pub run_hand-requires-clause-inside : goal.run_hand-requires-clause-inside
run_hand-requires-clause-inside g c = (c.in_ok-hand.ensures.turn c.args.given.options.dialect).inside

pub run_hand-requires-clause-turn : goal.run_hand-requires-clause-turn
run_hand-requires-clause-turn g c = (c.in_ok-hand.ensures.turn c.args.given.options.dialect).turn

pub run_hand-requires-clause-holds : goal.run_hand-requires-clause-holds
run_hand-requires-clause-holds g c = turn_holds c.args.given c.args.before.now c.args.made c.requires.rows (calls_left c.in_ok-hand.hand) c.in_ok-hand.ensures.calls

pub run_hand-requires-clause-fits : goal.run_hand-requires-clause-fits
run_hand-requires-clause-fits g c = λ database has.
    turn_fits c.args.given c.args.before.now c.args.made c.requires.rows (calls_left c.in_ok-hand.hand) c.in_ok-hand.ensures.calls c.requires.some database (c.requires.before database has) c.requires.moment c.requires.short

pub returns-in_err-hand-clause-left : goal.returns-in_err-hand-clause-left
returns-in_err-hand-clause-left g c = λ database has. none_left c.args.given.options.dialect (sync_script c.args.given database) database (g.S.Store.state c.args.store.now) has

pub returns-in_err-hand-clause-any_moment : goal.returns-in_err-hand-clause-any_moment
returns-in_err-hand-clause-any_moment g c = λ database has. untouched_crashes c.args.given.options.dialect (sync_script c.args.given database) database (g.S.Store.state c.args.store.now) (g.S.Store.crashes c.args.store.now)

pub returns-clause-leaves : goal.returns-clause-leaves
returns-clause-leaves g c = λ database has.
    let x = g.S.Store.state c.args.store.now in
    let y = g.S.Store.state c.run_hand.new.store in
    turn_so c.args.given c.args.before.now c.args.made c.requires.rows (calls_left c.in_ok-hand.hand) c.in_ok-hand.ensures.calls c.requires.some database (c.requires.before database has)
    (λ calls. LeavesAs c.args.given.options.dialect calls database x c.run_hand.result y) (c.run_hand.ensures.leaves database has)

pub returns-clause-left : goal.returns-clause-left
returns-clause-left g c = λ database has.
    let x = g.S.Store.state c.args.store.now in
    let y = g.S.Store.state c.run_hand.new.store in
    turn_so c.args.given c.args.before.now c.args.made c.requires.rows (calls_left c.in_ok-hand.hand) c.in_ok-hand.ensures.calls c.requires.some database (c.requires.before database has)
    (λ calls. LeftBehind c.args.given.options.dialect calls database x y) (c.run_hand.ensures.left database has)

pub returns-clause-full : goal.returns-clause-full
returns-clause-full g c = λ database has.
    let x = g.S.Store.state c.args.store.now in
    turn_so c.args.given c.args.before.now c.args.made c.requires.rows (calls_left c.in_ok-hand.hand) c.in_ok-hand.ensures.calls c.requires.some database (c.requires.before database has)
    (λ calls. FullAs c.args.given.options.dialect calls database x c.run_hand.result (g.S.Store.state c.run_hand.new.store)) (c.run_hand.ensures.full database has)

pub returns-clause-any_moment : goal.returns-clause-any_moment
returns-clause-any_moment g c = λ database has.
    let x = g.S.Store.state c.args.store.now in
    let before = g.S.Store.crashes c.args.store.now in
    let now = g.S.Store.crashes c.run_hand.new.store in
    turn_so c.args.given c.args.before.now c.args.made c.requires.rows (calls_left c.in_ok-hand.hand) c.in_ok-hand.ensures.calls c.requires.some database (c.requires.before database has)
    (λ calls. CrashesIn c.args.given.options.dialect calls database x before now) (c.run_hand.ensures.any_moment database has)

pub returns-clause-tells : goal.returns-clause-tells
returns-clause-tells g c =
    let at = c.requires.ready in
    turn_ends c.args.given c.args.before.now c.args.made c.requires.rows (calls_left c.in_ok-hand.hand) c.in_ok-hand.ensures.calls at.database c.run_hand.result (c.requires.before at.database at.has)
    (c.run_hand.ensures.tells at.database at.has)
