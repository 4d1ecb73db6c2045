use Rattle.std.proofs.Common.{refl}
use Rattle.std.specs.Prelude.{Option}
use Rattle.lq_run.specs.Commands.{LeavesAs}
use Rattle.lq_run.specs.Crashes.{LeftBehind}
use Rattle.lq_run.specs.Left.{LeftAs}
use Rattle.lq_run.specs.Stands.{no_changes}
use Rattle.lq_run.specs.Steps.{Standing}
use Rattle.lq_hand.specs.Hand.{calls_left}
use Rattle.lq_turns.specs.Deed.{contents_of}
use Rattle.lq_turns.specs.Rest.{NoMore}
use Rattle.lq_turns.specs.Script.{with_lock}
use Rattle.lq_turns.specs.Turn.{made}
use Rattle.lq_turns.specs.declared.stop.Refusal.{Refusal}
use Rattle.lq_commands.proofs.Endings.{full_as}
use Rattle.lq_commands.proofs.InOneTurn.{hand_holds, tells_as, turn_may_run, turn_tells}
use Rattle.lq_commands.proofs.Starts.{holds_so, may_so, name_so}
use Rattle.lq_commands.specs.Scripts.{one_way}
use Rattle.lq_commands.specs.Works.{CrashesIn}
use Rattle.lq_commands.proofs.running.run_hand.Goals as goal

pub run_command-requires-clause-may_run : goal.run_command-requires-clause-may_run
run_command-requires-clause-may_run g c =
    let at = c.requires.ready in
    let x = g.S.Store.state c.args.store.now in
    let r : Standing (Unit {0}) (Option Refusal) = record { hand = c.args.hand; turns = NoMore; way = λ e stamp told. one_way told; progress = c.none-runner.result; fault = c.new-runner.result.fault; refused = c.new-runner.result.refused } in
    may_so no_changes r c.new-runner.result.dialect c.args.dialect c.new-runner.ensures.command.0 c.new-runner.result.stamp c.args.stamp c.new-runner.ensures.command.1 1 x
    (turn_may_run c.args.dialect c.args.stamp r refl c.requires.inside c.requires.stops c.none-runner.ensures refl 1 x at.database at.has (c.requires.fits at.database at.has))

pub returns-clause-leaves : goal.returns-clause-leaves
returns-clause-leaves g c = λ database has.
    let x = g.S.Store.state c.args.store.now in
    let y = g.S.Store.state c.run_command.new.store in
    let r : Standing (Unit {0}) (Option Refusal) = record { hand = c.args.hand; turns = NoMore; way = λ e stamp told. one_way told; progress = c.none-runner.result; fault = c.new-runner.result.fault; refused = c.new-runner.result.refused } in
    hand_holds c.args.dialect c.args.stamp r refl c.requires.inside c.requires.stops c.none-runner.ensures refl (λ d calls on. LeavesAs d calls on x c.run_command.result y) x database has (c.requires.fits database has)
    (holds_so no_changes r c.new-runner.result.dialect c.args.dialect c.new-runner.ensures.command.0 c.new-runner.result.stamp c.args.stamp c.new-runner.ensures.command.1 (λ d calls on. LeavesAs d calls on x c.run_command.result y) x
    c.run_command.ensures.leaves)

pub returns-clause-left : goal.returns-clause-left
returns-clause-left g c = λ database has.
    let x = g.S.Store.state c.args.store.now in
    let y = g.S.Store.state c.run_command.new.store in
    let name = name_so c.new-runner.result.stamp c.args.stamp c.new-runner.ensures.command.1 c.requires.name in
    let r : Standing (Unit {0}) (Option Refusal) = record { hand = c.args.hand; turns = NoMore; way = λ e stamp told. one_way told; progress = c.none-runner.result; fault = c.new-runner.result.fault; refused = c.new-runner.result.refused } in
    hand_holds c.args.dialect c.args.stamp r refl c.requires.inside c.requires.stops c.none-runner.ensures refl (λ d calls on. LeftBehind d calls on x y) x database has (c.requires.fits database has)
    (holds_so no_changes r c.new-runner.result.dialect c.args.dialect c.new-runner.ensures.command.0 c.new-runner.result.stamp c.args.stamp c.new-runner.ensures.command.1 (λ d calls on. LeftBehind d calls on x y) x
    (c.run_command.ensures.behind name))

pub returns-clause-full : goal.returns-clause-full
returns-clause-full g c = λ database has.
    let x = g.S.Store.state c.args.store.now in
    let y = g.S.Store.state c.run_command.new.store in
    let name = name_so c.new-runner.result.stamp c.args.stamp c.new-runner.ensures.command.1 c.requires.name in
    let r : Standing (Unit {0}) (Option Refusal) = record { hand = c.args.hand; turns = NoMore; way = λ e stamp told. one_way told; progress = c.none-runner.result; fault = c.new-runner.result.fault; refused = c.new-runner.result.refused } in
    full_as c.args.dialect (with_lock c.args.stamp database (made c.args.dialect (calls_left c.args.hand) (contents_of database))) database x y c.run_command.result
    (hand_holds c.args.dialect c.args.stamp r refl c.requires.inside c.requires.stops c.none-runner.ensures refl (λ d calls on. LeftAs d calls on x c.run_command.result y) x database has (c.requires.fits database has)
    (holds_so no_changes r c.new-runner.result.dialect c.args.dialect c.new-runner.ensures.command.0 c.new-runner.result.stamp c.args.stamp c.new-runner.ensures.command.1 (λ d calls on. LeftAs d calls on x c.run_command.result y) x
    (c.run_command.ensures.left name)))

pub returns-clause-any_moment : goal.returns-clause-any_moment
returns-clause-any_moment g c = λ database has.
    let x = g.S.Store.state c.args.store.now in
    let before = g.S.Store.crashes c.args.store.now in
    let now = g.S.Store.crashes c.run_command.new.store in
    let name = name_so c.new-runner.result.stamp c.args.stamp c.new-runner.ensures.command.1 c.requires.name in
    let r : Standing (Unit {0}) (Option Refusal) = record { hand = c.args.hand; turns = NoMore; way = λ e stamp told. one_way told; progress = c.none-runner.result; fault = c.new-runner.result.fault; refused = c.new-runner.result.refused } in
    hand_holds c.args.dialect c.args.stamp r refl c.requires.inside c.requires.stops c.none-runner.ensures refl (λ d calls on. CrashesIn d calls on x before now) x database has (c.requires.fits database has)
    (holds_so no_changes r c.new-runner.result.dialect c.args.dialect c.new-runner.ensures.command.0 c.new-runner.result.stamp c.args.stamp c.new-runner.ensures.command.1 (λ d calls on. CrashesIn d calls on x before now) x
    (c.run_command.ensures.any_moment name))

pub returns-clause-tells : goal.returns-clause-tells
returns-clause-tells g c = λ database has.
    let x = g.S.Store.state c.args.store.now in
    let r : Standing (Unit {0}) (Option Refusal) = record { hand = c.args.hand; turns = NoMore; way = λ e stamp told. one_way told; progress = c.none-runner.result; fault = c.new-runner.result.fault; refused = c.new-runner.result.refused } in
    turn_tells c.args.dialect c.args.stamp r refl c.requires.inside c.requires.stops c.none-runner.ensures refl x c.run_command.result database has (c.requires.fits database has)
    (tells_as no_changes r c.new-runner.result.dialect c.args.dialect c.new-runner.ensures.command.0 c.new-runner.result.stamp c.args.stamp c.new-runner.ensures.command.1 x c.run_command.result (λ f st told. one_way told) c.run_command.ensures.tells)
