use Rattle.lq_commands.proofs.Stopped.{stopping_crashes, stopping_full, stopping_leaves, stopping_left, stopping_may_run, stopping_stops, stopping_tells}
use Rattle.lq_commands.proofs.running.run_turns.Goals as goal

pub run_command-end-requires-clause-may_run : goal.run_command-end-requires-clause-may_run
run_command-end-requires-clause-may_run g c =
    let at = c.requires.ready in
    let may = c.requires.may_run at.database at.has in
    let made = c.new-runner.ensures in
    stopping_may_run g.T.Source.meaning g.T.Source.left g.T.Source.way c.new-runner.result c.args.dialect c.args.stamp c.args.source made.command.0 made.command.1 made.source made.hand made.unstopped.0 made.unstopped.1
    (g.S.Store.state c.args.store.now) at.database may.0 at.has may.1 1

pub returns-clause-leaves : goal.returns-clause-leaves
returns-clause-leaves g c = λ database has.
    let may = c.requires.may_run database has in
    let made = c.new-runner.ensures in
    stopping_leaves g.T.Source.meaning g.T.Source.left g.T.Source.way c.new-runner.result c.args.dialect c.args.stamp c.args.source made.command.0 made.command.1 made.source made.hand made.unstopped.0 made.unstopped.1
    (g.S.Store.state c.args.store.now) database may.0 has may.1 (g.S.Store.state c.run_command-end.new.store) c.run_command-end.result c.run_command-end.ensures.leaves

pub returns-clause-left : goal.returns-clause-left
returns-clause-left g c = λ database has.
    let may = c.requires.may_run database has in
    let made = c.new-runner.ensures in
    stopping_left g.T.Source.meaning g.T.Source.left g.T.Source.way c.new-runner.result c.args.dialect c.args.stamp c.args.source made.command.0 made.command.1 made.source made.hand made.unstopped.0 made.unstopped.1
    (g.S.Store.state c.args.store.now) database may.0 has may.1 c.requires.name (g.S.Store.state c.run_command-end.new.store) c.run_command-end.ensures.behind

pub returns-clause-full : goal.returns-clause-full
returns-clause-full g c = λ database has.
    let may = c.requires.may_run database has in
    let made = c.new-runner.ensures in
    stopping_full g.T.Source.meaning g.T.Source.left g.T.Source.way c.new-runner.result c.args.dialect c.args.stamp c.args.source made.command.0 made.command.1 made.source made.hand made.unstopped.0 made.unstopped.1
    (g.S.Store.state c.args.store.now) database may.0 has may.1 c.requires.name (g.S.Store.state c.run_command-end.new.store) c.run_command-end.result c.run_command-end.ensures.left

pub returns-clause-any_moment : goal.returns-clause-any_moment
returns-clause-any_moment g c = λ database has.
    let may = c.requires.may_run database has in
    let made = c.new-runner.ensures in
    stopping_crashes g.T.Source.meaning g.T.Source.left g.T.Source.way c.new-runner.result c.args.dialect c.args.stamp c.args.source made.command.0 made.command.1 made.source made.hand made.unstopped.0 made.unstopped.1
    (g.S.Store.state c.args.store.now) database may.0 has may.1 c.requires.name (g.S.Store.crashes c.args.store.now) (g.S.Store.crashes c.run_command-end.new.store) c.run_command-end.ensures.any_moment

pub returns-clause-tells : goal.returns-clause-tells
returns-clause-tells g c = λ database has told may.
    let made = c.new-runner.ensures in
    stopping_tells g.T.Source.meaning g.T.Source.left g.T.Source.way c.new-runner.result c.args.dialect c.args.stamp c.args.source made.command.0 made.command.1 made.source made.hand made.unstopped.0 made.unstopped.1
    (g.S.Store.state c.args.store.now) database told has may c.run_command-end.result c.run_command-end.new.runner.source.source c.run_command-end.ensures.tells

pub returns-clause-stops : goal.returns-clause-stops
returns-clause-stops g c = λ database has told may.
    let made = c.new-runner.ensures in
    stopping_stops g.T.Source.meaning g.T.Source.left g.T.Source.way c.new-runner.result c.args.dialect c.args.stamp c.args.source made.command.0 made.command.1 made.source made.hand made.unstopped.0 made.unstopped.1
    (g.S.Store.state c.args.store.now) database told has may c.run_command-end.result c.run_command-end.new.runner.source.source c.run_command-end.ensures.tells
