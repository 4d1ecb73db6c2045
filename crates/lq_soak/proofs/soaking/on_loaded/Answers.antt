use Rattle.std.proofs.Common.{subst, sym}
use Rattle.lq_commands.specs.Scripts.{script}
use Rattle.lq_db.specs.Db.{disk_in, engine_in}
use Rattle.lq_turns.specs.Session.{left_by}
use Rattle.lq_soak.proofs.SoakRuns.{did_on, has_it}
use Rattle.lq_soak.specs.Soaked.{DidOn}
use Rattle.lq_soak.proofs.soaking.on_loaded.Goals as goal

pub returns-clause-did : goal.returns-clause-did
returns-clause-did g c = λ database holds.
    let given = c.args.given in
    let command = c.args.command.now in
    let db = c.args.db in
    let left = c.done_on.new.store in
    let told = g.D.Disk.told in
    let crashes = g.D.Disk.crashes in
    let held = g.E.Executor.held in
    let valid = c.in_ok-done_on.ensures.valid in
    let has = has_it given g.P.SqlText.dialect (told (disk_in db)) (told (disk_in left)) (crashes (disk_in db)) (crashes (disk_in left)) (held (engine_in db)) (held (engine_in left)) db left c.requires.valid c.requires.new valid database holds in
    let leaves = c.in_ok-done_on.ensures.leaves database has in
    subst (λ disk. DidOn given command c.args.sets database (told (disk_in db)) (told disk) c.in_ok-left.left.rows c.in_ok-left.left.tables) (sym c.into_disk.ensures)
    (did_on given g.P.SqlText.dialect (told (disk_in db)) (told (disk_in left)) (crashes (disk_in db)) (crashes (disk_in left)) (held (engine_in db)) (held (engine_in left)) db left c.requires.valid c.requires.new valid database holds
    command c.args.sets c.in_ok-left.left.rows c.in_ok-left.left.tables leaves (c.in_ok-left.ensures (left_by given.options.dialect (script command given database) database) leaves.database_is))
