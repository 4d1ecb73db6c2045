use Rattle.lq_commands.specs.Stamp.{stamp_of}
use Rattle.lq_db.specs.Db.{disk_in, engine_in, state}
use Rattle.lq_jobs.proofs.Copied.{memory_answers}
use Rattle.lq_jobs.proofs.CopyRoom.{ended_room, room_so}
use Rattle.lq_jobs.proofs.OnFiles.{memory_kind, memory_no_disk, memory_tells}
use Rattle.lq_jobs.proofs.OnReady.{answers_so, printing_plain, ready_kind, ready_tells, tells_so}
use Rattle.lq_jobs.proofs.WithClock.{given_dialect, given_is, given_read, given_ready, given_short, given_sql}
use Rattle.lq_jobs.proofs.copying.on_loaded.Goals as goal
use Rattle.lq_jobs.specs.Bytes.{given_at, job_of}
use Rattle.lq_jobs.specs.Jobs.{job_calls, job_refusal}

pub returns-clause-answers : goal.returns-clause-answers
returns-clause-answers g c = λ database has.
    memory_answers (job_refusal (job_of c.args.printing) (given_at c.args.asked (stamp_of c.args.who.now (g.C.Clock.last c.stamped.new.clock))) database) c.in-Err.status c.in-Err.ensures.no_memory

pub returns-clause-tells : goal.returns-clause-tells
returns-clause-tells g c = λ database has. tt

pub returns-clause-room : goal.returns-clause-room
returns-clause-room g c = tt

pub returns-clause-whole : goal.returns-clause-whole
returns-clause-whole g c = λ told. memory_tells c.args.asked.options.dialect told c.in-Err.status c.in-Err.ensures.no_memory

pub returns-clause-kind : goal.returns-clause-kind
returns-clause-kind g c = memory_kind c.in-Err.status c.in-Err.ensures.no_memory

pub returns-clause-sure : goal.returns-clause-sure
returns-clause-sure g c = λ is. memory_no_disk c.in-Err.status c.in-Err.ensures.no_memory is

pub print_on-requires-clause-valid : goal.print_on-requires-clause-valid
print_on-requires-clause-valid g c = record { journal_is = c.requires.valid.journal_is; lives = λ live. c.requires.valid }

pub print_on-requires-clause-ready : goal.print_on-requires-clause-ready
print_on-requires-clause-ready g c =
    let db = c.args.db in
    given_ready c.in-Ok.given c.args.asked c.in-Ok.ensures.given.0 c.in-Ok.ensures.given.1 (state (g.D.Disk.told (disk_in db)) (g.E.Executor.held (engine_in db)) db) c.requires.ready

pub print_on-requires-clause-sql : goal.print_on-requires-clause-sql
print_on-requires-clause-sql g c = given_sql c.in-Ok.given c.args.asked c.in-Ok.ensures.given.0 c.in-Ok.ensures.given.1 g.P.SqlText.dialect c.requires.sql

pub print_on-requires-clause-read : goal.print_on-requires-clause-read
print_on-requires-clause-read g c = given_read c.in-Ok.given c.args.asked c.in-Ok.ensures.given.0 c.in-Ok.ensures.given.1 c.requires.read

pub print_on-requires-clause-short : goal.print_on-requires-clause-short
print_on-requires-clause-short g c = given_short c.in-Ok.given c.args.asked c.in-Ok.ensures.given.0 c.in-Ok.ensures.given.1 c.requires.short

pub returns-in-Ok-clause-answers : goal.returns-in-Ok-clause-answers
returns-in-Ok-clause-answers g c = λ database has.
    let db = c.args.db in
    let made = c.in-Ok.ensures in
    let given = c.in-Ok.given in
    let stamp = stamp_of c.args.who.now (g.C.Clock.last c.stamped.new.clock) in
    c.in_memory.ensures.refused (job_refusal (job_of c.args.printing) (given_at c.args.asked stamp) database)
    (answers_so (job_of c.args.printing) c.args.asked stamp given (given_is given c.args.asked stamp made.given.0 made.given.1 made.stamp) (state (g.D.Disk.told (disk_in db)) (g.E.Executor.held (engine_in db)) db)
    c.print_on.result c.print_on.ensures.answers database has)

pub returns-in-Ok-clause-tells : goal.returns-in-Ok-clause-tells
returns-in-Ok-clause-tells g c = λ database has.
    let db = c.args.db in
    let made = c.in-Ok.ensures in
    let given = c.in-Ok.given in
    let stamp = stamp_of c.args.who.now (g.C.Clock.last c.stamped.new.clock) in
    c.in_memory.ensures.tells (job_of c.args.printing) (given_at c.args.asked stamp) database
    (tells_so (job_of c.args.printing) c.args.asked stamp given (given_is given c.args.asked stamp made.given.0 made.given.1 made.stamp) (state (g.D.Disk.told (disk_in db)) (g.E.Executor.held (engine_in db)) db)
    c.print_on.result c.print_on.ensures.tells database has)

pub returns-in-Ok-clause-room : goal.returns-in-Ok-clause-room
returns-in-Ok-clause-room g c =
    let db = c.args.db in
    let made = c.in-Ok.ensures in
    let given = c.in-Ok.given in
    let stamp = stamp_of c.args.who.now (g.C.Clock.last c.stamped.new.clock) in
    let x = state (g.D.Disk.told (disk_in db)) (g.E.Executor.held (engine_in db)) db in
    let job = job_of c.args.printing in
    ended_room c.args.asked.options.dialect (job_calls job (given_at c.args.asked stamp)) x c.in_memory.result c.print_on.result c.in_memory.ensures.ended
    (room_so job c.args.asked stamp given (given_is given c.args.asked stamp made.given.0 made.given.1 made.stamp) x c.print_on.result c.print_on.ensures.room)

pub returns-in-Ok-clause-whole : goal.returns-in-Ok-clause-whole
returns-in-Ok-clause-whole g c = λ told.
    let db = c.args.db in
    let given = c.in-Ok.given in
    c.in_memory.ensures.whole c.args.asked.options.dialect told
    (ready_tells c.args.asked.options.dialect given.options.dialect (given_dialect given c.args.asked c.in-Ok.ensures.given.0 c.in-Ok.ensures.given.1) (state (g.D.Disk.told (disk_in db)) (g.E.Executor.held (engine_in db)) db) c.requires.ready
    (job_refusal (job_of c.args.printing) given) (printing_plain c.args.printing given) c.print_on.result c.print_on.ensures.answers told)

pub returns-in-Ok-clause-kind : goal.returns-in-Ok-clause-kind
returns-in-Ok-clause-kind g c =
    let db = c.args.db in
    let given = c.in-Ok.given in
    c.in_memory.ensures.kind
    (ready_kind c.args.asked.options.dialect given.options.dialect (given_dialect given c.args.asked c.in-Ok.ensures.given.0 c.in-Ok.ensures.given.1) (state (g.D.Disk.told (disk_in db)) (g.E.Executor.held (engine_in db)) db) c.requires.ready
    (job_refusal (job_of c.args.printing) given) (printing_plain c.args.printing given) c.print_on.result c.print_on.ensures.answers)
