use Rattle.lq_generate.specs.Faults.{fault_at}
use Rattle.lq_jobs.proofs.GeneratedOn.{memory_told, seen_again, seen_answers, seen_tells}
use Rattle.lq_jobs.proofs.generating.on_store.Goals as goal
use Rattle.lq_jobs.specs.Bytes.{state_in}

pub look-requires-clause-valid : goal.look-requires-clause-valid
look-requires-clause-valid g c = record { journal_is = c.requires.loaded.valid.journal_is; lives = λ live. c.requires.loaded.valid }

pub returns-in-Ok-clause-answers : goal.returns-in-Ok-clause-answers
returns-in-Ok-clause-answers g c = seen_answers c.args.dialect (state_in (g.D.Disk.told _) c.args.db.now) c.args.author.now _ c.in-Ok.ensures.seen c.generated.result c.generated.ensures.answers

pub returns-in-Ok-clause-tells : goal.returns-in-Ok-clause-tells
returns-in-Ok-clause-tells g c = seen_tells c.args.dialect (state_in (g.D.Disk.told _) c.args.db.now) c.args.author.now _ c.in-Ok.ensures.seen c.generated.result c.generated.ensures.tells

pub returns-in-Err-clause-answers : goal.returns-in-Err-clause-answers
returns-in-Err-clause-answers g c = λ database has. memory_told (fault_at c.args.dialect c.args.author.now database.users)

pub returns-in-Ok-clause-again : goal.returns-in-Ok-clause-again
returns-in-Ok-clause-again g c =
    let made = c.generated in
    seen_again c.args.dialect (state_in (g.D.Disk.told _) c.args.db.now) c.args.author.now _ c.in-Ok.ensures.seen c.requires.loaded.clean c.it_is_written.ensures c.it_comes_again.ensures made.result made.ensures.answers made.ensures.written

pub returns-in-Err-clause-again : goal.returns-in-Err-clause-again
returns-in-Err-clause-again g c = λ database has signed. tt
