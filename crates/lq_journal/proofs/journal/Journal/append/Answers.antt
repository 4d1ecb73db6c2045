use Rattle.lq_journal.proofs.Opened.{still_more}
use Rattle.lq_journal.proofs.journal.Journal.append.Goals as goal

pub returns-then-exceeds-clause-any_moment : goal.returns-then-exceeds-clause-any_moment
returns-then-exceeds-clause-any_moment g c settled = still_more _ _ _ _ _ _ (g.met.D.Disk.sound c.args.self.now.disk) settled
