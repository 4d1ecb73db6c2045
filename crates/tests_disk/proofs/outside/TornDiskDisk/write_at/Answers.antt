use Rattle.lq_outside.proofs.Tearing.{front_shorter, goes_wider}
use Rattle.tests_disk.proofs.Wider.{tears_wider}
use Rattle.tests_disk.proofs.outside.TornDiskDisk.write_at.Goals as goal

pub returns-clause-torn : goal.returns-clause-torn
returns-clause-torn g c = tears_wider _ _ _ (g.D.Disk.told c.args.self.now.disk) _ c.write_at-2.ensures.torn (front_shorter _ _)

pub returns-clause-crash : goal.returns-clause-crash
returns-clause-crash g c = goes_wider _ _ _ _ _ c.write_at-2.ensures.crash (front_shorter _ _)
