use Rattle.std.proofs.lemmas.Result.{on_ok_weaker}
use Rattle.std.specs.Prelude.{◌++◌}
use Rattle.lq_model.proofs.PairsOf.{both_written}
use Rattle.lq_model.proofs.written.Tuple3Written.write.Goals as goal

pub returns-clause-written : goal.returns-clause-written
returns-clause-written g c =
    on_ok_weaker c.write-3.result
    (λ last. both_written c.args.to.now.written c.write.new.to.written c.write-3.new.to.written (g.A.Written.rows c.args.self.now.0) (g.B.Written.rows c.args.self.now.1 ++ g.C.Written.rows c.args.self.now.2) c.in_ok-write.ensures.written
    (both_written c.write.new.to.written c.write-2.new.to.written c.write-3.new.to.written (g.B.Written.rows c.args.self.now.1) (g.C.Written.rows c.args.self.now.2) c.in_ok-write-2.ensures.written last))
    c.write-3.ensures.written
