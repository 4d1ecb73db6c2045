use Rattle.std.proofs.Common.{rules}
use Rattle.lq_model.proofs.WentBack.{back}
use Rattle.lq_model.proofs.canon.Canon.go_back.Goals as goal

pub returns : goal.returns
returns c = λ before on many deep. back c.self.inside.written.items c.truncate.new.self.items c.self.inside.begun.items c.truncate-2.new.self.items c.args.mark.written c.args.mark.begun c.args.self.now before (search rules) c.truncate.ensures.items c.truncate-2.ensures.items on many deep
