use Rattle.std.proofs.Common.{Ok, ap, sym, ◌∙◌, ◌≡◌}
use Rattle.lq_base.specs.declared.dialect.Dialect.{Dialect}
use Rattle.lq_model.specs.Step.{step}
use Rattle.lq_db.proofs.LockKept.{still_seen}
use Rattle.lq_db.proofs.taking.take.Goals as goal

pub add-requires-clause-same : goal.add-requires-clause-same
add-requires-clause-same g c =
    let x = g.E.Executor.held c.args.engine.now in
    let y = g.E.Executor.held c.run.new.self in
    let ran : step c.args.by c.args.dialect c.args.statement.now x.now ≡ Ok (y.now, c.in-Ok.count) =
    ap (λ (d : Dialect). step c.args.by d c.args.statement.now x.now) (sym c.requires.dialect) ∙ c.in-Ok.ensures.0 in
    λ same. still_seen c.args.by c.args.dialect c.args.statement.now x.now y.now c.in-Ok.count c.args.begun.now.lock ran c.requires.lock (sym c.leaves_lock-is_same.ensures ∙ same)
