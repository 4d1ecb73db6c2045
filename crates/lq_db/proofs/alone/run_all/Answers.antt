use Rattle.lq_db.specs.Alone.{work}
use Rattle.lq_db.proofs.Alones.{all_done, all_through, closes_last}
use Rattle.lq_store.specs.Work.{outcome_all}
use Rattle.lq_db.proofs.alone.run_all.Goals as goal

pub returns-in-Ok : goal.returns-in-Ok
returns-in-Ok g c =
    let o = outcome_all c.args.dialect c.args.texts.now (work (g.E.Executor.held c.args.engine.now) c.args.running.now) in (
      all_done c.args.dialect o (g.E.Executor.held c.args.engine.now) (g.E.Executor.held c.loop-text.engine) c.loop-text.running c.close.new.running c.loop-text.invariant.running c.in-Ok.ensures
          (all_through c.args.dialect c.args.texts.now c.loop-text.text-index (work (g.E.Executor.held c.loop-text.engine) c.loop-text.running) o c.loop-text-test.false c.loop-text.invariant.rest) c.loop-text.invariant.stays,
      closes_last c.args.dialect (g.E.Executor.held c.loop-text.engine) c.loop-text.running c.close.new.running c.loop-text.invariant.running c.in-Ok.ensures,
    )
