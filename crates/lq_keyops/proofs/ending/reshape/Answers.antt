use Rattle.std.proofs.Common.{Ok, ap, ◌∙◌}
use Rattle.lq_model.specs.Catalogue.{the_table, with_table}
use Rattle.lq_rows.specs.Stored.{with_shape}
use Rattle.lq_rows.proofs.Continued.{goes_on}
use Rattle.lq_arm.proofs.Arms as arm
use Rattle.lq_keyops.proofs.ending.reshape.Goals as goal

pub returns-in-Err : goal.returns-in-Err
returns-in-Err c = λ p x r. arm.arm_refused p x c.args.parts.now c.args.tests c.verdict.result c.in-Err.fault r.judged r.tested c.verdict.ensures c.in-Err.is

pub returns : goal.returns
returns c = λ p x r.
    let old = c.args.parts.now in
    let new = with_table old.now c.args.table.now (with_shape c.args.shape (the_table old.now c.args.table.now)) in
    rw (c.in_ok-shape_table.ensures.ok)
    (arm.arm_passes p x c.args.tests c.verdict.result r.judged r.tested c.verdict.ensures c.in-Ok.is ∙ ap (λ e. Ok (e, p.count)) r.result ∙ ap (λ n. Ok (new, n)) r.count, goes_on old new)
