use Rattle.std.proofs.Common.{refl, subst, sym}
use Rattle.lq_parts.specs.Taken.{with_renamed}
use Rattle.lq_rows.specs.Stored.{Continues}
use Rattle.lq_rows.proofs.Continued.{goes_further, goes_on}
use Rattle.lq_renames.proofs.Renamed.{still_ordered}
use Rattle.lq_renames.proofs.table.move_table.Goals as goal

pub retarget_all-requires : goal.retarget_all-requires
retarget_all-requires c = rw (c.in_ok-rename_table.ensures.ok) (still_ordered c.args.table.now c.in_ok-name.name c.args.parts.now.now c.requires.ordered)

pub returns-clause-ok : goal.returns-clause-ok
returns-clause-ok c = rw (c.in_ok-retarget_all.ensures.ok, c.in_ok-rename_table.ensures.ok, c.in_ok-name.ensures) refl

pub returns-in_err-retarget_all-clause-goes : goal.returns-in_err-retarget_all-clause-goes
returns-in_err-retarget_all-clause-goes c =
    let old = c.args.parts.now in
    goes_further old c.rename_table.new.self c.retarget_all.new.parts (subst (Continues old) (sym c.in_ok-rename_table.ensures.ok) (goes_on old (with_renamed old.now c.args.table.now c.in_ok-name.name))) c.retarget_all.ensures.goes

pub returns-clause-goes : goal.returns-clause-goes
returns-clause-goes c =
    let old = c.args.parts.now in
    goes_further old c.rename_table.new.self c.retarget_all.new.parts (subst (Continues old) (sym c.in_ok-rename_table.ensures.ok) (goes_on old (with_renamed old.now c.args.table.now c.in_ok-name.name))) c.retarget_all.ensures.goes
