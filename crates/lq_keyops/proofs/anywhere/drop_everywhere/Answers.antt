use Rattle.std.proofs.Common.{Some, ap, is_some, subst, sym}
use Rattle.lq_keyops.specs.Targets.{Finds}
use Rattle.lq_keyops.proofs.TableLemmas as lemma
use Rattle.lq_keyops.proofs.anywhere.drop_everywhere.Goals as goal

pub loop-table-init : goal.loop-table-init
loop-table-init c = lemma.starts c.args.name.now c.args.parts.now c.requires

pub drop_there-requires : goal.drop_there-requires
drop_there-requires c =
    let found = subst (λ t. Finds c.args.name.now c.tables.result.now (Some t)) (sym c.in_ok-table.ensures) c.in-Some.ensures in
    ap is_some (lemma.there c.args.name.now c.in_ok-table.table c.tables.result.now c.loop-table.parts.now c.tables.ensures c.loop-table.invariant.ordered found).here

pub loop-table-smaller : goal.loop-table-smaller
loop-table-smaller c =
    let found = subst (λ t. Finds c.args.name.now c.tables.result.now (Some t)) (sym c.in_ok-table.ensures) c.in-Some.ensures in
    (lemma.after c.args.name.now c.in_ok-table.table c.args.parts.now c.loop-table.parts c.drop_there.new.parts c.tables.result.now c.loop-table.invariant c.tables.ensures found c.in_ok-drop_there.ensures.ok).1

pub loop-table-preserved : goal.loop-table-preserved
loop-table-preserved c =
    let found = subst (λ t. Finds c.args.name.now c.tables.result.now (Some t)) (sym c.in_ok-table.ensures) c.in-Some.ensures in
    (lemma.after c.args.name.now c.in_ok-table.table c.args.parts.now c.loop-table.parts c.drop_there.new.parts c.tables.result.now c.loop-table.invariant c.tables.ensures found c.in_ok-drop_there.ensures.ok).0

pub returns-clause-now : goal.returns-clause-now
returns-clause-now c = lemma.ends c.args.name.now c.args.parts.now c.loop-table.parts c.tables.result.now c.loop-table.invariant c.tables.ensures c.in_default.ensures
