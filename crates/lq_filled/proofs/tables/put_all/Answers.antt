use Rattle.std.proofs.Common.{refl, rules}
use Rattle.lq_filled.proofs.Behind.{next_absent}
use Rattle.lq_filled.proofs.WholeLemmas.{table_fits, table_goes, tables_are}
use Rattle.lq_filled.proofs.tables.put_all.Goals as goal

pub put-requires : goal.put-requires
put-requires c =
    next_absent c.loop-name.parts.now.tables c.pop.new.self c.loop-name.left c.in-Some.name c.in-Some.table c.in-Some.ensures c.loop-name.invariant.sorted

pub loop-name-init : goal.loop-name-init
loop-name-init c = record { sorted = c.requires; all = refl }

pub loop-name-preserved : goal.loop-name-preserved
loop-name-preserved c =
    let there = c.loop-name.parts.now in
    let now = c.put.new.parts.now in
    record {
      sorted = table_fits there now c.pop.new.self c.loop-name.left c.in-Some.name c.in-Some.table c.in-Some.ensures c.in_ok-put.ensures c.loop-name.invariant.sorted;
      all = table_goes there now _ c.pop.new.self c.loop-name.left c.in-Some.name c.in-Some.table c.in-Some.ensures c.in_ok-put.ensures c.loop-name.invariant.sorted c.loop-name.invariant.all;
    }

pub returns : goal.returns
returns c = tables_are c.loop-name.parts.now _ c.loop-name.left (search rules) c.loop-name.invariant.all
