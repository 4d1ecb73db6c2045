use Rattle.std.proofs.Common.{rules, tests, ◌<◌, length, sym}
use Rattle.lq_entries.proofs.Each.{parts, sized}
use Rattle.lq_entries.proofs.writing.size_of_all.Goals as goal

pub loop-entry-preserved : goal.loop-entry-preserved
loop-entry-preserved c =
    let tested = c.loop-entry-test.true in
    let less : c.loop-entry.entry-index < length c.args.entries.now = search (rules, tests) in
    let next = parts c.args.entries.now c.loop-entry.entry-index c.entry-item.result c.entry-item.result less (sym c.entry-item.is) in
    sized _ _ c.entry-item.result _ _ _ next c.loop-entry.invariant c.size.ensures.value c.in-Some.ensures
