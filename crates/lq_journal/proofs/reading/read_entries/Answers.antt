use Rattle.std.proofs.Common.{rules, ◌-◌, length, take, drop, subst, sym, refl, ap, arith, length-append}
use Rattle.std.proofs.lemmas.List.{take_rest}
use Rattle.lq_journal.proofs.Entries.{ReadEntries, begins_read, goes_on, holds, read_is, read_fault, texts_behind}
use Rattle.lq_journal.proofs.reading.read_entries.Goals as goal

pub loop-entry-init : goal.loop-entry-init
loop-entry-init c =
    let bytes = c.args.bytes.now in
    subst (λ entries. ReadEntries bytes (take (length bytes - 16) (drop 16 bytes)) 16 entries) (sym c.new-entries.ensures)
    (begins_read bytes (take (length bytes - 16) (drop 16 bytes)) c.requires.long (take_rest bytes 16))

pub overflow_sub-at : goal.overflow_sub-at
overflow_sub-at c =
    let next = c.in-Ok-Some.ensures.entry _ c.in-Ok-Some.field-0-is in
    omega (arith, ap length next.is, length-append next.raw c.in-Ok-Some.after.now)

pub loop-entry-smaller : goal.loop-entry-smaller
loop-entry-smaller c =
    let next = c.in-Ok-Some.ensures.entry _ c.in-Ok-Some.field-0-is in
    omega (arith, ap length next.is, length-append next.raw c.in-Ok-Some.after.now)

pub loop-entry-preserved : goal.loop-entry-preserved
loop-entry-preserved c =
    let next = c.in-Ok-Some.ensures.entry _ c.in-Ok-Some.field-0-is in
    goes_on _ _ _ _ _ _ _ _ c.loop-entry.invariant next c.in_ok-take_up-in-Ok-Some.ensures refl

pub returns-in-Err-clause-fault : goal.returns-in-Err-clause-fault
returns-in-Err-clause-fault c =
    read_fault _ _ _ _ _ _ c.loop-entry.invariant c.requires.long c.requires.within c.requires.header c.in-Err.fault c.in-Err.ensures.fault

pub returns-clause-found : goal.returns-clause-found
returns-clause-found c =
    let read = c.loop-entry.invariant in
    let end = c.in-Ok-None.ensures.end (search rules) in
    record {
      stands = (read.raw, holds _ _ _ _ _ _ read c.requires.within c.requires.header end);
      read = read_is _ _ _ _ _ _ read c.requires.within c.requires.header end;
      texts_behind = texts_behind _ _ _ _ read;
    }
