use Rattle.std.proofs.Common.{refl, rules}
use Rattle.lq_filled.proofs.Behind.{next_absent}
use Rattle.lq_filled.proofs.WholeLemmas.{sequence_fits, sequence_goes, sequences_are}
use Rattle.lq_filled.proofs.views.put_all_sequences.Goals as goal

pub put_sequence-requires : goal.put_sequence-requires
put_sequence-requires c =
    next_absent c.loop-name.parts.now.sequences c.pop.new.self c.loop-name.left c.in-Some.name c.in-Some.sequence c.in-Some.ensures c.loop-name.invariant.sorted

pub loop-name-init : goal.loop-name-init
loop-name-init c = record { sorted = c.requires; all = refl }

pub loop-name-preserved : goal.loop-name-preserved
loop-name-preserved c =
    let there = c.loop-name.parts.now in
    let now = c.put_sequence.new.parts.now in
    record {
      sorted = sequence_fits there now c.pop.new.self c.loop-name.left c.in-Some.name c.in-Some.sequence c.in-Some.ensures c.in_ok-put_sequence.ensures c.loop-name.invariant.sorted;
      all = sequence_goes there now _ c.pop.new.self c.loop-name.left c.in-Some.name c.in-Some.sequence c.in-Some.ensures c.in_ok-put_sequence.ensures c.loop-name.invariant.sorted c.loop-name.invariant.all;
    }

pub returns : goal.returns
returns c = sequences_are c.loop-name.parts.now _ c.loop-name.left (search rules) c.loop-name.invariant.all
