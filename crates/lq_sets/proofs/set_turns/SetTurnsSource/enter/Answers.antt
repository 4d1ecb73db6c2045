use Rattle.std.proofs.Common.{ap, length, nat_lt, rules, ◌≡◌, ◌++◌, ◌∷◌, []}
use Rattle.std.specs.List.{list_all}
use Rattle.lq_plan.specs.declared.turns.Item.{Item}
use Rattle.lq_sets.proofs.Reached.{begins, ends, enters_one, goes_on, halts, lacks, popped_place, reads_rest}
use Rattle.lq_sets.proofs.set_turns.SetTurnsSource.enter.Goals as goal

pub loop-item-init : goal.loop-item-init
loop-item-init g c = (c.requires.reads, begins c.args.dialect c.args.stamp.now (g.K.Look.catalogue c.args.look.now) c.args.self.now)

pub try_item-requires-clause-reads : goal.try_item-requires-clause-reads
try_item-requires-clause-reads g c =
    let is : c.loop-item.self.items ≡ c.pop.new.self ++ c.in-Some.item ∷ [] = search rules in
    reads_rest c.loop-item.self c.args.dialect c.loop-item.invariant.0 c.in-Some.item c.pop.new.self is

pub try_item-requires-clause-place : goal.try_item-requires-clause-place
try_item-requires-clause-place g c =
    let is : c.loop-item.self.items ≡ c.pop.new.self ++ c.in-Some.item ∷ [] = search rules in
    popped_place c.loop-item.self c.args.dialect c.loop-item.invariant.0 c.in-Some.item c.pop.new.self is

pub loop-item-preserved : goal.loop-item-preserved
loop-item-preserved g c =
    let is : c.loop-item.self.items ≡ c.pop.new.self ++ c.in-Some.item ∷ [] = search rules in (
      c.try_item.ensures.reads,
      goes_on c.args.dialect c.args.stamp.now (g.K.Look.catalogue c.args.look.now) c.args.self.now c.loop-item.self c.loop-item.invariant.1 c.in-Some.item c.pop.new.self is c.try_item.new.self c.in-Skipped.ensures.came,
    )

pub returns-in-Turn-clause-enters : goal.returns-in-Turn-clause-enters
returns-in-Turn-clause-enters g c =
    let is : c.loop-item.self.items ≡ c.pop.new.self ++ c.in-Some.item ∷ [] = search rules in
    enters_one c.args.dialect c.args.stamp.now (g.K.Look.catalogue c.args.look.now) c.args.self.now c.loop-item.self c.loop-item.invariant.1 c.in-Some.item c.pop.new.self is c.try_item.new.self c.in-Turn.hand c.in-Turn.ensures.came

pub returns-in-Halted-clause-enters : goal.returns-in-Halted-clause-enters
returns-in-Halted-clause-enters g c =
    let is : c.loop-item.self.items ≡ c.pop.new.self ++ c.in-Some.item ∷ [] = search rules in
    halts c.args.dialect c.args.stamp.now (g.K.Look.catalogue c.args.look.now) c.args.self.now c.loop-item.self c.loop-item.invariant.1 c.in-Some.item c.pop.new.self is c.try_item.new.self c.in-Halted.ensures.came

pub returns-clause-enters : goal.returns-clause-enters
returns-clause-enters g c =
    let none : c.loop-item.self.items ≡ [] = search rules in
    ends c.args.dialect c.args.stamp.now (g.K.Look.catalogue c.args.look.now) c.args.self.now c.loop-item.self c.loop-item.invariant.1 none

pub returns-clause-reads : goal.returns-clause-reads
returns-clause-reads g c =
    let none : c.pop.new.self ≡ [] = search rules in
    let reads = c.loop-item.invariant.0 in
    record { dialect = reads.dialect; read = reads.read; within = ap (list_all (λ (item : Item). nat_lt item.index (length c.loop-item.self.changelog.sets))) none; room = reads.room }

pub returns-in-Lack-clause-enters : goal.returns-in-Lack-clause-enters
returns-in-Lack-clause-enters g c =
    let is : c.loop-item.self.items ≡ c.pop.new.self ++ c.in-Some.item ∷ [] = search rules in
    lacks c.args.dialect c.args.stamp.now (g.K.Look.catalogue c.args.look.now) c.args.self.now c.loop-item.self c.loop-item.invariant.1 c.in-Some.item c.pop.new.self is c.try_item.new.self c.in-Lack.ensures.came
