use Rattle.std.proofs.Common.{rules, subst, sym}
use Rattle.std.specs.Prelude.{IfSome, None, Some, ◌≡◌}
use Rattle.lq_players.proofs.UpdateMakes.{asked_for, stays_for, takes_turns}
use Rattle.lq_players.specs.Updating.{IsAskedFor}
use Rattle.lq_players.proofs.updating.UpdatingChecks.check.Goals as goal

pub plan-planned-requires : goal.plan-planned-requires
plan-planned-requires g c =
    let is : c.args.self.now.asked ≡ Some c.in-Some.asked = search rules in
    record { asked = asked_for c.args.dialect c.args.self.now c.in-Some.asked is c.requires.reads }

pub returns-in-Some-clause-checked : goal.returns-in-Some-clause-checked
returns-in-Some-clause-checked g c =
    let is : c.args.self.now.asked ≡ Some c.in-Some.asked = search rules in
    takes_turns c.args.dialect c.in-Some.asked (asked_for c.args.dialect c.args.self.now c.in-Some.asked is c.requires.reads) c.args._stamp.now c.requires.moment (g.K.Look.catalogue c.args.look.now)
    c.args.self.now (record (c.args.self.now) { asked = c.take.new.self }) c.take_turns.new.self is c.plan-planned.result c.plan-planned.ensures.plans c.plan-planned.ensures.refusal c.take_turns.result c.take_turns.ensures

pub returns-in-Some-clause-reads : goal.returns-in-Some-clause-reads
returns-in-Some-clause-reads g c =
    let none : c.take.new.self ≡ None = search rules in
    stays_for c.args.dialect (record (c.args.self.now) { asked = c.take.new.self }) c.take_turns.new.self none c.requires.reads.turns c.plan-planned.result c.plan-planned.ensures.reads c.take_turns.result c.take_turns.ensures

pub returns-in-None-clause-reads : goal.returns-in-None-clause-reads
returns-in-None-clause-reads g c =
    let none : c.take.new.self ≡ None = search rules in
    record { asked = subst (λ o. IfSome o (λ a. IsAskedFor a c.args.dialect)) (sym none) tt; turns = c.requires.reads.turns }
