use Rattle.std.proofs.Common.{subst, sym}
use Rattle.lq_kinds.specs.ReadFor.{AreFor}
use Rattle.lq_kinds.specs.declared.change_set.Changelog.{Changelog}
use Rattle.lq_sets.specs.Counting.{HasLooked, changes_before}
use Rattle.lq_sets.proofs.Turned.{looks_on, looks_past}
use Rattle.lq_sets.proofs.set_turns.SetTurnsSource.looks.Goals as goal

pub look_at-requires : goal.look_at-requires
look_at-requires g c = record { read = subst (λ log. AreFor c.args.dialect log) (sym c.get.ensures) c.requires.reads.read }

pub returns-in-Some-clause-looks : goal.returns-in-Some-clause-looks
returns-in-Some-clause-looks g c = λ stamp told.
    looks_on c.args.self.now c.args.dialect stamp told (g.K.Look.catalogue c.args.look.now) c.in-Some.turn c.look_at.new.turn c.in-Some.is c.look_at.ensures.same
    (subst (λ (log : Changelog). HasLooked c.args.dialect (changes_before log.sets c.args.self.now.next) (g.K.Look.catalogue c.args.look.now) c.in-Some.turn c.look_at.new.turn) c.get.ensures c.look_at.ensures.looked)

pub returns-in-None-clause-looks : goal.returns-in-None-clause-looks
returns-in-None-clause-looks g c = λ stamp told. looks_past c.args.self.now c.args.dialect stamp told (g.K.Look.catalogue c.args.look.now) c.in-None.is
