use Rattle.std.proofs.Common.{Some, reverse, rules, subst, ◌≡◌}
use Rattle.lq_engine.proofs.Marks.{is_sound}
use Rattle.lq_engine.proofs.Sources.{views_stand}
use Rattle.lq_engine.proofs.look.EngineLook.ask.Goals as goal
use Rattle.lq_engine.specs.State.{State}
use Rattle.lq_model.specs.Catalogue.{IsAnswer, table_of}
use Rattle.lq_model.specs.Views.{answer}

pub source_at-requires : goal.source_at-requires
source_at-requires c = views_stand c.self.inside.dialect c.self.inside.parts.now (is_sound c.self.inside.dialect c.self.inside.parts (reverse c.self.inside.starts.items) c.self.invariant)

pub returns-in-Some : goal.returns-in-Some
returns-in-Some c =
    let there : table_of c.self.inside.parts.now c.args.query.now.table ≡ Some c.in-Some.held.now.now = search rules in
    subst (λ (s : State). IsAnswer (answer c.args.by c.args.query.now s.now) c.answer_of.result) c.self.view_is (c.answer_of.ensures c.self.inside.parts.now there)

pub returns-in-None : goal.returns-in-None
returns-in-None c =
    subst (λ (s : State). IsAnswer (answer c.args.by c.args.query.now s.now) c.answer.result) c.self.view_is (c.answer.ensures c.self.inside.parts.now c.source_at.ensures)
