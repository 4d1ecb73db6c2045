use Rattle.std.proofs.Common.{rules, Some, ◌≡◌}
use Rattle.lq_sets.proofs.Turned.{gives_nothing, gives_up}
use Rattle.lq_sets.proofs.set_turns.SetTurnsSource.refused.Goals as goal

pub returns-in-Some-clause-gives_up : goal.returns-in-Some-clause-gives_up
returns-in-Some-clause-gives_up c =
    let is : c.args.self.now.turn ≡ Some c.in-Some.turn = search rules in
    λ d stamp told. gives_up c.args.self.now d stamp told c.in-Some.turn is c.take.new.self c.forget_texts.new.texts c.forget_texts.ensures c.take_back.new.outcome c.take_back.ensures

pub returns-in-None-clause-gives_up : goal.returns-in-None-clause-gives_up
returns-in-None-clause-gives_up c = λ d stamp told. gives_nothing c.args.self.now d stamp told _ (search rules)
