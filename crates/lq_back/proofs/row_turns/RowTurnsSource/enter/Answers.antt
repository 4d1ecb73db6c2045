use Rattle.std.proofs.Common.{ap, if◌then◌else◌, refl, rules, subst, sym, true, ◌∙◌, ◌≡◌, ◌++◌, ◌∷◌, []}
use Rattle.std.specs.List.{list_all}
use Rattle.lq_base.specs.declared.dialect.Dialect.{Dialect}
use Rattle.lq_model.specs.Step.{is_statement}
use Rattle.lq_seen.proofs.Leading.{not_grown}
use Rattle.lq_back.proofs.RowEntered.{none_left, row_entered, row_lacks, row_written, statements_read, turn_read}
use Rattle.lq_back.proofs.row_turns.RowTurnsSource.enter.Goals as goal
use Rattle.lq_back.specs.Reversal.{printed}

pub tell-requires : goal.tell-requires
tell-requires g c = record {
  spelled = subst (λ d. list_all (is_statement d) c.in-Some.turn.statements ≡ true) (sym c.requires.sql)
      (statements_read c.args.dialect c.args.self.now.turns c.pop.new.self c.in-Some.turn c.in-Some.ensures c.requires.reads);
}

pub of_turn-requires-clause-statements : goal.of_turn-requires-clause-statements
of_turn-requires-clause-statements g c = statements_read c.args.dialect c.args.self.now.turns c.pop.new.self c.in-Some.turn c.in-Some.ensures c.requires.reads

pub of_turn-requires-clause-row : goal.of_turn-requires-clause-row
of_turn-requires-clause-row g c = row_written c.args.dialect c.in-Some.turn (turn_read c.args.dialect c.args.self.now.turns c.pop.new.self c.in-Some.turn c.in-Some.ensures c.requires.reads)

pub returns-in-Ok-of_turn-clause-enters : goal.returns-in-Ok-of_turn-clause-enters
returns-in-Ok-of_turn-clause-enters g c =
    let source = c.args.self.now in
    let kept : c.tell.new.outcome.printed ≡ source.outcome.printed ++ (if source.prints then printed g.P.SqlText.dialect c.in-Some.turn ∷ [] else []) = search rules in
    let keeps : c.tell.new.outcome.printed ≡ source.outcome.printed ++ (if source.prints then printed c.args.dialect c.in-Some.turn ∷ [] else [])
    = kept ∙ ap (λ (d : Dialect). source.outcome.printed ++ (if source.prints then printed d c.in-Some.turn ∷ [] else [])) c.requires.sql in
    let same : c.tell.new.outcome.not_fresh ≡ source.outcome.not_fresh = search rules in
    row_entered c.args.dialect c.args.stamp.now (g.K.Look.catalogue c.args._look.now) source.turns c.pop.new.self c.in-Some.turn c.in-Some.ensures
    c.in-Ok-of_turn.hand c.in-Ok-of_turn.ensures.turn c.in-Ok-of_turn.ensures.calls c.in-Ok-of_turn.ensures.goes_on
    source refl c.tell.new.outcome
    (record { happened = (search rules); warned = (search rules); not_fresh = not_grown source.outcome.not_fresh c.tell.new.outcome.not_fresh same; halted = (search rules); stopped_at = (search rules) })
    keeps c.in-Ok-of_turn.ensures.refused

pub returns-in_default-clause-enters : goal.returns-in_default-clause-enters
returns-in_default-clause-enters g c =
    let none : c.args.self.now.turns ≡ [] = search rules in
    none_left c.args.dialect c.args.stamp.now (g.K.Look.catalogue c.args._look.now) c.args.self.now (record (c.args.self.now) { turns = c.pop.new.self }) none refl

pub returns-in_default-tell-clause-enters : goal.returns-in_default-tell-clause-enters
returns-in_default-tell-clause-enters g c =
    row_lacks c.args.dialect c.args.stamp.now (g.K.Look.catalogue c.args._look.now) c.args.self.now (record (c.args.self.now) { turns = c.pop.new.self; outcome = c.tell.new.outcome }) c.tell.ensures.warned

pub returns-in-Err-clause-enters : goal.returns-in-Err-clause-enters
returns-in-Err-clause-enters g c =
    row_lacks c.args.dialect c.args.stamp.now (g.K.Look.catalogue c.args._look.now) c.args.self.now (record (c.args.self.now) { turns = c.pop.new.self; outcome = c.tell.new.outcome }) c.tell.ensures.warned
