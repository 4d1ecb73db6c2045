use Rattle.std.proofs.Common.{◌≡◌, ◌∷◌, [], ◌++◌, ◌∙◌, sym, ap, rules}
use Rattle.lq_statement.proofs.Clauses.{clauses_are, last_clause, with_clauses}
use Rattle.lq_statement.proofs.column.column_with.Goals as goal

pub loop-clause-init : goal.loop-clause-init
loop-clause-init c = clauses_are c.args.name c.args.kind c.args.clauses

pub loop-clause-preserved : goal.loop-clause-preserved
loop-clause-preserved c =
    let popped : c.loop-clause.clauses ≡ c.pop.new.self ++ c.in-Some.clause ∷ [] = search rules in
    rw c.with_clause-column.ensures (sym (ap (λ cs. with_clauses cs c.loop-clause.column) popped ∙ last_clause c.pop.new.self c.in-Some.clause c.loop-clause.column) ∙ c.loop-clause.invariant)
