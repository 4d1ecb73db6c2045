use Rattle.lq_samples.proofs.FrontSpaces.{query_stays, statement_stays, test_stays, words_stay}
use Rattle.lq_samples.proofs.trimmed.without_spaces.Goals as goal

pub returns-clause-statement : goal.returns-clause-statement
returns-clause-statement c = λ d. statement_stays d _ _ (words_stay c.lexemes_go_on.ensures d _ _ _ c.trim_start_matches.ensures.matches.0.1)

pub returns-clause-query : goal.returns-clause-query
returns-clause-query c = λ d. query_stays d _ _ (words_stay c.lexemes_go_on.ensures d _ _ _ c.trim_start_matches.ensures.matches.0.1)

pub returns-clause-test : goal.returns-clause-test
returns-clause-test c = λ d. test_stays d _ _ (words_stay c.lexemes_go_on.ensures d _ _ _ c.trim_start_matches.ensures.matches.0.1)
