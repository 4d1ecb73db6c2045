-- What the examples say of a list of statements, queries or tests beside their texts.
use Rattle.std.specs.Prelude.{◌≡◌, ℕ, true, List, [], ◌∷◌, map, Some, None}
use Rattle.lq_base.specs.declared.dialect.Dialect.{Dialect}
use Rattle.lq_model.specs.Comparison.{is_spelled}
use Rattle.lq_model.specs.SqlText.{query_in, statement_in, test_in}
use Rattle.lq_model.specs.Step.{is_query, is_statement}
use Rattle.lq_model.specs.StatementText.{text_of}
use Rattle.lq_model.specs.TestText.{query_text, test_text}
use Rattle.lq_model.specs.declared.query.Query.{Query}
use Rattle.lq_model.specs.declared.statement.Statement.{Statement}
use Rattle.lq_model.specs.declared.test.Test.{Test}

-- the bytes of `é`
abbrev pub e_acute : List ℕ
e_acute = 195 ∷ 169 ∷ []

-- statements of the dialect, which are written as these texts and read from them
abbrev pub Spell : Dialect → List (Statement × List ℕ) → Type 0
Spell d rows =
    (map (λ row. is_statement d row.0) rows ≡ map (λ row. true) rows)
    × (map (λ row. text_of d row.0) rows ≡ map (λ row. row.1) rows)
    × (map (λ row. statement_in d row.1) rows ≡ map (λ row. Some row.0) rows)

-- likewise queries
abbrev pub SpellQueries : Dialect → List (Query × List ℕ) → Type 0
SpellQueries d rows =
    (map (λ row. is_query d row.0) rows ≡ map (λ row. true) rows)
    × (map (λ row. query_text d row.0) rows ≡ map (λ row. row.1) rows)
    × (map (λ row. query_in d row.1) rows ≡ map (λ row. Some row.0) rows)

-- likewise tests
abbrev pub SpellTests : Dialect → List (Test × List ℕ) → Type 0
SpellTests d rows =
    (map (λ row. is_spelled (Some row.0)) rows ≡ map (λ row. true) rows)
    × (map (λ row. test_text d row.0) rows ≡ map (λ row. row.1) rows)
    × (map (λ row. test_in d row.1) rows ≡ map (λ row. Some row.0) rows)

-- other texts that are read as these statements
abbrev pub Mean : Dialect → List (Statement × List ℕ) → Type 0
Mean d rows = map (λ row. statement_in d row.1) rows ≡ map (λ row. Some row.0) rows

-- texts that are no statement of the dialect
abbrev pub SpellNothing : Dialect → List (List ℕ) → Type 0
SpellNothing d texts = map (statement_in d) texts ≡ map (λ text. None) texts
