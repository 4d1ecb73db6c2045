-- What holds of the meanings of statements' texts.
use Rattle.std.specs.Prelude.{List, Some, map, true, ℕ, ◌≡◌}
use Rattle.lq_base.specs.Sql.{lexemes}
use Rattle.lq_base.specs.declared.dialect.Dialect.{Dialect}
use Rattle.lq_base.specs.declared.lexeme.LexemeSort.{LexemeSort}
use Rattle.lq_model.specs.SqlText.{statement_in}
use Rattle.lq_model.specs.SqlWord.{words}
use Rattle.lq_model.specs.StatementText.{text_of}
use Rattle.lq_model.specs.Step.{is_statement}
use Rattle.lq_model.specs.declared.statement.Statement.{Statement}
use Rattle.lq_parse.specs.Laws.{plain, without_trivia}

-- a statement of the dialect is read from its text
abbrev pub StatementsReadBack : Type 0
StatementsReadBack = (d : Dialect) (s : Statement) → is_statement d s ≡ true → statement_in d (text_of d s) ≡ Some s

-- a statement that is read is one of the dialect
abbrev pub StatementsCanBeWritten : Type 0
StatementsCanBeWritten = (d : Dialect) (text : List ℕ) (s : Statement) → statement_in d text ≡ Some s → is_statement d s ≡ true

-- other blanks and comments between the words change nothing
abbrev pub BlanksChangeNoStatement : Type 0
BlanksChangeNoStatement = (d : Dialect) (a b : List ℕ) (found other : List (LexemeSort × List ℕ)) → lexemes d a ≡ Some found → lexemes d b ≡ Some other → without_trivia found ≡ without_trivia other → statement_in d a ≡ statement_in d b

-- nothing counts but the words
abbrev pub WordsAreTheStatement : Type 0
WordsAreTheStatement = (d : Dialect) (a b : List ℕ) → words d a ≡ words d b → statement_in d a ≡ statement_in d b

-- texts that are the same in the plain spelling, but for blanks and comments, have one meaning
abbrev pub SpellingsChangeNoStatement : Type 0
SpellingsChangeNoStatement = (d : Dialect) (a b : List ℕ) (found other : List (LexemeSort × List ℕ)) → lexemes d a ≡ Some found → lexemes d b ≡ Some other
    → map (plain d) (without_trivia found) ≡ map (plain d) (without_trivia other) → statement_in d a ≡ statement_in d b
