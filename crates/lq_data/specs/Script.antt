-- Texts of several statements.
use Rattle.std.specs.Prelude.{Bool, List, Option, Some, [], if◌then◌else◌, not, option_and_then, option_map, ℕ, ◌∷◌}
use Rattle.lq_base.specs.declared.dialect.Dialect.{Dialect}
use Rattle.lq_model.specs.Catalogue.{is_empty}
use Rattle.lq_model.specs.SqlText.{statement_in}
use Rattle.lq_model.specs.declared.statement.Statement.{Statement}
use Rattle.lq_sqllex.specs.Pieces.{kept, pieces}

-- a text of statements as it was given, the dialect for which it was read, whether it is split, and where
pub record Script : Type 0 where
  pub dialect : Dialect
  pub sql : List ℕ
  pub split_statements : Bool
  pub end_delimiter : List ℕ

abbrev pub script : Dialect → List ℕ → Bool → List ℕ → Script
script d text split delimiter = record { dialect = d; sql = text; split_statements = split; end_delimiter = delimiter }

abbrev pub is_delimiter : List ℕ → Bool
is_delimiter delimiter = not (is_empty delimiter)

-- its pieces, or the whole as one where it is not split, without those of blanks and comments alone; none where a string, quoted name or comment of a text that is split is not closed
abbrev pub pieces_of : Script → Option (List (List ℕ))
pieces_of x = if x.split_statements then pieces x.dialect x.sql x.end_delimiter else Some (kept x.dialect (x.sql ∷ []))

-- the statement of each piece in order, where each spells one
abbrev pub all_spelled : Dialect → List (List ℕ) → Option (List Statement)
all_spelled d [] = Some []
all_spelled d (piece ∷ more) = option_and_then (λ s. option_map (λ ss. s ∷ ss) (all_spelled d more)) (statement_in d piece)

-- the statements that it spells
abbrev pub statements_in : Script → Option (List Statement)
statements_in x = option_and_then (all_spelled x.dialect) (pieces_of x)
