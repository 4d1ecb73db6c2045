-- The words of formatted SQL, and what they ask for.
use Rattle.std.specs.Prelude.{Bool, List, None, Option, Some, [], codes, false, if◌then◌else◌, is_some, length, nat_le, take, ℕ, ◌&&◌, ◌==◌, ◌||◌, ◌∷◌}
use Rattle.std.specs.Str.{bytes_eq, str_eq_ignore_ascii_case}
use Rattle.lq_sqlfile.specs.declared.part.Directive.{Directive}
use Rattle.lq_sqlfile.specs.declared.part.Directive.TheVariants as directive
use Rattle.lq_sqlfile.specs.declared.part.Part.{Part}
use Rattle.lq_sqlfile.specs.declared.part.Part.TheVariants as part

-- what follows those bytes, if the text begins with them
unfoldable pub after : List ℕ → List ℕ → Option (List ℕ)
after [] text = Some text
after (m ∷ ms) [] = None
after (m ∷ ms) (b ∷ bs) = if m == b then after ms bs else None

-- the same word in any ASCII case
unfoldable pub is_word : List ℕ → List ℕ → Bool
is_word text word = str_eq_ignore_ascii_case text word

-- ---- directives

-- another word that begins with `precondition`
abbrev pub is_other_condition : List ℕ → Bool
is_other_condition name = nat_le 12 (length name) && is_word (take 12 name) (codes "precondition")

-- what the first word asks for, if it is a directive's
unfoldable pub directive_of : List ℕ → Option Directive
directive_of name =
    if is_word name (codes "changeset") then Some directive.ChangeSet
    else (if is_word name (codes "comment") then Some directive.Comment
    else (if is_word name (codes "comment:") then Some directive.Comment
    else (if is_word name (codes "preconditions") then Some directive.Conditions
    else (if is_word name (codes "precondition-sql-check") then Some directive.Check
    else (if is_word name (codes "rollback") then Some directive.Rollback
    else (if is_other_condition name then Some directive.OtherCondition
    else None))))))

-- a line without a directive: a comment of SQL begins with `--`, all else is a line of the body
abbrev pub plain_part : List ℕ → Part
plain_part line = if is_some (after (codes "--") line) then part.Note else part.Body line

-- ---- names with values

-- what a changeset's heading may name
unfoldable pub attribute_words : List (List ℕ)
attribute_words =
    codes "context" ∷ codes "contextFilter" ∷ codes "labels" ∷ codes "dbms" ∷ codes "runAlways" ∷ codes "runOnChange"
    ∷ codes "failOnError" ∷ codes "runInTransaction" ∷ codes "logicalFilePath" ∷ codes "ignore"
    ∷ codes "splitStatements" ∷ codes "endDelimiter" ∷ codes "stripComments" ∷ []

-- what a line of preconditions may name
abbrev pub condition_words : List (List ℕ)
condition_words = codes "onFail" ∷ codes "onError" ∷ []

-- the word that the name is in any ASCII case
abbrev pub known : List (List ℕ) → List ℕ → Option (List ℕ)
known [] name = None
known (w ∷ ws) name = if is_word name w then Some w else known ws name

-- the name is given
abbrev pub has_name : List ℕ → List (List ℕ × List ℕ) → Bool
has_name name [] = false
has_name name (p ∷ ps) = bytes_eq p.0 name || has_name name ps

-- the first value of a name
abbrev pub value_of : List ℕ → List (List ℕ × List ℕ) → Option (List ℕ)
value_of name [] = None
value_of name (p ∷ ps) = if bytes_eq p.0 name then Some p.1 else value_of name ps
