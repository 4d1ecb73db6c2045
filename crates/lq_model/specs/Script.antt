-- The writing calls of a command that runs alone, and what they leave in the journal.
use Rattle.std.specs.Prelude.{Bool, List, [], false, filter, map, true, ◌++◌, ◌∷◌}
use Rattle.lq_model.specs.declared.caller.By.{By}
use Rattle.lq_model.specs.declared.caller.By.TheVariants.{Program, User}
use Rattle.lq_model.specs.declared.caller.Room.{Room}
use Rattle.lq_model.specs.declared.statement.Statement.{Statement}

-- a statement, and on whose behalf it runs
abbrev pub Made : Type 0
Made = By × Statement

pub data Call : Type 0 where
  -- begins, executes each statement and commits
  alone : List Made → Room → Call
  begin : Call
  execute : By → Statement → Call
  commit : Call
  abort : Call

-- a commit without statements leaves nothing
abbrev pub if_any : {A : Type 0} → List A → List (List A)
if_any [] = []
if_any (x ∷ xs) = (x ∷ xs) ∷ []

-- what each commit of the calls has committed, the transaction begun having these statements already
abbrev pub commits_after : List Made → List Call → List (List Made)
commits_after begun [] = []
commits_after begun (alone made room ∷ calls) = if_any made ++ commits_after [] calls
commits_after begun (begin ∷ calls) = commits_after [] calls
commits_after begun (execute by s ∷ calls) = commits_after (begun ++ (by, s) ∷ []) calls
commits_after begun (commit ∷ calls) = if_any begun ++ commits_after [] calls
commits_after begun (abort ∷ calls) = commits_after [] calls

abbrev pub commits : List Call → List (List Made)
commits calls = commits_after [] calls

abbrev pub statements_in : List Made → List Statement
statements_in made = map (λ m. m.1) made

-- the journal entries that the calls append where no statement commits by itself
abbrev pub entries : List Call → List (List Statement)
entries calls = map statements_in (commits calls)

abbrev pub is_user : By → Bool
is_user User = true
is_user Program = false

-- the users' statements of each commit
abbrev pub printed : List Call → List (List Statement)
printed calls = map (λ made. statements_in (filter (λ m. is_user m.0) made)) (commits calls)
