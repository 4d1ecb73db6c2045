-- The calls of a turn as they are laid down: the last call first, so that the next to be made is the last of the list.
use Rattle.std.specs.Prelude.{Bool, List, [], if◌then◌else◌, length, reverse, ℕ, ◌++◌, ◌<◌, ◌∷◌, ◌≡◌}
use Rattle.lq_base.specs.declared.dialect.Dialect.{Dialect}
use Rattle.lq_laying.specs.declared.marking.Marking.{Marking}
use Rattle.lq_model.specs.Step.{commits_itself}
use Rattle.lq_model.specs.declared.statement.Statement.{Statement}
use Rattle.lq_turns.specs.Turn.{statement_calls}
use Rattle.lq_turns.specs.declared.call.Call.{Call}
use Rattle.lq_turns.specs.declared.call.Call.TheVariants.{Begin, Execute}
use Rattle.lq_turns.specs.declared.deed.Deed.TheVariants.{Rows, Users}
use Rattle.lq_turns.specs.declared.deed.OnRows.TheVariants.{Deleted}
use Rattle.lq_turns.specs.declared.turn.Turn.{Turn}

-- these calls are laid before those that lie there
abbrev pub Lays : List Call → List Call → List Call → Type 0
Lays calls before after = reverse after ≡ calls ++ reverse before

abbrev pub if_wanted : Bool → Call → List Call
if_wanted wanted call = if wanted then call ∷ [] else []

-- a turn whose statements are marked so
abbrev pub turn_of : Marking → Turn
turn_of m = record { identity = m.identity.now; statements = []; in_transaction = m.in_transaction; is_undo = m.is_undo; row = Deleted m.identity.now }

-- the calls of all its statements
abbrev pub marked_calls : Marking → List Statement → List Call
marked_calls m statements = statement_calls m.dialect m.who.now (turn_of m) 1 statements

-- what comes before the row, with the beginning of the row's transaction
abbrev pub begun_calls : Marking → List Statement → List Call
begun_calls m statements = if m.in_transaction then Begin ∷ marked_calls m statements else marked_calls m statements ++ Begin ∷ []

-- the calls of a turn up to its row's, and with that
abbrev pub calls_to_row : Dialect → List ℕ → Turn → List Call
calls_to_row d who turn =
    if turn.in_transaction
    then Begin ∷ statement_calls d who turn 1 turn.statements ++ Execute (Rows turn.row) ∷ []
    else statement_calls d who turn 1 turn.statements ++ Begin ∷ Execute (Rows turn.row) ∷ []

-- the last of these statements is laid down, and is told whether it commits by itself
pub record LaysLast (d : Dialect) (before : List Statement) (calls : List Call) (rest : List Statement) (now : List Call) (commits : Bool) : Type 0 where
  pub last : Statement
  pub from : before ≡ rest ++ last ∷ []
  pub told : commits ≡ commits_itself d last
  pub lays : Lays (Execute (Users last) ∷ []) calls now

-- all that is made for the last of these statements is laid down, so that the calls of all stay the same
pub record LaysOne (m : Marking) (before : List Statement) (calls : List Call) (rest : List Statement) (now : List Call) : Type 0 where
  pub same : marked_calls m rest ++ reverse now ≡ marked_calls m before ++ reverse calls
  pub fewer : length rest < length before
