-- What is laid down, the last first, is a turn.
use Rattle.std.proofs.Common.{ap, subst, ◌∙◌}
use Rattle.std.proofs.lemmas.List.{append-nil, append_assoc}
use Rattle.std.specs.List.{list_any}
use Rattle.std.specs.Prelude.{Bool, List, [], false, if◌then◌else◌, refl, reverse, suc, true, ℕ, ◌+◌, ◌++◌, ◌∷◌, ◌≡◌}
use Rattle.lq_base.specs.declared.dialect.Dialect.{Dialect}
use Rattle.lq_model.specs.declared.statement.Statement.{Statement}
use Rattle.lq_turns.specs.Turn.{is_marked, statement_calls, turn_calls, unmark}
use Rattle.lq_turns.specs.declared.call.Call.{Call}
use Rattle.lq_turns.specs.declared.call.Call.TheVariants.{Begin, Commit, Execute}
use Rattle.lq_turns.specs.declared.deed.Deed.TheVariants.{Locks, Rows}
use Rattle.lq_turns.specs.declared.deed.OnLock.TheVariants.{Marked}
use Rattle.lq_turns.specs.declared.deed.OnRows.TheVariants.{Deleted}
use Rattle.lq_turns.specs.declared.turn.Turn.{Turn}
use Rattle.lq_laying.specs.Laying.{Lays, calls_to_row, if_wanted}
use Rattle.lq_laying.proofs.Laying.{one, then_lays}

module _ (d : Dialect) (who : List ℕ) (turn : Turn) where
  -- its marking alone
  abbrev pub bare : Turn
  bare = record { identity = turn.identity; statements = []; in_transaction = turn.in_transaction; is_undo = turn.is_undo; row = Deleted turn.identity }

  -- the calls of statements depend on no more of a turn
  same_calls : (k : ℕ) (ss : List Statement) → statement_calls d who bare k ss ≡ statement_calls d who turn k ss
  same_calls k [] = refl
  same_calls k (s ∷ ss) = ap (λ cs. one d who turn k s ++ cs) (same_calls (suc k) ss)

  joined : (whole : Bool) (calls row : List Call) → (if whole then Begin ∷ calls else calls ++ Begin ∷ []) ++ row ≡ (if whole then Begin ∷ calls ++ row else calls ++ Begin ∷ row)
  joined true calls row = refl
  joined false calls row = append_assoc calls (Begin ∷ []) row

  -- what is laid for the statements goes before what is laid for the row
  pub laid_to_row : (before now : List Call)
      → Lays ((if turn.in_transaction then Begin ∷ statement_calls d who bare 1 turn.statements else statement_calls d who bare 1 turn.statements ++ Begin ∷ []) ++ Execute (Rows turn.row) ∷ []) before now
      → Lays (calls_to_row d who turn) before now
  laid_to_row before now lays =
      lays
      ∙ ap (λ cs. ((if turn.in_transaction then Begin ∷ cs else cs ++ Begin ∷ []) ++ Execute (Rows turn.row) ∷ []) ++ reverse before) (same_calls 1 turn.statements)
      ∙ ap (λ cs. cs ++ reverse before) (joined turn.in_transaction (statement_calls d who turn 1 turn.statements) (Execute (Rows turn.row) ∷ []))

  joins : (whole : Bool) (calls row more : List Call) → (if whole then Begin ∷ calls ++ row else calls ++ Begin ∷ row) ++ more ≡ (if whole then Begin ∷ calls ++ (row ++ more) else calls ++ Begin ∷ (row ++ more))
  joins true calls row more = ap (λ cs. Begin ∷ cs) (append_assoc calls row more)
  joins false calls row more = append_assoc calls (Begin ∷ row) more

  pub end_laid : (has_marks : Bool) (old mid now : List Call) → has_marks ≡ list_any (is_marked d turn) turn.statements
      → Lays (Commit ∷ []) old mid → Lays (if_wanted has_marks (Execute (Locks (Marked who)))) mid now → Lays (unmark d who turn ++ Commit ∷ []) old now
  end_laid has_marks old mid now marked commits ends =
      subst (λ b. Lays (if_wanted b (Execute (Locks (Marked who))) ++ Commit ∷ []) old now) marked
      (then_lays (if_wanted has_marks (Execute (Locks (Marked who)))) (Commit ∷ []) old mid now commits ends)

  pub turn_laid : (first ends now : List Call) → first ≡ [] → Lays (unmark d who turn ++ Commit ∷ []) first ends → Lays (calls_to_row d who turn) ends now → reverse now ≡ turn_calls d who turn
  turn_laid first ends now none last lays =
      lays
      ∙ ap (λ cs. calls_to_row d who turn ++ cs) (last ∙ ap (λ cs. (unmark d who turn ++ Commit ∷ []) ++ reverse cs) none ∙ append-nil (unmark d who turn ++ Commit ∷ []))
      ∙ joins turn.in_transaction (statement_calls d who turn 1 turn.statements) (Execute (Rows turn.row) ∷ []) (unmark d who turn ++ Commit ∷ [])
