-- The turn of a changeset can be made: its statements are of the dialect, and its row has a moment of the calendar.
use Rattle.std.proofs.Common.{ap, arith, sym, subst, refl, ◌≡◌, ◌≤◌, ◌∙◌, ◌&&◌, ◌∷◌, Bool, false, true, List, [], None, Option, Some, if◌then◌else◌, pos, ℕ}
use Rattle.std.proofs.Math.Nat.{max-eq_left}
use Rattle.std.proofs.lemmas.Int.{ints}
use Rattle.std.specs.List.{list_all}
use Rattle.lq_base.specs.Moment.{IsMoment}
use Rattle.lq_base.specs.declared.dialect.Dialect.{Dialect}
use Rattle.lq_base.specs.declared.tracking.Exec.{Exec}
use Rattle.lq_base.specs.declared.tracking.Exec.TheVariants as exec
use Rattle.lq_base.specs.declared.tracking.Tracked.{Tracked}
use Rattle.lq_expr.specs.declared.options.Options.{Options}
use Rattle.lq_hand.specs.Hand.{IsWritable}
use Rattle.lq_any.specs.AnyChange.{is_for}
use Rattle.lq_kinds.specs.declared.change_set.ChangeSet.{ChangeSet}
use Rattle.lq_model.proofs.Lists.{and_right}
use Rattle.lq_model.specs.Step.{is_statement}
use Rattle.lq_model.specs.declared.statement.Statement.{Statement}
use Rattle.lq_seen.proofs.Spelled.{statements_spelled}
use Rattle.lq_seen.specs.Telling.{with_texts}
use Rattle.lq_seen.specs.View.{any_meaning, view}
use Rattle.lq_sets.specs.Counting.{runs}
use Rattle.lq_sets.specs.SetTurns.{texts_by}
use Rattle.lq_turns.specs.Set.{statements_of}
use Rattle.lq_turns.specs.Script.{turn_by}
use Rattle.lq_turns.specs.Settle.{exec_of, fill_turn, greatest, mark_turn, record_in, row_for, run_turn}
use Rattle.lq_turns.specs.declared.choice.Choice.{Choice}
use Rattle.lq_turns.specs.declared.choice.Choice.TheVariants.{Fills, Halts, Marks, Passes, Runs, Skips}
use Rattle.lq_turns.specs.declared.choice.What.{What}
use Rattle.lq_turns.specs.declared.choice.What.TheVariants.{Again, Fill, New}
use Rattle.lq_turns.specs.declared.deed.Deed.TheVariants.{Rows}
use Rattle.lq_turns.specs.declared.stamp.Stamp.{Stamp}
use Rattle.lq_turns.specs.declared.turn.Turn.{Turn}

is_moment : (n : ℕ) → n ≤ 253402300799999 → IsMoment (pos n)
is_moment n most = (omega (arith, ints), omega (arith, ints))

module _ (d : Dialect) (stamp : Stamp) (x : ChangeSet) (last : ℕ) (read : list_all (is_for d) x.changes ≡ true) (moment : stamp.reading ≤ 253402300799999) where
  abbrev any : Options
  any = record { dialect = d; contexts = []; labels = None }

  abbrev one_row : List Tracked
  one_row = row_for 0 last exec.Executed (view any x) ∷ []

  abbrev CanBeMade : Turn → Type 0
  CanBeMade turn = (list_all (is_statement d) turn.statements ≡ true) × IsWritable d (Rows turn.row)

  its_place : greatest one_row ≡ last
  its_place = max-eq_left (omega arith)

  row_moment : (w : What) (how : Exec) → IsWritable d (Rows (record_in stamp.reading w how (view any x) one_row))
  row_moment New how = is_moment stamp.reading moment
  row_moment Again how = is_moment stamp.reading moment
  row_moment Fill how = is_moment stamp.reading moment

  none_some : {A : Type 0} {turn : Turn} → (let o : Option Turn = None in o) ≡ Some turn → A
  none_some e = Prim.cc

  by_choice : (q : Choice) (turn : Turn) → turn_by d any_meaning stamp (view any x) one_row q ≡ Some turn → CanBeMade turn
  by_choice Passes turn is = none_some is
  by_choice Skips turn is = none_some is
  by_choice (Halts why) turn is = none_some is
  by_choice Fills turn is = let same : fill_turn (view any x) ≡ turn = Prim.cc in subst CanBeMade same (refl, tt)
  by_choice (Marks w) turn is = let same : mark_turn stamp.reading w (view any x) one_row ≡ turn = Prim.cc in subst CanBeMade same (refl, row_moment w exec.MarkRan)
  by_choice (Runs w why) turn is =
      let same : run_turn d any_meaning stamp.reading w (view any x) one_row ≡ turn = Prim.cc in
      subst CanBeMade same (statements_spelled d x.changes read, row_moment w (exec_of w))

  its_statements : (q : Choice) (turn : Turn) → turn_by d any_meaning stamp (view any x) one_row q ≡ Some turn → runs q ≡ true → turn.statements ≡ statements_of d any_meaning x.changes
  its_statements Passes turn is goes = none_some is
  its_statements Skips turn is goes = none_some is
  its_statements (Halts why) turn is goes = none_some is
  its_statements Fills turn is goes = absurd Prim.cc
  its_statements (Marks w) turn is goes = absurd Prim.cc
  its_statements (Runs w why) turn is goes = let same : run_turn d any_meaning stamp.reading w (view any x) one_row ≡ turn = Prim.cc in ap (λ (t : Turn). t.statements) (sym same)

  module _ (q : Choice) (turn : Turn) (made : (options : Options) (rows : List Tracked) → greatest rows ≡ last → turn_by d any_meaning stamp (view options x) rows q ≡ Some turn) where
    pub can_be_made : CanBeMade turn
    can_be_made = by_choice q turn (made any one_row its_place)

    -- and its texts are those of its changes' statements
    pub texts_made : (prints : Bool) (e : Dialect) → e ≡ d → (statements : List Statement) → statements ≡ turn.statements → (keeps : Bool) → keeps ≡ (prints && runs q)
        → (if keeps then with_texts e (x.identity, statements) ∷ [] else []) ≡ texts_by prints d x q
    texts_made prints e same statements are keeps wanted = ap (λ (b : Bool). if b then with_texts e (x.identity, statements) ∷ [] else []) wanted ∙ by (prints && runs q) refl where
      by : (b : Bool) → (prints && runs q) ≡ b → (if b then with_texts e (x.identity, statements) ∷ [] else []) ≡ (if b then with_texts d (x.identity, statements_of d any_meaning x.changes) ∷ [] else [])
      by false is = refl
      by true is =
          ap (λ (f : Dialect). with_texts f (x.identity, statements) ∷ []) same
          ∙ ap (λ (ss : List Statement). with_texts d (x.identity, ss) ∷ []) (are ∙ its_statements q turn (made any one_row its_place) (and_right prints (runs q) is))
