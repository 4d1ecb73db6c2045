-- What the checks of a rollback come to on rows.
use Rattle.std.proofs.Common.{ap, arith, subst, sym, ◌∙◌}
use Rattle.std.proofs.lemmas.Bool.Decides.{nat_tests}
use Rattle.std.proofs.lemmas.List.{reverse-reverse}
use Rattle.std.specs.Prelude.{Bool, Err, IfErr, IfOk, List, None, Ok, Option, Result, Some, [], false, length, option_and_then, option_map, refl, reverse, true, ℕ, ◌==◌, ◌∷◌, ◌≡◌}
use Rattle.lq_back.specs.declared.row_turns.RowTurns.{RowTurns}
use Rattle.lq_base.specs.declared.command.Target.{Target}
use Rattle.lq_base.specs.declared.dialect.Dialect.{Dialect}
use Rattle.lq_base.specs.declared.tracking.Tracked.{Tracked}
use Rattle.lq_players.proofs.RowsRead.{both_pass, first_refuses, lack_is_refusal, lack_refuses, passes_so, second_refuses}
use Rattle.lq_players.specs.RollingBack.{AreNew, Plans, are_read, back_turns, turns_in, IsRefusal, Passes, Refuses}
use Rattle.lq_players.specs.Tasks.{if_not, invalid, unreachable_by}
use Rattle.lq_players.specs.declared.rolling_back.RollingBack.{RollingBack}
use Rattle.lq_expr.specs.declared.options.Options.{Options}
use Rattle.lq_any.specs.declared.any_change.AnyChange.{AnyChange}
use Rattle.lq_playing.specs.declared.checks.Verdict.TheVariants as verdict
use Rattle.lq_playing.specs.declared.checks.Verdict.{Verdict}
use Rattle.lq_seen.specs.View.{any_meaning, view_log, views}
use Rattle.lq_turns.specs.Script.{not_reversible, rows_kept, rows_undone, undo_turn, undo_turns}
use Rattle.lq_turns.specs.Set.{Changelog, Set}
use Rattle.lq_turns.specs.declared.answer.Answer.TheVariants.{NoTarget}
use Rattle.lq_turns.specs.declared.answer.Answer.{Answer}
use Rattle.lq_turns.specs.declared.turn.Turn.{Turn}

-- rows that are there

nil_cons : {A : Type 0} (x : A) (xs : List A) → x ∷ xs ≡ [] → ⊥
nil_cons x xs h = Prim.cc

true_not : true ≡ false → ⊥
true_not h = Prim.cc

some_length : (row : Tracked) (rows : List Tracked) → (length (row ∷ rows) == 0) ≡ true → ⊥
some_length row rows is = grind (arith, nat_tests, is)

pub no_rows : (rows : List Tracked) (empty : Bool) → empty ≡ (length rows == 0) → empty ≡ true → rows ≡ []
no_rows [] empty is none = refl
no_rows (row ∷ rows) empty is none = absurd (some_length row rows (sym is ∙ none))

some_rows : (rows : List Tracked) (empty : Bool) → empty ≡ (length rows == 0) → empty ≡ false → rows ≡ [] → ⊥
some_rows [] empty is some none = true_not (sym is ∙ some)
some_rows (row ∷ rows) empty is some none = nil_cons row rows none

pub still_some : (rows : List Tracked) (empty : Bool) → empty ≡ (length rows == 0) → empty ≡ false → reverse rows ≡ [] → ⊥
still_some rows empty is some none = some_rows rows empty is some (sym (reverse-reverse rows) ∙ ap reverse none)

-- the turns of rows

no_turns : (turns : List Turn) → (let o : Option (List Turn) = None in o) ≡ Some turns → ⊥
no_turns turns h = Prim.cc

turns_are : (turns these : List Turn) → (let o : Option (List Turn) = Some turns in o) ≡ Some these → turns ≡ these
turns_are turns these h = Prim.cc

some_turns : (a : Option Turn) (b : Option (List Turn)) → option_and_then (λ (turn : Turn). option_map (λ (turns : List Turn). turn ∷ turns) b) a ≡ Some [] → ⊥
some_turns None b is = no_turns [] is
some_turns (Some turn) None is = no_turns [] is
some_turns (Some turn) (Some turns) is = nil_cons turn turns (turns_are (turn ∷ turns) [] is)

module _ (d : Dialect) (sets : List (Set AnyChange)) where
  pub has_turns : (rows : List Tracked) (turns : List Turn) → undo_turns d any_meaning sets rows ≡ Some turns → (rows ≡ [] → ⊥) → turns ≡ [] → ⊥
  has_turns [] turns is some none = some refl
  has_turns (row ∷ rows) turns is some none =
      some_turns (undo_turn d any_meaning sets row) (undo_turns d any_meaning sets rows) (is ∙ ap (λ (ts : List Turn). let o : Option (List Turn) = Some ts in o) none)

  pub idle_turns : (rows : List Tracked) → rows ≡ [] → undo_turns d any_meaning sets (reverse rows) ≡ Some []
  idle_turns rows none = ap (λ (rs : List Tracked). undo_turns d any_meaning sets (reverse rs)) none

-- some options of the dialect
abbrev pub any_options : Dialect → Options
any_options d = record { dialect = d; contexts = []; labels = None }

-- turns that were read

pub new_read : (prints : Bool) (d : Dialect) (turns : Option RowTurns) → AreNew prints d turns → are_read turns d
new_read prints d None new = tt
new_read prints d (Some source) new = new.read

-- rows that can be taken back

pub missing_is_refusal : (v : Verdict) → v ≡ verdict.Answer NoTarget → IsRefusal v
missing_is_refusal v is = subst IsRefusal (sym is) refl

pub lack_only : {A : Type 0} (r : Result A Verdict) → IfErr r (λ v. v ≡ verdict.Lack) → IfErr r IsRefusal
lack_only (Ok a) lack = tt
lack_only (Err v) lack = lack_is_refusal v lack

none_undone : (undone : List Tracked) → (let o : Option (List Tracked) = None in o) ≡ Some undone → ⊥
none_undone undone h = Prim.cc

undone_are : (rows undone : List Tracked) → (let o : Option (List Tracked) = Some rows in o) ≡ Some undone → rows ≡ undone
undone_are rows undone h = Prim.cc

module _ (d : Dialect) (g : Changelog AnyChange) (target : Target) (rows : List Tracked) where
  abbrev unreachable : Option Answer
  unreachable = unreachable_by d g (rows_kept target rows) rows

  pub missing_passes : {A : Type 0} (r : Result A Verdict) (v : Verdict) → r ≡ Err v → v ≡ verdict.Answer NoTarget → rows_kept target rows ≡ None → Passes unreachable r
  missing_passes r v is missing none =
      passes_so unreachable r v is (subst (Refuses unreachable) (sym missing) (ap (λ (o : Option ℕ). unreachable_by d g o rows) none))

  module _ (undone : List Tracked) (is : option_map (λ (stay : ℕ). rows_undone stay rows) (rows_kept target rows) ≡ Some undone) where
    abbrev irreversible : Option Answer
    irreversible = if_not (not_reversible d any_meaning g.sets undone)

    way_is : unreachable ≡ irreversible
    way_is = by (rows_kept target rows) is where
      by : (o : Option ℕ) → option_map (λ (stay : ℕ). rows_undone stay rows) o ≡ Some undone → unreachable_by d g o rows ≡ irreversible
      by None none = absurd (none_undone undone none)
      by (Some stay) some = ap (λ (rs : List Tracked). if_not (not_reversible d any_meaning g.sets rs)) (undone_are (rows_undone stay rows) undone some)

    pub back_is : (turns : List Turn) → undo_turns d any_meaning g.sets undone ≡ Some turns → option_and_then (λ (stay : ℕ). undo_turns d any_meaning g.sets (rows_undone stay rows)) (rows_kept target rows) ≡ Some turns
    back_is turns are = by (rows_kept target rows) is where
      by : (o : Option ℕ) → option_map (λ (stay : ℕ). rows_undone stay rows) o ≡ Some undone → option_and_then (λ (stay : ℕ). undo_turns d any_meaning g.sets (rows_undone stay rows)) o ≡ Some turns
      by None none = absurd (none_undone undone none)
      by (Some stay) some = ap (λ (rs : List Tracked). undo_turns d any_meaning g.sets rs) (undone_are (rows_undone stay rows) undone some) ∙ are

    -- for a dialect that is the same
    module _ (e : Dialect) (same : e ≡ d) where
      ways_so : if_not (not_reversible e any_meaning g.sets undone) ≡ unreachable
      ways_so = ap (λ (f : Dialect). if_not (not_reversible f any_meaning g.sets undone)) same ∙ sym way_is

      pub way_passes : {A : Type 0} (r : Result A Verdict) (v : Verdict) → r ≡ Err v → Refuses (if_not (not_reversible e any_meaning g.sets undone)) v → Passes unreachable r
      way_passes r v so refuses = passes_so unreachable r v so (subst (λ (o : Option Answer). Refuses o v) ways_so refuses)

      pub passes_back : {A : Type 0} (r : Result A Verdict) → if_not (not_reversible e any_meaning g.sets undone) ≡ None → IfErr r (λ v. v ≡ verdict.Lack) → Passes unreachable r
      passes_back (Ok a) passed lack = sym ways_so ∙ passed
      passes_back (Err v) passed lack = lack_refuses unreachable v lack

-- all of its checks

module _ (s : RollingBack) (d : Dialect) (rows : List Tracked) where
  abbrev log : Changelog AnyChange
  log = view_log s.options s.changelog

  pub turns_there : (undone : List Tracked) → option_map (λ (stay : ℕ). rows_undone stay rows) (rows_kept s.target rows) ≡ Some undone → (r : Result (Option RowTurns) Verdict)
      → IfOk r (λ (turns : Option RowTurns). undo_turns d any_meaning (views s.options s.changelog.sets) undone ≡ Some (turns_in turns)) → IfOk r (λ (turns : Option RowTurns). back_turns s d rows ≡ Some (turns_in turns))
  turns_there undone is (Ok turns) are = back_is d log s.target rows undone is (turns_in turns) are
  turns_there undone is (Err v) are = tt

  pub plans_invalid : (r : Result (Option RowTurns) Verdict) (v : Verdict) → r ≡ Err v → Refuses (invalid log rows) v → Plans s d rows r
  plans_invalid r v is refuses =
      subst (Plans s d rows) (sym is) (first_refuses (invalid log rows) (unreachable_by d log (rows_kept s.target rows) rows) v refuses)

  pub plans_on : (r : Result (Option RowTurns) Verdict) → invalid log rows ≡ None → Passes (unreachable_by d log (rows_kept s.target rows) rows) r → IfOk r (λ (turns : Option RowTurns). back_turns s d rows ≡ Some (turns_in turns)) → Plans s d rows r
  plans_on (Ok turns) valid passes are = record { passes = both_pass (invalid log rows) (unreachable_by d log (rows_kept s.target rows) rows) valid passes; turns_are = are }
  plans_on (Err v) valid passes are = second_refuses (invalid log rows) (unreachable_by d log (rows_kept s.target rows) rows) v valid passes

-- options at which a fact on all is taken
pub ok_at : {A B : Type 0} (r : Result A Verdict) (holds : B → A → Type 0) (at : B) → IfOk r (λ (a : A). (b : B) → holds b a) → IfOk r (holds at)
ok_at (Ok a) holds at all = all at
ok_at (Err v) holds at all = tt
