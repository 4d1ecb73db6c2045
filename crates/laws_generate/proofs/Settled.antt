-- A generated changeset at its turn: it runs, and its row is added.
use Rattle.std.proofs.Common.{ap, sym, ◌∙◌, rules}
use Rattle.std.specs.Prelude.{Bool, Err, List, None, Ok, Option, Result, Some, [], false, length, nat_lt, pos, refl, true, ℕ, ◌+◌, ◌++◌, ◌∷◌, ◌≡◌}
use Rattle.lq_base.specs.declared.dialect.Dialect.{Dialect}
use Rattle.lq_base.specs.declared.reason.Reason.{Reason}
use Rattle.lq_base.specs.declared.run.Did.TheVariants as did
use Rattle.lq_base.specs.declared.tracking.Exec.TheVariants as exec
use Rattle.lq_base.specs.declared.tracking.Tracked.{Tracked}
use Rattle.lq_cond.specs.Told.{told}
use Rattle.lq_cond.specs.declared.cond.Cond.{the_lemmas}
use Rattle.lq_cond.specs.declared.cond.Cond.TheVariants.{And}
use Rattle.lq_expr.specs.declared.expr.Expr.{Expr}
use Rattle.lq_expr.specs.declared.options.Options.{Options}
use Rattle.lq_any.specs.declared.any_change.AnyChange.{AnyChange}
use Rattle.lq_model.specs.Catalogue.{Catalogue}
use Rattle.lq_seen.specs.View.{is_met, is_selected, any_meaning, view}
use Rattle.lq_turns.specs.Deed.{Contents, rows_after}
use Rattle.lq_turns.specs.Set.{effects, not_fresh, Set, row_at}
use Rattle.lq_turns.specs.Settle.{Settled, choice, greatest, happens, row_for, run_ending, run_turn, settle, settled_as, settled_by}
use Rattle.lq_turns.specs.Turn.{Ending, Finished, ending, kept, refused, row_ending}
use Rattle.lq_turns.specs.declared.choice.Choice.TheVariants.{Runs}
use Rattle.lq_turns.specs.declared.choice.What.TheVariants.{New}
use Rattle.lq_turns.specs.declared.deed.OnRows.TheVariants.{Inserted}
use Rattle.laws_generate.specs.Again.{generated_set}

pub nothing_asked : (d : Dialect) (c : Catalogue) (rows : List Tracked) → told d (And []) c rows ≡ Ok true
nothing_asked d c rows = search (rules, the_lemmas)

met : (o : Option Expr) → is_met o [] ≡ true
met None = refl
met (Some e) = refl

module _ (d : Dialect) (options : Options) (reading : ℕ) (path id author : List ℕ) (xs : List AnyChange) (c : Contents) (users : Catalogue) (rows : List Tracked)
    (new : row_at (view options (generated_set path id author xs)).identity c.rows ≡ None)
    (done : effects d any_meaning xs c.users ≡ Ok users) (fresh : not_fresh d any_meaning xs c.users ≡ 0)
    (added : rows_after (Inserted (row_for reading (greatest c.rows + 1) exec.Executed (view options (generated_set path id author xs)))) c.rows ≡ Ok rows) where
  abbrev x : Set AnyChange
  x = view options (generated_set path id author xs)

  chosen : choice x c ≡ Runs New None
  chosen = rw (met options.labels, new, nothing_asked options.dialect c.users c.rows) refl

  ended : run_ending d any_meaning reading (run_turn d any_meaning reading New x c.rows) x c ≡ Finished (record { users = users; rows = rows })
  ended =
      let turn = run_turn d any_meaning reading New x c.rows in
      ap (λ q. elim q as (λ _. Ending) [ Ok now ↦ row_ending d turn now c | Err reason ↦ ending d turn c ]) done
      ∙ ap (λ q. elim q as (λ _. Ending) [ Ok rs ↦ Finished (record { users = users; rows = rs }) | Err reason ↦ refused d turn.statements (kept d turn turn.statements false) reason c ]) added

  pub set_settles : settle d any_meaning reading x c ≡ record { contents = record { users = users; rows = rows }; happened = happens x did.Ran ∷ []; warned = []; not_fresh = 0; stop = None }
  set_settles =
      ap (settled_by d any_meaning reading x c) chosen
      ∙ ap (settled_as x did.Ran None (not_fresh d any_meaning xs c.users)) ended
      ∙ ap (λ (n : ℕ). let s : Settled = record { contents = record { users = users; rows = rows }; happened = happens x did.Ran ∷ []; warned = []; not_fresh = n; stop = None } in s) fresh
