-- The texts that are kept of a changeset's turn are those that are printed of what it settles.
use Rattle.std.proofs.Common.{ap, refl, ◌≡◌, ◌++◌, ◌||◌, ◌∷◌, Bool, true, false, List, [], None, Option, Some, if◌then◌else◌, ℕ}
use Rattle.std.specs.List.{list_all}
use Rattle.lq_base.specs.declared.dialect.Dialect.{Dialect}
use Rattle.lq_base.specs.declared.identity.Identity.{Identity}
use Rattle.lq_base.specs.declared.run.Did.{Did}
use Rattle.lq_base.specs.declared.run.Did.TheVariants as did
use Rattle.lq_base.specs.declared.run.Printed.{Printed}
use Rattle.lq_base.specs.declared.run.Why.{Why}
use Rattle.lq_any.specs.AnyChange.{is_for}
use Rattle.lq_any.specs.declared.any_change.AnyChange.{AnyChange}
use Rattle.lq_model.specs.declared.statement.Statement.{Statement}
use Rattle.lq_seen.specs.Telling.{shown, with_texts}
use Rattle.lq_seen.specs.View.{any_meaning}
use Rattle.lq_sets.specs.Counting.{changes_run, runs}
use Rattle.lq_sets.specs.SetTurns.{if_kept}
use Rattle.lq_turns.specs.Deed.{Contents}
use Rattle.lq_turns.specs.Set.{statements_of, Set}
use Rattle.lq_turns.specs.Printed.{is_run, printed, printed_of}
use Rattle.lq_turns.specs.Settle.{Settled, did_of, happens, settled_as, warning}
use Rattle.lq_turns.specs.Turn.{Refused}
use Rattle.lq_turns.specs.declared.choice.Choice.{Choice}
use Rattle.lq_turns.specs.declared.choice.Choice.TheVariants.{Runs}
use Rattle.lq_turns.specs.declared.choice.What.{What}
use Rattle.lq_turns.specs.declared.choice.What.TheVariants.{Again, Fill, New}
use Rattle.lq_turns.specs.declared.stop.Refusal.{Refusal}
use Rattle.lq_turns.specs.declared.stop.Stop.{Stop}
use Rattle.lq_turns.specs.declared.stop.Stop.TheVariants.{Refused as Stopped}

abbrev Ran : Type 0
Ran = List (Identity × List Statement)

-- what runs was read for the dialect

if_read : (d : Dialect) (b : Bool) (xs : List AnyChange) → list_all (is_for d) xs ≡ true → list_all (is_for d) (if b then xs else []) ≡ true
if_read d true xs read = read
if_read d false xs read = refl

pub run_read : (d : Dialect) (choice : Choice) (xs : List AnyChange) → list_all (is_for d) xs ≡ true → list_all (is_for d) (changes_run choice xs) ≡ true
run_read d choice xs read = if_read d (runs choice) xs read

-- what is kept of a changeset that runs
pub runs_kept : (prints : Bool) (d : Dialect) (w : What) (why : Option Why) (of : Identity) (ss : List Statement) → if_kept prints (Runs w why) (with_texts d (of, ss)) ≡ shown prints d ((of, ss) ∷ [])
runs_kept true d w why of ss = refl
runs_kept false d w why of ss = refl

-- and of one that does not
pub none_kept : (prints : Bool) (choice : Choice) (its : Printed) → runs choice ≡ false → if_kept prints choice its ≡ []
none_kept true choice its idle = ap (λ (b : Bool). if b then its ∷ [] else []) idle
none_kept false choice its idle = refl

module _ (d : Dialect) (reading : ℕ) (x : Set AnyChange) where
  abbrev own : Identity × List Statement
  own = (x.identity, statements_of d any_meaning x.changes)

  -- what is printed of a turn that is told so
  abbrev pub ran_as : Did → Ran
  ran_as done = if is_run done || false then own ∷ [] else []

  pub runs_ran : (w : What) → ran_as (did_of w) ≡ own ∷ []
  runs_ran New = refl
  runs_ran Again = refl
  runs_ran Fill = refl

  module _ (behind : List (Set AnyChange)) where
    abbrev then_printed : Contents → Option Stop → Ran
    then_printed c None = printed d any_meaning reading behind c
    then_printed c (Some stop) = []

    -- what is printed of it and of those behind it, by what it settles
    abbrev pub printed_by : Settled → Ran
    printed_by s = printed_of d any_meaning reading x s ++ then_printed s.contents s.stop

    module _ (done : Did) (why : Option Why) (n : ℕ) where
      abbrev stopping : Contents → Refusal → Settled
      stopping c refusal = record { contents = c; happened = []; warned = warning x why; not_fresh = 0; stop = Some (Stopped x.identity refusal) }

      abbrev skipping : Contents → Settled
      skipping c = record { contents = c; happened = happens x did.Skipped ∷ []; warned = warning x why; not_fresh = 0; stop = None }

      -- where a statement is refused, nothing is
      pub stopped_printed : (c : Contents) (refusal : Refusal) → x.fail_on_error ≡ true → printed_by (settled_as x done why n (Refused c refusal)) ≡ []
      stopped_printed c refusal is = ap (λ (b : Bool). printed_by (if b then stopping c refusal else skipping c)) is

      pub skipped_printed : (c : Contents) (refusal : Refusal) → x.fail_on_error ≡ false → printed_by (settled_as x done why n (Refused c refusal)) ≡ printed d any_meaning reading behind c
      skipped_printed c refusal is = ap (λ (b : Bool). printed_by (if b then stopping c refusal else skipping c)) is
