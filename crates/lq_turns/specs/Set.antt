-- A changeset and a changelog, as the commands see them.
use Rattle.std.specs.List.{find, flat_map, list_any, starts_with}
use Rattle.std.specs.Prelude.{Bool, Err, List, None, Ok, Option, Result, Some, [], codes, eqb, if◌then◌else◌, option_and_then, option_map, true, ℕ, ◌&&◌, ◌++◌, ◌+◌, ◌||◌, ◌∷◌}
use Rattle.lq_base.specs.Name.{is_text}
use Rattle.lq_base.specs.declared.dialect.Dialect.{Dialect}
use Rattle.lq_base.specs.declared.identity.Identity.{Identity}
use Rattle.lq_base.specs.declared.reason.Reason.{Reason}
use Rattle.lq_base.specs.declared.run.OnFail.{OnFail}
use Rattle.lq_base.specs.declared.tracking.Tracked.{Tracked}
use Rattle.lq_model.specs.Catalogue.{Catalogue}
use Rattle.lq_model.specs.Changes.{AreStatements, HaveEffect, TakeBack}
use Rattle.lq_model.specs.declared.statement.Statement.{Statement}
use Rattle.lq_turns.specs.Deed.{Contents, is_of}

-- what changes do, told by what they say
pub record Meaning (Key : Type 0) : Type 0 where
  -- the change was read for the dialect
  pub is_for : Dialect → Key → Bool
  pub gives : Dialect → Key → List Statement
  pub effect : Dialect → Key → Catalogue → Result Catalogue Reason
  pub fresh : Dialect → Key → Catalogue → Bool
  pub inverse : Dialect → Key → Option (List Statement)

-- what each change of the trait `Change` promises of them
pub record IsKept {Key : Type 0} (m : Meaning Key) : Type 0 where
  pub spelled : AreStatements m.is_for m.gives
  pub does : HaveEffect m.is_for m.gives m.effect
  pub restores : TakeBack m.is_for m.effect m.fresh m.inverse

pub record Condition : Type 0 where
  -- whether it holds, or why that cannot be told
  pub told : Contents → Result Bool Reason
  pub on_fail : OnFail
  pub on_error : OnFail

pub record Set (Key : Type 0) : Type 0 where
  pub identity : Identity
  -- whether its `dbms` names the command's dialect, and whether the command selects it
  pub here : Bool
  pub selected : Bool
  pub changes : List Key
  -- its rollback block, if it has one
  pub rollback : Option (List Key)
  pub condition : Condition
  pub run_always : Bool
  pub run_on_change : Bool
  pub fail_on_error : Bool
  pub in_transaction : Bool
  pub sum : List ℕ
  -- whether a stored sum is that of these changes, and whether it is of an old form
  pub is_own_sum : List ℕ → Bool
  pub is_old_sum : List ℕ → Bool
  -- the sum of these changes in the form of a stored one
  pub sum_like : List ℕ → List ℕ
  -- the texts of `validCheckSum`
  pub valid_sums : List (List ℕ)
  pub description : List ℕ
  pub comments : List ℕ
  pub tag : Option (List ℕ)
  pub contexts : List ℕ
  pub labels : List ℕ

pub record Changelog (Key : Type 0) : Type 0 where
  pub condition : Condition
  pub sets : List (Set Key)

-- a stored sum in which the texts of SQL count to the letter
abbrev pub is_old_form : List ℕ → Bool
is_old_form sum = starts_with eqb sum (codes "P1:")

-- of a sum in the old form and one in the new, the one of a stored sum's form
abbrev pub sum_by_form : List ℕ → List ℕ → List ℕ → List ℕ
sum_by_form old new stored = if is_old_form stored then old else new

-- whose row is the changeset's
abbrev pub row_at : Identity → List Tracked → Option Tracked
row_at of rows = find (is_of of) rows

abbrev pub has_row : List Tracked → Identity → Bool
has_row rows of = list_any (is_of of) rows

-- `ANY` stands for every sum
abbrev pub excuses : List ℕ → List ℕ → Bool
excuses sum valid = is_text (codes "ANY") valid || is_text sum valid

-- the changeset's `validCheckSum` has the stored sum
abbrev pub is_excused : {Key : Type 0} → Set Key → List ℕ → Bool
is_excused x sum = list_any (excuses sum) x.valid_sums

-- A changeset's changes in order.

module _ {Key : Type 0} (d : Dialect) (m : Meaning Key) where
  -- each change's effect on what the one before gave, or the first reason
  abbrev pub effects : List Key → Catalogue → Result Catalogue Reason
  effects [] c = Ok c
  effects (x ∷ xs) c = elim (m.effect d x c) [ Ok e ↦ effects xs e | Err reason ↦ Err reason ]

  -- whether each is fresh at its place
  abbrev pub all_fresh : List Key → Catalogue → Bool
  all_fresh [] c = true
  all_fresh (x ∷ xs) c = m.fresh d x c && elim (m.effect d x c) [ Ok e ↦ all_fresh xs e | Err reason ↦ true ]

  -- how many are not
  abbrev pub not_fresh : List Key → Catalogue → ℕ
  not_fresh [] c = 0
  not_fresh (x ∷ xs) c = (if m.fresh d x c then 0 else 1) + elim (m.effect d x c) [ Ok e ↦ not_fresh xs e | Err reason ↦ 0 ]

  abbrev pub statements_of : List Key → List Statement
  statements_of xs = flat_map (m.gives d) xs

  -- what is generated for each, the last change first, where it is for each
  abbrev pub inverses : List Key → Option (List Statement)
  inverses [] = Some []
  inverses (x ∷ xs) = option_and_then (λ more. option_map (λ first. more ++ first) (m.inverse d x)) (inverses xs)

  -- what takes the changeset back: its rollback block, or else what is generated
  abbrev pub undoing : Set Key → Option (List Statement)
  undoing x = elim x.rollback [ Some block ↦ Some (statements_of block) | None ↦ inverses x.changes ]

-- What the trait `Change` promises of its changes, as the laws take it.

-- changes by the trait's members
abbrev pub meaning : {Key : Type 0} → (Dialect → Key → Bool) → (Dialect → Key → List Statement) → (Dialect → Key → Catalogue → Result Catalogue Reason) → (Dialect → Key → Catalogue → Bool)
    → (Dialect → Key → Option (List Statement)) → Meaning Key
meaning is_for gives effect fresh inverse = record { is_for = is_for; gives = gives; effect = effect; fresh = fresh; inverse = inverse }
