-- The work of one call on a transaction: which entries it writes, and what stands afterwards.
use Rattle.std.specs.Prelude.{Bool, Err, List, None, Ok, Option, Result, Some, [], false, true, ℕ, ◌++◌, ◌∷◌}
use Rattle.lq_base.specs.declared.dialect.Dialect.{Dialect}
use Rattle.lq_base.specs.declared.reason.Reason.{Reason}
use Rattle.lq_model.specs.Catalogue.{Catalogue}
use Rattle.lq_model.specs.Script.{if_any}
use Rattle.lq_model.specs.SqlText.{statement_in}
use Rattle.lq_model.specs.Step.{commits_itself, step}
use Rattle.lq_model.specs.declared.caller.By.{By}
use Rattle.lq_model.specs.declared.caller.ByText.{ByText}
use Rattle.lq_model.specs.declared.statement.Statement.{Statement}
use Rattle.lq_store.specs.Journal.{Entry, State, Transaction, of_texts, with_entries}
use Rattle.lq_store.specs.Journal.Entry.{Texts}

pub record Work : Type 0 where
  -- the entries that the call writes
  pub written : List Entry
  -- what is committed with them
  pub committed : Catalogue
  -- what the transaction's session sees, and its texts that are not yet committed
  pub now : Catalogue
  pub texts : List (List ℕ)

-- the transaction's texts are an entry; it stays open, and has none left
abbrev pub committed : Work → Work
committed w = record { written = w.written ++ of_texts (if_any w.texts); committed = w.now; now = w.now; texts = [] }

-- after a statement that was accepted
abbrev pub taken : Bool → List ℕ → Catalogue → Work → Work
taken true text c w = record { written = w.written ++ of_texts (if_any w.texts) ++ Texts (text ∷ []) ∷ []; committed = c; now = c; texts = [] }
taken false text c w = record w { now = c; texts = w.texts ++ text ∷ [] }

-- after one that was refused
abbrev pub refused : Bool → Work → Work
refused true w = committed w
refused false w = w

-- how the texts of a call end
pub data End : Type 0 where
  -- so many rows were changed by the last
  Ran : ℕ → End
  Stopped : Reason → End
  NoStatement : End

pub record Outcome : Type 0 where
  pub end : End
  pub work : Work

abbrev pub outcome_by : Dialect → Bool → List ℕ → Result (Catalogue × ℕ) Reason → Work → Outcome
outcome_by d itself text (Ok x) w = record { end = Ran x.1; work = taken itself text x.0 w }
outcome_by d itself text (Err reason) w = record { end = Stopped reason; work = refused itself w }

abbrev pub outcome_of : Dialect → By → List ℕ → Option Statement → Work → Outcome
outcome_of d by text None w = record { end = NoStatement; work = w }
outcome_of d by text (Some s) w = outcome_by d (commits_itself d s) text (step by d s w.now) w

-- one text run
abbrev pub outcome : Dialect → By → List ℕ → Work → Outcome
outcome d by text w = outcome_of d by text (statement_in d text) w

-- what comes after a text, where it ran
abbrev pub goes_on : End → Work → (Work → Outcome) → Outcome
goes_on (Ran n) w rest = rest w
goes_on (Stopped reason) w rest = record { end = Stopped reason; work = w }
goes_on NoStatement w rest = record { end = NoStatement; work = w }

-- several texts run up to the first that is refused or is no statement; where there is none, all is committed
abbrev pub outcome_all : Dialect → List ByText → Work → Outcome
outcome_all d [] w = record { end = Ran 0; work = committed w }
outcome_all d (t ∷ ts) w = goes_on (outcome d t.by t.text w).end (outcome d t.by t.text w).work (outcome_all d ts)

-- where the work of a call begins

abbrev pub work_in : Option Transaction → Catalogue → Work
work_in None c = record { written = []; committed = c; now = c; texts = [] }
work_in (Some t) c = record { written = []; committed = c; now = t.now; texts = t.texts }

abbrev pub work_of : State → Work
work_of x = work_in x.begun x.committed

-- and what it leaves

abbrev pub still_open : Work → Option Transaction → Option Transaction
still_open w None = None
still_open w (Some t) = Some (record { session = t.session; now = w.now; texts = w.texts })

abbrev pub kept_open : Work → State → State
kept_open w x = record (with_entries w.written x) { committed = w.committed; begun = still_open w x.begun }

abbrev pub closed : Work → State → State
closed w x = record (with_entries w.written x) { committed = w.committed; begun = None }
