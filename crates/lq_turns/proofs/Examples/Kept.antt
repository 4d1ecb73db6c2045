-- A changeset whose third statement is refused, in each way of committing.
use Rattle.std.specs.Prelude.{Bool, List, None, Option, Some, [], codes, false, refl, true, ℕ, ◌∷◌, ◌≡◌}
use Rattle.lq_base.specs.Value.{into_kind}
use Rattle.lq_base.specs.declared.dialect.Dialect.{Dialect}
use Rattle.lq_base.specs.declared.dialect.Dialect.TheVariants.{Mysql, Postgresql}
use Rattle.lq_base.specs.declared.reason.Reason.{Reason}
use Rattle.lq_base.specs.declared.reason.Reason.TheVariants as reason
use Rattle.lq_base.specs.declared.run.Did.TheVariants as did
use Rattle.lq_model.specs.Plan.{decide}
use Rattle.lq_turns.specs.Session.{all_called, session_on}
use Rattle.lq_turns.specs.Set.{Set}
use Rattle.lq_turns.specs.Settle.{all_settled, settle}
use Rattle.lq_turns.specs.Turn.{Ending, Finished, Refused, ending, made, mark_text, turn_calls}
use Rattle.lq_turns.specs.declared.deed.Deed.{Deed}
use Rattle.lq_turns.specs.declared.deed.Deed.TheVariants.{Locks, Users}
use Rattle.lq_turns.specs.declared.deed.OnLock.TheVariants.{Marked}
use Rattle.lq_turns.specs.declared.deed.OnRows.TheVariants.{Deleted}
use Rattle.lq_turns.specs.declared.stop.Stop.TheVariants as stop
use Rattle.lq_turns.specs.declared.turn.Turn.{Turn}
use Rattle.lq_turns.proofs.Examples.Given.{Given, changeset, made_on, makes, meaning, named, nothing, row_into, stale, stamp, table, tables_in}

-- makes t, puts a row in, and makes t again
abbrev turn : Bool → Turn
turn whole = record { identity = named (codes "1"); statements = table (codes "t") ∷ row_into (codes "t") ∷ table (codes "t") ∷ []; in_transaction = whole; is_undo = false; row = Deleted (named (codes "1")) }

-- the number of the refused statement, how many are kept, and why
abbrev refusal : Ending → Option (ℕ × ℕ × Reason)
refusal (Finished c) = None
refusal (Refused c r) = Some (r.statement, r.kept, r.reason)

pub none_in_postgresql : refusal (ending Postgresql (turn true) nothing) ≡ Some (3, 0, reason.Exists)
unfolding decide into_kind
none_in_postgresql = refl

-- the refused statement is DDL, so all before it
pub all_in_mysql : refusal (ending Mysql (turn true) nothing) ≡ Some (3, 2, reason.Exists)
unfolding decide into_kind
all_in_mysql = refl

pub all_in_parts : refusal (ending Postgresql (turn false) nothing) ≡ Some (3, 2, reason.Exists)
unfolding decide into_kind
all_in_parts = refl

-- makes t, puts a row in, and puts a row into a table that is not there
abbrev later : Bool → Turn
later whole = record (turn whole) { statements = table (codes "t") ∷ row_into (codes "t") ∷ row_into (codes "u") ∷ [] }

-- the refused statement is not DDL, so those up to the last that is
pub up_to_ddl_in_mysql : refusal (ending Mysql (later true) nothing) ≡ refusal (Refused nothing (record { statement = 3; kept = 1; reason = reason.Missing }))
unfolding decide into_kind
up_to_ddl_in_mysql = refl

-- what its calls leave in the journal
abbrev written : (d : Dialect) → Turn → List (List Deed)
written d turn = (all_called d (made d (turn_calls d (codes "ci") turn) nothing) (session_on (made_on nothing))).entries

abbrev marked : ℕ → Deed
marked k = Locks (Marked (mark_text (codes "ci") (turn true) k))

-- nothing, where all of it is one transaction
pub written_postgresql : written Postgresql (turn true) ≡ []
unfolding decide into_kind
written_postgresql = refl

-- in mysql the DDL statement that is refused has committed the row and its mark
pub written_mysql : written Mysql (turn true) ≡ (marked 1 ∷ []) ∷ (Users (table (codes "t")) ∷ []) ∷ (Users (row_into (codes "t")) ∷ marked 3 ∷ []) ∷ []
unfolding decide into_kind
written_mysql = refl

-- the row that no DDL statement has committed is taken back
pub written_later : written Mysql (later true) ≡ (marked 1 ∷ []) ∷ (Users (table (codes "t")) ∷ []) ∷ []
unfolding decide into_kind
written_later = refl

-- each with its mark in one entry
pub written_parts : written Postgresql (turn false) ≡ (marked 1 ∷ Users (table (codes "t")) ∷ []) ∷ (marked 2 ∷ Users (row_into (codes "t")) ∷ []) ∷ []
unfolding decide into_kind
written_parts = refl

-- a changeset that makes t twice
abbrev twice : Bool → Set Given
twice fails = record (changeset (codes "1") (makes (codes "t") ∷ stale (makes (codes "t")) ∷ [])) { fail_on_error = fails }

-- it halts, with statement 2 and nothing kept, or in mysql one kept and t made
pub refused_postgresql : (settle Postgresql meaning stamp.reading (twice true) nothing).stop ≡ Some (stop.Refused (named (codes "1")) (record { statement = 2; kept = 0; reason = reason.Exists }))
unfolding decide into_kind
refused_postgresql = refl

pub left_postgresql : tables_in (settle Postgresql meaning stamp.reading (twice true) nothing).contents ≡ []
unfolding decide into_kind
left_postgresql = refl

pub refused_mysql : (settle Mysql meaning stamp.reading (twice true) nothing).stop ≡ Some (stop.Refused (named (codes "1")) (record { statement = 2; kept = 1; reason = reason.Exists }))
unfolding decide into_kind
refused_mysql = refl

pub left_mysql : tables_in (settle Mysql meaning stamp.reading (twice true) nothing).contents ≡ codes "t" ∷ []
unfolding decide into_kind
left_mysql = refl

-- where failOnError is false it is skipped, the table stays, and the next changeset has its turn
abbrev both : List (Set Given)
both = twice false ∷ changeset (codes "2") (makes (codes "u") ∷ []) ∷ []

pub skipped_mysql : (all_settled Mysql meaning stamp.reading both nothing).happened ≡ record { what = did.Skipped; identity = named (codes "1") } ∷ record { what = did.Ran; identity = named (codes "2") } ∷ []
unfolding decide into_kind
skipped_mysql = refl

pub kept_mysql : tables_in (all_settled Mysql meaning stamp.reading both nothing).contents ≡ codes "t" ∷ codes "u" ∷ []
unfolding decide into_kind
kept_mysql = refl
