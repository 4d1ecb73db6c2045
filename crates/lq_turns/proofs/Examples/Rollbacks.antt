-- What rollbacks undo, and how.
use Rattle.std.specs.Prelude.{List, None, Option, Some, [], codes, false, map, option_map, pos, refl, true, ℕ, ℤ, ◌++◌, ◌∷◌, ◌≡◌}
use Rattle.lq_base.specs.Number.{whole_text}
use Rattle.lq_base.specs.Value.{into_kind}
use Rattle.lq_base.specs.declared.dialect.Dialect.TheVariants.{Mysql, Postgresql}
use Rattle.lq_base.specs.declared.run.Did.TheVariants as did
use Rattle.lq_base.specs.declared.tracking.Exec.TheVariants.{Executed, MarkRan}
use Rattle.lq_base.specs.declared.tracking.Tracked.{Tracked}
use Rattle.lq_model.specs.Plan.{decide}
use Rattle.lq_model.specs.declared.statement.Statement.{Statement}
use Rattle.lq_model.specs.declared.statement.Statement.TheVariants.{DropTable}
use Rattle.lq_turns.specs.Script.{all_rolled, rows_kept, rows_undone, undo_turns}
use Rattle.lq_turns.specs.Set.{Set}
use Rattle.lq_turns.specs.Settle.{all_settled}
use Rattle.lq_turns.specs.Turn.{turn_calls}
use Rattle.lq_turns.specs.declared.call.Call.{Call}
use Rattle.lq_turns.specs.declared.call.Call.TheVariants.{Begin, Commit, Execute}
use Rattle.lq_base.specs.declared.command.Target.TheVariants.{Count, Date, Tag}
use Rattle.lq_turns.specs.declared.deed.Deed.TheVariants.{Locks, Rows, Users}
use Rattle.lq_turns.specs.declared.deed.OnLock.TheVariants.{Marked}
use Rattle.lq_turns.specs.declared.deed.OnRows.TheVariants.{Deleted}
use Rattle.lq_turns.specs.declared.turn.Turn.{Turn}
use Rattle.lq_turns.proofs.Examples.Given.{Given, changeset, makes, meaning, named, nothing, row, stamp}

-- rows of four updates at the readings 1, 5, 2, 6, of which the first and the third have the tag
abbrev at : ℤ → Option (List ℕ) → Tracked → Tracked
at date tag r = record r { date = date; tag = tag }

abbrev rows : List Tracked
rows = at (pos 1) (Some (codes "v1")) (row (codes "1") 1 Executed None) ∷ at (pos 5) None (row (codes "2") 2 Executed None) ∷ at (pos 2) (Some (codes "v1")) (row (codes "3") 3 Executed None) ∷ at (pos 6) None (row (codes "4") 4 Executed None) ∷ []

-- the newest row with the tag stays, and all before it
pub tag_keeps_its_row : rows_kept (Tag (codes "v1")) rows ≡ Some 3
tag_keeps_its_row = refl

pub no_row_has_the_tag : rows_kept (Tag (codes "v2")) rows ≡ None
no_row_has_the_tag = refl

pub last_two_go : rows_kept (Count 2) rows ≡ Some 2
last_two_go = refl

pub all_go_where_there_are_fewer : rows_kept (Count 9) rows ≡ Some 0
all_go_where_there_are_fewer = refl

-- the third goes too, which is not later but stands behind one that is
pub shortest_with_each_later : rows_kept (Date (pos 3)) rows ≡ Some 1
shortest_with_each_later = refl

pub none_is_later : rows_kept (Date (pos 6)) rows ≡ Some 4
none_is_later = refl

pub last_goes_first : map (λ (r : Tracked). r.id) (rows_undone 1 rows) ≡ codes "4" ∷ codes "3" ∷ codes "2" ∷ []
last_goes_first = refl

-- the statements that take a row back

abbrev one : Set Given
one = changeset (codes "1") (makes (codes "t") ∷ makes (codes "u") ∷ [])

abbrev statements_back : Set Given → Tracked → Option (List (List Statement))
statements_back x r = option_map (λ turns. map (λ (t : Turn). t.statements) turns) (undo_turns Postgresql meaning (x ∷ []) (r ∷ []))

-- what is generated, the last change first
pub last_change_first : statements_back one (row (codes "1") 1 Executed None) ≡ Some ((DropTable (codes "u") ∷ DropTable (codes "t") ∷ []) ∷ [])
last_change_first = refl

-- the rollback block as it is written
pub block_as_written : statements_back (record one { rollback = Some (record (makes (codes "v")) { statements = DropTable (codes "t") ∷ DropTable (codes "u") ∷ [] } ∷ []) }) (row (codes "1") 1 Executed None) ≡ Some ((DropTable (codes "t") ∷ DropTable (codes "u") ∷ []) ∷ [])
block_as_written = refl

pub empty_block : statements_back (record one { rollback = Some [] }) (row (codes "1") 1 Executed None) ≡ Some ([] ∷ [])
empty_block = refl

-- nothing is generated for one of its changes
pub no_inverse : statements_back (record one { changes = makes (codes "t") ∷ record (makes (codes "u")) { undoing = None } ∷ [] }) (row (codes "1") 1 Executed None) ≡ None
no_inverse = refl

-- no changeset of this dialect has its identity
pub not_here : statements_back (record one { here = false }) (row (codes "1") 1 Executed None) ≡ None
not_here = refl

-- the row of one that was marked goes without statements, also where nothing takes it back
pub marked_row_goes_alone : statements_back (record one { here = false }) (row (codes "1") 1 MarkRan None) ≡ Some ([] ∷ [])
marked_row_goes_alone = refl

-- the calls of a turn that takes back, in mysql: each statement with its mark, and the mark goes with the row

abbrev turn : Turn
turn = record { identity = named (codes "1"); statements = DropTable (codes "u") ∷ DropTable (codes "t") ∷ []; in_transaction = true; is_undo = true; row = Deleted (named (codes "1")) }

abbrev marked : List ℕ → Call
marked text = Execute (Locks (Marked text))

pub undo_in_mysql : turn_calls Mysql (codes "ci") turn
    ≡ Begin ∷ marked (codes "ci|f::1::me|undo " ++ whole_text (pos 1)) ∷ Execute (Users (DropTable (codes "u"))) ∷ marked (codes "ci|f::1::me|undo " ++ whole_text (pos 2)) ∷ Execute (Users (DropTable (codes "t"))) ∷ Execute (Rows (Deleted (named (codes "1")))) ∷ marked (codes "ci") ∷ Commit ∷ []
undo_in_mysql = refl

pub undo_in_postgresql : turn_calls Postgresql (codes "ci") turn ≡ Begin ∷ Execute (Users (DropTable (codes "u"))) ∷ Execute (Users (DropTable (codes "t"))) ∷ Execute (Rows (Deleted (named (codes "1")))) ∷ Commit ∷ []
undo_in_postgresql = refl

-- an update and its rollback: the rows are undone last first, and told so

abbrev sets : List (Set Given)
sets = one ∷ changeset (codes "2") (makes (codes "w") ∷ []) ∷ []

pub undone_told : option_map (λ turns. (all_rolled Postgresql turns (all_settled Postgresql meaning stamp.reading sets nothing).contents).happened) (undo_turns Postgresql meaning sets (rows_undone 0 (all_settled Postgresql meaning stamp.reading sets nothing).contents.rows))
    ≡ Some (record { what = did.RolledBack; identity = named (codes "2") } ∷ record { what = did.RolledBack; identity = named (codes "1") } ∷ [])
unfolding decide into_kind
undone_told = refl

pub undone_left : option_map (λ turns. (all_rolled Postgresql turns (all_settled Postgresql meaning stamp.reading sets nothing).contents).contents) (undo_turns Postgresql meaning sets (rows_undone 0 (all_settled Postgresql meaning stamp.reading sets nothing).contents.rows)) ≡ Some nothing
unfolding decide into_kind
undone_left = refl
