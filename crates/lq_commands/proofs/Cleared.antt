-- A clear-checksums, where there is a row and where there is none.
use Rattle.std.proofs.Common.{ap, refl, rules, subst, sym, tests}
use Rattle.std.specs.Prelude.{Bool, Err, IfOk, List, Ok, Result, [], false, if◌then◌else◌, length, suc, true, ℕ, ◌==◌, ◌∷◌, ◌≡◌}
use Rattle.lq_base.specs.declared.dialect.Dialect.{Dialect}
use Rattle.lq_base.specs.declared.tracking.Tracked.{Tracked}
use Rattle.lq_model.specs.Catalogue.{is_empty}
use Rattle.lq_report.specs.Output.{cleared_text}
use Rattle.lq_run.specs.Commands.{HasDatabase, Leaves}
use Rattle.lq_store.specs.Journal.{State}
use Rattle.lq_tell.specs.declared.done.Done.{Done}
use Rattle.lq_tell.specs.declared.status.Status.{Status}
use Rattle.lq_track.specs.Database.{Database}
use Rattle.lq_turns.specs.Script.{clear_calls, clearing}
use Rattle.lq_commands.proofs.Endings.{leaves_nothing}
use Rattle.lq_commands.specs.Outputs.{EndsText}
use Rattle.lq_commands.specs.Works.{OnIts}

some_rows : (n : ℕ) → (suc n == 0) ≡ false
some_rows n = search (rules, tests)

pub none_is : (rows : List Tracked) → (length rows == 0) ≡ is_empty rows
none_is [] = refl
none_is (row ∷ rows) = some_rows (length rows)

-- where there is no row, no call is made
pub leaves_none : (d : Dialect) (database : Database) (x : State) → HasDatabase d x database → is_empty database.rows ≡ true → Leaves d (clear_calls database) database x x
leaves_none d database x has none = subst (λ calls. Leaves d calls database x x) (sym (ap (λ (b : Bool). if b then [] else clearing ∷ []) none)) (leaves_nothing d database x has)

-- what is told of the rows is told of the database that has them
pub cleared_told : (d : Dialect) (x : State) (rows : List Tracked) (r : Result Done Status) → OnIts d x (λ (database : Database). database.rows ≡ rows)
    → IfOk r (λ (done : Done). EndsText (cleared_text (length rows)) done)
    → IfOk r (λ (done : Done). OnIts d x (λ (database : Database). EndsText (cleared_text (length database.rows)) done))
cleared_told d x rows (Ok done) same tells = λ database has. subst (λ (rs : List Tracked). EndsText (cleared_text (length rs)) done) (sym (same database has)) tells
cleared_told d x rows (Err s) same tells = tt
