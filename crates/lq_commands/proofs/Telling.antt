-- What a command tells of its run, from its database up to its file.
use Rattle.std.proofs.Common.{subst, sym, ◌∙◌}
use Rattle.std.specs.Prelude.{Bool, Err, IfOk, List, Ok, Result, Some, [], false, true, ℕ, ◌≡◌}
use Rattle.lq_base.specs.declared.command.Command.{Command}
use Rattle.lq_base.specs.declared.dialect.Dialect.{Dialect}
use Rattle.lq_cli.specs.declared.line.Job.{Job}
use Rattle.lq_cli.specs.declared.line.Job.TheVariants.{Run}
use Rattle.lq_seen.specs.Telling.{Account}
use Rattle.lq_store.specs.Journal.{State}
use Rattle.lq_tell.specs.declared.done.Done.{Done}
use Rattle.lq_tell.specs.declared.status.Status.{Status}
use Rattle.lq_tell.specs.declared.status.Status.TheVariants as status
use Rattle.lq_track.specs.Database.{Database}
use Rattle.lq_commands.proofs.Warned.{none_up_to, quiet_lines, quiet_up_to}
use Rattle.lq_commands.specs.Outputs.{EndsText, TellsJob, TellsText}
use Rattle.lq_commands.specs.Works.{EndsRollback, EndsUpdate, IsQuiet, OnIts, is_finished}
use Rattle.lq_commands.specs.declared.given.Given.{Given}

not_true : false ≡ true → ⊥
not_true h = Prim.cc

module _ (job : Job) (given : Given) (database : Database) where
  -- one that failed tells nothing
  pub failed_tells : (r : Result Done Status) (s : Status) → r ≡ Err s → TellsJob job given database r
  failed_tells r s is = subst (λ (q : Result Done Status). TellsJob job given database q) (sym is) tt

-- what is told by whatever is done is told by what came to its end
pub text_ends : (text : List ℕ) (r : Result Done Status) → IfOk r (TellsText text) → IfOk r (EndsText text)
text_ends text (Ok done) tells = ((λ finished. tells), none_up_to [] done tells.warned)
text_ends text (Err s) tells = tt

-- and nothing by what did not, and has no warnings

pub text_cut : (text : List ℕ) (r : Result Done Status) → IfOk r (λ (done : Done). is_finished done.status ≡ false) → IfOk r IsQuiet → IfOk r (EndsText text)
text_cut text (Ok done) unfinished quiet = ((λ finished. absurd (not_true (sym unfinished ∙ finished))), quiet_up_to [] done quiet)
text_cut text (Err s) unfinished quiet = tt

pub update_cut : (prints : Bool) (account : Account) (r : Result Done Status) → IfOk r (λ (done : Done). is_finished done.status ≡ false) → IfOk r IsQuiet → IfOk r (EndsUpdate prints account)
update_cut prints account (Ok done) unfinished quiet = ((λ finished. absurd (not_true (sym unfinished ∙ finished))), quiet_up_to account.settled.warned done quiet)
update_cut prints account (Err s) unfinished quiet = tt

pub rollback_cut : (prints : Bool) (account : Account) (r : Result Done Status) → IfOk r (λ (done : Done). is_finished done.status ≡ false) → IfOk r IsQuiet → IfOk r (EndsRollback prints account)
rollback_cut prints account (Ok done) unfinished quiet = ((λ finished. absurd (not_true (sym unfinished ∙ finished))), quiet_up_to account.settled.warned done quiet)
rollback_cut prints account (Err s) unfinished quiet = tt

-- a text, where it is done
pub text_tells : (text : List ℕ) (r : Result Done Status) → IfOk r (λ (done : Done). done.status ≡ status.Done) → IfOk r (λ (done : Done). done.out ≡ Some text) → IfOk r IsQuiet → IfOk r (λ (done : Done). TellsText text done)
text_tells text (Ok done) status out quiet = record { status = status; out = out; warned = quiet_lines done quiet }
text_tells text (Err s) status out quiet = tt

-- for each database of a store

pub text_cut_on_its : (d : Dialect) (x : State) (text : Database → List ℕ) (r : Result Done Status) → IfOk r (λ (done : Done). is_finished done.status ≡ false) → IfOk r IsQuiet
    → IfOk r (λ (done : Done). OnIts d x (λ (database : Database). EndsText (text database) done))
text_cut_on_its d x text (Ok done) unfinished quiet = λ database has. text_cut (text database) (Ok done) unfinished quiet
text_cut_on_its d x text (Err s) unfinished quiet = tt

pub on_its_tells : (d : Dialect) (x : State) (r : Result Done Status) (holds : Done → Database → Type 0) → IfOk r (λ (done : Done). OnIts d x (λ (database : Database). holds done database))
    → OnIts d x (λ (database : Database). IfOk r (λ (done : Done). holds done database))
on_its_tells d x (Ok done) holds tells = tells
on_its_tells d x (Err s) holds tells = λ database has. tt

-- each command as it was asked for
pub tells_as : (k l : Command) → k ≡ l → (given : Given) (database : Database) (r : Result Done Status) → TellsJob (Run l) given database r → TellsJob (Run k) given database r
tells_as k l is given database r tells = subst (λ (c : Command). TellsJob (Run c) given database r) (sym is) tells
