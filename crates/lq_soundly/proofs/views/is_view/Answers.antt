use Rattle.std.proofs.Common.{subst, sym, ◌≡◌}
use Rattle.std.specs.Prelude.{IfOk, Some}
use Rattle.lq_model.specs.Catalogue.{table_of}
use Rattle.lq_soundly.proofs.ViewLemmas.{view_is}
use Rattle.lq_soundly.proofs.views.is_view.Goals as goal

pub returns-in-Some : goal.returns-in-Some
returns-in-Some c =
    let found = rw c.columns.ensures at c.is_view_of.ensures in
    let there : table_of c.args.parts.now.now c.args.view.now.query.table ≡ Some c.in-Some.held.now.now = sym (rw (c.query.ensures, c.in-Some.is) at c.table.ensures) in
    subst (λ b. IfOk c.is_view_of.result (λ fits. fits ≡ b)) (view_is c.args.parts.now.now c.args.view.now c.in-Some.held.now.now there) found
