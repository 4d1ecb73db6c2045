use Rattle.std.proofs.Common.{List, [], subst, ◌∷◌, ◌≡◌, ℕ}
use Rattle.std.specs.List.{filter}
use Rattle.std.specs.Prelude.{IfSome}
use Rattle.lq_chain.specs.History.{History}
use Rattle.lq_model.specs.Catalogue.{Catalogue, the_table}
use Rattle.lq_one_row.specs.Only.{is_taken_at}
use Rattle.lq_one_row.proofs.OnlyLemmas.{only_some}
use Rattle.lq_one_row.proofs.only.only_taken.Goals as goal

pub returns-clause-only : goal.returns-clause-only
returns-clause-only c =
    let t = c.args.table.now in
    let test = c.args.test.now in
    let place = c.in_ok-place.place in
    let one = subst (λ (h : History Catalogue). IfSome place (λ at. filter (is_taken_at test (the_table h.now t)) c.deref.result.now ≡ at ∷ [])) c.in_ok-places.ensures.same c.in_ok-place.ensures in
    only_some test (the_table c.args.parts.now.now t) c.in-Some.text.now c.in_ok-places.places.items place c.in-Some.ensures c.in_ok-places.ensures.places
    (subst (λ (ps : List ℕ). IfSome place (λ at. filter (is_taken_at test (the_table c.args.parts.now.now t)) ps ≡ at ∷ [])) c.deref.ensures.value one)
