use Rattle.std.proofs.Common.{ap, refl, subst, ◌∙◌, ◌||◌, ◌≡◌}
use Rattle.lq_model.specs.Tables.{lacks_own, lists_twice}
use Rattle.lq_shapes.specs.Created.{made}
use Rattle.lq_tableops.specs.Aimed.{AreAims}
use Rattle.lq_tableops.proofs.CreateLemmas.{create_tests_are}
use Rattle.lq_tableops.proofs.creating.create_tests.Goals as goal

pub returns-clause-tests : goal.returns-clause-tests
returns-clause-tests c =
    let new = c.args.new.now in
    let db = c.args.parts.now.now in
    let cs = c.args.made.now.columns in
    let own : c.in_ok-own.own ≡ cs = c.in_ok-own.ensures ∙ c.as_slice-columns.ensures in
    create_tests_are c.args.by c.args.dialect new.name.now new.columns.now new.key.now new.uniques.now new.foreign.now db c.args.made.now c.in_ok-aims.aims _
    c.in_ok-clash.clash c.in_ok-lock_key.lock_key c.in_ok-twice.twice c.requires
    (subst (λ xs. AreAims new.name.now (made xs new.key.now new.uniques.now new.foreign.now) db new.foreign.now c.in_ok-aims.aims) own c.in_ok-aims.ensures)
    (c.in_ok-reserved.ensures cs)
    (ap (λ b. b || c.in_ok-aims.aims.missing) (c.lacks_own.ensures ∙ ap (λ xs. lacks_own (made xs new.key.now new.uniques.now new.foreign.now)) own))
    (c.in_ok-clash.ensures.found cs) (c.in_ok-lock_key.ensures cs)
    (c.in_ok-twice.ensures ∙ ap (λ xs. lists_twice (made xs new.key.now new.uniques.now new.foreign.now)) c.as_slice-columns.ensures) refl
    (rw (c.one_depends.ensures) refl) (rw (c.one_numbers_wrongly.ensures, c.repeats_number.ensures) refl) refl refl refl refl refl refl
