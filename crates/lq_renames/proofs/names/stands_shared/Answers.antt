use Rattle.std.proofs.Common.{ap, false, sym, ◌||◌, ◌∙◌, ◌≡◌}
use Rattle.std.specs.List.{list_any}
use Rattle.lq_arm.proofs.NameLemmas.{shared_is}
use Rattle.lq_model.specs.NameSpaces.{names_inside, object_names}
use Rattle.lq_model.specs.Catalogue.{is_in}
use Rattle.lq_renames.proofs.names.stands_shared.Goals as goal

pub returns-else-has_object : goal.returns-else-has_object
returns-else-has_object c =
    let n = c.args.name.now in
    let db = c.args.parts.now.now in
    let es = c.tables.result.now in
    let none : is_in n (object_names db) ≡ false = sym c.has_object.ensures ∙ c.if-has_object.false in
    c.any_is_inner.ensures ∙ ap (λ b. b || list_any (λ e. is_in n (names_inside (e.0, e.1.now))) es) (sym none) ∙ sym (shared_is n db es c.tables.ensures)
