use Rattle.std.proofs.Common.{ap, rules, ◌∙◌}
use Rattle.std.proofs.lemmas.Int.{to_z-of_z}
use Rattle.std.specs.Prelude.{List, Option, Some, [], codes, refl, ℕ, ◌++◌, ◌∷◌, ◌≡◌}
use Rattle.lq_model.specs.Changes.{CanonicalValue, canonical_change, text}
use Rattle.lq_model.specs.TakesBack.{Row, change_of}
use Rattle.lq_views.proofs.OnOk.{on_ok}
use Rattle.lq_views.proofs.create_sequence.CreateSequenceChange.canon.Goals as goal
use mir.Syntax.{w128}
use mir.Val.{SFits}

abbrev keyed : List ℕ → Option CanonicalValue → Option CanonicalValue → List Row
keyed name start increment = (codes "sequenceName", Some (text name)) ∷ (codes "startValue", start) ∷ (codes "incrementBy", increment) ∷ []

same : (name : List ℕ) (k l m n : Option CanonicalValue) → k ≡ l → m ≡ n → keyed name k m ≡ keyed name l n
same name k l m n start increment = rw (start, increment) refl

pub returns-clause-written : goal.returns-clause-written
returns-clause-written c =
    let start_fits : SFits w128 c.args.self.now.start_value = search rules in
    let increment_fits : SFits w128 c.args.self.now.increment_by = search rules in
    let start = simp to_z-of_z at c.number_field.ensures in
    let increment = simp to_z-of_z at c.number_field-2.ensures in
    on_ok c.write_change.result c.write_change.ensures.written (λ written. written
    ∙ ap (λ rows. c.args.to.now.written ++ canonical_change (change_of (codes "createSequence") rows)) (same c.args.self.now.sequence_name _ _ _ _ start increment))
