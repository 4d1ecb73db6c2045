use Rattle.std.proofs.Common.{ap, ◌≡◌, ◌++◌, ◌∙◌, ◌∷◌, [], OnOk, refl, subst, ℕ, List}
use Rattle.std.specs.Option.{option_map}
use Rattle.std.specs.Prelude.{Option, Some, codes}
use Rattle.lq_base.specs.declared.kind.Kind.{Kind}
use Rattle.lq_model.specs.Changes.{CanonicalValue, canonical_pairs, kind_value, map_of, text}
use Rattle.lq_model.specs.TakesBack.{Row, pairs_of}
use Rattle.lq_tables.specs.AddColumn.{constraints_rows}
use Rattle.lq_tables.specs.declared.add_column.AddedConstraints.{AddedConstraints}
use Rattle.lq_value_keys.specs.ValueKeys.{default_rows, value_rows}
use Rattle.lq_tables.proofs.add_column.AddedColumnWritten.write.Goals as goal

abbrev laid : List ℕ → Kind → Option CanonicalValue → List ℕ → List Row → List Row → List ℕ
laid before k constraints name defaults sets =
    before ++ canonical_pairs (pairs_of (((codes "name", Some (text name)) ∷ (codes "type", Some (kind_value k)) ∷ []) ++ (defaults ++ ((codes "constraints", constraints) ∷ sets))))

same : (before : List ℕ) (k : Kind) (constraints : Option CanonicalValue) (n m : List ℕ) (ds es vs ws : List Row) → n ≡ m → ds ≡ es → vs ≡ ws → laid before k constraints n ds vs ≡ laid before k constraints m es ws
same before k constraints n m ds es vs ws a b c = rw (a, b, c) refl

pub returns-clause-written : goal.returns-clause-written
returns-clause-written c = subst (λ (xs : List ℕ). OnOk c.write.result (c.write.new.to.written ≡ xs))
    (same c.args.to.now.written c.args.self.now.kind (option_map (λ (cs : AddedConstraints). map_of (pairs_of (constraints_rows cs))) c.args.self.now.constraints) _ _ _ _ _ _ c.as_key.ensures.value (c.default_at.ensures ∙ ap default_rows c.as_ref-2.ensures.value) (c.value_at.ensures ∙ ap value_rows c.as_ref.ensures.value))
    c.write.ensures.written
