use Rattle.std.proofs.Common.{ap, ◌∙◌}
use Rattle.std.specs.Prelude.{List, Option, Some, [], codes, refl, ℕ, ◌++◌, ◌∷◌, ◌≡◌}
use Rattle.lq_model.specs.Changes.{CanonicalValue, canonical_change, text}
use Rattle.lq_model.specs.TakesBack.{Row, change_of}
use Rattle.lq_columns.proofs.OnOk.{on_ok}
use Rattle.lq_columns.proofs.add_default_value.AddDefaultValueChange.canon.Goals as goal

abbrev keyed : List ℕ → List ℕ → Option CanonicalValue → Option CanonicalValue → List Row → List Row
keyed t n k s more = (codes "tableName", Some (text t)) ∷ (codes "columnName", Some (text n)) ∷ (codes "columnDataType", k) ∷ (more ++ (codes "schemaName", s) ∷ [])

same : (t u n m : List ℕ) (k l r s : Option CanonicalValue) (ds es : List Row) → t ≡ u → n ≡ m → k ≡ l → r ≡ s → ds ≡ es → keyed t n k r ds ≡ keyed u m l s es
same t u n m k l r s ds es a b c d e = rw (a, b, c, d, e) refl

pub returns-clause-written : goal.returns-clause-written
returns-clause-written c = on_ok c.write_change_of.result c.write_change_of.ensures.written (λ written. written
    ∙ ap (λ rows. c.args.to.now.written ++ canonical_change (change_of (codes "addDefaultValue") rows)) (same _ _ _ _ _ _ _ _ _ _ c.text.ensures.value c.as_key.ensures.value c.kind_field.ensures c.schema_field.ensures c.default_at-default.ensures))
