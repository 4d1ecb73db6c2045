-- A sound catalogue, but for what the result of a statement is tested for.
use Rattle.std.proofs.Math.Path.{subst}
use Rattle.std.specs.List.{list_all, list_any}
use Rattle.std.specs.List.Sorted.{IsStrictlySortedBy}
use Rattle.std.specs.Map.{keys_of}
use Rattle.std.specs.Ordering.{int_eq}
use Rattle.std.specs.Prelude.{Ok, Some, false, pos, true, ℕ, ◌≡◌}
use Rattle.lq_base.specs.Name.{name_cmp}
use Rattle.lq_base.specs.declared.dialect.Dialect.{Dialect}
use Rattle.lq_base.specs.declared.name.Name.{Name}
use Rattle.lq_model.specs.Catalogue.{Catalogue, Table, table_of}
use Rattle.lq_model.specs.NameSpaces.{AreApart, object_names}
use Rattle.lq_model.specs.Plan.{Plan, decide}
use Rattle.lq_model.specs.Sound.{IsSound, IsSoundTable, is_unlike, is_view, may_have, may_name}
use Rattle.lq_model.proofs.Decide.{IsSettled, accepted, settled}

pub record IsShaped (d : Dialect) (c : Catalogue) : Type 0 where
  pub ordered : IsStrictlySortedBy name_cmp (keys_of c.tables)
  pub ordered_views : IsStrictlySortedBy name_cmp (keys_of c.views)
  pub ordered_sequences : IsStrictlySortedBy name_cmp (keys_of c.sequences)
  pub tables : (t : Name) (it : Table) → table_of c t ≡ Some it → IsSoundTable d it
  pub views : list_all (λ e. is_view c e.1) c.views ≡ true
  pub apart : AreApart d c
  pub schemas : may_name d (object_names c) ≡ true
  pub steps : list_any (λ e. int_eq e.1.step (pos 0)) c.sequences ≡ false
  pub sequences : may_have d c.sequences ≡ true
  pub alike : is_unlike c ≡ false

pub shape_of : (d : Dialect) (c : Catalogue) → IsSound d c → IsShaped d c
shape_of d c sound = record {
  ordered = sound.ordered;
  ordered_views = sound.ordered_views;
  ordered_sequences = sound.ordered_sequences;
  tables = sound.tables;
  views = sound.views;
  apart = sound.apart;
  schemas = sound.schemas;
  steps = sound.steps;
  sequences = sound.sequences;
  alike = sound.alike;
}

pub sound_of : (d : Dialect) (c : Catalogue) → IsShaped d c → IsSettled c → IsSound d c
sound_of d c shape tested = record {
  ordered = shape.ordered;
  ordered_views = shape.ordered_views;
  ordered_sequences = shape.ordered_sequences;
  tables = shape.tables;
  views = shape.views;
  apart = shape.apart;
  schemas = shape.schemas;
  steps = shape.steps;
  sequences = shape.sequences;
  no_null = tested.no_null;
  no_twins = tested.no_twins;
  aimed = tested.aimed;
  alike = shape.alike;
  parents = tested.parents;
  small = tested.small;
}

-- what is accepted is sound where its result is shaped
pub keeps : (d : Dialect) (p : Plan) (e : Catalogue) (k : ℕ) → decide p ≡ Ok (e, k) → IsShaped d p.result → IsSound d e
keeps d p e k made shape =
    let ok = accepted p e k made in
    sound_of d e (subst (IsShaped d) ok.result shape) (settled p e ok)
