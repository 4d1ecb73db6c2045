-- That its words tell what is stated of a deletion.
use Rattle.std.proofs.Common.{ap, sym, ◌∙◌}
use Rattle.std.specs.Prelude.{None, Option, Some, option_map, refl, ◌≡◌}
use Rattle.lq_keys.specs.OnDelete.{on_delete_of, words}
use Rattle.lq_keys.specs.declared.on_delete.OnDelete.{OnDelete}
use Rattle.lq_keys.specs.declared.on_delete.OnDelete.TheVariants.{Cascade, NoAction, Restrict}
use Rattle.lq_model.proofs.Told.{text_told}
use Rattle.lq_model.specs.Changes.{text}

read : (o : OnDelete) → on_delete_of (words o) ≡ Some o
read NoAction = refl
read Restrict = refl
read Cascade = refl

pub on_delete_told : (o p : Option OnDelete) → option_map (λ o. text (words o)) o ≡ option_map (λ o. text (words o)) p → o ≡ p
on_delete_told None None h = refl
on_delete_told (Some o) (Some p) h = sym (read o) ∙ ap on_delete_of (text_told h) ∙ read p
on_delete_told None (Some p) h = absurd Prim.cc
on_delete_told (Some o) None h = absurd Prim.cc
