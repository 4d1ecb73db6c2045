-- Entries of which each gets another value, which its name may tell.
use Rattle.std.proofs.Common.{ap, sym, ◌∙◌}
use Rattle.std.specs.List.{flat_map}
use Rattle.std.specs.Map.{lookup}
use Rattle.std.specs.Option.{option_map}
use Rattle.std.specs.Prelude.{List, Some, [], cond, false, map, refl, true, ◌++◌, ◌∷◌, ◌≡◌}
use Rattle.lq_base.specs.Name.{is_named}
use Rattle.lq_base.specs.declared.name.Name.{Name}
use Rattle.lq_model.proofs.Lists.{same_name}

pub lookup-entries : {X : Type 0} (q : Name) (g : Name → X → X) (es : List (Name × X)) → lookup (is_named q) (map (λ e. (e.0, g e.0 e.1)) es) ≡ option_map (g q) (lookup (is_named q) es)
lookup-entries q g [] = refl
lookup-entries q g (e ∷ es) =
    elim (is_named q e.0) as (λ b. is_named q e.0 ≡ b → cond b (Some (g e.0 e.1)) (lookup (is_named q) (map (λ x. (x.0, g x.0 x.1)) es)) ≡ option_map (g q) (cond b (Some e.1) (lookup (is_named q) es))) [
      | true ↦ λ p. ap (λ n. Some (g n e.1)) (sym (same_name q e.0 p))
      | false ↦ λ p. lookup-entries q g es
    ] refl

pub flat-entries : {X : Type 0} (f : Name × X → List Name) (g : Name → X → X) (es : List (Name × X)) → ((e : Name × X) → f (e.0, g e.0 e.1) ≡ f e) → flat_map f (map (λ e. (e.0, g e.0 e.1)) es) ≡ flat_map f es
flat-entries f g [] same = refl
flat-entries f g (e ∷ es) same = ap (λ ns. ns ++ flat_map f (map (λ x. (x.0, g x.0 x.1)) es)) (same e) ∙ ap (λ ns. f e ++ ns) (flat-entries f g es same)

pub keys-entries : {X : Type 0} (g : Name → X → X) (es : List (Name × X)) → map (λ (e : Name × X). e.0) (map (λ e. (e.0, g e.0 e.1)) es) ≡ map (λ e. e.0) es
keys-entries g [] = refl
keys-entries g (e ∷ es) = ap (λ ks. e.0 ∷ ks) (keys-entries g es)
