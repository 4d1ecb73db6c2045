-- A table that is not there.
use Rattle.std.proofs.Common.{ap, sym, ◌∙◌}
use Rattle.std.specs.List.{flat_map, list_any}
use Rattle.std.specs.Option.{unwrap_or}
use Rattle.std.specs.Prelude.{Bool, List, None, [], false, is_some, map, not, refl, true, ◌||◌, ◌∷◌, ◌≡◌}
use Rattle.lq_base.specs.Name.{is_named}
use Rattle.lq_base.specs.declared.dialect.Dialect.{Dialect}
use Rattle.lq_base.specs.declared.dialect.Dialect.TheVariants.{Mysql, Postgresql}
use Rattle.lq_base.specs.declared.name.Name.{Name}
use Rattle.lq_model.specs.Catalogue.{Catalogue, View, no_table, table_of, same_names, target_lists}
use Rattle.lq_model.specs.NameSpaces.{is_taken, object_names}
use Rattle.lq_model.specs.Tables.{is_viewed, targets_table}
use Rattle.lq_model.specs.Plan.{misses_target}
use Rattle.lq_model.specs.Sound.{IsSound, is_view}
use Rattle.lq_model.specs.declared.constraint.ForeignKey.{ForeignKey}
use Rattle.lq_model.proofs.Lists.{and_left, any-append, any_less, any_none, or_left, same_name, true_false}
use Rattle.lq_model.proofs.Maps.{found, none_if}

pub any-flat_map : {A : Type 0} (p : Name → Bool) (f : A → List Name) (xs : List A) → list_any p (flat_map f xs) ≡ list_any (λ x. list_any p (f x)) xs
any-flat_map p f [] = refl
any-flat_map p f (x ∷ xs) = any-append p (f x) (flat_map f xs) ∙ ap (λ b. list_any p (f x) || b) (any-flat_map p f xs)

-- nothing targets, or shows, a table that is not there
pub untargeted : (d : Dialect) (c : Catalogue) (b : Name) → IsSound d c → table_of c b ≡ None → list_any (λ e. targets_table b e.1) c.tables ≡ false
untargeted d c b sound none =
    any_less _ (λ e. list_any (misses_target c) e.1.foreign) c.tables (λ e h. any_less _ (misses_target c) e.1.foreign not_at h) sound.aimed
  where
    not_at : (f : ForeignKey) → misses_target c f ≡ false → is_named b f.table ≡ false
    not_at f hits = elim (is_named b f.table) as (λ r. is_named b f.table ≡ r → r ≡ false) [
      | true ↦ λ p. true_false refl (sym (ap (λ o. not (list_any (same_names f.targets) (target_lists (unwrap_or o no_table)))) (ap (table_of c) (sym (same_name b f.table p)) ∙ none)) ∙ hits)
      | false ↦ λ p. refl
    ] refl

pub unviewed : (d : Dialect) (c : Catalogue) (b : Name) → IsSound d c → table_of c b ≡ None → is_viewed c b ≡ false
unviewed d c b sound none = any_none _ (λ e. is_view c e.1) c.views (λ e is. not_at e.1 (and_left (is_some (table_of c e.1.query.table)) _ is)) sound.views where
  not_at : (v : View) → is_some (table_of c v.query.table) ≡ true → is_named b v.query.table ≡ false
  not_at v is = elim (is_named b v.query.table) as (λ r. is_named b v.query.table ≡ r → r ≡ false) [
    | true ↦ λ p. true_false is (ap (λ o. is_some o) (ap (table_of c) (sym (same_name b v.query.table p)) ∙ none))
    | false ↦ λ p. refl
  ] refl

-- a name that is not taken is none of a table
pub free_of : (d : Dialect) (b : Name) (c : Catalogue) → is_taken d b c ≡ false → table_of c b ≡ None
free_of Postgresql b c free = none_if _ (sym (found b c.tables) ∙ or_left _ _ (sym (any-append (is_named b) (map (λ e. e.0) c.tables) _) ∙ or_left _ _ (sym (any-append (is_named b) (object_names c) _) ∙ free)))
free_of Mysql b c free = none_if _ (sym (found b c.tables) ∙ or_left _ _ (sym (any-append (is_named b) (map (λ e. e.0) c.tables) _) ∙ free))
