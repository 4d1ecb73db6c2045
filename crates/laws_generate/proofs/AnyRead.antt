-- A change under its type's name is read as that change.
use Rattle.std.proofs.Common.{ap, ◌∙◌}
use Rattle.std.specs.Prelude.{List, None, Ok, Option, Some, [], codes, refl, ℕ, ◌∷◌, ◌≡◌}
use Rattle.lq_base.specs.declared.dialect.Dialect.{Dialect}
use Rattle.lq_base.specs.declared.dialect.Dialect.TheVariants.{Postgresql}
use Rattle.lq_keys.specs.AddForeignKey.{add_foreign_key}
use Rattle.lq_primary_keys.specs.AddPrimaryKey.{add_primary_key}
use Rattle.lq_uniques.specs.AddUnique.{add_unique}
use Rattle.lq_keys.specs.CreateIndex.{create_index}
use Rattle.lq_keys.specs.declared.add_foreign_key.AddForeignKeyConstraint.{AddForeignKeyConstraint}
use Rattle.lq_primary_keys.specs.declared.add_primary_key.AddPrimaryKey.{AddPrimaryKey}
use Rattle.lq_uniques.specs.declared.add_unique.AddUniqueConstraint.{AddUniqueConstraint}
use Rattle.lq_keys.specs.declared.create_index.CreateIndex.{CreateIndex}
use Rattle.lq_any.specs.AnyChange.{any_change, at_only, named, named_key, named_other}
use Rattle.lq_any.specs.declared.any_change.AnyChange.TheVariants as any
use Rattle.lq_tables.specs.CreateTable.{create_table}
use Rattle.lq_tables.specs.declared.create_table.CreateTable.{CreateTable}
use Rattle.lq_tree.specs.Look.{map_found, within}
use Rattle.lq_tree.specs.declared.node.Node.{Node}
use Rattle.lq_views.specs.CreateSequence.{create_sequence}
use Rattle.lq_views.specs.CreateView.{create_view}
use Rattle.lq_views.specs.declared.create_sequence.CreateSequence.{CreateSequence}
use Rattle.lq_views.specs.declared.create_view.CreateView.{CreateView}
use Rattle.lq_generate.specs.Types.{under}
use Rattle.laws_generate.proofs.NodesRead.{map_is}

module _ (d : Dialect) (n : Node) where
  pub any_table : (x : CreateTable) → create_table d n ≡ Ok x → any_change d (under (codes "createTable") n) ≡ Ok (any.CreateTable x)
  unfolding any_change named
  any_table x h = ap (at_only d) (map_is ((codes "createTable", n) ∷ [])) ∙ ap (λ r. within (codes "createTable") (map_found (λ x. any.CreateTable x) r)) h

  pub any_key : (x : AddPrimaryKey) → add_primary_key d n ≡ Ok x → any_change d (under (codes "addPrimaryKey") n) ≡ Ok (any.AddPrimaryKey x)
  unfolding any_change named named_key
  any_key x h = ap (at_only d) (map_is ((codes "addPrimaryKey", n) ∷ [])) ∙ ap (λ r. within (codes "addPrimaryKey") (map_found (λ x. any.AddPrimaryKey x) r)) h

  pub any_unique : (x : AddUniqueConstraint) → add_unique d n ≡ Ok x → any_change d (under (codes "addUniqueConstraint") n) ≡ Ok (any.AddUniqueConstraint x)
  unfolding any_change named named_key
  any_unique x h = ap (at_only d) (map_is ((codes "addUniqueConstraint", n) ∷ [])) ∙ ap (λ r. within (codes "addUniqueConstraint") (map_found (λ x. any.AddUniqueConstraint x) r)) h

  pub any_index : (x : CreateIndex) → create_index d n ≡ Ok x → any_change d (under (codes "createIndex") n) ≡ Ok (any.CreateIndex x)
  unfolding any_change named named_key
  any_index x h = ap (at_only d) (map_is ((codes "createIndex", n) ∷ [])) ∙ ap (λ r. within (codes "createIndex") (map_found (λ x. any.CreateIndex x) r)) h

  pub any_foreign : (x : AddForeignKeyConstraint) → add_foreign_key d n ≡ Ok x → any_change d (under (codes "addForeignKeyConstraint") n) ≡ Ok (any.AddForeignKeyConstraint x)
  unfolding any_change named named_key
  any_foreign x h = ap (at_only d) (map_is ((codes "addForeignKeyConstraint", n) ∷ [])) ∙ ap (λ r. within (codes "addForeignKeyConstraint") (map_found (λ x. any.AddForeignKeyConstraint x) r)) h

  pub any_view : (x : CreateView) → create_view d n ≡ Ok x → any_change d (under (codes "createView") n) ≡ Ok (any.CreateView x)
  unfolding any_change named named_key named_other
  any_view x h = ap (at_only d) (map_is ((codes "createView", n) ∷ [])) ∙ ap (λ r. within (codes "createView") (map_found (λ x. any.CreateView x) r)) h

  pub any_sequence : (x : CreateSequence) → create_sequence d n ≡ Ok x → any_change d (under (codes "createSequence") n) ≡ Ok (any.CreateSequence x)
  unfolding any_change named named_key named_other
  any_sequence x h = ap (at_only d) (map_is ((codes "createSequence", n) ∷ [])) ∙ ap (λ r. within (codes "createSequence") (map_found (λ x. any.CreateSequence x) r)) h
