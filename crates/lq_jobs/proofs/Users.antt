-- What a catalogue that stands for a database holds.
use Rattle.std.proofs.Common.{ap, refl, ◌∙◌}
use Rattle.std.specs.Prelude.{None, Option, Some, option_map, ◌≡◌}
use Rattle.lq_base.proofs.ValueLemmas.{and_then_some}
use Rattle.lq_base.specs.declared.dialect.Dialect.{Dialect}
use Rattle.lq_model.specs.Catalogue.{Catalogue}
use Rattle.lq_track.specs.Database.{Database, lock_of, rows_of, users_of}
use Rattle.lq_turns.specs.Schedule.{StandsFor}

pub some_same : {A : Type 0} {a b : A} → Some a ≡ Some b → a ≡ b
some_same h = Prim.cc

none_some : {A : Type 0} {a : A} → (let o : Option A = None in o) ≡ Some a → ⊥
none_some h = Prim.cc

map_some : {A B : Type 0} (f : A → B) (o : Option A) (b : B) → option_map f o ≡ Some b → (a : A) × (o ≡ Some a) × (f a ≡ b)
map_some f None b is = absurd (none_some is)
map_some f (Some a) b is = (a, refl, some_same is)

module _ (d : Dialect) (c : Catalogue) (database : Database) (stands : StandsFor d c database) where
  pub rows_are : rows_of c ≡ Some database.rows
  rows_are =
      let rows = and_then_some _ (rows_of c) database stands.is in
      let lock = map_some _ (lock_of d c) database rows.2 in
      rows.1 ∙ ap (λ (x : Database). Some x.rows) lock.2

  pub users_are : users_of c ≡ database.users
  users_are =
      let rows = and_then_some _ (rows_of c) database stands.is in
      let lock = map_some _ (lock_of d c) database rows.2 in
      ap (λ (x : Database). x.users) lock.2
