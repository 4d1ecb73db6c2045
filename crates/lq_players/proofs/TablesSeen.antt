-- What is read from the tracking tables is what each database that is seen has.
use Rattle.std.proofs.Common.{ap, sym, ◌∙◌}
use Rattle.std.specs.Prelude.{List, Option, Some, ◌≡◌}
use Rattle.lq_base.proofs.ValueLemmas.{and_then_some}
use Rattle.lq_base.specs.declared.dialect.Dialect.{Dialect}
use Rattle.lq_base.specs.declared.tracking.Lock.{Lock}
use Rattle.lq_base.specs.declared.tracking.Tracked.{Tracked}
use Rattle.lq_beside.proofs.TablesRead.{map_some}
use Rattle.lq_players.specs.Syncing.{HasLock, HasRows}
use Rattle.lq_model.specs.Catalogue.{Catalogue}
use Rattle.lq_track.specs.Database.{Database, lock_of, rows_of}

some_same : {A : Type 0} {a b : A} → (let o : Option A = Some a in o) ≡ Some b → a ≡ b
some_same h = Prim.cc

module _ (d : Dialect) (seen : Catalogue) where
  pub rows_seen : (rows : List Tracked) → rows_of seen ≡ Some rows → HasRows d seen rows
  rows_seen rows is = λ database stands.
      let found = and_then_some _ (rows_of seen) database stands.is in
      let l = map_some _ (lock_of d seen) database found.2 in
      ap (λ (e : Database). e.rows) (sym l.2) ∙ some_same (sym found.1 ∙ is)

  pub lock_seen : (lock : Lock) → lock_of d seen ≡ Some lock → HasLock d seen lock
  lock_seen lock is = λ database stands.
      let found = and_then_some _ (rows_of seen) database stands.is in
      let l = map_some _ (lock_of d seen) database found.2 in
      ap (λ (e : Database). e.lock) (sym l.2) ∙ some_same (sym l.1 ∙ is)
