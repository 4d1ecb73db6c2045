-- What a tag, a clear-checksums and a release-locks leave.
use Rattle.std.proofs.Common.{ap, sym, ◌∙◌}
use Rattle.std.specs.Prelude.{List, Some, [], if◌then◌else◌, map, refl, ℕ, ◌∷◌, ◌≡◌}
use Rattle.lq_base.specs.declared.dialect.Dialect.{Dialect}
use Rattle.lq_base.specs.declared.dialect.Dialect.TheVariants.{Mysql, Postgresql}
use Rattle.lq_base.specs.declared.tracking.Tracked.{Tracked}
use Rattle.lq_model.specs.Catalogue.{is_empty}
use Rattle.lq_track.specs.Database.{Database}
use Rattle.lq_track.specs.Log.{identity_of}
use Rattle.lq_turns.specs.Laws.{ClearLeaves, ReleaseLeaves, TagLeaves, at_rest}
use Rattle.lq_turns.specs.Deed.{contents_of, tagged, without_sum}
use Rattle.lq_turns.specs.Script.{clearing, closing, tag_of}
use Rattle.lq_turns.specs.Session.{left_by}

tagged_last : (d : Dialect) (tag : List ℕ) (row : Tracked) (database : Database) → left_by d (tag_of tag (Some row)) database ≡ record database { rows = map (tagged (identity_of row) tag) database.rows }
tagged_last Postgresql tag row database = refl
tagged_last Mysql tag row database = refl

pub tag_leaves : TagLeaves
tag_leaves d tag row database is = ap (λ o. left_by d (tag_of tag o) database) is ∙ tagged_last d tag row database

cleared_all : (d : Dialect) (rows : List Tracked) (database : Database) → database.rows ≡ rows → left_by d (if is_empty rows then [] else clearing ∷ []) database ≡ record database { rows = map without_sum database.rows }
cleared_all d [] database is = ap (λ (rows : List Tracked). record database { rows = rows }) (is ∙ ap (map without_sum) (sym is))
cleared_all Postgresql (row ∷ rows) database is = refl
cleared_all Mysql (row ∷ rows) database is = refl

pub clear_leaves : ClearLeaves
clear_leaves d database = cleared_all d database.rows database refl

freed : (d : Dialect) (database : Database) → left_by d (closing ∷ []) database ≡ at_rest database (contents_of database)
freed Postgresql database = refl
freed Mysql database = refl

pub release_leaves : ReleaseLeaves
release_leaves d database = (
  λ held. ap (λ b. left_by d (if b then closing ∷ [] else []) database) held ∙ freed d database,
  λ free. ap (λ b. left_by d (if b then closing ∷ [] else []) database) free,
)
