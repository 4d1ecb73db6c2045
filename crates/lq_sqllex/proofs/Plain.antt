-- What begins no comment.
use Rattle.std.proofs.Common.{◌≡◌, ◌<◌, ◌∷◌, [], List, ℕ, arith, false, refl, ◌==◌}
use Rattle.std.proofs.lemmas.Bool.{ne_eqb}
use Rattle.std.specs.Prelude.{slice_index}
use Rattle.lq_base.specs.declared.dialect.Dialect.{Dialect}
use Rattle.lq_base.specs.declared.dialect.Dialect.TheVariants.{Mysql, Postgresql}
use Rattle.lq_base.specs.Sql.{plain_sort, sort_at}

-- a text whose first byte is no `-`, no `/` and no `#`
no_comment : (d : Dialect) (b : ℕ) (rest : List ℕ) → (45 == b) ≡ false → (47 == b) ≡ false → (35 == b) ≡ false
    → sort_at d (b ∷ rest) ≡ plain_sort d b (slice_index (b ∷ rest) 1)
no_comment Postgresql b rest dash slash hash = rw (dash, slash) refl
no_comment Mysql b rest dash slash hash = rw (dash, slash, hash) refl

-- what comes after `/`
pub no_comment_above : (d : Dialect) (text : List ℕ) → 47 < slice_index text 0 → sort_at d text ≡ plain_sort d (slice_index text 0) (slice_index text 1)
no_comment_above d [] above = absurd (omega (arith, above))
no_comment_above d (b ∷ rest) above =
    no_comment d b rest (ne_eqb _ _ (λ e. omega (arith, above, e))) (ne_eqb _ _ (λ e. omega (arith, above, e))) (ne_eqb _ _ (λ e. omega (arith, above, e)))

-- what comes before `#`
pub no_comment_below : (d : Dialect) (text : List ℕ) → slice_index text 0 < 35 → sort_at d text ≡ plain_sort d (slice_index text 0) (slice_index text 1)
no_comment_below Postgresql [] below = refl
no_comment_below Mysql [] below = refl
no_comment_below d (b ∷ rest) below =
    no_comment d b rest (ne_eqb _ _ (λ e. omega (arith, below, e))) (ne_eqb _ _ (λ e. omega (arith, below, e))) (ne_eqb _ _ (λ e. omega (arith, below, e)))
