-- Lemmas on rows of which some are marked.
use Rattle.std.proofs.Common.{Bool, true, false, ◌≡◌, suc, List, [], ◌∷◌, length, refl, ap, sym, ◌∙◌, arith}
use Rattle.std.specs.Prelude.{Option, Some, None}
use Rattle.lq_chain.specs.Marks.{kept_rows, gone_rows, merged, ousted, replaced}

module _ {X : Type 0} where
  -- what is parted and merged is as it was
  pub parted_merged : (marks : List Bool) (rows : List X) → length marks ≡ length rows → merged marks (kept_rows marks rows) (gone_rows marks rows) ≡ rows
  parted_merged [] [] e = refl
  parted_merged [] (row ∷ rows) e = absurd (omega (arith, e))
  parted_merged (true ∷ marks) (row ∷ rows) e = ap (λ rest. row ∷ rest) (parted_merged marks rows (omega (arith, e)))
  parted_merged (mark ∷ marks) [] e = absurd (omega (arith, e))
  parted_merged (false ∷ marks) (row ∷ rows) e = ap (λ rest. row ∷ rest) (parted_merged marks rows (omega (arith, e)))

  length-replaced : (by : List (Option X)) (rows : List X) → length by ≡ length rows → length (replaced by rows) ≡ length rows
  length-replaced [] [] e = refl
  length-replaced [] (row ∷ rows) e = absurd (omega (arith, e))
  length-replaced (new ∷ by) [] e = absurd (omega (arith, e))
  length-replaced (new ∷ by) (row ∷ rows) e = ap suc (length-replaced by rows (omega (arith, e)))

  length-ousted : (by : List (Option X)) (rows : List X) → length by ≡ length rows → length (ousted by rows) ≡ length rows
  length-ousted [] [] e = refl
  length-ousted [] (row ∷ rows) e = absurd (omega (arith, e))
  length-ousted (new ∷ by) [] e = absurd (omega (arith, e))
  length-ousted (new ∷ by) (row ∷ rows) e = ap suc (length-ousted by rows (omega (arith, e)))

  -- the rows that stood there, put back
  pub put_back : (by : List (Option X)) (rows : List X) → length by ≡ length rows → replaced (ousted by rows) (replaced by rows) ≡ rows
  put_back [] [] e = refl
  put_back [] (row ∷ rows) e = absurd (omega (arith, e))
  put_back (new ∷ by) [] e = absurd (omega (arith, e))
  put_back (None ∷ by) (row ∷ rows) e = ap (λ rest. row ∷ rest) (put_back by rows (omega (arith, e)))
  put_back (Some new ∷ by) (row ∷ rows) e = ap (λ rest. row ∷ rest) (put_back by rows (omega (arith, e)))

  pub as_long : (by : List (Option X)) (rows : List X) → length by ≡ length rows → length (ousted by rows) ≡ length (replaced by rows)
  as_long by rows e = length-ousted by rows e ∙ sym (length-replaced by rows e)

  pub as_many : (by : List (Option X)) (rows : List X) → length by ≡ length rows → length (ousted by rows) ≡ length rows
  as_many by rows e = length-ousted by rows e
