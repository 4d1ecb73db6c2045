-- Rows that are taken out or replaced one after the other.
use Rattle.std.proofs.Common.{Bool, true, false, ◌≡◌, ℕ, zero, suc, ◌+◌, ◌<◌, ◌≤◌, List, [], ◌∷◌, length, refl, sym, ap, ◌∙◌, arith}
use Rattle.std.proofs.lemmas.List.{length-set}
use Rattle.std.specs.Prelude.{Option, Some, None, cond, drop, slice_index_or, slice_set}
use Rattle.std.specs.List.{remove}
use Rattle.lq_chain.specs.Marks.{kept_rows, replaced, with_new}

module _ {X : Type 0} where
  -- the rows before a place, and those behind it whose mark stands
  abbrev pub kept_from : ℕ → List Bool → List X → List X
  kept_from zero marks rows = kept_rows marks rows
  kept_from (suc at) marks [] = []
  kept_from (suc at) marks (row ∷ rows) = row ∷ kept_from at marks rows

  pub from_kept : (at : ℕ) (marks : List Bool) (rows : List X) → at < length rows → kept_from (suc at) marks rows ≡ kept_from at (true ∷ marks) rows
  from_kept at marks [] less = absurd (omega (arith, less))
  from_kept zero marks (row ∷ rows) less = refl
  from_kept (suc at) marks (row ∷ rows) less = ap (λ rest. row ∷ rest) (from_kept at marks rows (omega (arith, less)))

  pub from_gone : (at : ℕ) (marks : List Bool) (rows : List X) → at < length rows → kept_from at marks (remove rows at) ≡ kept_from at (false ∷ marks) rows
  from_gone at marks [] less = absurd (omega (arith, less))
  from_gone zero marks (row ∷ rows) less = refl
  from_gone (suc at) marks (row ∷ rows) less = ap (λ rest. row ∷ rest) (from_gone at marks rows (omega (arith, less)))

  pub from_end : (at : ℕ) (rows : List X) → length rows ≡ at → kept_from at [] rows ≡ rows
  from_end zero [] e = refl
  from_end zero (row ∷ rows) e = absurd (omega (arith, e))
  from_end (suc at) [] e = refl
  from_end (suc at) (row ∷ rows) e = ap (λ rest. row ∷ rest) (from_end at rows (omega (arith, e)))

  pub length-removed : (at : ℕ) (rows : List X) → at < length rows → length (remove rows at) + 1 ≡ length rows
  length-removed at [] less = absurd (omega (arith, less))
  length-removed zero (row ∷ rows) less = omega arith
  length-removed (suc at) (row ∷ rows) less = let less' : at < length rows = omega (arith, less) in omega (arith, length-removed at rows less')

  -- the rows before a place, and those behind it with the new ones in their places
  abbrev pub replaced_from : ℕ → List (Option X) → List X → List X
  replaced_from zero by rows = replaced by rows
  replaced_from (suc at) by [] = []
  replaced_from (suc at) by (row ∷ rows) = row ∷ replaced_from at by rows

  pub from_same : (at : ℕ) (by : List (Option X)) (rows : List X) → at < length rows → replaced_from (suc at) by rows ≡ replaced_from at (None ∷ by) rows
  from_same at by [] less = absurd (omega (arith, less))
  from_same zero by (row ∷ rows) less = refl
  from_same (suc at) by (row ∷ rows) less = ap (λ rest. row ∷ rest) (from_same at by rows (omega (arith, less)))

  pub from_new : (at : ℕ) (new : X) (by : List (Option X)) (rows : List X) → at < length rows → replaced_from (suc at) by (slice_set rows at new) ≡ replaced_from at (Some new ∷ by) rows
  from_new at new by [] less = absurd (omega (arith, less))
  from_new zero new by (row ∷ rows) less = refl
  from_new (suc at) new by (row ∷ rows) less = ap (λ rest. row ∷ rest) (from_new at new by rows (omega (arith, less)))

  pub replaced_end : (at : ℕ) (rows : List X) → length rows ≡ at → replaced_from at [] rows ≡ rows
  replaced_end zero [] e = refl
  replaced_end zero (row ∷ rows) e = absurd (omega (arith, e))
  replaced_end (suc at) [] e = refl
  replaced_end (suc at) (row ∷ rows) e = ap (λ rest. row ∷ rest) (replaced_end at rows (omega (arith, e)))

  -- a step of each loop
  pub keep_step : (mark : Bool) (at next : ℕ) (marks : List Bool) (rows new : List X) → at < length rows → next ≡ cond mark (at + 1) at → new ≡ cond mark rows (remove rows at)
      → (kept_from next marks new ≡ kept_from at (mark ∷ marks) rows)
  keep_step true at next marks rows new less n e =
      let more : next ≡ suc at = omega (arith, n) in
      ap (λ k. kept_from k marks new) more ∙ ap (kept_from (suc at) marks) e ∙ from_kept at marks rows less
  keep_step false at next marks rows new less n e = ap (λ k. kept_from k marks new) n ∙ ap (kept_from at marks) e ∙ from_gone at marks rows less

  pub keep_count : (mark : Bool) (at next left : ℕ) (rows new : List X) → length rows ≡ at + suc left → next ≡ cond mark (at + 1) at → new ≡ cond mark rows (remove rows at) → length new ≡ next + left
  keep_count true at next left rows new long n e = omega (arith, long, n, ap length e)
  keep_count false at next left rows new long n e = let less : at < length rows = omega (arith, long) in omega (arith, long, n, ap length e, length-removed at rows less)

  pub put_step : (new : Option X) (at next : ℕ) (by : List (Option X)) (rows now : List X) → at < length rows → next ≡ at + 1 → now ≡ with_new rows at new → replaced_from next by now ≡ replaced_from at (new ∷ by) rows
  put_step None at next by rows now less n e =
      let more : next ≡ suc at = omega (arith, n) in ap (λ k. replaced_from k by now) more ∙ ap (replaced_from (suc at) by) e ∙ from_same at by rows less
  put_step (Some new) at next by rows now less n e =
      let more : next ≡ suc at = omega (arith, n) in ap (λ k. replaced_from k by now) more ∙ ap (replaced_from (suc at) by) e ∙ from_new at new by rows less

  pub put_count : (new : Option X) (at next left : ℕ) (rows now : List X) → length rows ≡ at + suc left → next ≡ at + 1 → now ≡ with_new rows at new → length now ≡ next + left
  put_count None at next left rows now long n e = omega (arith, long, n, ap length e)
  put_count (Some new) at next left rows now long n e = omega (arith, long, n, ap length e, length-set rows at new)

  pub drop_at : (xs : List X) (i : ℕ) (d : X) → i < length xs → drop i xs ≡ slice_index_or xs i d ∷ drop (i + 1) xs
  drop_at [] i d less = absurd (omega (arith, less))
  drop_at (x ∷ xs) zero d less = refl
  drop_at (x ∷ xs) (suc i) d less =
      let on : suc i + 1 ≡ suc (i + 1) = omega arith in
      drop_at xs i d (omega (arith, less)) ∙ ap (λ k. slice_index_or (x ∷ xs) (suc i) d ∷ drop k (x ∷ xs)) (sym on)

  pub drop_past : (xs : List X) (i : ℕ) → length xs ≤ i → drop i xs ≡ []
  drop_past [] zero le = refl
  drop_past [] (suc i) le = refl
  drop_past (x ∷ xs) zero le = absurd (omega (arith, le))
  drop_past (x ∷ xs) (suc i) le = drop_past xs i (omega (arith, le))

  pub none_left : (xs : List X) → length xs ≡ 0 → xs ≡ []
  none_left [] e = refl
  none_left (x ∷ xs) e = absurd (omega (arith, e))
