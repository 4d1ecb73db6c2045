-- Rows in canonical text, one after the other.
use Rattle.std.proofs.Common.{List, ap, arith, drop, length, slice_index_or, suc, sym, ℕ, ◌+◌, ◌++◌, ◌<◌, ◌∙◌, ◌≡◌, ◌≤◌}
use Rattle.std.proofs.Math.Seq.{drop-cons}
use Rattle.std.proofs.lemmas.List.{append-nil, append_assoc, drop_all}
use Rattle.lq_model.specs.Changes.{canonical, canonical_values, list}
use Rattle.lq_model.specs.TakesBack.{texts}
use Rattle.lq_load.specs.LoadData.{lists}
use Rattle.lq_load.specs.Rows.{Records}

module _ (whole mid : List ℕ) (rows : Records) (i : ℕ) where
  -- one row more is written
  pub one_written : (now : List ℕ) (row d : List (List ℕ)) → i < length rows → row ≡ slice_index_or rows i d → now ≡ mid ++ canonical (list (texts row))
      → mid ++ canonical_values (lists (drop i rows)) ≡ whole → now ++ canonical_values (lists (drop (i + 1) rows)) ≡ whole
  one_written now row d within is written before =
      let next : suc i ≡ i + 1 = omega arith in
      let rest = canonical_values (lists (drop (i + 1) rows)) in
      ap (λ t. t ++ rest) written
      ∙ (append_assoc mid (canonical (list (texts row))) rest
      ∙ (ap (λ k. mid ++ (canonical (list (texts row)) ++ canonical_values (lists (drop k rows)))) (sym next)
      ∙ (ap (λ r. mid ++ (canonical (list (texts r)) ++ canonical_values (lists (drop (suc i) rows)))) is
      ∙ (ap (λ xs. mid ++ canonical_values (lists xs)) (sym (drop-cons rows i d within)) ∙ before))))

  -- all are written
  pub all_written : length rows ≤ i → mid ++ canonical_values (lists (drop i rows)) ≡ whole → mid ≡ whole
  all_written end before = sym (append-nil mid) ∙ (ap (λ xs. mid ++ canonical_values (lists xs)) (sym (drop_all i rows end)) ∙ before)
