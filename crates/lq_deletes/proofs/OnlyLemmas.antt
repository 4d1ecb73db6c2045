-- The table without the only row that the test takes.
use Rattle.std.proofs.Common.{Bool, List, Some, ap, map, nat_eq, not, slice_get, sym, ℕ, ◌∙◌, ◌≡◌}
use Rattle.lq_base.specs.declared.value.Value.{Value}
use Rattle.lq_model.specs.Catalogue.{Table}
use Rattle.lq_model.specs.Rows.{without_taken}
use Rattle.lq_model.specs.Truth.{takes}
use Rattle.lq_model.specs.declared.test.Test.{Test}
use Rattle.std.specs.Prelude.{Option}
use Rattle.lq_one_row.proofs.OnlyLemmas.{mapped}
use Rattle.lq_one_row.specs.Only.{IsOnly}
use Rattle.lq_parts.proofs.OneRow.{one_taken}
use Rattle.lq_rows.specs.Stored.{without_row}
use Rattle.lq_deletes.proofs.Thinned.{as_many, kept_by_marks}

pub without_only : (test : Option Test) (it : Table) (at : ℕ) → IsOnly test it at → without_row at it ≡ without_taken test it
without_only test it at is =
    let stays : List Value → Bool = λ row. not (takes test it.columns row) in
    ap (λ rows. record it { rows = rows }) (sym (one_taken (map stays it.rows) it.rows at (as_many stays it.rows) but) ∙ kept_by_marks stays it.rows) where
      but : (i : ℕ) (mark : Bool) → slice_get (map (λ row. not (takes test it.columns row)) it.rows) i ≡ Some mark → mark ≡ not (nat_eq i at)
      but i mark e = let row = mapped (λ row. not (takes test it.columns row)) it.rows i mark e in sym row.2 ∙ ap not (is.only i row.0 row.1)
