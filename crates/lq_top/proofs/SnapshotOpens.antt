-- What snapshot leaves, or a stop of it, is opened again, with the same database.
use Rattle.std.proofs.Common.{inl, inr, refl, ◌∙◌}
use Rattle.std.specs.Prelude.{List, Option, Some, [], ℕ, ◌++◌, ◌∷◌, ◌⊎◌, ◌≡◌}
use Rattle.lq_base.specs.declared.dialect.Dialect.{Dialect}
use Rattle.lq_model.specs.Catalogue.{Catalogue, no_objects}
use Rattle.lq_store.specs.Calls.{stated}
use Rattle.lq_store.specs.Journal.{Entry, run_entries, run_entry}
use Rattle.lq_jobs.proofs.OpensAgain.{holds_opens, was_clean}
use Rattle.lq_jobs.proofs.Unchanged.{holds_it}
use Rattle.lq_jobs.specs.Asks.{Asks, Files}
use Rattle.lq_jobs.specs.Bytes.{Holds, Opens}
use Rattle.lq_jobs.specs.Worked.{HasSameEntries, HasStated, IsSnapped, SnapshotOpens}
use Rattle.lq_track.specs.Database.{Database}

-- entries lead on from where those before them lead
run_more : (d : Dialect) (es fs : List Entry) (o : Option Catalogue) → run_entries d (es ++ fs) o ≡ run_entries d fs (run_entries d es o)
run_more d [] fs o = refl
run_more d (e ∷ es) fs o = run_more d es fs (run_entry d e o)

module _ (d : Dialect) (database : Database) (before : Option (List ℕ)) (opens : Opens d before database) where
  same_holds : (after : Option (List ℕ)) → HasSameEntries d before after → Holds d after database
  same_holds after same =
      let was = holds_it d before database opens in
      record { entries = was.entries; told_are = same ∙ was.told_are; catalogue = was.catalogue; leads = was.leads; stands = was.stands }

  stated_holds : (after : Option (List ℕ)) → HasStated d database before after → Holds d after database
  stated_holds after it = record {
    entries = it.holds.entries ++ stated it.holds.catalogue;
    told_are = it.entries;
    catalogue = it.holds.catalogue;
    leads = run_more d it.holds.entries (stated it.holds.catalogue) (Some no_objects) ∙ it.is_state;
    stands = it.holds.stands;
  }

  pub snapped_opens : (after : Option (List ℕ)) → IsSnapped d database before after → Opens d after database
  snapped_opens after (inl same) = holds_opens d after database (same_holds after same) (was_clean d before database opens)
  snapped_opens after (inr it) = holds_opens d after database (stated_holds after it.1) (was_clean d before database opens)

pub crash_opens : {words : List (List ℕ)} {files : Files} (asks : Asks words files) (told : Option (List ℕ)) (bytes : List ℕ) → SnapshotOpens asks told bytes
crash_opens asks told bytes = λ is database opens left. snapped_opens asks.line.options.dialect database told opens (Some bytes) left
