-- The scripts of commands in lq_turns' words.
use Rattle.std.proofs.Common.{ap, refl, ◌∙◌}
use Rattle.std.proofs.lemmas.List.{append-nil}
use Rattle.std.specs.Prelude.{Bool, List, [], map, false, true, ℕ, ◌++◌, ◌||◌, ◌∷◌, ◌≡◌}
use Rattle.lq_base.specs.declared.dialect.Dialect.{Dialect}
use Rattle.lq_base.specs.declared.tracking.Tracked.{Tracked}
use Rattle.lq_track.specs.Database.{Database}
use Rattle.lq_turns.specs.Deed.{Contents, contents_of}
use Rattle.lq_turns.specs.Session.{are_accepted, went}
use Rattle.lq_turns.specs.Rest.{Inside, NoMore, Turns, between, if_goes_on, turns_calls}
use Rattle.lq_turns.specs.Script.{with_lock}
use Rattle.lq_turns.specs.Set.{Meaning}
use Rattle.lq_turns.specs.Turn.{made}
use Rattle.lq_turns.specs.declared.call.Call.{Call}
use Rattle.lq_turns.specs.declared.call.Call.TheVariants.{Begin, Commit, Execute}
use Rattle.lq_turns.specs.declared.deed.Deed.TheVariants.{Rows}
use Rattle.lq_turns.specs.declared.deed.OnRows.TheVariants.{Inserted}
use Rattle.lq_turns.specs.declared.stamp.Stamp.{Stamp}
use Rattle.lq_run.proofs.Keeping.{inserts_hold}
use Rattle.lq_run.specs.Commands.{both_on, script}
use Rattle.lq_run.specs.Ends.{AllHoldOn}

module _ {Key : Type 0} (d : Dialect) (m : Meaning Key) (stamp : Stamp) (database : Database) where
  no_turns : (goes_on : Bool) (c : Contents) → turns_calls d m stamp (if_goes_on goes_on NoMore) c ≡ []
  no_turns true c = refl
  no_turns false c = refl

  -- with no turn in hand
  pub script_between : (turns : Turns Key) → script d m stamp (between turns) database ≡ with_lock stamp database (turns_calls d m stamp turns (contents_of database))
  script_between turns = refl

  -- with one turn in hand, and no other
  pub script_inside : (calls : List Call) (goes_on : Bool) → script d m stamp (Inside calls goes_on NoMore) database ≡ with_lock stamp database (made d calls (contents_of database))
  script_inside calls goes_on =
      let before = made d calls (contents_of database) in
      ap (with_lock stamp database)
      (ap (λ more. before ++ more) (no_turns (are_accepted d calls (contents_of database) || goes_on) (went d calls (both_on database)).0) ∙ append-nil before)

-- the rows of a changelog-sync leave the lock held
pub sync_holds : (d : Dialect) (who : List ℕ) (rows : List Tracked) → AllHoldOn who (Begin ∷ map (λ r. Execute (Rows (Inserted r))) rows ++ Commit ∷ [])
sync_holds d who rows = (tt, inserts_hold d who rows)
