-- What a run of snapshot does on a file, and what it says.
use Rattle.std.proofs.Common.{ap, inl, inr, refl, subst, sym, ◌∙◌}
use Rattle.std.specs.Option.{option_map}
use Rattle.std.specs.Prelude.{Err, IfOk, List, None, Ok, Option, Result, Some, true, ℕ, ◌++◌, ◌∷◌, ◌≡◌, ◌⊎◌}
use Rattle.lq_base.specs.declared.dialect.Dialect.{Dialect}
use Rattle.lq_cli.specs.declared.line.Job.TheVariants.{Drill, Snapshot}
use Rattle.lq_commands.proofs.PlainRefusals.{held_not_full}
use Rattle.lq_commands.specs.Outputs.{TellsText}
use Rattle.lq_commands.specs.Refusals.{Answers, held}
use Rattle.lq_commands.specs.Works.{is_finished}
use Rattle.lq_entries.specs.Log.{entries_in}
use Rattle.lq_outside.specs.Crash.{Crashes as DiskCrashes, IsSound}
use Rattle.lq_outside.specs.Forms.{IsPart}
use Rattle.lq_report.specs.Output.{snapshot_text}
use Rattle.lq_tell.specs.Texts.{EndsAs, has_output, out_text, status_done, text_or_none}
use Rattle.lq_tell.specs.declared.done.Done.{Done}
use Rattle.lq_tell.specs.declared.status.Status.{Status}
use Rattle.lq_tell.specs.declared.status.Status.TheVariants as status
use Rattle.lq_track.specs.Database.{Database}
use Rattle.lq_jobs.proofs.LeftOnFile.{leaves_on, none_since}
use Rattle.lq_top.proofs.SnapshotOpens.{snapped_opens}
use Rattle.lq_jobs.proofs.Written.{Failed, IsWritten, ends_by, err_not_full, failed_outside, failed_unfinished, false_true, memory_full, outside_ends, outside_not_full, quiet_held, quiet_not, refused_for, was_over, write_full}
use Rattle.lq_jobs.specs.Asks.{Asks, Files}
use Rattle.lq_jobs.specs.Bytes.{CrashLeaves, Opens, most_bytes}
use Rattle.lq_jobs.specs.Headline.{IsTaken, is_taken}
use Rattle.lq_jobs.specs.Run.{EndsBy, IsOutside, is_over}
use Rattle.lq_jobs.specs.Worked.{CrashesSnapshot, DoesSnapshot, EndsSnapshot, HasNoRoom, HasSameEntries, HasSnapped, IsSnapped, IsSnapshotSafe, RunsSnapshot, RunsSnapshots, SaysSnapshot, TellsSnapshot, SnappedBy, SnappedOn}

-- a drill is another job
pub drill_no_snapshot : {runs : List ℕ} → Drill runs ≡ Snapshot → ⊥
drill_no_snapshot h = Prim.cc

done_full : {used next : ℕ} → status.Done ≡ status.Full used next → ⊥
done_full h = Prim.cc

-- a full journal is told with its numbers alone
same_used : {a b c e : ℕ} → status.Full a b ≡ status.Full c e → a ≡ c
same_used h = Prim.cc

same_next : {a b c e : ℕ} → status.Full a b ≡ status.Full c e → b ≡ e
same_next h = Prim.cc

module _ (d : Dialect) (database : Database) (before : Option (List ℕ)) (opens : Opens d before database) (done : Result Done Status) (after : Option (List ℕ)) (s : Status) (by : IsWritten done s) (shown now : Option (List ℕ))
    (whole : has_output s ≡ true → now ≡ option_map (λ (out : List ℕ). out ++ out_text done) shown) (part : IsPart (out_text done) shown now) where
  -- where the lock is free it is done, or the journal is full

  taken_by : (x : Status) → is_taken x ≡ true → EndsAs x s → IsTaken s
  taken_by x taken (inl same) = inl (ap is_taken same ∙ taken)
  taken_by x taken (inr (inl memory)) = inr (inr (inr memory))
  taken_by x taken (inr (inr write)) = inl (ap is_taken write)

  free_ends : (r : Result Done Status) → EndsAs (status_done r) s → EndsBy None s → Answers None r → IfOk r (TellsSnapshot d database before after) → IsTaken s
  free_ends (Ok ended) ends end answers (inl told) = taken_by ended.status (ap is_taken told.2.status) ends
  free_ends (Ok ended) ends end answers (inr full) = taken_by ended.status (ap is_taken full.2) ends
  free_ends (Err x) (inl same) end (inl disk) tells = inr (inr (inl (same ∙ disk)))
  free_ends (Err x) (inl same) end (inr memory) tells = inr (inr (inr (same ∙ memory)))
  free_ends (Err x) (inr (inl memory)) end answers tells = inr (inr (inr memory))
  free_ends (Err x) (inr (inr write)) end answers tells = inl (ap is_taken write)

  snapshot_ends : (o : Option Status) → EndsBy o s → Answers o done → IfOk done (TellsSnapshot d database before after) → EndsSnapshot o s
  snapshot_ends None end answers tells = free_ends done by.ended end answers tells
  snapshot_ends (Some locked) end answers tells = end

  outside_snapshot : (o : Option Status) → IsOutside s → EndsSnapshot o s
  outside_snapshot None outside = inr outside
  outside_snapshot (Some locked) outside = inr outside

  -- it says what it did that came to its end

  says : (size : ℕ) (ended : Done) → TellsText (snapshot_text size) ended → (has_output s ≡ true → now ≡ option_map (λ (out : List ℕ). out ++ text_or_none ended.out) shown) → IsPart (text_or_none ended.out) shown now → SaysSnapshot size s shown now
  says size ended tells whole part = record {
    whole = λ is. whole (ap has_output is) ∙ ap (λ (text : List ℕ). option_map (λ (out : List ℕ). out ++ text) shown) (ap text_or_none tells.out);
    part = λ is. subst (λ (text : List ℕ). IsPart text shown now) (ap text_or_none tells.out) part;
  }

  snapped_so : (r : Result Done Status) → is_finished (status_done r) ≡ true → Answers (held database) r → IfOk r (TellsSnapshot d database before after)
      → (has_output s ≡ true → now ≡ option_map (λ (out : List ℕ). out ++ out_text r) shown) → IsPart (out_text r) shown now → (size : ℕ) × HasSnapped d database before after size × SaysSnapshot size s shown now
  snapped_so (Ok ended) finished answers (inl told) whole part = (told.0, told.1, says told.0 ended told.2 whole part)
  snapped_so (Ok ended) finished answers (inr full) whole part = absurd (false_true (sym (ap is_finished full.2) ∙ finished))
  snapped_so (Err x) finished answers tells whole part = absurd (quiet_not x (held database) (quiet_held database) (refused_for (held database) x answers finished) finished)

  -- and how full a full journal was
  full_so : (r : Result Done Status) → EndsAs (status_done r) s → Answers (held database) r → IfOk r (TellsSnapshot d database before after) → (used next : ℕ) → s ≡ status.Full used next → HasNoRoom d database before used next × HasSameEntries d before after
  full_so r (inr (inl memory)) answers tells used next is = absurd (memory_full (sym memory ∙ is))
  full_so r (inr (inr write)) answers tells used next is = absurd (write_full (sym write ∙ is))
  full_so (Err x) (inl same) answers tells used next is = absurd (err_not_full (held database) x (held_not_full database) answers used next (sym same ∙ is))
  full_so (Ok ended) (inl same) answers (inl told) used next is = absurd (done_full (sym told.2.status ∙ sym same ∙ is))
  full_so (Ok ended) (inl same) answers (inr full) used next is =
      let numbers : status.Full full.0 full.1 ≡ status.Full used next = sym full.2 ∙ sym same ∙ is in
      (subst (λ (n : ℕ). HasNoRoom d database before used n) (same_next numbers) (subst (λ (n : ℕ). HasNoRoom d database before n full.1) (same_used numbers) full.3), full.4)

  runs_snapshot : DoesSnapshot d database before done after → RunsSnapshot d database before s after shown now
  runs_snapshot does = record {
    ends = snapshot_ends (held database) (ends_by (held database) done s by does.answers) does.answers does.tells;
    refused = does.refused;
    over = λ over. snapped_so done (was_over done s by over) does.answers does.tells whole part;
    left = does.leaves;
    opens = snapped_opens d database before opens after does.leaves;
    full = full_so done by.ended does.answers does.tells;
  }

  runs_failed : Failed done → after ≡ before → RunsSnapshot d database before s after shown now
  runs_failed failed same = record {
    ends = outside_snapshot (held database) (failed_outside done s by failed);
    refused = λ some. same;
    over = λ over. absurd (failed_unfinished done failed (was_over done s by over));
    left = inl (ap (entries_in d most_bytes) same);
    opens = subst (λ (told : Option (List ℕ)). Opens d told database) (sym same) opens;
    full = λ used next is. absurd (outside_not_full s (failed_outside done s by failed) used next is);
  }

module _ {D : Type 0} (told : D → Option (List ℕ)) (faults : D → ℕ) (crashes : D → DiskCrashes) {words : List (List ℕ)} {files : Files} (asks : Asks words files) (disk : D) (done : Result Done Status) (after : D)
    (did : asks.line.job ≡ Snapshot → SnappedBy told faults crashes asks.line.options.dialect disk done after) where
  abbrev d : Dialect
  d = asks.line.options.dialect

  pub has_snapped : (s : Status) → IsWritten done s → (shown now : Option (List ℕ)) → (has_output s ≡ true → now ≡ option_map (λ (out : List ℕ). out ++ out_text done) shown) → IsPart (out_text done) shown now → RunsSnapshots asks (told disk) s (told after) shown now
  has_snapped s by shown now whole part snaps database opens = elim (did snaps) [
    | inl failed ↦ runs_failed d database (told disk) opens done (told after) s by shown now whole part failed.0 (ap told failed.1)
    | inr made ↦ runs_snapshot d database (told disk) opens done (told after) s by shown now whole part (made.does database opens)
  ]

  pub crash_snapped : IsSound (told disk) (crashes disk) → CrashesSnapshot asks (told disk) (crashes disk) (crashes after)
  crash_snapped sound snaps database opens = elim (did snaps) [
    | inl failed ↦ subst (λ (last : D). CrashLeaves d Left (crashes disk) (crashes last)) (sym failed.1) (leaves_on d Left (told disk) (crashes disk) sound (crashes disk) (none_since d Left (crashes disk)))
    | inr made ↦ leaves_on d Left (told disk) (crashes disk) sound (crashes after) (made.any_moment database opens)
  ] where
    Left : List ℕ → Type 0
    Left bytes = IsSnapped d database (told disk) (Some bytes)

  pub snapshot_safe : (s : Status) → IsWritten done s → IsSnapshotSafe asks s (told after) (crashes after)
  snapshot_safe s by snaps over = elim (did snaps) [
    | inl failed ↦ absurd (failed_unfinished done failed.0 (was_over done s by over))
    | inr made ↦ made.safe (was_over done s by over)
  ]
