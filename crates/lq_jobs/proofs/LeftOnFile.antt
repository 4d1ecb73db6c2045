-- What a stop of calls leaves, and a crash of the machine at any moment of them, on the file of their store.
use Rattle.std.proofs.Common.{ap, arith, inl, inr, refl, rules, sym, ◌∙◌}
use Rattle.std.specs.Option.{option_map}
use Rattle.std.specs.Prelude.{IsTrue, List, Option, Some, ℕ, ◌++◌, ◌≡◌, ◌≤◌}
use Rattle.lq_base.specs.declared.dialect.Dialect.{Dialect}
use Rattle.lq_entries.specs.Log.{crashes_in, entries_in, if_undamaged}
use Rattle.lq_frames.specs.Body.{journal_of}
use Rattle.lq_model.specs.Catalogue.{Catalogue}
use Rattle.lq_outside.specs.Crash.{Crashes as DiskCrashes, IsSound, LeavesOnly}
use Rattle.lq_run.specs.Crashes.{LeftInCommand, Since}
use Rattle.lq_run.specs.Stands.{entries_of}
use Rattle.lq_store.specs.Journal.{Entry, database as catalogue_by}
use Rattle.lq_track.specs.Database.{Database}
use Rattle.lq_turns.specs.Schedule.{StandsFor}
use Rattle.lq_turns.specs.declared.call.Call.{Call}
use Rattle.lq_jobs.specs.Bytes.{CrashLeaves, CrashesOn, IsLeftOn, most_bytes}
use Rattle.lq_jobs.specs.Worked.{CrashesSince, LeavesSince}

-- what a crash leaves that are such bytes, or the entries of what one before might have left

module _ (d : Dialect) (leaves : List ℕ → Type 0) where
  pub none_since : (a : DiskCrashes) → LeavesSince d leaves a a
  none_since a = record { honest = refl; later = Prim.search rules; each = λ honest t bytes le left. inl (bytes, left, refl) }

  -- such a journal, since a crash of it leaves entries that lead to such bytes
  pub since_by : (Left : List Entry → Type 0) → ((bytes : List ℕ) (entries : List Entry) → entries_in d most_bytes (Some bytes) ≡ Some entries → Left entries → leaves bytes)
      → (before now : DiskCrashes) → Since Left (crashes_in d most_bytes before) (crashes_in d most_bytes now) → LeavesSince d leaves before now
  since_by Left so before now since = record {
    honest = since.honest;
    later = since.later;
    each = λ honest t bytes le left. elim (since.each honest t (if_undamaged (journal_of d most_bytes bytes)) le (bytes, left, refl)) [
      | inl was ↦ inl (was.0, was.1, sym was.2)
      | inr is ↦ inr (so bytes is.0 is.1 is.2)
    ];
  }

  module _ (told : Option (List ℕ)) (a : DiskCrashes) (sound : IsSound told a) where
    pub read_since : (b : DiskCrashes) → LeavesOnly a b a.leaves → LeavesSince d leaves a b
    read_since b read = record {
      honest = read.honest;
      later = read.later;
      each = λ honest t bytes le left. elim (read.before honest t bytes le left) [
        | inl earlier ↦ inl (bytes, earlier, refl)
        | inr here ↦ inl (bytes, sound.counts_now honest t bytes le here, refl)
      ];
    }

    pub after_since : (b c : DiskCrashes) → LeavesOnly a b a.leaves → LeavesSince d leaves b c → LeavesSince d leaves a c
    after_since b c read then = record {
      honest = then.honest ∙ read.honest;
      later = omega (arith, read.later, then.later);
      each = λ honest t bytes le left. elim (then.each (read.honest ∙ honest) t bytes (omega (arith, le, read.later)) left) [
        | inl was ↦ inl (was.0, at_first honest t was.0 le was.1, was.2)
        | inr is ↦ inr is
      ];
    } where
      at_first : IsTrue a.is_honest → (t : ℕ) (those : List ℕ) → t ≤ a.moment → b.left_since t those → a.left_since t those
      at_first honest t those le left = elim (read.before honest t those le left) [ inl earlier ↦ earlier | inr here ↦ sound.counts_now honest t those le here ]

    -- since the first moment
    pub leaves_on : (b : DiskCrashes) → LeavesSince d leaves a b → CrashLeaves d leaves a b
    leaves_on b since = λ honest bytes left. elim (since.each honest a.moment bytes (Prim.search rules) left) [
      | inl was ↦ inl (was.0, sound.only_now honest was.0 was.1, was.2)
      | inr is ↦ inr is
    ]

module _ (d : Dialect) (calls : List Call) (database : Database) (told : Option (List ℕ)) where
  -- the entries of the file lead to a catalogue that stands for the database
  module _ (there : List Entry) (were : entries_in d most_bytes told ≡ Some there) (c : Catalogue) (leads : catalogue_by d there ≡ Some c) (stands : StandsFor d c database) where
    pub is_left_on : (after : Option (List ℕ)) (left : List Entry) → entries_in d most_bytes after ≡ Some left → LeftInCommand d calls database there left → IsLeftOn d calls database told after
    is_left_on after left are it =
        let ran = it.replays c leads stands in
        record {
          written = it.written;
          stops = it.stops;
          closes = it.closes;
          entries = are ∙ ap Some it.is ∙ ap (option_map (λ (entries : List Entry). entries ++ entries_of d it.written)) (sym were);
          now = it.now;
          led = it.led;
          holds = record { entries = left; told_are = are; catalogue = ran.0; leads = ran.1; stands = ran.2 };
        }

    pub since_on : (before now : DiskCrashes) → Since (LeftInCommand d calls database there) (crashes_in d most_bytes before) (crashes_in d most_bytes now) → CrashesSince d calls database told before now
    since_on before now since = since_by d (λ bytes. IsLeftOn d calls database told (Some bytes)) (LeftInCommand d calls database there) (λ bytes entries are it. is_left_on (Some bytes) entries are it) before now since

  abbrev LeftBytes : List ℕ → Type 0
  LeftBytes bytes = IsLeftOn d calls database told (Some bytes)

  -- no call of the disk
  pub since_none : (a : DiskCrashes) → CrashesSince d calls database told a a
  since_none a = none_since d LeftBytes a

  module _ (a : DiskCrashes) (sound : IsSound told a) where
    -- calls that write nothing
    pub since_read : (b : DiskCrashes) → LeavesOnly a b a.leaves → CrashesSince d calls database told a b
    since_read b read = read_since d LeftBytes told a sound b read

    -- such calls, and then others
    pub since_after : (b c : DiskCrashes) → LeavesOnly a b a.leaves → CrashesSince d calls database told b c → CrashesSince d calls database told a c
    since_after b c read then = after_since d LeftBytes told a sound b c read then

    -- since the first moment
    pub crashes_on : (b : DiskCrashes) → CrashesSince d calls database told a b → CrashesOn d calls database told a b
    crashes_on b since = leaves_on d LeftBytes told a sound b since
