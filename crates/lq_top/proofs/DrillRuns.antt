-- What a drill comes to, once its texts are written.
use Rattle.std.proofs.Common.{ap, inl, inr, subst, sym, ◌∙◌}
use Rattle.std.specs.Option.{option_map}
use Rattle.std.specs.Prelude.{Err, List, Ok, Option, Result, Some, false, true, ℕ, ◌++◌, ◌≡◌, ◌⊎◌}
use Rattle.lq_base.specs.declared.dialect.Dialect.{Dialect}
use Rattle.lq_outside.specs.Forms.{IsPart}
use Rattle.lq_outside.specs.Crash.{Crashes as DiskCrashes, Settled}
use Rattle.lq_tell.specs.Texts.{EndsAs, has_output, out_text, text_or_none}
use Rattle.lq_tell.specs.declared.done.Done.{Done}
use Rattle.lq_tell.specs.declared.status.Status.{Status}
use Rattle.lq_tell.specs.declared.status.Status.TheVariants as status
use Rattle.lq_jobs.proofs.Written.{IsWritten, failed_ends}
use Rattle.lq_jobs.specs.Asks.{Files}
use Rattle.lq_drills.specs.Drilled.{AsksDrill, DoesDrill, DrillEnds, Drills, IsFormless, IsIdle, IsOfDrill, IsSettled, NoneFailed, RunsDrill, Went, has_drilled, told_text}
use Rattle.lq_jobs.specs.Kinds.{is_of_drill}
use Rattle.lq_jobs.specs.declared.entrants.Drilling.{Drilling}

false_true : false ≡ true → ⊥
false_true h = Prim.cc

-- a file without the form

formless_as : (x s : Status) → (s ≡ x) ⊎ (s ≡ status.OutOfMemory) → (x ≡ status.Usage) ⊎ (x ≡ status.ReadFault) ⊎ (x ≡ status.OutOfMemory) → (s ≡ status.Usage) ⊎ (s ≡ status.ReadFault) ⊎ (s ≡ status.OutOfMemory)
formless_as x s (inr memory) of = inr (inr memory)
formless_as x s (inl same) (inl is) = inl (same ∙ is)
formless_as x s (inl same) (inr (inl is)) = inr (inl (same ∙ is))
formless_as x s (inl same) (inr (inr is)) = inr (inr (same ∙ is))

pub ends_formless : (done : Result Done Status) (s : Status) → IsWritten done s → IsFormless done → (s ≡ status.Usage) ⊎ (s ≡ status.ReadFault) ⊎ (s ≡ status.OutOfMemory)
ends_formless done s by (inl is) = formless_as status.Usage s (failed_ends done status.Usage s by is) (inl Prim.cc)
ends_formless done s by (inr (inl is)) = formless_as status.ReadFault s (failed_ends done status.ReadFault s by is) (inr (inl Prim.cc))
ends_formless done s by (inr (inr is)) = formless_as status.OutOfMemory s (failed_ends done status.OutOfMemory s by is) (inr (inr Prim.cc))

-- after its end a crash leaves what is there

abbrev pub SettledAs : Result Done Status → Option (List ℕ) → DiskCrashes → Type 0
SettledAs (Ok done) file crashes = Settled file crashes
SettledAs (Err s) file crashes = Unit {0}

pub settled_as : {D : Type 0} (told : D → Option (List ℕ)) (faults : D → ℕ) (crashes : D → DiskCrashes) (done : Result Done Status) (disk : D) → IsSettled told faults crashes done disk → SettledAs done (told disk) (crashes disk)
settled_as told faults crashes (Ok done) disk settled = settled
settled_as told faults crashes (Err s) disk settled = tt

module _ (d : Dialect) (who : List ℕ) (drill : Drilling) (readings : List ℕ) (before : Option (List ℕ)) (c : DiskCrashes) (after : Option (List ℕ)) (e : DiskCrashes) (out written : Option (List ℕ)) where
  -- it came to its end

  ok_ends : (done : Done) (s : Status) → done.status ≡ status.Done → EndsAs done.status s → (went : Went d who drill readings before after c e) → done.out ≡ Some (told_text drill went.answers) → NoneFailed went.answers
      → (has_output s ≡ true → written ≡ option_map (λ (o : List ℕ). o ++ text_or_none done.out) out) → IsPart (text_or_none done.out) out written → DrillEnds d who drill readings before c s after e out written
  ok_ends done s is (inl same) went text none whole part =
      let at = same ∙ is in
      subst (λ s. DrillEnds d who drill readings before c s after e out written) (sym at) (went, whole (ap has_output at) ∙ ap (λ t. option_map (λ (o : List ℕ). o ++ text_or_none t) out) text, none)
  ok_ends done s is (inr (inl memory)) went text none whole part = subst (λ s. DrillEnds d who drill readings before c s after e out written) (sym memory) (inr went)
  ok_ends done s is (inr (inr write)) went text none whole part = subst (λ s. DrillEnds d who drill readings before c s after e out written) (sym write) (went, subst (λ (t : Option (List ℕ)). IsPart (text_or_none t) out written) text part, none)

  -- or it did not

  abbrev Part : Type 0
  Part = IsIdle d before after c e ⊎ Went d who drill readings before after c e

  abbrev Did : Status → Type 0
  Did x = Drills d who drill readings before c (Err x) after e

  disk_part : Did status.DiskFault → Part
  disk_part (inl nothing) = inl nothing
  disk_part (inr did) = inr did.0

  part_of : (x : Status) → Did x → Part
  part_of (status.Full used next) did = inr did.0
  part_of status.DiskFault did = disk_part did
  part_of status.OutOfMemory did = did
  part_of s did = inl did

  part_ends : (x : Status) → is_of_drill x ≡ true → Did x → DrillEnds d who drill readings before c x after e out written
  part_ends status.DiskFault kind did = did
  part_ends (status.Damaged at) kind did = did
  part_ends (status.Full used next) kind did = did
  part_ends status.OutOfMemory kind did = did
  part_ends status.Done kind did = absurd (false_true kind)
  part_ends status.Usage kind did = absurd (false_true kind)
  part_ends status.ReadFault kind did = absurd (false_true kind)
  part_ends (status.Changelog fault) kind did = absurd (false_true kind)
  part_ends (status.Invalid faults) kind did = absurd (false_true kind)
  part_ends (status.Locked lock) kind did = absurd (false_true kind)
  part_ends (status.Halted place why) kind did = absurd (false_true kind)
  part_ends (status.Refused identity statement kept reason) kind did = absurd (false_true kind)
  part_ends status.NoTarget kind did = absurd (false_true kind)
  part_ends (status.NotReversible identity) kind did = absurd (false_true kind)
  part_ends status.NothingToUndo kind did = absurd (false_true kind)
  part_ends (status.NotWritable at) kind did = absurd (false_true kind)
  part_ends status.WriteFault kind did = absurd (false_true kind)
  part_ends (status.Busy session) kind did = absurd (false_true kind)

  kind_ends : (x : Status) → (is_of_drill x ≡ true) ⊎ (x ≡ status.ReadFault) → Did x → DrillEnds d who drill readings before c x after e out written
  kind_ends x (inl kind) did = part_ends x kind did
  kind_ends x (inr read) did = subst (λ s. DrillEnds d who drill readings before c s after e out written) (sym read) (subst Did read did)

  err_ends : (x s : Status) → (is_of_drill x ≡ true) ⊎ (x ≡ status.ReadFault) → (s ≡ x) ⊎ (s ≡ status.OutOfMemory) → Did x → DrillEnds d who drill readings before c s after e out written
  err_ends x s kind (inl same) did = subst (λ s. DrillEnds d who drill readings before c s after e out written) (sym same) (kind_ends x kind did)
  err_ends x s kind (inr memory) did = subst (λ s. DrillEnds d who drill readings before c s after e out written) (sym memory) (part_of x did)

  pub ends_as : (done : Result Done Status) (s : Status) → IsWritten done s → IsOfDrill done → Drills d who drill readings before c done after e → (has_output s ≡ true → written ≡ option_map (λ (o : List ℕ). o ++ out_text done) out) → IsPart (out_text done) out written → DrillEnds d who drill readings before c s after e out written
  ends_as (Ok done) s by kind drills whole part = ok_ends done s drills.0 by.ended drills.1.0 drills.1.1 drills.1.2 whole part
  ends_as (Err x) s by kind drills whole part = err_ends x s kind (failed_ends (Err x) x s by Prim.cc) drills

undrilled : (x : Status) → is_of_drill x ≡ true → has_drilled x ≡ true → ⊥
undrilled status.DiskFault kind has = false_true has
undrilled (status.Damaged at) kind has = false_true has
undrilled (status.Full used next) kind has = false_true has
undrilled status.OutOfMemory kind has = false_true has
undrilled status.Done kind has = false_true kind
undrilled status.Usage kind has = false_true kind
undrilled status.ReadFault kind has = false_true kind
undrilled (status.Changelog fault) kind has = false_true kind
undrilled (status.Invalid faults) kind has = false_true kind
undrilled (status.Locked lock) kind has = false_true kind
undrilled (status.Halted place why) kind has = false_true kind
undrilled (status.Refused identity statement kept reason) kind has = false_true kind
undrilled status.NoTarget kind has = false_true kind
undrilled (status.NotReversible identity) kind has = false_true kind
undrilled status.NothingToUndo kind has = false_true kind
undrilled (status.NotWritable at) kind has = false_true kind
undrilled status.WriteFault kind has = false_true kind
undrilled (status.Busy session) kind has = false_true kind

err_undrilled : (x s : Status) → (is_of_drill x ≡ true) ⊎ (x ≡ status.ReadFault) → (s ≡ x) ⊎ (s ≡ status.OutOfMemory) → has_drilled s ≡ true → ⊥
err_undrilled x s (inl kind) (inl same) has = undrilled x kind (sym (ap has_drilled same) ∙ has)
err_undrilled x s (inr read) (inl same) has = false_true (sym (ap has_drilled (same ∙ read)) ∙ has)
err_undrilled x s kind (inr memory) has = false_true (sym (ap has_drilled memory) ∙ has)

safe_as : (done : Result Done Status) (s : Status) (file : Option (List ℕ)) (crashes : DiskCrashes) → IsWritten done s → IsOfDrill done → SettledAs done file crashes → has_drilled s ≡ true → Settled file crashes
safe_as (Ok done) s file crashes by kind settled has = settled
safe_as (Err x) s file crashes by kind settled has = absurd (err_undrilled x s kind (failed_ends (Err x) x s by Prim.cc) has)

pub runs_drill : {words : List (List ℕ)} {files : Files} (asks : AsksDrill words files) (who : List ℕ) (coming left before : Option (List ℕ)) (c : DiskCrashes) (done : Result Done Status) (s : Status) (after : Option (List ℕ)) (e : DiskCrashes) (out written : Option (List ℕ)) → IsWritten done s
    → DoesDrill asks.line.options.dialect who asks.drill coming left before c done after e → (has_output s ≡ true → written ≡ option_map (λ (o : List ℕ). o ++ out_text done) out) → IsPart (out_text done) out written → SettledAs done after e
    → RunsDrill asks who coming left before c s after e out written
runs_drill asks who coming left before c done s after e out written by does whole part settled = record {
  readings = does.readings;
  read = does.read;
  few = does.few;
  ends = ends_as asks.line.options.dialect who asks.drill does.readings before c after e out written done s by does.kind does.drills whole part;
  safe = safe_as done s after e by does.kind settled;
}
