-- What is told of changesets.
use Rattle.std.proofs.Common.{ap, arith, subst, sym, refl, ◌≡◌, ◌≤◌, ◌∙◌, ◌++◌, ◌∷◌, ◌+◌, ◌-◌, List, [], Option, Some, length, ℕ}
use Rattle.std.proofs.lemmas.List.{append-nil, length-append}
use Rattle.std.specs.List.{slice_set}
use Rattle.lq_base.specs.declared.identity.Identity.{Identity}
use Rattle.lq_base.specs.declared.run.Did.TheVariants as did
use Rattle.lq_base.specs.declared.run.Happened.{Happened}
use Rattle.lq_base.specs.declared.run.Printed.{Printed}
use Rattle.lq_base.specs.declared.run.Why.{Why}
use Rattle.lq_seen.specs.Telling.{happened_as, told_by, warned_of}
use Rattle.lq_seen.specs.declared.outcome.Halt.{Halt}
use Rattle.lq_seen.specs.declared.outcome.Outcome.{Outcome}
use Rattle.lq_turns.specs.Settle.{did_of}
use Rattle.lq_turns.specs.declared.choice.Choice.{Choice}
use Rattle.lq_turns.specs.declared.choice.Choice.TheVariants.{Fills, Halts, Marks, Passes, Runs, Skips}

-- nothing is told
pub none_told : {A : Type 0} (xs : List A) → xs ≡ xs ++ []
none_told xs = sym (append-nil xs)

-- an outcome after what is told of a changeset by its choice

abbrev pub happened_by : Identity → Choice → List Happened
happened_by of Passes = []
happened_by of Fills = []
happened_by of Skips = happened_as of did.Skipped ∷ []
happened_by of (Marks what) = happened_as of did.Marked ∷ []
happened_by of (Runs what why) = happened_as of (did_of what) ∷ []
happened_by of (Halts why) = []

abbrev pub warned_by : Identity → Choice → List (Option Identity × Why)
warned_by of Passes = []
warned_by of Fills = []
warned_by of Skips = []
warned_by of (Marks what) = []
warned_by of (Runs what why) = warned_of of why
warned_by of (Halts why) = []

abbrev pub halted_by : Identity → Choice → Option Halt → Option Halt
halted_by of Passes before = before
halted_by of Fills before = before
halted_by of Skips before = before
halted_by of (Marks what) before = before
halted_by of (Runs what why) before = before
halted_by of (Halts why) before = Some (record { identity = Some of; why = why })

pub record IsToldBy (of : Identity) (q : Choice) (before after : Outcome) : Type 0 where
  pub happened : after.happened ≡ before.happened ++ happened_by of q
  pub warned : after.warned ≡ before.warned ++ warned_by of q
  pub not_fresh : after.not_fresh ≡ before.not_fresh
  pub halted : after.halted ≡ halted_by of q before.halted
  pub stopped_at : after.stopped_at ≡ before.stopped_at

told_is : (of : Identity) (q : Choice) (o : Outcome) (texts : List Printed) → IsToldBy of q o (record (told_by of q o) { printed = texts })
told_is of Passes o texts = record { happened = none_told o.happened; warned = none_told o.warned; not_fresh = refl; halted = refl; stopped_at = refl }
told_is of Fills o texts = record { happened = none_told o.happened; warned = none_told o.warned; not_fresh = refl; halted = refl; stopped_at = refl }
told_is of Skips o texts = record { happened = refl; warned = none_told o.warned; not_fresh = refl; halted = refl; stopped_at = refl }
told_is of (Marks what) o texts = record { happened = refl; warned = none_told o.warned; not_fresh = refl; halted = refl; stopped_at = refl }
told_is of (Runs what why) o texts = record { happened = refl; warned = refl; not_fresh = refl; halted = refl; stopped_at = refl }
told_is of (Halts why) o texts = record { happened = none_told o.happened; warned = none_told o.warned; not_fresh = refl; halted = refl; stopped_at = refl }

-- whatever texts are kept
pub told_printed : (of : Identity) (q : Choice) (o now : Outcome) (texts : List Printed) → now ≡ told_by of q o → IsToldBy of q o (record now { printed = texts })
told_printed of q o now texts is = subst (λ (z : Outcome). IsToldBy of q o (record z { printed = texts })) (sym is) (told_is of q o texts)

-- and none is kept by what is told
pub texts_kept : (of : Identity) (q : Choice) (o now : Outcome) → now ≡ told_by of q o → now.printed ≡ o.printed
texts_kept of q o now is = ap (λ (z : Outcome). z.printed) is ∙ same q where
  same : (p : Choice) → (told_by of p o).printed ≡ o.printed
  same Passes = refl
  same Fills = refl
  same Skips = refl
  same (Marks what) = refl
  same (Runs what why) = refl
  same (Halts why) = refl

-- the last is put in another's place

set_at : {A : Type 0} (front : List A) (last item : A) → slice_set (front ++ last ∷ []) (length front) item ≡ front ++ item ∷ []
set_at [] last item = refl
set_at (x ∷ front) last item = ap (λ xs. x ∷ xs) (set_at front last item)

pub set_last : {A : Type 0} (xs front : List A) (last item : A) (count : ℕ) → xs ≡ front ++ last ∷ [] → count ≡ length xs → slice_set xs (count - 1) item ≡ front ++ item ∷ []
set_last xs front last item count is counts =
    let whole : count ≡ length front + 1 = counts ∙ ap length is ∙ length-append front (last ∷ []) in
    let place : count - 1 ≡ length front = omega arith in
    ap (λ n. slice_set xs n item) place ∙ ap (λ ys. slice_set ys (length front) item) is ∙ set_at front last item

pub not_empty : {A : Type 0} (xs front : List A) (last : A) (count : ℕ) → xs ≡ front ++ last ∷ [] → count ≡ length xs → count ≤ 0 → ⊥
not_empty xs front last count is counts none =
    let whole : count ≡ length front + 1 = counts ∙ ap length is ∙ length-append front (last ∷ []) in
    omega arith
