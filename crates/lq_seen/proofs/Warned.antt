-- What was warned of by the choice of a changeset is a front of what its turn and those behind it settle.
use Rattle.std.proofs.Common.{ap, sym, refl, ◌≡◌, ◌∙◌, ◌++◌, Bool, true, false, List, None, Option, Some, if◌then◌else◌, ℕ}
use Rattle.std.proofs.lemmas.List.{append-nil, append_assoc}
use Rattle.lq_base.specs.declared.dialect.Dialect.{Dialect}
use Rattle.lq_base.specs.declared.identity.Identity.{Identity}
use Rattle.lq_base.specs.declared.run.Did.{Did}
use Rattle.lq_base.specs.declared.run.Why.{Why}
use Rattle.lq_seen.proofs.Told.{warned_by}
use Rattle.lq_seen.specs.Telling.{Leads, WarnsFirst, warned_of}
use Rattle.lq_seen.specs.declared.outcome.Outcome.{Outcome}
use Rattle.lq_turns.specs.Deed.{Contents}
use Rattle.lq_turns.specs.Set.{Meaning, Set}
use Rattle.lq_turns.specs.Settle.{Settled, followed, settled_as, settled_by, unless_stopped, warning}
use Rattle.lq_turns.specs.Turn.{Ending, Finished, Refused}
use Rattle.lq_turns.specs.declared.choice.Choice.{Choice}
use Rattle.lq_turns.specs.declared.choice.Choice.TheVariants.{Fills, Halts, Marks, Passes, Runs, Skips}
use Rattle.lq_turns.specs.declared.stop.Stop.{Stop}

abbrev Warnings : Type 0
Warnings = List (Option Identity × Why)

followed_warned : (o : Option Stop) (s : Settled) (more : Contents → Settled) → (rest : Warnings) × ((followed o s more).warned ≡ s.warned ++ rest)
followed_warned None s more = ((more s.contents).warned, refl)
followed_warned (Some stop) s more = (_, sym (append-nil s.warned))

module _ {Key : Type 0} (x : Set Key) where
  warning_is : (why : Option Why) → warning x why ≡ warned_of x.identity why
  warning_is None = refl
  warning_is (Some why) = refl

  either : (b : Bool) (s t : Settled) (ws : Warnings) → s.warned ≡ ws → t.warned ≡ ws → (if b then s else t).warned ≡ ws
  either true s t ws first second = first
  either false s t ws first second = second

  turn_warned : (what : Did) (why : Option Why) (n : ℕ) (e : Ending) → (settled_as x what why n e).warned ≡ warned_of x.identity why
  turn_warned what why n (Finished c) = warning_is why
  turn_warned what why n (Refused c refusal) = either x.fail_on_error _ _ (warned_of x.identity why) (warning_is why) (warning_is why)

  choice_warned : (d : Dialect) (m : Meaning Key) (reading : ℕ) (c : Contents) (p : Choice) → (settled_by d m reading x c p).warned ≡ warned_by x.identity p
  choice_warned d m reading c Passes = refl
  choice_warned d m reading c Fills = refl
  choice_warned d m reading c Skips = refl
  choice_warned d m reading c (Marks what) = turn_warned _ None 0 _
  choice_warned d m reading c (Runs what why) = turn_warned _ why _ _
  choice_warned d m reading c (Halts why) = refl

  pub warns_first : (d : Dialect) (m : Meaning Key) (reading : ℕ) (c : Contents) (p : Choice) (more : Contents → Settled) (o now : Outcome) (told : Settled)
      → Leads o (unless_stopped (settled_by d m reading x c p) more) told → now.warned ≡ o.warned ++ warned_by x.identity p → WarnsFirst now told
  warns_first d m reading c p more o now told leads is =
      let s = settled_by d m reading x c p in
      let its = followed_warned s.stop s more in (
        its.0,
        ap (λ (ws : Warnings). ws ++ its.0) is ∙ append_assoc o.warned (warned_by x.identity p) its.0 ∙ ap (λ (ws : Warnings). o.warned ++ (ws ++ its.0)) (sym (choice_warned d m reading c p))
            ∙ ap (λ (ws : Warnings). o.warned ++ ws) (sym its.1) ∙ leads.warned,
      )
