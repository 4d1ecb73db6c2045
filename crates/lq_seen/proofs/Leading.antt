-- What was told leads on to what the turns settle.
use Rattle.std.proofs.Common.{ap, arith, sym, subst, refl, ◌≡◌, ◌∙◌, ◌+◌, ◌++◌, ◌-◌, ◌^◌, ◌∷◌, true, false, List, [], None, Option, Some, if◌then◌else◌, min, option_map, ℕ}
use Rattle.std.proofs.lemmas.List.{append-nil, append_assoc}
use Rattle.lq_base.specs.declared.identity.Identity.{Identity}
use Rattle.lq_base.specs.declared.run.Did.{Did}
use Rattle.lq_base.specs.declared.run.Happened.{Happened}
use Rattle.lq_base.specs.declared.run.Why.{Why}
use Rattle.lq_seen.specs.Telling.{Leads, Tells, bounded, happened_as, happened_instead, warned_of}
use Rattle.lq_seen.specs.declared.outcome.Halt.{Halt}
use Rattle.lq_seen.specs.declared.outcome.Outcome.{Outcome}
use Rattle.lq_turns.specs.Deed.{Contents}
use Rattle.lq_turns.specs.Set.{Set}
use Rattle.lq_turns.specs.Settle.{Settled, and_then, followed, settled_as, warning}
use Rattle.lq_turns.specs.Turn.{Ending, Finished, Refused}
use Rattle.lq_turns.specs.declared.stop.Refusal.{Refusal}
use Rattle.lq_turns.specs.declared.stop.Stop.TheVariants.{Halted, Refused as Stopped}

abbrev Warnings : Type 0
Warnings = List (Option Identity × Why)

-- a bounded count

within_left : (a b most : ℕ) → min (min a most + b) most ≡ min (a + b) most
within_left a b most = omega arith

within_right : (a b most : ℕ) → min (a + min b most) most ≡ min (a + b) most
within_right a b most = omega arith

within_none : (most : ℕ) → 0 ≡ min 0 most
within_none most = omega arith

pub plus_none : (n : ℕ) → n ≡ n + 0
plus_none n = omega arith

pub none_plus : (n : ℕ) → 0 + n ≡ n
none_plus n = omega arith

plus_both : (a b c : ℕ) → (a + b) + c ≡ a + (b + c)
plus_both a b c = omega arith

pub bounded_left : (a b : ℕ) → bounded (bounded a + b) ≡ bounded (a + b)
bounded_left a b = within_left a b (2 ^ 64 - 1)

pub bounded_right : (a b : ℕ) → bounded (a + bounded b) ≡ bounded (a + b)
bounded_right a b = within_right a b (2 ^ 64 - 1)

-- a part of what is to come is counted before the rest of it
pub bounded_on : (a b c : ℕ) → bounded (bounded (a + b) + c) ≡ bounded (a + (b + c))
bounded_on a b c = bounded_left (a + b) c ∙ ap bounded (plus_both a b c)

-- the count has grown by so much
abbrev pub Grown : ℕ → ℕ → ℕ → Type 0
Grown before n now = (k : ℕ) → before ≡ bounded k → now ≡ bounded (k + n)

pub not_grown : (before now : ℕ) → now ≡ before → Grown before 0 now
not_grown before now same = λ k is. same ∙ (is ∙ ap bounded (plus_none k))

pub grown_by : (before n now : ℕ) → now ≡ bounded (before + bounded n) → Grown before n now
grown_by before n now is = λ k so. is ∙ (ap (λ (b : ℕ). bounded (b + bounded n)) so ∙ (bounded_left k (bounded n) ∙ bounded_right k n))

-- a turn that settles so much, without a stop
abbrev pub settled_so : Contents → List Happened → List (Option Identity × Why) → ℕ → Settled
settled_so c hs ws n = record { contents = c; happened = hs; warned = ws; not_fresh = n; stop = None }

-- the outcome has so much more
pub record Adds (hs : List Happened) (ws : List (Option Identity × Why)) (n : ℕ) (o now : Outcome) : Type 0 where
  pub happened : now.happened ≡ o.happened ++ hs
  pub warned : now.warned ≡ o.warned ++ ws
  pub not_fresh : Grown o.not_fresh n now.not_fresh
  pub halted : now.halted ≡ o.halted
  pub stopped_at : now.stopped_at ≡ o.stopped_at

pub leads_on : (o now : Outcome) (hs : List Happened) (ws : Warnings) (c : Contents) (n : ℕ) (m told : Settled) → Adds hs ws n o now → Leads o (and_then (settled_so c hs ws n) m) told → Leads now m told
leads_on o now hs ws c n m told adds leads = record {
  happened = ap (λ (z : List Happened). z ++ m.happened) adds.happened ∙ append_assoc o.happened hs m.happened ∙ leads.happened;
  warned = ap (λ (z : Warnings). z ++ m.warned) adds.warned ∙ append_assoc o.warned ws m.warned ∙ leads.warned;
  so_far = leads.so_far + n;
  counted = adds.not_fresh leads.so_far leads.counted;
  not_fresh = plus_both leads.so_far n m.not_fresh ∙ leads.not_fresh;
  stop = leads.stop;
  unhalted = adds.halted ∙ leads.unhalted;
  unstopped = adds.stopped_at ∙ leads.unstopped;
}

-- nothing was told
pub leads_begin : (o : Outcome) (m : Settled) → o.happened ≡ [] → o.warned ≡ [] → o.not_fresh ≡ 0 → o.halted ≡ None → o.stopped_at ≡ None → Leads o m m
leads_begin o m happened warned not_fresh halted stopped_at = record {
  happened = ap (λ (z : List Happened). z ++ m.happened) happened;
  warned = ap (λ (z : Warnings). z ++ m.warned) warned;
  so_far = 0;
  counted = not_fresh ∙ within_none (2 ^ 64 - 1);
  not_fresh = none_plus m.not_fresh;
  stop = refl;
  unhalted = halted;
  unstopped = stopped_at;
}

-- nothing is still to come
pub leads_end : (o : Outcome) (c : Contents) (told : Settled) → Leads o (settled_so c [] [] 0) told → Tells o told None
leads_end o c told leads = record {
  happened = sym (append-nil o.happened) ∙ leads.happened;
  warned = sym (append-nil o.warned) ∙ leads.warned;
  not_fresh = leads.counted ∙ ap bounded (plus_none leads.so_far ∙ leads.not_fresh);
  stop = sym leads.stop ∙ sym (ap (λ (h : Option Halt). option_map (λ (z : Halt). Halted z.identity z.why) h) leads.unhalted);
}

-- only these parts of an outcome matter
pub leads_same : (o now : Outcome) (m told : Settled) → now.happened ≡ o.happened → now.warned ≡ o.warned → now.not_fresh ≡ o.not_fresh → now.halted ≡ o.halted → now.stopped_at ≡ o.stopped_at → Leads o m told → Leads now m told
leads_same o now m told happened warned not_fresh halted stopped_at leads = record {
  happened = ap (λ (z : List Happened). z ++ m.happened) happened ∙ leads.happened;
  warned = ap (λ (z : Warnings). z ++ m.warned) warned ∙ leads.warned;
  so_far = leads.so_far;
  counted = not_fresh ∙ leads.counted;
  not_fresh = leads.not_fresh;
  stop = leads.stop;
  unhalted = halted ∙ leads.unhalted;
  unstopped = stopped_at ∙ leads.unstopped;
}

module _ {Key : Type 0} (x : Set Key) (did : Did) (why : Option Why) (n : ℕ) (o now : Outcome) (more : Contents → Settled) (told : Settled)
    (adds : Adds (happened_as x.identity did ∷ []) (warned_of x.identity why) 0 o now) where
  warning_is : (w : Option Why) → warning x w ≡ warned_of x.identity w
  warning_is None = refl
  warning_is (Some w) = refl

  abbrev settles : Ending → Settled
  settles e = settled_as x did why n e

  abbrev Before : Ending → Type 0
  Before e = Leads o (followed (settles e).stop (settles e) more) told

  -- where it is refused, the command stops, or the changeset is skipped

  abbrev stopping : Contents → Refusal → Settled
  stopping c refusal = record { contents = c; happened = []; warned = warning x why; not_fresh = 0; stop = Some (Stopped x.identity refusal) }

  abbrev skipping : Contents → Settled
  skipping c = settled_so c (happened_instead x.identity false) (warning x why) 0

  -- where it finishes, what was not fresh is counted
  pub finished_leads : (c : Contents) (after : Outcome) → Adds (happened_as x.identity did ∷ []) (warned_of x.identity why) n o after → Before (Finished c) → Leads after (more c) told
  finished_leads c after counted leads = leads_on o after (happened_as x.identity did ∷ []) (warned_of x.identity why) c n (more c) told counted
      (subst (λ (ws : Warnings). Leads o (and_then (settled_so c (happened_as x.identity did ∷ []) ws n) (more c)) told) (warning_is why) leads)

  pub refused_tells : (c : Contents) (refusal : Refusal) → x.fail_on_error ≡ true → Before (Refused c refusal) → Tells (record now { happened = o.happened; stopped_at = Some x.identity }) told (Some refusal)
  refused_tells c refusal is leads =
      let stopped : Leads o (stopping c refusal) told
      = subst (λ (s : Settled). Leads o (followed s.stop s more) told) (ap (λ b. if b then stopping c refusal else skipping c) is) leads in
      record {
        happened = sym (append-nil o.happened) ∙ stopped.happened;
        warned = adds.warned ∙ ap (λ (ws : Warnings). o.warned ++ ws) (sym (warning_is why)) ∙ stopped.warned;
        not_fresh = adds.not_fresh stopped.so_far stopped.counted ∙ ap bounded stopped.not_fresh;
        stop = sym stopped.stop;
      }

  pub refused_leads : (c : Contents) (refusal : Refusal) → x.fail_on_error ≡ false → Before (Refused c refusal) → Leads (record now { happened = o.happened ++ happened_instead x.identity false }) (more c) told
  refused_leads c refusal is leads =
      let skipped : Leads o (and_then (settled_so c (happened_instead x.identity false) (warning x why) 0) (more c)) told
      = subst (λ (s : Settled). Leads o (followed s.stop s more) told) (ap (λ b. if b then stopping c refusal else skipping c) is) leads in
      leads_on o (record now { happened = o.happened ++ happened_instead x.identity false }) (happened_instead x.identity false) (warned_of x.identity why) c 0 (more c) told
      (record { happened = refl; warned = adds.warned; not_fresh = adds.not_fresh; halted = adds.halted; stopped_at = adds.stopped_at })
      (subst (λ (ws : Warnings). Leads o (and_then (settled_so c (happened_instead x.identity false) ws 0) (more c)) told) (warning_is why) skipped)
