-- Where entries lead, with their places and without; those from the last state on lead where all lead.
use Rattle.std.proofs.Common.{◌≡◌, ◌∙◌, ◌||◌, ℕ, Bool, true, false, cond, List, [], ◌∷◌, map, Ok, Err, Result, Option, None, Some, refl, sym, ap}
use Rattle.lq_base.specs.declared.dialect.Dialect.{Dialect}
use Rattle.lq_codec.specs.State.{state_of}
use Rattle.lq_frames.specs.Body.{is_state, from_last_state, has_state}
use Rattle.lq_frames.specs.declared.entry.Body.{Body}
use Rattle.lq_frames.specs.declared.entry.Body.TheVariants.{State, Texts}
use Rattle.lq_frames.specs.declared.entry.Entry.{Entry as Placed}
use Rattle.lq_model.specs.Catalogue.{Catalogue, no_objects}
use Rattle.lq_store.specs.Journal.{database, run_entries, run_entry, run_texts}
use Rattle.lq_entries.specs.Load.{fold_body, folded, or_at}
use Rattle.lq_entries.specs.Log.{as_entry, unplaced}

-- what stands before a state does not count
anew : (d : Dialect) (es : List Placed) (r q : Result Catalogue ℕ) → has_state es ≡ true → folded d es r ≡ folded d es q
anew d [] r q has = absurd (cc has)
anew d (e ∷ es) r q has = by e.body refl (anew d es) has
  where
    by : (b : Body) → e.body ≡ b → ((r q : Result Catalogue ℕ) → has_state es ≡ true → folded d es r ≡ folded d es q) → is_state b || has_state es ≡ true
        → folded d es (fold_body d e.at e.body r) ≡ folded d es (fold_body d e.at e.body q)
    by (Texts texts) is more has = more (fold_body d e.at e.body r) (fold_body d e.at e.body q) has
    by (State bytes) is more has = ap (λ (b : Body). folded d es (fold_body d e.at b r)) is ∙ sym (ap (λ (b : Body). folded d es (fold_body d e.at b q)) is)

pub from_last_leads : (d : Dialect) (es : List Placed) → folded d (from_last_state es) (Ok no_objects) ≡ folded d es (Ok no_objects)
from_last_leads d [] = refl
from_last_leads d (e ∷ es) = by (has_state es) refl (from_last_leads d es)
  where
    by : (b : Bool) → has_state es ≡ b → folded d (from_last_state es) (Ok no_objects) ≡ folded d es (Ok no_objects)
        → folded d (cond b (from_last_state es) (e ∷ es)) (Ok no_objects) ≡ folded d es (fold_body d e.at e.body (Ok no_objects))
    by true is more = more ∙ anew d es (Ok no_objects) (fold_body d e.at e.body (Ok no_objects)) is
    by false is more = refl

-- behind damage only a state leads on
pub stays_damaged : (d : Dialect) (es : List Placed) (at : ℕ) → has_state es ≡ false → folded d es (Err at) ≡ Err at
stays_damaged d [] at none = refl
stays_damaged d (e ∷ es) at none = by e.body refl (stays_damaged d es at) none
  where
    by : (b : Body) → e.body ≡ b → (has_state es ≡ false → folded d es (Err at) ≡ Err at) → is_state b || has_state es ≡ false → folded d es (fold_body d e.at e.body (Err at)) ≡ Err at
    by (Texts texts) is more none = ap (λ (b : Body). folded d es (fold_body d e.at b (Err at))) is ∙ more none
    by (State bytes) is more none = absurd (cc none)

-- with places or without

abbrev led : Result Catalogue ℕ → Option Catalogue
led (Ok c) = Some c
led (Err at) = None

led_or : (at : ℕ) (o : Option Catalogue) → led (or_at at o) ≡ o
led_or at None = refl
led_or at (Some c) = refl

led_by : (d : Dialect) (at : ℕ) (b : Body) (r : Result Catalogue ℕ) → led (fold_body d at b r) ≡ run_entry d (as_entry b) (led r)
led_by d at (Texts texts) (Ok c) = led_or at (run_texts d texts c)
led_by d at (Texts texts) (Err place) = refl
led_by d at (State bytes) r = led_or at (state_of d bytes)

led_folded : (d : Dialect) (es : List Placed) (r : Result Catalogue ℕ) → led (folded d es r) ≡ run_entries d (map unplaced es) (led r)
led_folded d [] r = refl
led_folded d (e ∷ es) r = led_folded d es (fold_body d e.at e.body r) ∙ ap (run_entries d (map unplaced es)) (led_by d e.at e.body r)

pub folded_runs : (d : Dialect) (es : List Placed) (c : Catalogue) → folded d es (Ok no_objects) ≡ Ok c → database d (map unplaced es) ≡ Some c
folded_runs d es c is = sym (led_folded d es (Ok no_objects)) ∙ ap led is

pub folds : (d : Dialect) (es : List Placed) (c : Catalogue) → database d (map unplaced es) ≡ Some c → folded d es (Ok no_objects) ≡ Ok c
folds d es c is = by (folded d es (Ok no_objects)) (led_folded d es (Ok no_objects) ∙ is)
  where
    by : (r : Result Catalogue ℕ) → led r ≡ Some c → r ≡ Ok c
    by (Ok e) is = let same : e ≡ c = cc in ap Ok same
    by (Err at) is = absurd (cc is)
