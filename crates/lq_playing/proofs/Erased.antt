-- What a session had written before a call is no matter to it.
use Rattle.std.proofs.Common.{ap, subst, sym, ◌∙◌}
use Rattle.std.specs.Prelude.{Bool, Err, List, Ok, Result, [], false, refl, true, ◌&&◌, ◌++◌, ◌∷◌, ◌≡◌}
use Rattle.lq_base.specs.declared.dialect.Dialect.{Dialect}
use Rattle.lq_base.specs.declared.reason.Reason.{Reason}
use Rattle.lq_beside.specs.Replays.{call_fits, calls_fit}
use Rattle.lq_playing.specs.Under.{bare}
use Rattle.lq_track.specs.Database.{Database}
use Rattle.lq_turns.specs.Deed.{done}
use Rattle.lq_turns.specs.Session.{Session, aborted, accepted, all_executed, all_executed_as, before, called, closed, executed_as, is_own, settled_if}
use Rattle.lq_turns.specs.declared.call.Call.{Call}
use Rattle.lq_turns.specs.declared.call.Call.TheVariants.{Abort, Alone, Begin, Commit, Execute}
use Rattle.lq_turns.specs.declared.deed.Deed.{Deed}

abbrev pub with_entries : Session → List (List Deed) → Session
with_entries s entries = record s { entries = entries }

abbrev pub IsWith : Session → Session → Type 0
IsWith t s = (entries : List (List Deed)) × (t ≡ with_entries s entries)

module _ (d : Dialect) where
  accepts_with : (own : Bool) (deed : Deed) (now : Database) (s : Session) (entries : List (List Deed))
      → IsWith (settled_if own (record (settled_if own (with_entries s entries)) { seen = now; begun = (settled_if own (with_entries s entries)).begun ++ deed ∷ [] })) (settled_if own (record (settled_if own s) { seen = now; begun = (settled_if own s).begun ++ deed ∷ [] }))
  accepts_with true deed now s entries = ((settled_if true (record (settled_if true (with_entries s entries)) { seen = now; begun = deed ∷ [] })).entries, refl)
  accepts_with false deed now s entries = (entries, refl)

  before_with : (own : Bool) (s : Session) (entries : List (List Deed)) → IsWith (settled_if own (with_entries s entries)) (settled_if own s)
  before_with true s entries = ((settled_if true (with_entries s entries)).entries, refl)
  before_with false s entries = (entries, refl)

  aborted_with : (t s : Session) → IsWith t s → IsWith (aborted t) (aborted s)
  aborted_with t s is = (is.0, ap aborted is.1)

  executes_with : (deed : Deed) (s : Session) (entries : List (List Deed)) (r : Result Database Reason) → IsWith (executed_as d deed (with_entries s entries) r) (executed_as d deed s r)
  executes_with deed s entries (Ok now) = accepts_with (is_own d deed) deed now s entries
  executes_with deed s entries (Err reason) = before_with (is_own d deed) s entries

  all_with : (deeds : List Deed) (s : Session) (entries : List (List Deed)) → IsWith (all_executed d deeds (with_entries s entries)) (all_executed d deeds s)
  all_with [] s entries = ((closed (with_entries s entries)).entries, refl)
  all_with (deed ∷ deeds) s entries = elim (done d deed s.seen) as (λ r. IsWith (all_executed_as d deed (with_entries s entries) (all_executed d deeds) r) (all_executed_as d deed s (all_executed d deeds) r)) [
    | Ok now ↦
        let one = accepts_with (is_own d deed) deed now s entries in
        subst (λ t. IsWith (all_executed d deeds t) (all_executed d deeds (accepted d deed now s))) (sym one.1) (all_with deeds (accepted d deed now s) one.0)
    | Err reason ↦ aborted_with (before d deed (with_entries s entries)) (before d deed s) (before_with (is_own d deed) s entries)
  ]

  pub call_with : (call : Call) (s : Session) (entries : List (List Deed)) → IsWith (called d call (with_entries s entries)) (called d call s)
  call_with (Alone deeds room) s entries = all_with deeds s entries
  call_with Begin s entries = (entries, refl)
  call_with (Execute deed) s entries = executes_with deed s entries (done d deed s.seen)
  call_with Commit s entries = ((closed (with_entries s entries)).entries, refl)
  call_with Abort s entries = (entries, refl)

  call_fits_with : (call : Call) (s : Session) (entries : List (List Deed)) → call_fits d call (with_entries s entries) ≡ call_fits d call s
  call_fits_with (Alone deeds room) s entries = refl
  call_fits_with Begin s entries = refl
  call_fits_with (Execute deed) s entries = refl
  call_fits_with Commit s entries = refl
  call_fits_with Abort s entries = refl

  pub fit_with : (calls : List Call) (s : Session) (entries : List (List Deed)) → calls_fit d calls (with_entries s entries) ≡ calls_fit d calls s
  fit_with [] s entries = refl
  fit_with (call ∷ calls) s entries =
      let next = call_with call s entries in
      ap (λ b. b && calls_fit d calls (called d call (with_entries s entries))) (call_fits_with call s entries)
      ∙ ap (λ b. call_fits d call s && b) (ap (calls_fit d calls) next.1 ∙ fit_with calls (called d call s) next.0)

  -- what fits a session fits it with nothing written
  pub fit_bare : (calls : List Call) (s : Session) → calls_fit d calls s ≡ true → calls_fit d calls (bare s) ≡ true
  fit_bare calls s fit = fit_with calls s [] ∙ fit
