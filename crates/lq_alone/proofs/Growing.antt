-- Calls only add to the journal.
use Rattle.std.proofs.Common.{ap, sym, ◌∙◌}
use Rattle.std.proofs.lemmas.List.{append-nil, append_assoc}
use Rattle.std.specs.Prelude.{Bool, Err, List, Ok, Result, [], false, refl, true, ◌++◌, ◌∷◌, ◌≡◌}
use Rattle.lq_base.specs.declared.dialect.Dialect.{Dialect}
use Rattle.lq_base.specs.declared.reason.Reason.{Reason}
use Rattle.lq_model.specs.Script.{if_any}
use Rattle.lq_track.specs.Database.{Database}
use Rattle.lq_turns.specs.Deed.{done}
use Rattle.lq_turns.specs.declared.call.Call.{Call}
use Rattle.lq_turns.specs.declared.call.Call.TheVariants.{Abort, Alone, Begin, Commit, Execute}
use Rattle.lq_turns.specs.declared.deed.Deed.{Deed}
use Rattle.lq_turns.specs.Session.{Session, aborted, accepted, all_called, all_executed, all_executed_as, closed, executed_as, is_own, settled_if, settled_up}
use Rattle.lq_turns.specs.Stops.{Journal}

pub record Grows (s t : Session) : Type 0 where
  pub more : Journal
  pub is : t.entries ≡ s.entries ++ more

same : (s : Session) → Grows s s
same s = record { more = []; is = sym (append-nil s.entries) }

onwards : (s t u : Session) → Grows s t → Grows t u → Grows s u
onwards s t u first second = record { more = first.more ++ second.more; is = second.is ∙ ap (λ es. es ++ second.more) first.is ∙ append_assoc s.entries first.more second.more }

up : (s : Session) → Grows s (settled_up s)
up s = record { more = if_any s.begun; is = refl }

up_if : (own : Bool) (s : Session) → Grows s (settled_if own s)
up_if true s = up s
up_if false s = same s

module _ (d : Dialect) where
  takes : (deed : Deed) (now : Database) (s : Session) → Grows s (accepted d deed now s)
  takes deed now s =
      let own = is_own d deed in
      let mid = record (settled_if own s) { seen = now; begun = (settled_if own s).begun ++ deed ∷ [] } in
      let first = up_if own s in
      onwards s mid (settled_if own mid) (record { more = first.more; is = first.is }) (up_if own mid)

  executes : (deed : Deed) (s : Session) (r : Result Database Reason) → Grows s (executed_as d deed s r)
  executes deed s (Ok now) = takes deed now s
  executes deed s (Err reason) = up_if (is_own d deed) s

  closes : (s : Session) → Grows s (closed s)
  closes s = record { more = if_any s.begun; is = refl }

  gives_up : (own : Bool) (s : Session) → Grows s (aborted (settled_if own s))
  gives_up own s = let it = up_if own s in record { more = it.more; is = it.is }

  executes_all : (deeds : List Deed) (s : Session) → Grows s (all_executed d deeds s)
  executes_all [] s = closes s
  executes_all (deed ∷ deeds) s = elim (done d deed s.seen) as (λ r. Grows s (all_executed_as d deed s (all_executed d deeds) r)) [
    | Ok now ↦ onwards s (accepted d deed now s) (all_executed d deeds (accepted d deed now s)) (takes deed now s) (executes_all deeds (accepted d deed now s))
    | Err reason ↦ gives_up (is_own d deed) s
  ]

  pub calls_grow : (calls : List Call) (s : Session) → Grows s (all_called d calls s)
  calls_grow [] s = same s
  calls_grow (Alone deeds room ∷ calls) s = onwards s (all_executed d deeds s) (all_called d calls (all_executed d deeds s)) (executes_all deeds s) (calls_grow calls (all_executed d deeds s))
  calls_grow (Begin ∷ calls) s = let it = calls_grow calls (record s { is_open = true }) in record { more = it.more; is = it.is }
  calls_grow (Execute deed ∷ calls) s = let t = executed_as d deed s (done d deed s.seen) in onwards s t (all_called d calls t) (executes deed s (done d deed s.seen)) (calls_grow calls t)
  calls_grow (Commit ∷ calls) s = onwards s (closed s) (all_called d calls (closed s)) (closes s) (calls_grow calls (closed s))
  calls_grow (Abort ∷ calls) s = let it = calls_grow calls (aborted s) in record { more = it.more; is = it.is }
