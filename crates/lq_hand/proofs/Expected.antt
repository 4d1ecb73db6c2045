-- What a source holds of the calls of a turn, told by how the turn ends.
use Rattle.std.proofs.Common.{ap, subst, sym, ◌∙◌}
use Rattle.std.specs.Prelude.{Bool, List, None, Option, Some, false, refl, true, ℕ, ◌≡◌}
use Rattle.lq_base.specs.declared.dialect.Dialect.{Dialect}
use Rattle.lq_model.specs.Catalogue.{Catalogue}
use Rattle.lq_turns.proofs.Entered.{accepted_is, is_finished}
use Rattle.lq_turns.proofs.TurnLeft.{turn_goes}
use Rattle.lq_turns.specs.Deed.{Contents}
use Rattle.lq_turns.specs.Session.{Both, are_accepted, went}
use Rattle.lq_turns.specs.Turn.{Ending, Finished, Refused, contents_in, ending, turn_calls}
use Rattle.lq_turns.specs.declared.call.Call.{Call}
use Rattle.lq_turns.specs.declared.stop.Refusal.{Refusal}
use Rattle.lq_turns.specs.declared.turn.Turn.{Turn}
use Rattle.lq_hand.specs.Way.{no_progress, Expects, Way, refusal_at_end, refused_in, seen_along, sights}
use Rattle.lq_hand.proofs.Sighted.{turn_seen}

-- it awaits the contents of a turn that finishes, and yields to the refusal of one that is refused
abbrev pub HoldsAtEnd : Way → Bool → List Catalogue → Ending → Type 0
HoldsAtEnd way on sees (Finished c) = way.awaits sees c
HoldsAtEnd way on sees (Refused c refusal) = way.yields on refusal c

module _ (d : Dialect) (who : List ℕ) (turn : Turn) (c : Contents) (way : Way) (on : Bool) where
  awaited : (sees : List Catalogue) (e : Ending) → HoldsAtEnd way on sees e → is_finished e ≡ true → way.awaits sees (contents_in e)
  awaited sees (Finished e) holds is = holds
  awaited sees (Refused e refusal) holds is = absurd (clash is) where
    clash : false ≡ true → ⊥
    clash h = Prim.cc

  yielded : (sees : List Catalogue) (e : Ending) (refusal : Refusal) → HoldsAtEnd way on sees e → refusal_at_end e ≡ Some refusal → way.yields on refusal (contents_in e)
  yielded sees (Finished e) refusal holds is = absurd (clash is) where
    clash : (let o : Option Refusal = None in o) ≡ Some refusal → ⊥
    clash h = Prim.cc
  yielded sees (Refused e other) refusal holds is = subst (λ r. way.yields on r e) (same is) holds where
    same : (let o : Option Refusal = Some other in o) ≡ Some refusal → other ≡ refusal
    same h = Prim.cc

  pub turn_expected : (calls : List Call) → calls ≡ turn_calls d who turn → refused_in d calls no_progress c ≡ refusal_at_end (ending d turn c) → HoldsAtEnd way on (seen_along d turn.statements c.users) (ending d turn c)
      → Expects d way on calls no_progress (c, c)
  turn_expected calls is counted holds =
      let left : (went d calls (c, c)).0 ≡ contents_in (ending d turn c) = ap (λ (cs : List Call). (went d cs (c, c)).0) is ∙ ap (λ (x : Both). x.0) (turn_goes d who turn c) in
      let seen_is = ap (λ (cs : List Call). sights d cs c) is ∙ turn_seen d who turn c in
      record {
        finished = λ all. subst (λ (z : Contents). way.awaits (sights d calls c) z) (sym left)
            (subst (λ (seen : List Catalogue). way.awaits seen (contents_in (ending d turn c))) (sym seen_is)
            (awaited (seen_along d turn.statements c.users) (ending d turn c) holds (sym (ap (λ (cs : List Call). are_accepted d cs c) is ∙ accepted_is d who turn c) ∙ all)));
        refused = λ refusal why. subst (λ (z : Contents). way.yields on refusal z) (sym left) (yielded (seen_along d turn.statements c.users) (ending d turn c) refusal holds (sym counted ∙ why));
      }
