-- The turn of a changelog-sync.
use Rattle.std.proofs.Common.{ap, sym, refl, subst, ◌≡◌, ◌∙◌, ◌++◌, Bool, true, false, List, [], ◌∷◌, map}
use Rattle.std.proofs.lemmas.List.{append-nil, append_assoc}
use Rattle.std.specs.Prelude.{reverse}
use Rattle.lq_base.specs.declared.dialect.Dialect.{Dialect}
use Rattle.lq_base.specs.declared.tracking.Tracked.{Tracked}
use Rattle.lq_laying.proofs.Laying.{then_lays}
use Rattle.lq_hand.specs.Way.{IsTurn}
use Rattle.lq_hand.specs.Hand.{AreTurns}
use Rattle.lq_laying.specs.Laying.{Lays}
use Rattle.lq_hand.specs.declared.hand.Phase.TheVariants.{Inside}
use Rattle.lq_back.proofs.Ways.{map_behind}
use Rattle.lq_back.specs.Reversal.{AreDated, insert_call, sync_calls}
use Rattle.lq_turns.specs.declared.call.Call.{Call}
use Rattle.lq_turns.specs.declared.call.Call.TheVariants.{Begin, Commit}

-- the last row's call is laid before those that lie there
pub one_laid : (rows front : List Tracked) (row : Tracked) (calls now all : List Call) → rows ≡ front ++ row ∷ [] → Lays (insert_call row ∷ []) calls now → map insert_call rows ++ reverse calls ≡ all → map insert_call front ++ reverse now ≡ all
one_laid rows front row calls now all is lays so =
    ap (λ cs. map insert_call front ++ cs) lays
    ∙ (sym (append_assoc (map insert_call front) (insert_call row ∷ []) (reverse calls))
    ∙ (ap (λ cs. cs ++ reverse calls) (sym (ap (map insert_call) is ∙ map_behind insert_call front row)) ∙ so))

pub rows_laid : (rows : List Tracked) (calls all : List Call) → rows ≡ [] → map insert_call rows ++ reverse calls ≡ all → reverse calls ≡ all
rows_laid rows calls all none so = sym (ap (λ rs. map insert_call rs ++ reverse calls) none) ∙ so

pub turn_laid : (rows : List Tracked) (calls a b c : List Call) → Lays (Commit ∷ []) calls a → Lays (map insert_call rows) a b → Lays (Begin ∷ []) b c → Lays (sync_calls rows) calls c
turn_laid rows calls a b c ends inserts begins = then_lays (Begin ∷ []) (map insert_call rows ++ Commit ∷ []) calls b c (then_lays (map insert_call rows) (Commit ∷ []) calls a b ends inserts) begins

pub all_laid : (rows : List Tracked) (first calls : List Call) → first ≡ [] → Lays (sync_calls rows) first calls → reverse calls ≡ sync_calls rows
all_laid rows first calls none lays = lays ∙ (ap (λ cs. sync_calls rows ++ reverse cs) none ∙ append-nil (sync_calls rows))

-- its calls open and close one transaction

inserts_well : (d : Dialect) (rows : List Tracked) → AreDated rows → AreTurns d true (map insert_call rows ++ Commit ∷ [])
inserts_well d [] dated = (refl, refl)
inserts_well d (row ∷ rows) dated = ((refl, dated.0), inserts_well d rows dated.1)

begins_turn : (rows : List Tracked) → sync_calls rows ≡ [] → ⊥
begins_turn rows none = Prim.cc

pub sync_turn : (d : Dialect) (rows : List Tracked) (calls : List Call) (goes_on : Bool) → AreDated rows → reverse calls ≡ sync_calls rows → IsTurn d (record { phase = Inside; calls = calls; goes_on = goes_on })
sync_turn d rows calls goes_on dated is = record {
  inside = refl;
  left = λ none. begins_turn rows (sym is ∙ ap reverse none);
  turn = subst (AreTurns d false) (sym is) (refl, inserts_well d rows dated);
}
