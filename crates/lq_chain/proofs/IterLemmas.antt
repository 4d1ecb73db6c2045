-- A step of a walk over linked nodes.
use Rattle.std.proofs.Common.{◌≡◌, ℕ, List, [], ◌∷◌, length, Option, Some, None, sym, ap, ◌∙◌, subst}
use denote.RawPtr.{Ptr}
use Rattle.lq_links.specs.declared.node.Node.{Node}
use Rattle.lq_links.specs.declared.node.Spot.{Spot}
use Rattle.lq_links.specs.State.{node, Has, first_or, Linked, spots_from}
use Rattle.lq_links.proofs.ShapeLemmas.{some_not, some_same}
use Rattle.lq_chain.proofs.StepLemmas.{spots_are}

module _ {X : Type 0} where
  -- the first spot, its node, and the rest
  pub record Step (slots : List (Ptr × Option (Node X))) (prev : Option Spot) (ss : List (Spot × X)) (s : Spot) : Type 0 where
    pub row : X
    pub rest : List (Spot × X)
    pub is : ss ≡ (s, row) ∷ rest
    pub has : Has slots s (node prev (first_or rest None) row)
    pub linked : Linked slots (Some s) rest None
    pub again : spots_from (length rest) slots (first_or rest None) ≡ rest

  pub stepped : (slots : List (Ptr × Option (Node X))) (prev cur : Option Spot) (left : ℕ) (s : Spot) (ss : List (Spot × X)) → Linked slots prev ss None → cur ≡ first_or ss None → cur ≡ Some s → Step slots prev ss s
  stepped slots prev cur left s [] h f c = absurd (some_not s (sym f ∙ c))
  stepped slots prev cur left s (x ∷ ss) h f c =
      let same : x.0 ≡ s = some_same x.0 s (sym f ∙ c) in
      record {
        row = x.1;
        rest = ss;
        is = ap (λ (t : Spot). (t, x.1) ∷ ss) same;
        has = subst (λ (t : Spot). Has slots t (node prev (first_or ss None) x.1)) same h.0;
        linked = subst (λ (t : Spot). Linked slots (Some t) ss None) same h.1;
        again = spots_are slots ss (Some x.0) h.1;
      }
