-- Entries whose names rise, by neighbours.
use Rattle.std.proofs.Common.{Bool, List, [], ap, false, refl, sym, true, ◌&&◌, ◌∙◌, ◌∷◌, ◌≡◌}
use Rattle.std.specs.Cmp.{IsTotalOrder, nat_cmp_total}
use Rattle.std.specs.Cmp.Lexicographic.{lists_total}
use Rattle.std.specs.FinMap.Entries.{below_all, is_sorted}
use Rattle.std.specs.Ordering.{is_lt}
use Rattle.std.specs.declared.cmp.Ordering.{Ordering}
use Rattle.std.specs.declared.cmp.Ordering.TheVariants.{Equal, Greater, Less}
use Rattle.lq_base.specs.Name.{name_cmp}
use Rattle.lq_base.specs.declared.name.Name.{Name}
use Rattle.lq_model.proofs.Lists.{and_left, and_right, and_true, whether}
use Rattle.lq_filled.specs.With.{begins_above}

total : IsTotalOrder name_cmp
total = lists_total nat_cmp_total

is_less : (r : Ordering) → is_lt r ≡ true → r ≡ Less
is_less Less is = refl
is_less Equal is = absurd (cc is)
is_less Greater is = absurd (cc is)

module _ {X : Type 0} where
  above_all : (n m : Name) → is_lt (name_cmp n m) ≡ true → (es : List (Name × X)) → below_all name_cmp m es ≡ true → below_all name_cmp n es ≡ true
  above_all n m less [] is = refl
  above_all n m less (e ∷ es) is =
      let first = is_less _ (and_left (is_lt (name_cmp m e.0)) (below_all name_cmp m es) is) in
      and_true (is_lt (name_cmp n e.0)) (below_all name_cmp n es) (ap is_lt (total.trans n m e.0 (is_less _ less) first)) (above_all n m less es (and_right (is_lt (name_cmp m e.0)) (below_all name_cmp m es) is))

  begins : (n : Name) (es : List (Name × X)) → begins_above n es ≡ true → is_sorted name_cmp es ≡ true → below_all name_cmp n es ≡ true
  begins n [] above sorted = refl
  begins n (e ∷ es) above sorted = and_true (is_lt (name_cmp n e.0)) (below_all name_cmp n es) above (above_all n e.0 above es (and_left (below_all name_cmp e.0 es) (is_sorted name_cmp es) sorted))

  pub rises : (e : Name × X) (es : List (Name × X)) → begins_above e.0 es ≡ true → is_sorted name_cmp (e ∷ es) ≡ is_sorted name_cmp es
  rises e es above = whether (is_sorted name_cmp es)
      (λ sorted. and_true (below_all name_cmp e.0 es) (is_sorted name_cmp es) (begins e.0 es above sorted) sorted ∙ sym sorted)
      (λ not_so. ap (λ b. below_all name_cmp e.0 es && b) not_so ∙ never (below_all name_cmp e.0 es) ∙ sym not_so)
    where
      never : (b : Bool) → (b && false) ≡ false
      never true = refl
      never false = refl

  pub falls : (e : Name × X) (es : List (Name × X)) → begins_above e.0 es ≡ false → is_sorted name_cmp (e ∷ es) ≡ false
  falls e [] above = absurd (cc above)
  falls e (f ∷ fs) above = ap (λ b. (b && below_all name_cmp e.0 fs) && is_sorted name_cmp (f ∷ fs)) above

  -- from the entries that are left
  pub rises_on : (rest more : List (Name × X)) (e : Name × X) (whole : Bool) → rest ≡ e ∷ more → begins_above e.0 more ≡ true → is_sorted name_cmp rest ≡ whole → is_sorted name_cmp more ≡ whole
  rises_on rest more e whole is above all = sym (rises e more above) ∙ ap (λ (l : List (Name × X)). is_sorted name_cmp l) (sym is) ∙ all

  pub falls_here : (rest more : List (Name × X)) (e : Name × X) (whole : Bool) → rest ≡ e ∷ more → begins_above e.0 more ≡ false → is_sorted name_cmp rest ≡ whole → false ≡ whole
  falls_here rest more e whole is above all = sym (falls e more above) ∙ ap (λ (l : List (Name × X)). is_sorted name_cmp l) (sym is) ∙ all

  pub none_fall : (rest : List (Name × X)) (whole : Bool) → rest ≡ [] → is_sorted name_cmp rest ≡ whole → true ≡ whole
  none_fall rest whole is all = ap (λ (l : List (Name × X)). is_sorted name_cmp l) (sym is) ∙ all
