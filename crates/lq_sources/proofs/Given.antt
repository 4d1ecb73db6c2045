-- The values of the command line, one after another.
use Rattle.std.proofs.Common.{◌≡◌, ◌<◌, ◌+◌, ◌∙◌, ℕ, suc, List, ◌∷◌, drop, length, sym, ap, arith}
use mathlib.Core.Path.{fun_ext}
use Rattle.std.specs.Prelude.{slice_index_or}
use Rattle.std.proofs.Math.Seq.{drop-cons}
use Rattle.lq_props.specs.Props.{defines}
use Rattle.lq_props.specs.declared.scope.Scope.{Scope}
use Rattle.lq_props.specs.declared.scope.Scope.TheVariants.{Command}
use Rattle.lq_sources.specs.Items.{given_values, Values}

pub one_more : (whole values after : Values) (xs : List (List ℕ × List ℕ)) (i : ℕ) (x d : List ℕ × List ℕ) → i < length xs → x ≡ slice_index_or xs i d
    → ((s : Scope) (n : List ℕ) → after s n ≡ defines values Command x.0 x.1 s n)
    → given_values (drop i xs) values ≡ whole → given_values (drop (i + 1) xs) after ≡ whole
one_more whole values after xs i x d lt is defined so =
    ap (λ v. given_values (drop (i + 1) xs) v) (fun_ext (λ s. fun_ext (λ n. defined s n))) ∙ (ap (λ n. given_values (drop n xs) (defines values Command x.0 x.1)) (sym next) ∙ (sym (ap (λ l. given_values l values) stepped) ∙ so))
  where
    next : suc i ≡ i + 1
    next = omega arith

    stepped : drop i xs ≡ x ∷ drop (suc i) xs
    stepped = drop-cons xs i d lt ∙ ap (λ y. y ∷ drop (suc i) xs) (sym is)
