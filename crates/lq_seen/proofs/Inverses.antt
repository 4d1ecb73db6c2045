-- What is generated for changes, the last one first.
use Rattle.std.proofs.Common.{Bool, List, None, Option, Some, [], ap, false, is_some, option_map, refl, sym, true, ◌&&◌, ◌++◌, ◌∙◌, ◌∷◌, ◌≡◌}
use Rattle.std.specs.List.{list_all}
use Rattle.std.specs.Option.{unwrap_or}
use Rattle.std.specs.Prelude.{if◌then◌else◌, option_and_then}
use Rattle.lq_base.specs.declared.dialect.Dialect.{Dialect}
use Rattle.lq_any.specs.AnyChange.{inverse, is_for}
use Rattle.lq_any.specs.declared.any_change.AnyChange.{AnyChange}
use Rattle.lq_last_first.specs.LastFirst.{last_first}
use Rattle.lq_model.proofs.Lists.{all-append_left, all-append_right, and_left}
use Rattle.lq_model.specs.declared.statement.Statement.{Statement}
use Rattle.lq_seen.specs.View.{any_meaning}
use Rattle.lq_turns.specs.Set.{inverses}

-- what is generated for one more before others
one_before : {S : Type 0} (own : Option (List S)) (all : Bool) (rest : List S)
    → option_and_then (λ (more : List S). option_map (λ (first : List S). more ++ first) own) (if all then Some rest else None)
    ≡ (if is_some own && all then Some (rest ++ unwrap_or own []) else None)
one_before (Some first) true rest = refl
one_before (Some first) false rest = refl
one_before None true rest = refl
one_before None false rest = refl

abbrev pub generated : Dialect → List AnyChange → Option (List Statement)
generated d xs = if list_all (λ x. is_some (inverse d x)) xs then Some (last_first (λ x. unwrap_or (inverse d x) []) xs) else None

-- they are those of each change, the last one first, where they are generated for each
pub all_generated : (d : Dialect) (xs : List AnyChange) → generated d xs ≡ inverses d any_meaning xs
all_generated d [] = refl
all_generated d (x ∷ xs) =
    sym (ap (λ (o : Option (List Statement)). option_and_then (λ more. option_map (λ first. more ++ first) (inverse d x)) o) (sym (all_generated d xs))
    ∙ one_before (inverse d x) (list_all (λ x. is_some (inverse d x)) xs) (last_first (λ x. unwrap_or (inverse d x) []) xs))

module _ (d : Dialect) (rest front : List AnyChange) (x : AnyChange) (is : rest ≡ front ++ x ∷ []) where
  pub last_read : list_all (is_for d) rest ≡ true → is_for d x ≡ true
  last_read read = and_left (is_for d x) true (all-append_right (is_for d) front (x ∷ []) (ap (list_all (is_for d)) (sym is) ∙ read))

  pub front_read : list_all (is_for d) rest ≡ true → list_all (is_for d) front ≡ true
  front_read read = all-append_left (is_for d) front (x ∷ []) (ap (list_all (is_for d)) (sym is) ∙ read)
