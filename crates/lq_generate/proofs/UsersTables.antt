-- Without the two tracking tables: those whose names are others.
use Rattle.std.proofs.Common.{Bool, List, ap, false, not, refl, sym, true, [], cond, ◌&&◌, ◌∙◌, ◌∷◌, ◌≡◌, ◌||◌}
use Rattle.std.specs.FinMap.Entries.{below_all, is_sorted}
use Rattle.std.specs.List.{filter}
use Rattle.std.specs.Map.{remove_entry}
use Rattle.std.specs.Ordering.{is_eq, is_lt}
use Rattle.std.specs.Prelude.{T}
use Rattle.std.specs.declared.cmp.Ordering.TheVariants.{Equal, Greater, Less}
use Rattle.lq_base.specs.Name.{is_named, name_cmp}
use Rattle.lq_base.specs.declared.name.Name.{Name}
use Rattle.lq_model.proofs.Lists.{same_name}
use Rattle.lq_model.proofs.Maps.{sorted-remove_entry}
use Rattle.lq_model.specs.Catalogue.{Catalogue, Table}
use Rattle.lq_parts.specs.Taken.{IsOrdered}
use Rattle.lq_track.specs.Database.{users_of}
use Rattle.lq_track.specs.Lock.{lock_table}
use Rattle.lq_track.specs.Log.{log_table}
use Rattle.lq_generate.specs.Generated.{untracked}

first : (a b : Bool) → T (a && b) → T a
first true b p = tt
first false b p = p

second : (a b : Bool) → T (a && b) → T b
second true b p = p
second false b p = absurd p

-- no name is below itself
not_itself : (k e : Name) → T (is_lt (name_cmp k e)) → is_named k e ≡ false
not_itself k e h =
    elim (name_cmp k e) as (λ r. T (is_lt r) → is_eq r ≡ false) [
      | Less ↦ λ p. refl
      | Equal ↦ λ p. absurd p
      | Greater ↦ λ p. refl
    ] h

abbrev Tables : Type 0
Tables = List (Name × Table)

abbrev other : Name → Name × Table → Bool
other k e = not (is_named k e.0)

-- what stands behind an entry has not its name
others : (k : Name) (es : Tables) → T (below_all name_cmp k es) → es ≡ filter (other k) es
others k [] h = refl
others k (e ∷ es) h =
    ap (λ rest. e ∷ rest) (others k es (second (is_lt (name_cmp k e.0)) _ h))
    ∙ ap (λ b. cond (not b) (e ∷ filter (other k) es) (filter (other k) es)) (sym (not_itself k e.0 (first _ _ h)))

without : (k : Name) (es : Tables) → T (is_sorted name_cmp es) → remove_entry (is_named k) es ≡ filter (other k) es
without k [] h = refl
without k (e ∷ es) h =
    elim (is_named k e.0) as (λ b. is_named k e.0 ≡ b → cond b es (e ∷ remove_entry (is_named k) es) ≡ cond (not b) (e ∷ filter (other k) es) (filter (other k) es)) [
      | true ↦ λ is. rw (same_name k e.0 is) (others e.0 es (first _ _ h))
      | false ↦ λ is. ap (λ rest. e ∷ rest) (without k es (second (below_all name_cmp e.0 es) _ h))
    ] refl

twice : (j k : Name) (es : Tables) → filter (λ (e : Name × Table). not (is_named j e.0 || is_named k e.0)) es ≡ filter (other k) (filter (other j) es)
twice j k [] = refl
twice j k (e ∷ es) = by (is_named j e.0) (is_named k e.0) refl refl (twice j k es) where
  by : (a b : Bool) → is_named j e.0 ≡ a → is_named k e.0 ≡ b
      → filter (λ (e : Name × Table). not (is_named j e.0 || is_named k e.0)) es ≡ filter (other k) (filter (other j) es)
      → cond (not (a || b)) (e ∷ filter (λ (e : Name × Table). not (is_named j e.0 || is_named k e.0)) es) (filter (λ (e : Name × Table). not (is_named j e.0 || is_named k e.0)) es) ≡ filter (other k) (cond (not a) (e ∷ filter (other j) es) (filter (other j) es))
  by true b p q rest = rest
  by false true p q rest = rw q rest
  by false false p q rest = rw q (ap (λ more. e ∷ more) rest)

pub users_are : (c : Catalogue) → IsOrdered c.tables → untracked c.tables ≡ (users_of c).tables
users_are c h =
    twice log_table lock_table c.tables
    ∙ ap (filter (other lock_table)) (sym (without log_table c.tables h))
    ∙ sym (without lock_table (remove_entry (is_named log_table) c.tables) (sorted-remove_entry log_table c.tables h))
