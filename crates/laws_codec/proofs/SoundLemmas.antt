-- The test is right.
use Rattle.std.proofs.Common.{◌≡◌, ◌+◌, ◌≤◌, ◌&&◌, ◌||◌, ◌∷◌, ℕ, Bool, true, false, cond, not, List, [], Option, None, Some, refl, sym, ◌∙◌, ap, arith, T}
use Rattle.std.specs.FinMap.Entries.{below_all, is_sorted}
use Rattle.std.specs.List.{list_all}
use Rattle.std.specs.Map.{lookup}
use Rattle.lq_base.specs.Name.{is_named, name_cmp}
use Rattle.lq_base.specs.declared.name.Name.{Name}
use Rattle.lq_model.specs.Catalogue.{is_in, repeats, times, Catalogue, Table, constraint_names, index_names}
use Rattle.lq_base.specs.declared.dialect.Dialect.{Dialect}
use Rattle.lq_base.specs.declared.dialect.Dialect.TheVariants.{Mysql, Postgresql}
use Rattle.lq_model.specs.NameSpaces.{AreApart, AreApartWithin, all_foreign_names, object_names, shared_names}
use Rattle.lq_model.specs.Sound.{IsSound, IsSoundTable}
use Rattle.lq_model.proofs.CreateKeeps.{once_if}
use Rattle.lq_model.proofs.Kept.{not_so_true}
use Rattle.lq_model.proofs.Lists.{and_left, and_right, and_true, named_itself, same_name}
use Rattle.lq_model.proofs.Maps.{below_gone, sorted_entries, sorted_keys}
use Rattle.std.proofs.lemmas.Map.Entries.{lookup_head, lookup_tail}
use Rattle.lq_codec.specs.State.{are_apart, are_in_order, are_lists, is_key_well, has_sound_columns, has_sound_lists, has_sound_objects, has_sound_rows, is_sound, is_sound_table, own_names}

-- a name that stands in a list stands there once at least
some_time : (n : Name) (ns : List Name) → is_in n ns ≡ true → 1 ≤ times n ns
some_time n [] is = absurd (cc is)
some_time n (m ∷ ms) is = by (λ is. some_time n ms is) (is_named n m) refl is where
  by : (is_in n ms ≡ true → 1 ≤ times n ms) → (b : Bool) → is_named n m ≡ b → b || is_in n ms ≡ true → 1 ≤ cond b 1 0 + times n ms
  by hyp true same is = omega arith
  by hyp false same is = let it = hyp is in omega (arith, it)

pub differ_if : (ns : List Name) → ((n : Name) → times n ns ≤ 1) → repeats ns ≡ false
differ_if [] once = refl
differ_if (n ∷ ns) once = by (is_in n ns) refl (differ_if ns (λ m. at_most m (is_named m n) (once m))) where
  at_most : (m : Name) (b : Bool) → cond b 1 0 + times m ns ≤ 1 → times m ns ≤ 1
  at_most m true le = omega (arith, le)
  at_most m false le = omega (arith, le)

  by : (b : Bool) → is_in n ns ≡ b → repeats ns ≡ false → b || repeats ns ≡ false
  by false is more = more
  by true is more =
      let it = some_time n ns is in
      let twice : cond (is_named n n) 1 0 + times n ns ≤ 1 = once n in
      let count : Bool → ℕ = λ b. cond b 1 0 in
      let one : count (is_named n n) ≡ 1 = ap count (named_itself n) in
      absurd (omega (arith, it, twice, one))

to_T : (b : Bool) → b ≡ true → T b
to_T true is = tt
to_T false is = absurd (cc is)

from_T : (b : Bool) → T b → b ≡ true
from_T true h = refl
from_T false h = absurd h

-- of each value that a look-up finds

at_key : {X : Type 0} (p : X → Bool) (q : Name) (es : List (Name × X)) (x : X) → list_all (λ e. p e.1) es ≡ true → lookup (is_named q) es ≡ Some x → p x ≡ true
at_key p q [] x all there = absurd (cc there)
at_key p q (e ∷ es) x all there = by (is_named q e.0) (and_left (p e.1) (list_all (λ e. p e.1) es) all) (at_key p q es x (and_right (p e.1) (list_all (λ e. p e.1) es) all)) there where
  by : (b : Bool) → p e.1 ≡ true → (lookup (is_named q) es ≡ Some x → p x ≡ true) → cond b (Some e.1) (lookup (is_named q) es) ≡ Some x → p x ≡ true
  by true here later is = let same : e.1 ≡ x = cc is in ap p (sym same) ∙ here
  by false here later is = later is

at_all : {X : Type 0} (p : X → Bool) (es : List (Name × X)) → T (is_sorted name_cmp es) → ((q : Name) (x : X) → lookup (is_named q) es ≡ Some x → p x ≡ true) → list_all (λ e. p e.1) es ≡ true
at_all p [] sorted each = refl
at_all p (e ∷ es) sorted each =
    let parts = split _ _ sorted in
    and_true (p e.1) (list_all (λ e. p e.1) es) (each e.0 e.1 (lookup_head (is_named e.0) e es (named_itself e.0)))
    (at_all p es parts.1 (λ q x there. each q x (lookup_tail (is_named q) e es (apart q x parts.0 there (is_named q e.0) refl) ∙ there)))
  where
    split : (a b : Bool) → T (a && b) → T a × T b
    split true b h = (tt, h)
    split false b h = absurd h

    apart : (q : Name) (x : _) → T (below_all name_cmp e.0 es) → lookup (is_named q) es ≡ Some x → (b : Bool) → is_named q e.0 ≡ b → is_named q e.0 ≡ false
    apart q x below there false is = is
    apart q x below there true is = absurd (clash (sym (ap (λ (n : Name). lookup (is_named n) es) (same_name q e.0 is) ∙ below_gone e.0 es below) ∙ there)) where
      clash : (let o : Option _ = None in o) ≡ Some x → ⊥
      clash h = cc h

module _ (d : Dialect) where
  table_sound : (it : Table) → is_sound_table d it ≡ true → IsSoundTable d it
  table_sound it is =
      let first = and_left (has_sound_columns it) (has_sound_lists d it) is in
      let second = and_right (has_sound_columns it) (has_sound_lists d it) is in
      let a1 = and_right _ _ first in let a2 = and_right _ _ a1 in let a3 = and_right _ _ a2 in
      let b0 = and_left (are_lists it) _ second in let b1 = and_right (are_lists it) _ second in
      let b2 = and_left (is_key_well d it) _ b1 in let b3 = and_right (is_key_well d it) _ b1 in
      let b4 = and_right _ _ b3 in
      record {
        some = not_so_true _ (and_left _ _ first);
        differ = not_so_true _ (and_left _ _ a1);
        kinds = and_left _ _ a2;
        rows = and_left _ _ a3;
        defaults = and_right _ _ a3;
        lists = and_left _ _ b0;
        foreign = and_right _ _ b0;
        key = and_left _ _ b2;
        key_named = and_right _ _ b2;
        numbered = and_left _ _ b3;
        within = within_from d (not_so_true _ (and_left _ _ b4));
        public = not_so_true _ (and_right _ _ b4);
      } where
        within_from : (d : Dialect) → repeats (own_names d it) ≡ false → AreApartWithin d it
        within_from Postgresql off = λ n. once_if (constraint_names it) n off
        within_from Mysql off = λ n. once_if (index_names it) n off

  table_test : (it : Table) → IsSoundTable d it → is_sound_table d it ≡ true
  table_test it is =
      and_true _ _
      (and_true _ _ (ap not is.some) (and_true _ _ (ap not is.differ) (and_true _ _ is.kinds (and_true _ _ is.rows is.defaults))))
      (and_true _ _ (and_true _ _ is.lists is.foreign) (and_true _ _ (and_true _ _ is.key is.key_named) (and_true _ _ is.numbered (and_true _ _ (ap not (differ_within d is.within)) (ap not is.public)))))
    where
      differ_within : (d : Dialect) → AreApartWithin d it → repeats (own_names d it) ≡ false
      differ_within Postgresql once = differ_if (constraint_names it) once
      differ_within Mysql once = differ_if (index_names it) once

  apart_from : (d : Dialect) (c : Catalogue) → are_apart d c ≡ true → AreApart d c
  apart_from Postgresql c is = λ n. once_if (shared_names c) n (not_so_true _ is)
  apart_from Mysql c is = (λ n. once_if (object_names c) n (not_so_true _ (and_left _ _ is)), λ n. once_if (all_foreign_names c) n (not_so_true _ (and_right _ _ is)))

  apart_test : (d : Dialect) (c : Catalogue) → AreApart d c → are_apart d c ≡ true
  apart_test Postgresql c once = ap not (differ_if (shared_names c) once)
  apart_test Mysql c once = and_true _ _ (ap not (differ_if (object_names c) once.0)) (ap not (differ_if (all_foreign_names c) once.1))

  pub sound_from : (c : Catalogue) → is_sound d c ≡ true → IsSound d c
  sound_from c is =
      let order = and_left (are_in_order c) (has_sound_objects d c && has_sound_rows c) is in
      let rest = and_right (are_in_order c) (has_sound_objects d c && has_sound_rows c) is in
      let objects = and_left (has_sound_objects d c) (has_sound_rows c) rest in
      let rows = and_right (has_sound_objects d c) (has_sound_rows c) rest in
      let order1 = and_right _ _ order in
      let o1 = and_right _ _ objects in let o2 = and_right _ _ o1 in let o3 = and_right _ _ o2 in let o4 = and_right _ _ o3 in
      let r1 = and_right _ _ rows in let r2 = and_right _ _ r1 in let r3 = and_right _ _ r2 in let r4 = and_right _ _ r3 in
      record {
        ordered = sorted_keys c.tables (to_T _ (and_left _ _ order));
        ordered_views = sorted_keys c.views (to_T _ (and_left _ _ order1));
        ordered_sequences = sorted_keys c.sequences (to_T _ (and_right _ _ order1));
        tables = λ t it there. table_sound it (at_key (is_sound_table d) t c.tables it (and_left _ _ objects) there);
        views = and_left _ _ o1;
        apart = apart_from d c (and_left _ _ o2);
        schemas = and_left _ _ o3;
        steps = not_so_true _ (and_left _ _ o4);
        sequences = and_right _ _ o4;
        no_null = not_so_true _ (and_left _ _ rows);
        no_twins = not_so_true _ (and_left _ _ r1);
        aimed = not_so_true _ (and_left _ _ r2);
        alike = not_so_true _ (and_left _ _ r3);
        parents = not_so_true _ (and_left _ _ r4);
        small = not_so_true _ (and_right _ _ r4);
      }

  pub sound_test : (c : Catalogue) → IsSound d c → is_sound d c ≡ true
  sound_test c is =
      and_true _ _
      (and_true _ _ (from_T _ (sorted_entries c.tables is.ordered)) (and_true _ _ (from_T _ (sorted_entries c.views is.ordered_views)) (from_T _ (sorted_entries c.sequences is.ordered_sequences))))
      (and_true _ _
      (and_true _ _ (at_all (is_sound_table d) c.tables (sorted_entries c.tables is.ordered) (λ q it there. table_test it (is.tables q it there)))
      (and_true _ _ is.views (and_true _ _ (apart_test d c is.apart) (and_true _ _ is.schemas (and_true _ _ (ap not is.steps) is.sequences)))))
      (and_true _ _ (ap not is.no_null) (and_true _ _ (ap not is.no_twins) (and_true _ _ (ap not is.aimed) (and_true _ _ (ap not is.alike) (and_true _ _ (ap not is.parents) (ap not is.small)))))))
