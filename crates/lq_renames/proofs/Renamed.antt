-- Lemmas on a table's new name.
use Rattle.std.proofs.Common.{Bool, List, None, Ok, Option, Some, [], ap, cond, false, is_none, is_some, map, refl, true, ◌&&◌, ◌∙◌, ◌∷◌, ◌≡◌, ◌||◌}
use Rattle.std.specs.List.{list_any}
use Rattle.std.specs.List.Sorted.{IsStrictlySortedBy}
use Rattle.std.specs.Map.{keys_of, lookup, remove_entry}
use Rattle.lq_arm.specs.Verdict.{listed, verdict_of}
use Rattle.lq_arm.specs.declared.tests.Tests.{Tests}
use Rattle.lq_base.specs.Name.{is_named, name_cmp}
use Rattle.lq_base.specs.declared.dialect.Dialect.{Dialect}
use Rattle.lq_base.specs.declared.dialect.Dialect.TheVariants.{Mysql, Postgresql}
use Rattle.lq_base.specs.declared.name.Name.{Name}
use Rattle.lq_model.specs.Catalogue.{Catalogue, Table, View, table_of, the_table, view_of, with_view, without_view}
use Rattle.lq_model.specs.NameSpaces.{is_taken, is_reserved, is_tracking, lock_key, takes_lock_key}
use Rattle.lq_model.specs.Tables.{targets_table, retarget, retargeted, view_renamed}
use Rattle.lq_model.specs.declared.caller.By.{By}
use Rattle.lq_model.specs.declared.caller.By.TheVariants.{Program, User}
use Rattle.lq_model.specs.declared.constraint.ForeignKey.{ForeignKey}
use Rattle.lq_model.proofs.Decide.{none_from_unless}
use Rattle.lq_model.proofs.Lists.{or_left, or_right}
use Rattle.lq_model.proofs.Maps.{lookup-remove_entry, sorted-insert_entry, sorted-remove_entry, sorted_entries, sorted_keys}
use Rattle.lq_model.proofs.Sequences.{free_view}
use Rattle.lq_parts.specs.Taken.{with_renamed}

either : (a b : Bool) → (a || (b || false)) ≡ ((a || false) || (b || false))
either true b = refl
either false b = refl

turned : (a b : Bool) → (a || (b || false)) ≡ ((b || false) || (a || false))
turned true true = refl
turned true false = refl
turned false true = refl
turned false false = refl

pub reserved_two : (by : By) (a b : Name) → is_reserved by (a ∷ b ∷ []) ≡ (is_reserved by (a ∷ []) || is_reserved by (b ∷ []))
reserved_two User a b = either (is_tracking a) (is_tracking b)
reserved_two Program a b = refl

pub lock_key_two : (by : By) (d : Dialect) (a b : Name) → takes_lock_key by d (a ∷ b ∷ []) ≡ (takes_lock_key by d (b ∷ []) || takes_lock_key by d (a ∷ []))
lock_key_two User Postgresql a b = turned (is_named lock_key a) (is_named lock_key b)
lock_key_two User Mysql a b = refl
lock_key_two Program d a b = refl

pub two : {a b x y : Bool} → a ≡ x → b ≡ y → (a || b) ≡ (x || y)
two {b = b} {x = x} p q = ap (λ z. z || b) p ∙ ap (λ z. x || z) q

pub grouped : (a b e : Bool) → ((a || b) || e) ≡ (a || (b || e))
grouped true b e = refl
grouped false b e = refl

-- a good verdict, and a name that may be made
pub may_make : (x : Tests) → verdict_of x ≡ Ok tt → x.exists ≡ false
unfolding verdict_of
may_make x h = (none_from_unless (listed x) tt tt h).0.1.1.0

-- a table that aims at none of that name is left as it is
aims_same : (a b : Name) (fs : List ForeignKey) → list_any (λ (f : ForeignKey). is_named a f.table) fs ≡ false → map (retarget a b) fs ≡ fs
aims_same a b [] none = refl
aims_same a b (f ∷ fs) none =
    ap (λ own. record f { table = cond own b f.table } ∷ map (retarget a b) fs) (or_left (is_named a f.table) _ none)
    ∙ ap (λ gs. f ∷ gs) (aims_same a b fs (or_right (is_named a f.table) _ none))

pub untargeted : (a b : Name) (it : Table) → targets_table a it ≡ false → retargeted a b it ≡ it
untargeted a b it none = ap (λ fs. record it { foreign = fs }) (aims_same a b it.foreign none)

-- the tables stay in order
pub still_ordered : (a b : Name) (c : Catalogue) → IsStrictlySortedBy name_cmp (keys_of c.tables) → IsStrictlySortedBy name_cmp (keys_of (with_renamed c a b).tables)
still_ordered a b c rise = sorted_keys _ (sorted-insert_entry (remove_entry (is_named a) c.tables) b (the_table c a) (sorted-remove_entry a c.tables (sorted_entries c.tables rise)))

gone_too : {X : Type 0} (a b : Name) (es : List (Name × X)) → IsStrictlySortedBy name_cmp (keys_of es) → lookup (is_named b) es ≡ None → lookup (is_named b) (remove_entry (is_named a) es) ≡ None
gone_too a b es rise none = lookup-remove_entry a es b (sorted_entries es rise) ∙ ap (cond (is_named a b) None) none ∙ either_none (is_named a b) where
  either_none : {X : Type 0} (t : Bool) → (let o : Option X = None in cond t o o) ≡ None
  either_none true = refl
  either_none false = refl

pub view_free : (d : Dialect) (a b : Name) (c : Catalogue) → IsStrictlySortedBy name_cmp (keys_of c.views) → is_taken d b c ≡ false → view_of (without_view c a) b ≡ None
view_free d a b c rise free = gone_too a b c.views rise (free_view d b c free)

pub view_moves : (a b : Name) (c : Catalogue) (v : View) → view_of c a ≡ Some v → view_renamed a b c ≡ with_view (without_view c a) b v
view_moves a b c v here = ap (λ o. (let e : Catalogue = elim o [ None ↦ c | Some v ↦ with_view (without_view c a) b v ] in e)) here

-- what is no table is a view
pub is_view : (c : Catalogue) (t : Name) → (is_none (table_of c t) && is_none (view_of c t)) ≡ false → is_some (table_of c t) ≡ false → is_some (view_of c t) ≡ true
is_view c t = by (table_of c t) (view_of c t) where
  by : {X Y : Type 0} (o : Option X) (p : Option Y) → (is_none o && is_none p) ≡ false → is_some o ≡ false → is_some p ≡ true
  by (Some x) p there other = absurd (Prim.cc other)
  by None None there other = absurd (Prim.cc there)
  by None (Some y) there other = refl
