-- Lemmas on the statements of views and sequences.
use Rattle.std.proofs.Common.{Bool, List, None, Ok, Option, Some, T, [], ap, cond, false, is_none, refl, sym, true, unwrap_or, ◌||◌, ◌∙◌, ◌∷◌, ◌≡◌}
use Rattle.std.specs.FinMap.Entries.{is_sorted}
use Rattle.std.specs.BTreeMap.{insert_entry}
use Rattle.std.specs.List.Sorted.{IsStrictlySortedBy}
use Rattle.std.specs.Map.{keys_of, lookup, remove_entry}
use Rattle.lq_arm.specs.Verdict.{listed, verdict_of}
use Rattle.lq_arm.specs.declared.tests.Tests.{Tests}
use Rattle.lq_base.specs.Name.{is_named, name_cmp}
use Rattle.lq_base.specs.declared.dialect.Dialect.{Dialect}
use Rattle.lq_base.specs.declared.dialect.Dialect.TheVariants.{Mysql, Postgresql}
use Rattle.lq_base.specs.declared.name.Name.{Name}
use Rattle.lq_model.specs.Catalogue.{Catalogue, Sequence, Table, View, no_table, sequence_of, table_of, the_table, view_of, with_sequence, with_view, without_sequence, without_view}
use Rattle.lq_model.specs.NameSpaces.{is_taken, is_reserved, is_tracking, lock_key, takes_lock_key}
use Rattle.lq_model.specs.Tables.{view_renamed}
use Rattle.lq_model.specs.Views.{sequence_renamed}
use Rattle.lq_model.specs.declared.caller.By.{By}
use Rattle.lq_model.specs.declared.caller.By.TheVariants.{Program, User}
use Rattle.lq_model.proofs.Decide.{none_from_unless}
use Rattle.lq_model.proofs.Lists.{named_itself, other_way, whether}
use Rattle.lq_model.proofs.Maps.{lookup-insert_entry, lookup-remove_entry, same_maps, sorted-insert_entry, sorted-remove_entry, sorted_entries}
use Rattle.lq_model.proofs.Sequences.{free_sequence, free_view}

either : (a b : Bool) → (a || (b || false)) ≡ ((a || false) || (b || false))
either true b = refl
either false b = refl

turned : (a b : Bool) → (a || (b || false)) ≡ ((b || false) || (a || false))
turned true true = refl
turned true false = refl
turned false true = refl
turned false false = refl

pub reserved_two : (by : By) (a b : Name) → is_reserved by (a ∷ b ∷ []) ≡ (is_reserved by (a ∷ []) || is_reserved by (b ∷ []))
reserved_two User a b = either (is_tracking a) (is_tracking b)
reserved_two Program a b = refl

pub lock_key_two : (by : By) (d : Dialect) (a b : Name) → takes_lock_key by d (a ∷ b ∷ []) ≡ (takes_lock_key by d (b ∷ []) || takes_lock_key by d (a ∷ []))
lock_key_two User Postgresql a b = turned (is_named lock_key a) (is_named lock_key b)
lock_key_two User Mysql a b = refl
lock_key_two Program d a b = refl

-- a good verdict, and a name that may be made
pub may_make : (x : Tests) → verdict_of x ≡ Ok tt → x.exists ≡ false
unfolding verdict_of
may_make x h = (none_from_unless (listed x) tt tt h).0.1.1.0

gone_too : {X : Type 0} (a b : Name) (es : List (Name × X)) → IsStrictlySortedBy name_cmp (keys_of es) → lookup (is_named b) es ≡ None → lookup (is_named b) (remove_entry (is_named a) es) ≡ None
gone_too a b es rise none = lookup-remove_entry a es b (sorted_entries es rise) ∙ ap (cond (is_named a b) None) none ∙ either_none (is_named a b) where
  either_none : {X : Type 0} (t : Bool) → (let o : Option X = None in cond t o o) ≡ None
  either_none true = refl
  either_none false = refl

-- what is free stays so when something else goes
pub sequence_free : (d : Dialect) (a b : Name) (c : Catalogue) → IsStrictlySortedBy name_cmp (keys_of c.sequences) → is_taken d b c ≡ false → sequence_of (without_sequence c a) b ≡ None
sequence_free d a b c rise free = gone_too a b c.sequences rise (free_sequence d b c free)

pub view_free : (d : Dialect) (a b : Name) (c : Catalogue) → IsStrictlySortedBy name_cmp (keys_of c.views) → is_taken d b c ≡ false → view_of (without_view c a) b ≡ None
view_free d a b c rise free = gone_too a b c.views rise (free_view d b c free)

-- what a renaming makes of something that is there
pub sequence_moves : (a b : Name) (c : Catalogue) (s : Sequence) → sequence_of c a ≡ Some s → sequence_renamed a b c ≡ with_sequence (without_sequence c a) b s
sequence_moves a b c s here = ap (λ o. (let e : Catalogue = elim o [ None ↦ c | Some s ↦ with_sequence (without_sequence c a) b s ] in e)) here

pub view_moves : (a b : Name) (c : Catalogue) (v : View) → view_of c a ≡ Some v → view_renamed a b c ≡ with_view (without_view c a) b v
view_moves a b c v here = ap (λ o. (let e : Catalogue = elim o [ None ↦ c | Some v ↦ with_view (without_view c a) b v ] in e)) here

-- a view in place of another
replaced : (n : Name) (es : List (Name × View)) (v : View) → T (is_sorted name_cmp es) → insert_entry name_cmp (remove_entry (is_named n) es) n v ≡ insert_entry name_cmp es n v
replaced n es v rise =
    same_maps (insert_entry name_cmp (remove_entry (is_named n) es) n v) (insert_entry name_cmp es n v) (sorted-insert_entry _ n v (sorted-remove_entry n es rise)) (sorted-insert_entry es n v rise)
    (λ q. lookup-insert_entry (remove_entry (is_named n) es) n v q ∙ at q ∙ sym (lookup-insert_entry es n v q)) where
      at : (q : Name) → cond (is_named q n) (Some v) (lookup (is_named q) (remove_entry (is_named n) es)) ≡ cond (is_named q n) (Some v) (lookup (is_named q) es)
      at q = whether (is_named q n) (λ is. rw (is) refl) (λ other. rw (other) (lookup-remove_entry n es q rise ∙ ap (λ b. cond b None (lookup (is_named q) es)) (other_way q n other)))

pub view_replaced : (n : Name) (c : Catalogue) (v : View) → IsStrictlySortedBy name_cmp (keys_of c.views) → with_view (without_view c n) n v ≡ with_view c n v
view_replaced n c v rise = ap (λ vs. record c { views = vs }) (replaced n c.views v (sorted_entries c.views rise))

pub view_gone : (n : Name) (c : Catalogue) → IsStrictlySortedBy name_cmp (keys_of c.views) → view_of (without_view c n) n ≡ None
view_gone n c rise = lookup-remove_entry n c.views n (sorted_entries c.views rise) ∙ ap (λ b. cond b None (lookup (is_named n) c.views)) (named_itself n)

pub the_is : (c : Catalogue) (t : Name) (it : Table) → table_of c t ≡ Some it → the_table c t ≡ it
the_is c t it here = ap (λ o. unwrap_or o no_table) here

-- what is asked of a table that is there
pub asked : (c : Catalogue) (t : Name) (it : Table) (f : Table → Bool) → table_of c t ≡ Some it → (is_none (table_of c t) || f (the_table c t)) ≡ f it
asked c t it f here = ap (λ o. is_none o || f (unwrap_or o no_table)) here

pub absent : (c : Catalogue) (t : Name) (b : Bool) → table_of c t ≡ None → (is_none (table_of c t) || b) ≡ true
absent c t b none = ap (λ o. is_none o || b) none

pub two : {a b x y : Bool} → a ≡ x → b ≡ y → (a || b) ≡ (x || y)
two {b = b} {x = x} p q = ap (λ z. z || b) p ∙ ap (λ z. x || z) q

pub grouped : (a b e : Bool) → ((a || b) || e) ≡ (a || (b || e))
grouped true b e = refl
grouped false b e = refl
