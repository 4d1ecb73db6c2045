-- Lemmas on the values that were met.
use Rattle.std.proofs.Common.{List, [], ap, false, not, refl, sym, true, Bool, ◌&&◌, ◌||◌, ◌∙◌, ◌∷◌, ◌≡◌}
use Rattle.std.specs.BTreeSet.{BTreeSet, contains}
use Rattle.std.specs.List.{list_any}
use Rattle.lq_base.specs.declared.value.Value.{Value}
use Rattle.lq_base.specs.declared.name.Name.{Name}
use Rattle.lq_decide.specs.Faults.{has_null_in}
use Rattle.lq_model.specs.Catalogue.{Table, by_name, has_equals, is_null, picked, same_values}
use Rattle.lq_model.specs.declared.constraint.ForeignKey.{ForeignKey}
use Rattle.lq_model.proofs.Lists.{any-map, any_same, or_false, or_left}
use Rattle.lq_keyops.specs.Targets.{HasNoNull, lacks_parent_in}
use Rattle.lq_rows.specs.Stored.{values_cmp, ShowsRows}
use Rattle.lq_rows.proofs.SeenLemmas.{null_added, same_values_back}

abbrev nothing : BTreeSet (List Value)
nothing = record { keys = [] }

-- a row with a null is equal to none
null_differs : (v row : List Value) → list_any is_null row ≡ true → same_values v row ≡ false
null_differs v row h = or_left (same_values v row) false (sym (null_added row nothing h v))

abbrev Adds : BTreeSet (List Value) → BTreeSet (List Value) → List Value → Type 0
Adds old new v = (w : List Value) → contains values_cmp new w ≡ (same_values w v || contains values_cmp old w)

pub none_null : (s : BTreeSet (List Value)) → s.keys ≡ [] → HasNoNull s
none_null s is values null = rw is refl

pub still_none : (old new : BTreeSet (List Value)) (v : List Value) → HasNoNull old → Adds old new v → HasNoNull new
still_none old new v none adds w null = adds w ∙ or_false _ _ (same_values_back w v ∙ null_differs v w null) (none w null)

none_met : (s : BTreeSet (List Value)) (vs : List (List Value)) → s.keys ≡ [] → list_any (contains values_cmp s) vs ≡ false
none_met s [] is = refl
none_met s (v ∷ vs) is = rw is (none_met s vs is)

pub equals_first : (s : BTreeSet (List Value)) (vs : List (List Value)) → s.keys ≡ [] → has_equals vs ≡ (list_any (contains values_cmp s) vs || has_equals vs)
equals_first s vs is = rw (none_met s vs is) refl

joined : (v : List Value) (old new : BTreeSet (List Value)) → Adds old new v → (vs : List (List Value)) → list_any (contains values_cmp new) vs ≡ (list_any (same_values v) vs || list_any (contains values_cmp old) vs)
joined v old new adds [] = refl
joined v old new adds (w ∷ vs) =
    ap (λ b. b || list_any (contains values_cmp new) vs) (adds w ∙ ap (λ b. b || contains values_cmp old w) (same_values_back w v)) ∙ ap (λ b. (same_values v w || contains values_cmp old w) || b) (joined v old new adds vs)
    ∙ shuffle (same_values v w) (contains values_cmp old w) (list_any (same_values v) vs) (list_any (contains values_cmp old) vs) where
      shuffle : (a b c d : Bool) → ((a || b) || (c || d)) ≡ ((a || c) || (b || d))
      shuffle true b c d = refl
      shuffle false true true d = refl
      shuffle false true false d = refl
      shuffle false false c d = refl

-- the values are new
pub equals_more : (all : Bool) (v : List Value) (old new : BTreeSet (List Value)) (vs : List (List Value)) → all ≡ (list_any (contains values_cmp old) (v ∷ vs) || has_equals (v ∷ vs)) → contains values_cmp old v ≡ false
    → Adds old new v → all ≡ (list_any (contains values_cmp new) vs || has_equals vs)
equals_more all v old new vs so fresh adds = so ∙ ap (λ b. (b || list_any (contains values_cmp old) vs) || (list_any (same_values v) vs || has_equals vs)) fresh ∙ swap (list_any (contains values_cmp old) vs) (list_any (same_values v) vs) (has_equals vs) ∙ ap (λ b. b || has_equals vs) (sym (joined v old new adds vs)) where
  swap : (a b c : Bool) → (a || (b || c)) ≡ ((b || a) || c)
  swap true true c = refl
  swap true false c = refl
  swap false true c = refl
  swap false false c = refl

-- the values were met
pub equals_found : (all : Bool) (v : List Value) (old : BTreeSet (List Value)) (vs : List (List Value)) → all ≡ (list_any (contains values_cmp old) (v ∷ vs) || has_equals (v ∷ vs)) → contains values_cmp old v ≡ true → all ≡ true
equals_found all v old vs so seen = so ∙ ap (λ b. (b || list_any (contains values_cmp old) vs) || (list_any (same_values v) vs || has_equals vs)) seen

-- nulls in some columns
pub nulls_are : (it : Table) (ns : List Name) → has_null_in it ns ≡ list_any (λ row. list_any (λ n. is_null (by_name it.columns row n)) ns) it.rows
nulls_are it ns = any_same (λ r. list_any is_null (picked it.columns ns r)) (λ row. list_any (λ n. is_null (by_name it.columns row n)) ns) it.rows (λ r. any-map is_null (by_name it.columns r) ns)

-- rows without a parent
pub orphans_are : (target it : Table) (f : ForeignKey) (known : BTreeSet (List Value)) → ShowsRows target.columns f.targets target.rows known
    → list_any (λ r. not (list_any is_null (picked it.columns f.columns r)) && not (contains values_cmp known (picked it.columns f.columns r))) it.rows ≡ list_any (lacks_parent_in target it.columns f) it.rows
orphans_are target it f known shows =
    any_same (λ r. not (list_any is_null (picked it.columns f.columns r)) && not (contains values_cmp known (picked it.columns f.columns r))) (lacks_parent_in target it.columns f) it.rows
    (λ r. ap (λ b. not (list_any is_null (picked it.columns f.columns r)) && not b) (shows (picked it.columns f.columns r) ∙ any-map (same_values (picked it.columns f.columns r)) (picked target.columns f.targets) target.rows))
