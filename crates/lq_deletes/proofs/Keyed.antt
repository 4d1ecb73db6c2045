-- Values that are equal in their order.
use Rattle.std.proofs.Common.{Bool, List, [], false, nat_eq, refl, sym, true, ◌&&◌, ◌∙◌, ◌∷◌, ◌≡◌, ℕ, ℤ}
use Rattle.std.specs.Cmp.{unsigned_ties}
use Rattle.std.specs.List.{list_any}
use Rattle.std.specs.Ordering.{int_cmp, int_eq, is_eq, nat_cmp, ordering_then}
use Rattle.std.specs.declared.cmp.Ordering.{Ordering}
use Rattle.std.specs.declared.cmp.Ordering.TheVariants.{Equal, Greater, Less}
use Rattle.lq_base.specs.declared.value.Value.{Value}
use Rattle.lq_base.specs.declared.value.Value.TheVariants as value
use Rattle.lq_model.specs.Catalogue.{is_null, same_value, same_values}
use Rattle.lq_model.proofs.Lists.{or_left, or_right}
use Rattle.lq_rows.specs.Stored.{value_cmp, values_cmp}

eq_then : (a b : Ordering) → is_eq (ordering_then a b) ≡ (is_eq a && is_eq b)
eq_then Less b = refl
eq_then Equal b = refl
eq_then Greater b = refl

int_level : (a b : ℤ) → is_eq (int_cmp a b) ≡ int_eq a b
int_level a b = refl

nat_level : (a b : ℕ) → is_eq (nat_cmp a b) ≡ nat_eq a b
nat_level a b = sym (unsigned_ties a b)

and_true : (b : Bool) → (b && true) ≡ b
and_true true = refl
and_true false = refl

whole_alone : (a b : ℤ) → is_eq (ordering_then (int_cmp a b) Equal) ≡ int_eq a b
whole_alone a b = eq_then (int_cmp a b) Equal ∙ and_true _ ∙ int_level a b

whole_and_scale : (a b : ℤ) (s t : ℕ) → is_eq (ordering_then (int_cmp a b) (ordering_then (nat_cmp s t) Equal)) ≡ (int_eq a b && nat_eq s t)
whole_and_scale a b s t = eq_then (int_cmp a b) _ ∙ rw (eq_then (nat_cmp s t) Equal, and_true (is_eq (nat_cmp s t)), int_level a b, nat_level s t) refl

same_truth : (a b : Bool) → is_eq (value_cmp (value.Bool a) (value.Bool b)) ≡ same_value (value.Bool a) (value.Bool b)
same_truth true true = refl
same_truth true false = refl
same_truth false true = refl
same_truth false false = refl

-- equal in the order is equal, where one of them is not null
value_equal : (a b : Value) → is_null a ≡ false → is_eq (value_cmp a b) ≡ same_value a b
value_equal value.Null b h = absurd (Prim.cc h)
value_equal (value.Int n1) value.Null h = refl
value_equal (value.Int n1) (value.Int n2) h = whole_alone n1 n2
value_equal (value.Int n1) (value.Text t2) h = refl
value_equal (value.Int n1) (value.Bool p2) h = refl
value_equal (value.Int n1) (value.Moment m2) h = refl
value_equal (value.Int n1) (value.Fixed u2 s2) h = refl
value_equal (value.Text t1) value.Null h = refl
value_equal (value.Text t1) (value.Int n2) h = refl
value_equal (value.Text t1) (value.Text t2) h = refl
value_equal (value.Text t1) (value.Bool p2) h = refl
value_equal (value.Text t1) (value.Moment m2) h = refl
value_equal (value.Text t1) (value.Fixed u2 s2) h = refl
value_equal (value.Bool p1) value.Null h = refl
value_equal (value.Bool p1) (value.Int n2) h = refl
value_equal (value.Bool p1) (value.Text t2) h = refl
value_equal (value.Bool p1) (value.Bool p2) h = same_truth p1 p2
value_equal (value.Bool p1) (value.Moment m2) h = refl
value_equal (value.Bool p1) (value.Fixed u2 s2) h = refl
value_equal (value.Moment m1) value.Null h = refl
value_equal (value.Moment m1) (value.Int n2) h = refl
value_equal (value.Moment m1) (value.Text t2) h = refl
value_equal (value.Moment m1) (value.Bool p2) h = refl
value_equal (value.Moment m1) (value.Moment m2) h = whole_alone m1 m2
value_equal (value.Moment m1) (value.Fixed u2 s2) h = refl
value_equal (value.Fixed u1 s1) value.Null h = refl
value_equal (value.Fixed u1 s1) (value.Int n2) h = refl
value_equal (value.Fixed u1 s1) (value.Text t2) h = refl
value_equal (value.Fixed u1 s1) (value.Bool p2) h = refl
value_equal (value.Fixed u1 s1) (value.Moment m2) h = refl
value_equal (value.Fixed u1 s1) (value.Fixed u2 s2) h = whole_and_scale u1 u2 s1 s2

pub values_equal : (a b : List Value) → list_any is_null a ≡ false → is_eq (values_cmp a b) ≡ same_values a b
values_equal [] [] h = refl
values_equal [] (y ∷ b) h = refl
values_equal (x ∷ a) [] h = refl
values_equal (x ∷ a) (y ∷ b) h = eq_then (value_cmp x y) _ ∙ rw (value_equal x y (or_left (is_null x) _ h), values_equal a b (or_right (is_null x) _ h)) refl
