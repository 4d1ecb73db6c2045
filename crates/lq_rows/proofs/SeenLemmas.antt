-- Lemmas on what is kept for looking up rows.
use Rattle.std.proofs.Common.{Bool, List, [], ap, cond, false, refl, ◌++◌, length, nat_eq, slice_index_or, slice_set, subst, suc, zero, sym, true, ◌∙◌, ◌&&◌, ◌||◌, ◌∷◌, ◌≡◌, ℕ, ℤ}
use Rattle.std.specs.BTreeSet.{BTreeSet, Updates, contains}
use Rattle.std.specs.Cmp.{eq_by_cmp_equiv, int_eq_equiv, nat_cmp_total, nat_eq_equiv, unsigned_ties}
use Rattle.std.specs.Cmp.Lexicographic.{lists_total}
use Rattle.std.specs.List.{list_any}
use Rattle.std.specs.Ordering.{int_cmp, int_eq, is_eq, nat_cmp, ordering_then}
use Rattle.std.specs.declared.cmp.Ordering.{Ordering}
use Rattle.std.specs.declared.cmp.Ordering.TheVariants.{Equal, Greater, Less}
use Rattle.lq_base.specs.declared.value.Value.{Value}
use Rattle.lq_base.specs.declared.value.Value.TheVariants as value
use Rattle.lq_model.specs.Catalogue.{is_null, picked, same_value, same_values}
use Rattle.lq_model.proofs.Lists.{and_no_right, any-append, or_left, or_right, whether}
use Rattle.lq_base.specs.declared.name.Name.{Name}
use Rattle.lq_model.specs.declared.column.Column.{Column}
use Rattle.lq_rows.specs.Stored.{value_cmp, values_cmp, AllShow, ShowWith, ShowsRows, has_values}
use Rattle.lq_model.specs.Plan.{is_twin_in}
use Rattle.lq_rows.specs.declared.held.Seen.{Seen}

eq_then : (a b : Ordering) → is_eq (ordering_then a b) ≡ (is_eq a && is_eq b)
eq_then Less b = refl
eq_then Equal b = refl
eq_then Greater b = refl

int_level : (a b : ℤ) → is_eq (int_cmp a b) ≡ int_eq a b
int_level a b = refl

nat_level : (a b : ℕ) → is_eq (nat_cmp a b) ≡ nat_eq a b
nat_level a b = sym (unsigned_ties a b)

and_true : (b : Bool) → (b && true) ≡ b
and_true true = refl
and_true false = refl

whole_alone : (a b : ℤ) → is_eq (ordering_then (int_cmp a b) Equal) ≡ int_eq a b
whole_alone a b = eq_then (int_cmp a b) Equal ∙ and_true _ ∙ int_level a b

whole_and_scale : (a b : ℤ) (s t : ℕ) → is_eq (ordering_then (int_cmp a b) (ordering_then (nat_cmp s t) Equal)) ≡ (int_eq a b && nat_eq s t)
whole_and_scale a b s t = eq_then (int_cmp a b) _ ∙ rw (eq_then (nat_cmp s t) Equal, and_true (is_eq (nat_cmp s t)), int_level a b, nat_level s t) refl

same_truth : (a b : Bool) → is_eq (value_cmp (value.Bool a) (value.Bool b)) ≡ same_value (value.Bool a) (value.Bool b)
same_truth true true = refl
same_truth true false = refl
same_truth false true = refl
same_truth false false = refl

-- equal in the order is equal, where one of them is not null
value_equal : (a b : Value) → is_null a ≡ false → is_eq (value_cmp a b) ≡ same_value a b
value_equal value.Null b h = absurd (Prim.cc h)
value_equal (value.Int n1) value.Null h = refl
value_equal (value.Int n1) (value.Int n2) h = whole_alone n1 n2
value_equal (value.Int n1) (value.Text t2) h = refl
value_equal (value.Int n1) (value.Bool p2) h = refl
value_equal (value.Int n1) (value.Moment m2) h = refl
value_equal (value.Int n1) (value.Fixed u2 s2) h = refl
value_equal (value.Text t1) value.Null h = refl
value_equal (value.Text t1) (value.Int n2) h = refl
value_equal (value.Text t1) (value.Text t2) h = refl
value_equal (value.Text t1) (value.Bool p2) h = refl
value_equal (value.Text t1) (value.Moment m2) h = refl
value_equal (value.Text t1) (value.Fixed u2 s2) h = refl
value_equal (value.Bool p1) value.Null h = refl
value_equal (value.Bool p1) (value.Int n2) h = refl
value_equal (value.Bool p1) (value.Text t2) h = refl
value_equal (value.Bool p1) (value.Bool p2) h = same_truth p1 p2
value_equal (value.Bool p1) (value.Moment m2) h = refl
value_equal (value.Bool p1) (value.Fixed u2 s2) h = refl
value_equal (value.Moment m1) value.Null h = refl
value_equal (value.Moment m1) (value.Int n2) h = refl
value_equal (value.Moment m1) (value.Text t2) h = refl
value_equal (value.Moment m1) (value.Bool p2) h = refl
value_equal (value.Moment m1) (value.Moment m2) h = whole_alone m1 m2
value_equal (value.Moment m1) (value.Fixed u2 s2) h = refl
value_equal (value.Fixed u1 s1) value.Null h = refl
value_equal (value.Fixed u1 s1) (value.Int n2) h = refl
value_equal (value.Fixed u1 s1) (value.Text t2) h = refl
value_equal (value.Fixed u1 s1) (value.Bool p2) h = refl
value_equal (value.Fixed u1 s1) (value.Moment m2) h = refl
value_equal (value.Fixed u1 s1) (value.Fixed u2 s2) h = whole_and_scale u1 u2 s1 s2

values_equal : (a b : List Value) → list_any is_null a ≡ false → is_eq (values_cmp a b) ≡ same_values a b
values_equal [] [] h = refl
values_equal [] (y ∷ b) h = refl
values_equal (x ∷ a) [] h = refl
values_equal (x ∷ a) (y ∷ b) h = eq_then (value_cmp x y) _ ∙ rw (value_equal x y (or_left (is_null x) _ h), values_equal a b (or_right (is_null x) _ h)) refl

truth_back : (a b : Bool) → same_value (value.Bool a) (value.Bool b) ≡ same_value (value.Bool b) (value.Bool a)
truth_back true true = refl
truth_back true false = refl
truth_back false true = refl
truth_back false false = refl

-- equality does not tell the sides apart
same_value_back : (a b : Value) → same_value a b ≡ same_value b a
same_value_back value.Null value.Null = refl
same_value_back value.Null (value.Int n2) = refl
same_value_back value.Null (value.Text t2) = refl
same_value_back value.Null (value.Bool p2) = refl
same_value_back value.Null (value.Moment m2) = refl
same_value_back value.Null (value.Fixed u2 s2) = refl
same_value_back (value.Int n1) value.Null = refl
same_value_back (value.Int n1) (value.Int n2) = int_eq_equiv.symm n1 n2
same_value_back (value.Int n1) (value.Text t2) = refl
same_value_back (value.Int n1) (value.Bool p2) = refl
same_value_back (value.Int n1) (value.Moment m2) = refl
same_value_back (value.Int n1) (value.Fixed u2 s2) = refl
same_value_back (value.Text t1) value.Null = refl
same_value_back (value.Text t1) (value.Int n2) = refl
same_value_back (value.Text t1) (value.Text t2) = (eq_by_cmp_equiv (lists_total nat_cmp_total)).symm t1 t2
same_value_back (value.Text t1) (value.Bool p2) = refl
same_value_back (value.Text t1) (value.Moment m2) = refl
same_value_back (value.Text t1) (value.Fixed u2 s2) = refl
same_value_back (value.Bool p1) value.Null = refl
same_value_back (value.Bool p1) (value.Int n2) = refl
same_value_back (value.Bool p1) (value.Text t2) = refl
same_value_back (value.Bool p1) (value.Bool p2) = truth_back p1 p2
same_value_back (value.Bool p1) (value.Moment m2) = refl
same_value_back (value.Bool p1) (value.Fixed u2 s2) = refl
same_value_back (value.Moment m1) value.Null = refl
same_value_back (value.Moment m1) (value.Int n2) = refl
same_value_back (value.Moment m1) (value.Text t2) = refl
same_value_back (value.Moment m1) (value.Bool p2) = refl
same_value_back (value.Moment m1) (value.Moment m2) = int_eq_equiv.symm m1 m2
same_value_back (value.Moment m1) (value.Fixed u2 s2) = refl
same_value_back (value.Fixed u1 s1) value.Null = refl
same_value_back (value.Fixed u1 s1) (value.Int n2) = refl
same_value_back (value.Fixed u1 s1) (value.Text t2) = refl
same_value_back (value.Fixed u1 s1) (value.Bool p2) = refl
same_value_back (value.Fixed u1 s1) (value.Moment m2) = refl
same_value_back (value.Fixed u1 s1) (value.Fixed u2 s2) = ap (λ b. b && nat_eq s1 s2) (int_eq_equiv.symm u1 u2) ∙ ap (λ b. int_eq u2 u1 && b) (nat_eq_equiv.symm s1 s2)

pub same_values_back : (a b : List Value) → same_values a b ≡ same_values b a
same_values_back [] [] = refl
same_values_back [] (y ∷ b) = refl
same_values_back (x ∷ a) [] = refl
same_values_back (x ∷ a) (y ∷ b) = ap (λ t. t && same_values a b) (same_value_back x y) ∙ ap (λ t. same_value y x && t) (same_values_back a b)

null_first : (v x : Value) → is_null x ≡ true → same_value v x ≡ false
null_first value.Null value.Null h = refl
null_first value.Null (value.Int n2) h = absurd (Prim.cc h)
null_first value.Null (value.Text t2) h = absurd (Prim.cc h)
null_first value.Null (value.Bool p2) h = absurd (Prim.cc h)
null_first value.Null (value.Moment m2) h = absurd (Prim.cc h)
null_first value.Null (value.Fixed u2 s2) h = absurd (Prim.cc h)
null_first (value.Int n1) value.Null h = refl
null_first (value.Int n1) (value.Int n2) h = absurd (Prim.cc h)
null_first (value.Int n1) (value.Text t2) h = absurd (Prim.cc h)
null_first (value.Int n1) (value.Bool p2) h = absurd (Prim.cc h)
null_first (value.Int n1) (value.Moment m2) h = absurd (Prim.cc h)
null_first (value.Int n1) (value.Fixed u2 s2) h = absurd (Prim.cc h)
null_first (value.Text t1) value.Null h = refl
null_first (value.Text t1) (value.Int n2) h = absurd (Prim.cc h)
null_first (value.Text t1) (value.Text t2) h = absurd (Prim.cc h)
null_first (value.Text t1) (value.Bool p2) h = absurd (Prim.cc h)
null_first (value.Text t1) (value.Moment m2) h = absurd (Prim.cc h)
null_first (value.Text t1) (value.Fixed u2 s2) h = absurd (Prim.cc h)
null_first (value.Bool p1) value.Null h = refl
null_first (value.Bool p1) (value.Int n2) h = absurd (Prim.cc h)
null_first (value.Bool p1) (value.Text t2) h = absurd (Prim.cc h)
null_first (value.Bool p1) (value.Bool p2) h = absurd (Prim.cc h)
null_first (value.Bool p1) (value.Moment m2) h = absurd (Prim.cc h)
null_first (value.Bool p1) (value.Fixed u2 s2) h = absurd (Prim.cc h)
null_first (value.Moment m1) value.Null h = refl
null_first (value.Moment m1) (value.Int n2) h = absurd (Prim.cc h)
null_first (value.Moment m1) (value.Text t2) h = absurd (Prim.cc h)
null_first (value.Moment m1) (value.Bool p2) h = absurd (Prim.cc h)
null_first (value.Moment m1) (value.Moment m2) h = absurd (Prim.cc h)
null_first (value.Moment m1) (value.Fixed u2 s2) h = absurd (Prim.cc h)
null_first (value.Fixed u1 s1) value.Null h = refl
null_first (value.Fixed u1 s1) (value.Int n2) h = absurd (Prim.cc h)
null_first (value.Fixed u1 s1) (value.Text t2) h = absurd (Prim.cc h)
null_first (value.Fixed u1 s1) (value.Bool p2) h = absurd (Prim.cc h)
null_first (value.Fixed u1 s1) (value.Moment m2) h = absurd (Prim.cc h)
null_first (value.Fixed u1 s1) (value.Fixed u2 s2) h = absurd (Prim.cc h)

-- a row with a null is equal to none
pub null_differs : (v row : List Value) → list_any is_null row ≡ true → same_values v row ≡ false
null_differs [] [] h = absurd (Prim.cc h)
null_differs [] (y ∷ row) h = refl
null_differs (x ∷ v) [] h = refl
null_differs (x ∷ v) (y ∷ row) h = whether (is_null y)
    (λ is. ap (λ b. b && same_values v row) (null_first x y is))
    (λ no_null. and_no_right (same_value x y) _ (null_differs v row (subst (λ b. (b || list_any is_null row) ≡ true) no_null h)))

pub null_added : (row : List Value) (set : BTreeSet (List Value)) → list_any is_null row ≡ true → (values : List Value) → contains values_cmp set values ≡ (same_values values row || contains values_cmp set values)
null_added row set h values = ap (λ b. b || contains values_cmp set values) (sym (null_differs values row h))

pub added : (row : List Value) (old new : BTreeSet (List Value)) → list_any is_null row ≡ false → Updates values_cmp old new row true → (values : List Value) → contains values_cmp new values ≡ (same_values values row || contains values_cmp old values)
added row old new h up values = up.0 values ∙ ap (λ b. cond b true (contains values_cmp old values)) (values_equal row values h ∙ same_values_back row values) ∙ turned (same_values values row) (contains values_cmp old values) where
  turned : (a b : Bool) → cond a true b ≡ (a || b)
  turned true b = refl
  turned false b = refl

-- one more row

one_more : (cs : List Column) (ns : List Name) (rows : List (List Value)) (row v : List Value) → has_values cs ns (rows ++ row ∷ []) v ≡ (same_values v (picked cs ns row) || has_values cs ns rows v)
one_more cs ns [] row v = refl
one_more cs ns (r ∷ rows) row v = ap (λ b. same_values v (picked cs ns r) || b) (one_more cs ns rows row v) ∙ turned (same_values v (picked cs ns r)) (same_values v (picked cs ns row)) (has_values cs ns rows v) where
  turned : (a b c : Bool) → (a || (b || c)) ≡ (b || (a || c))
  turned true true c = refl
  turned true false c = refl
  turned false b c = refl

pub shows_more : (cs : List Column) (ns : List Name) (rows : List (List Value)) (row : List Value) (old new : BTreeSet (List Value)) → ShowsRows cs ns rows old
    → ((v : List Value) → contains values_cmp new v ≡ (same_values v (picked cs ns row) || contains values_cmp old v)) → ShowsRows cs ns (rows ++ row ∷ []) new
shows_more cs ns rows row old new shows more v = more v ∙ ap (λ b. same_values v (picked cs ns row) || b) (shows v) ∙ sym (one_more cs ns rows row v)

pub all_and_one : (cs : List Column) (rows : List (List Value)) (all : List Seen) (one : Seen) → AllShow cs rows all → ShowsRows cs one.columns rows one.values → AllShow cs rows (all ++ one ∷ [])
all_and_one cs rows [] one shows is = (is, tt)
all_and_one cs rows (s ∷ all) one shows is = (shows.0, all_and_one cs rows all one shows.1 is)

pub none_with : (cs : List Column) (rows : List (List Value)) (row : List Value) (all : List Seen) → AllShow cs rows all → ShowWith zero cs rows row all
none_with cs rows row [] shows = tt
none_with cs rows row (s ∷ all) shows = (shows.0, none_with cs rows row all shows.1)

pub all_with : (cs : List Column) (rows : List (List Value)) (row : List Value) (all : List Seen) → ShowWith (length all) cs rows row all → AllShow cs (rows ++ row ∷ []) all
all_with cs rows row [] shows = tt
all_with cs rows row (s ∷ all) shows = (shows.0, all_with cs rows row all shows.1)

pub one_with : (cs : List Column) (rows : List (List Value)) (row : List Value) (all : List Seen) (at : ℕ) (old new : Seen) (ns : List Name) → ns ≡ old.columns → old ≡ slice_index_or all at old → new.columns ≡ old.columns
    → ((v : List Value) → contains values_cmp new.values v ≡ (same_values v (picked cs ns row) || contains values_cmp old.values v)) → ShowWith at cs rows row all → ShowWith (suc at) cs rows row (slice_set all at new)
one_with cs rows row [] at old new ns named is same more shows = tt
one_with cs rows row (s ∷ all) zero old new ns named is same more shows =
    (subst (λ ms. ShowsRows cs ms (rows ++ row ∷ []) new.values) (named ∙ sym same) (shows_more cs ns rows row old.values new.values (subst (λ ms. ShowsRows cs ms rows old.values) (sym named) (subst (λ (o : Seen). ShowsRows cs o.columns rows o.values) (sym is) shows.0)) more), shows.1)
one_with cs rows row (s ∷ all) (suc at) old new ns named is same more shows = (shows.0, one_with cs rows row all at old new ns named is same more shows.1)

pub kept_up : (cs : List Column) (rows : List (List Value)) (row : List Value) (old new : List Seen) (of : List Column) (by : List Value) → of ≡ cs → by ≡ row
    → ((rs : List (List Value)) → AllShow of rs old → AllShow of (rs ++ by ∷ []) new) → AllShow cs rows old → AllShow cs (rows ++ row ∷ []) new
kept_up cs rows row old new of by is same more shows = subst (λ c. AllShow c (rows ++ row ∷ []) new) is (subst (λ r. AllShow of (rows ++ r ∷ []) new) same (more rows (subst (λ c. AllShow c rows old) (sym is) shows)))

pub twin_is : (cs : List Column) (rows : List (List Value)) (row : List Value) (ns : List Name) → is_twin_in cs rows row ns ≡ has_values cs ns rows (picked cs ns row)
twin_is cs [] row ns = refl
twin_is cs (r ∷ rows) row ns = ap (λ b. b || is_twin_in cs rows row ns) (same_values_back (picked cs ns r) (picked cs ns row)) ∙ ap (λ b. same_values (picked cs ns row) (picked cs ns r) || b) (twin_is cs rows row ns)

-- a test of three lists, one after another
pub any_three : (p : List Name → Bool) (a b c : List (List Name)) → list_any p ((a ++ b) ++ c) ≡ (list_any p a || (list_any p b || list_any p c))
any_three p a b c = any-append p (a ++ b) c ∙ ap (λ t. t || list_any p c) (any-append p a b) ∙ turned (list_any p a) _ _ where
  turned : (x y z : Bool) → ((x || y) || z) ≡ (x || (y || z))
  turned true y z = refl
  turned false y z = refl
