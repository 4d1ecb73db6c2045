-- Columns that become NOT NULL: which rows have a null in them.
use Rattle.std.proofs.Common.{ap, subst, sym, ◌∙◌}
use Rattle.std.specs.List.{list_all, list_any}
use Rattle.std.specs.Prelude.{Bool, List, [], cond, false, map, not, refl, true, ◌&&◌, ◌||◌, ◌∷◌, ◌≡◌}
use Rattle.lq_base.specs.Name.{is_named}
use Rattle.lq_base.specs.Value.{is_value_of}
use Rattle.lq_base.specs.declared.name.Name.{Name}
use Rattle.lq_base.specs.declared.value.Value.{Value}
use Rattle.lq_model.specs.Catalogue.{is_in, repeats, by_name, has_bad_null, is_null, picked, row_fits}
use Rattle.lq_model.specs.declared.column.Column.{Column}
use Rattle.lq_model.proofs.Lists.{all_both, all_more, and_left, and_no_right, and_right, and_true, any-map, any_none, named_itself, or_false, or_left, or_right, same_name, true_false, whether}
use Rattle.lq_decide.proofs.Lists.{same_test}

or_true : (a b : Bool) → b ≡ true → (a || b) ≡ true
or_true true b h = refl
or_true false b h = h

or_true_left : (a b : Bool) → a ≡ true → (a || b) ≡ true
or_true_left a b h = ap (λ x. x || b) h

-- the names of a list are in it
all_in : (ns : List Name) → list_all (λ n. is_in n ns) ns ≡ true
all_in [] = refl
all_in (n ∷ ns) = and_true _ _ (or_true_left _ _ (named_itself n)) (all_more (λ m. is_in m ns) (λ m. is_in m (n ∷ ns)) ns (λ m h. or_true (is_named m n) _ h) (all_in ns))

any_at : (p : Name → Bool) (n : Name) (ns : List Name) → list_any p ns ≡ false → is_in n ns ≡ true → p n ≡ false
any_at p n [] none there = true_false there refl
any_at p n (m ∷ ns) none there = whether (is_named n m)
    (λ is. subst (λ k. p k ≡ false) (sym (same_name n m is)) (or_left (p m) _ none))
    (λ other. any_at p n ns (or_right (p m) _ none) (subst (λ b. (b || is_in n ns) ≡ true) other there))

pub any_agree_all : {A : Type 0} (p r a b : A → Bool) (xs : List A) → ((x : A) → a x ≡ true → b x ≡ false → p x ≡ r x) → list_all a xs ≡ true → list_any b xs ≡ false → list_any p xs ≡ list_any r xs
any_agree_all p r a b [] h all none = refl
any_agree_all p r a b (x ∷ xs) h all none = ap (λ y. y || list_any p xs) (h x (and_left (a x) _ all) (or_left (b x) _ none)) ∙ ap (λ y. r x || y) (any_agree_all p r a b xs h (and_right (a x) _ all) (or_right (b x) _ none))

-- columns that keep their names
module _ (g : Column → Column) (named : (c : Column) → (g c).name ≡ c.name) where
  pub by_name_stays : (cs : List Column) (row : List Value) (n : Name) → by_name (map g cs) row n ≡ by_name cs row n
  by_name_stays [] row n = refl
  by_name_stays (c ∷ cs) [] n = refl
  by_name_stays (c ∷ cs) (v ∷ row) n = ap (λ m. cond (is_named n m) v (by_name (map g cs) row n)) (named c) ∙ ap (cond (is_named n c.name) v) (by_name_stays cs row n)

-- and allow null where they did
pub nulls_less : (g : Column → Column) → ((c : Column) → c.nullable ≡ true → (g c).nullable ≡ true) → (cs : List Column) (row : List Value) → has_bad_null cs row ≡ false → has_bad_null (map g cs) row ≡ false
nulls_less g more [] row h = refl
nulls_less g more (c ∷ cs) [] h = refl
nulls_less g more (c ∷ cs) (v ∷ row) h = or_false _ _
    (whether c.nullable (λ is. ap (λ b. not b && is_null v) (more c is)) (λ no. and_no_right (not (g c).nullable) _ (ap (λ b. not b && is_null v) (sym no) ∙ or_left (not c.nullable && is_null v) _ h)))
    (nulls_less g more cs row (or_right (not c.nullable && is_null v) _ h))

-- the columns ns become NOT NULL, and no other
module _ (g : Column → Column) (ns : List Name) (firm : (c : Column) → is_in c.name ns ≡ true → (g c).nullable ≡ false) (other : (c : Column) → is_in c.name ns ≡ false → (g c).nullable ≡ c.nullable) where
  abbrev names : List Column → List Name
  names cs = map (λ c. c.name) cs

  not_null : (cs : List Column) (row : List Value) (n : Name) → row_fits cs row ≡ true → has_bad_null (map g cs) row ≡ false → is_in n ns ≡ true → is_in n (names cs) ≡ true → is_null (by_name cs row n) ≡ false
  not_null [] row n fit h want there = true_false there refl
  not_null (c ∷ cs) [] n fit h want there = true_false fit refl
  not_null (c ∷ cs) (v ∷ row) n fit h want there = whether (is_named n c.name)
      (λ is. rw (is) (ap (λ b. not b && is_null v) (sym (firm c (ap (λ m. is_in m ns) (sym (same_name n c.name is)) ∙ want))) ∙ or_left (not (g c).nullable && is_null v) _ h))
      (λ apart. rw (apart) (not_null cs row n (and_right (is_value_of c.kind v) _ fit) (or_right (not (g c).nullable && is_null v) _ h) want (ap (λ b. b || is_in n (names cs)) (sym apart) ∙ there)))

  no_bad_null : (cs : List Column) (row : List Value) → repeats (names cs) ≡ false → has_bad_null cs row ≡ false → ((n : Name) → is_in n ns ≡ true → is_in n (names cs) ≡ true → is_null (by_name cs row n) ≡ false) → has_bad_null (map g cs) row ≡ false
  no_bad_null [] row differ h none = refl
  no_bad_null (c ∷ cs) [] differ h none = refl
  no_bad_null (c ∷ cs) (v ∷ row) differ h none = or_false _ _
      (whether (is_in c.name ns)
      (λ is. and_no_right (not (g c).nullable) _ (ap (λ b. is_null (cond b v (by_name cs row c.name))) (sym (named_itself c.name)) ∙ none c.name is (or_true_left _ _ (named_itself c.name))))
      (λ no. ap (λ b. not b && is_null v) (other c no) ∙ or_left (not c.nullable && is_null v) _ h))
      (no_bad_null cs row (or_right (is_in c.name (names cs)) _ differ) (or_right (not c.nullable && is_null v) _ h) (λ n want there.
      whether (is_named n c.name)
      (λ is. true_false there (ap (λ m. is_in m (names cs)) (same_name n c.name is) ∙ or_left (is_in c.name (names cs)) _ differ))
      (λ apart. ap (λ b. is_null (cond b v (by_name cs row n))) (sym apart) ∙ none n want (or_true (is_named n c.name) _ there))))

  row_null : (cs : List Column) (row : List Value) → repeats (names cs) ≡ false → list_all (λ n. is_in n (names cs)) ns ≡ true → row_fits cs row ≡ true → has_bad_null cs row ≡ false → has_bad_null (map g cs) row ≡ list_any is_null (picked cs ns row)
  row_null cs row differ there fit h = same_test _ _
      (λ none. any-map is_null (by_name cs row) ns ∙ any_none (λ n. is_null (by_name cs row n)) (λ n. is_in n ns && is_in n (names cs)) ns
      (λ n both. not_null cs row n fit none (and_left (is_in n ns) _ both) (and_right (is_in n ns) _ both))
      (all_both (λ n. is_in n ns) (λ n. is_in n (names cs)) ns (all_in ns) there))
      (λ none. no_bad_null cs row differ h (λ n want in_cs. any_at (λ m. is_null (by_name cs row m)) n ns (sym (any-map is_null (by_name cs row) ns) ∙ none) want))

  -- so a null in one of them is all that can be wrong
  pub rows_null : (cs : List Column) (rows : List (List Value)) → repeats (names cs) ≡ false → list_all (λ n. is_in n (names cs)) ns ≡ true → list_all (row_fits cs) rows ≡ true → list_any (has_bad_null cs) rows ≡ false → list_any (has_bad_null (map g cs)) rows ≡ list_any (λ r. list_any is_null (picked cs ns r)) rows
  rows_null cs rows differ there fit none = any_agree_all _ _ (row_fits cs) (has_bad_null cs) rows (λ r f h. row_null cs r differ there f h) fit none
