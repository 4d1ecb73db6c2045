-- Marking children, step by step.
use Rattle.std.proofs.Common.{ap, arith, sym, subst, ◌∙◌}
use Rattle.std.proofs.lemmas.Bool.{eq-eqb, eqb-true}
use Rattle.std.proofs.lemmas.List.{get_or-set_same, get_or-set_other, length-set, length_push}
use Rattle.std.specs.List.{list_all, list_any}
use Rattle.std.specs.Prelude.{Bool, List, [], false, length, nat_lt, refl, slice_index_or, slice_set, suc, true, zero, ℕ, ◌+◌, ◌++◌, ◌<◌, ◌==◌, ◌||◌, ◌∷◌, ◌≡◌}
use Rattle.lq_model.proofs.Lists.{any-append, all-append, all-append_left, all-append_right, or_left, or_right, or_false, and_left, and_right, and_true, true_false, whether}
use Rattle.lq_deletes.specs.Places.{State, note, note_by, notes, AreSpreadBut, Follow, are_below, children_of, is_marked}

-- how many are not marked
abbrev pub unmarked : List Bool → ℕ
unmarked [] = 0
unmarked (true ∷ marks) = unmarked marks
unmarked (false ∷ marks) = suc (unmarked marks)

-- one mark more

is_below : (x n : ℕ) → nat_lt x n ≡ true → x < n
is_below x n h = grind (arith, h)

set_grows : (marks : List Bool) (x y : ℕ) → is_marked marks y ≡ true → is_marked (slice_set marks x true) y ≡ true
set_grows [] x y h = h
set_grows (m ∷ marks) zero zero h = refl
set_grows (m ∷ marks) zero (suc y) h = h
set_grows (m ∷ marks) (suc x) zero h = h
set_grows (m ∷ marks) (suc x) (suc y) h = set_grows marks x y h

set_only : (marks : List Bool) (x y : ℕ) → is_marked (slice_set marks x true) y ≡ true → (y == x) ≡ false → is_marked marks y ≡ true
set_only marks x y h other = sym (get_or-set_other marks x y true false (λ e. true_false (eq-eqb y x e) other)) ∙ h

set_count : (marks : List Bool) (x : ℕ) → x < length marks → is_marked marks x ≡ false → unmarked (slice_set marks x true) + 1 ≡ unmarked marks
set_count [] x le h = absurd (omega (arith, le))
set_count (true ∷ marks) zero le h = true_false refl h
set_count (false ∷ marks) zero le h = omega arith
set_count (true ∷ marks) (suc x) le h = set_count marks x (omega (arith, le)) h
set_count (false ∷ marks) (suc x) le h = let more = set_count marks x (omega (arith, le)) h in omega (arith, more)

-- one note

among_last : (y x : ℕ) (work : List ℕ) → list_any (λ w. y == w) (work ++ x ∷ []) ≡ false → (list_any (λ w. y == w) work ≡ false) × ((y == x) ≡ false)
among_last y x work h = let both = sym (any-append (λ w. y == w) work (x ∷ [])) ∙ h in (or_left (list_any (λ w. y == w) work) _ both, or_left (y == x) false (or_right (list_any (λ w. y == w) work) _ both))

by_length : (b : Bool) (x : ℕ) (s : State) → length (note_by b x s).0 ≡ length s.0
by_length true x s = refl
by_length false x s = length-set s.0 x true

by_grows : (b : Bool) (x : ℕ) (s : State) (y : ℕ) → is_marked s.0 y ≡ true → is_marked (note_by b x s).0 y ≡ true
by_grows true x s y h = h
by_grows false x s y h = set_grows s.0 x y h

by_itself : (b : Bool) (x : ℕ) (s : State) → is_marked s.0 x ≡ b → x < length s.0 → is_marked (note_by b x s).0 x ≡ true
by_itself true x s is le = is
by_itself false x s is le = get_or-set_same s.0 x true false le

by_old : (b : Bool) (x : ℕ) (s : State) (y : ℕ) → is_marked (note_by b x s).0 y ≡ true → list_any (λ w. y == w) (note_by b x s).1 ≡ false → is_marked s.0 y ≡ true
by_old true x s y h none = h
by_old false x s y h none = set_only s.0 x y h (among_last y x s.1 none).1

by_work : (b : Bool) (x : ℕ) (s : State) (y : ℕ) → list_any (λ w. y == w) (note_by b x s).1 ≡ false → list_any (λ w. y == w) s.1 ≡ false
by_work true x s y none = none
by_work false x s y none = (among_last y x s.1 none).0

by_holds : (holds : ℕ → Bool) (b : Bool) (x : ℕ) (s : State) → holds x ≡ true → ((y : ℕ) → is_marked s.0 y ≡ true → holds y ≡ true) → (y : ℕ) → is_marked (note_by b x s).0 y ≡ true → holds y ≡ true
by_holds holds true x s is all y h = all y h
by_holds holds false x s is all y h = whether (y == x) (λ same. ap holds (eqb-true y x same) ∙ is) (λ other. all y (set_only s.0 x y h other))

by_count : (b : Bool) (x : ℕ) (s : State) → is_marked s.0 x ≡ b → x < length s.0 → unmarked (note_by b x s).0 + length (note_by b x s).1 ≡ unmarked s.0 + length s.1
by_count true x s is le = refl
by_count false x s is le = let a = set_count s.0 x le is in let b = length_last s.1 x in omega (arith, a, b) where
  length_last : (work : List ℕ) (w : ℕ) → length (work ++ w ∷ []) ≡ suc (length work)
  length_last [] w = refl
  length_last (v ∷ work) w = ap suc (length_last work w)

by_inside : (b : Bool) (n x : ℕ) (s : State) → nat_lt x n ≡ true → are_below n s.1 ≡ true → are_below n (note_by b x s).1 ≡ true
by_inside true n x s le all = all
by_inside false n x s le all = all-append (λ w. nat_lt w n) s.1 (x ∷ []) all (and_true (nat_lt x n) true le refl)

-- several notes

pub notes_length : (xs : List ℕ) (s : State) → length (notes xs s).0 ≡ length s.0
notes_length [] s = refl
notes_length (x ∷ xs) s = notes_length xs (note x s) ∙ by_length (is_marked s.0 x) x s

notes_grow : (xs : List ℕ) (s : State) (y : ℕ) → is_marked s.0 y ≡ true → is_marked (notes xs s).0 y ≡ true
notes_grow [] s y h = h
notes_grow (x ∷ xs) s y h = notes_grow xs (note x s) y (by_grows (is_marked s.0 x) x s y h)

notes_all : (n : ℕ) (xs : List ℕ) (s : State) → length s.0 ≡ n → are_below n xs ≡ true → list_all (is_marked (notes xs s).0) xs ≡ true
notes_all n [] s len le = refl
notes_all n (x ∷ xs) s len le =
    let inside = is_below x n (and_left (nat_lt x n) _ le) in
    and_true _ _ (notes_grow xs (note x s) x (by_itself (is_marked s.0 x) x s refl (omega (arith, len, inside)))) (notes_all n xs (note x s) (by_length (is_marked s.0 x) x s ∙ len) (and_right (nat_lt x n) _ le))

notes_work : (xs : List ℕ) (s : State) (y : ℕ) → list_any (λ w. y == w) (notes xs s).1 ≡ false → list_any (λ w. y == w) s.1 ≡ false
notes_work [] s y none = none
notes_work (x ∷ xs) s y none = by_work (is_marked s.0 x) x s y (notes_work xs (note x s) y none)

notes_old : (xs : List ℕ) (s : State) (y : ℕ) → is_marked (notes xs s).0 y ≡ true → list_any (λ w. y == w) (notes xs s).1 ≡ false → is_marked s.0 y ≡ true
notes_old [] s y h none = h
notes_old (x ∷ xs) s y h none = by_old (is_marked s.0 x) x s y (notes_old xs (note x s) y h none) (notes_work xs (note x s) y none)

notes_hold : (holds : ℕ → Bool) (xs : List ℕ) (s : State) → list_all holds xs ≡ true → ((y : ℕ) → is_marked s.0 y ≡ true → holds y ≡ true) → (y : ℕ) → is_marked (notes xs s).0 y ≡ true → holds y ≡ true
notes_hold holds [] s is all y h = all y h
notes_hold holds (x ∷ xs) s is all y h = notes_hold holds xs (note x s) (and_right (holds x) _ is) (by_holds holds (is_marked s.0 x) x s (and_left (holds x) _ is) all) y h

pub notes_count : (n : ℕ) (xs : List ℕ) (s : State) → length s.0 ≡ n → are_below n xs ≡ true → unmarked (notes xs s).0 + length (notes xs s).1 ≡ unmarked s.0 + length s.1
notes_count n [] s len le = refl
notes_count n (x ∷ xs) s len le =
    let inside = is_below x n (and_left (nat_lt x n) _ le) in
    notes_count n xs (note x s) (by_length (is_marked s.0 x) x s ∙ len) (and_right (nat_lt x n) _ le) ∙ by_count (is_marked s.0 x) x s refl (omega (arith, len, inside))

pub notes_inside : (n : ℕ) (xs : List ℕ) (s : State) → are_below n xs ≡ true → are_below n s.1 ≡ true → are_below n (notes xs s).1 ≡ true
notes_inside n [] s le all = all
notes_inside n (x ∷ xs) s le all = notes_inside n xs (note x s) (and_right (nat_lt x n) _ le) (by_inside (is_marked s.0 x) n x s (and_left (nat_lt x n) _ le) all)

-- what stands while some nodes are still to be looked at
pub record Spreading (edges : List (List ℕ)) (old new : List Bool) (work : List ℕ) : Type 0 where
  pub same : length new ≡ length old
  pub more : (x : ℕ) → is_marked old x ≡ true → is_marked new x ≡ true
  pub but : AreSpreadBut edges work new
  pub follow : Follow edges old new
  pub among : (x : ℕ) → list_any (λ w. x == w) work ≡ true → is_marked new x ≡ true

among_notes : (xs : List ℕ) (s : State) → ((y : ℕ) → list_any (λ w. y == w) s.1 ≡ true → is_marked s.0 y ≡ true) → (n : ℕ) → length s.0 ≡ n → are_below n xs ≡ true → (y : ℕ) → list_any (λ w. y == w) (notes xs s).1 ≡ true → is_marked (notes xs s).0 y ≡ true
among_notes [] s all n len le y h = all y h
among_notes (x ∷ xs) s all n len le y h =
    let inside = is_below x n (and_left (nat_lt x n) _ le) in
    among_notes xs (note x s) (by_among (is_marked s.0 x) refl (omega (arith, len, inside))) n (by_length (is_marked s.0 x) x s ∙ len) (and_right (nat_lt x n) _ le) y h where
      either : (a b : Bool) {A : Type 0} → (a || b) ≡ true → (a ≡ true → A) → (b ≡ true → A) → A
      either true b h f g = f refl
      either false b h f g = g h

      by_among : (b : Bool) → is_marked s.0 x ≡ b → x < length s.0 → (y : ℕ) → list_any (λ w. y == w) (note_by b x s).1 ≡ true → is_marked (note_by b x s).0 y ≡ true
      by_among true is le y h = all y h
      by_among false is le y h = either (list_any (λ w. y == w) s.1) ((y == x) || false) (sym (any-append (λ w. y == w) s.1 (x ∷ [])) ∙ h)
          (λ k. set_grows s.0 x y (all y k))
          (λ k. either (y == x) false k (λ e. subst (λ z. is_marked (slice_set s.0 x true) z ≡ true) (sym (eqb-true y x e)) (get_or-set_same s.0 x true false le)) (λ e. true_false e refl))

pub spread_on : (edges : List (List ℕ)) (old marks : List Bool) (work : List ℕ) (x : ℕ) → are_below (length old) (children_of edges x) ≡ true
    → Spreading edges old marks (work ++ x ∷ []) → (s : State) → s ≡ notes (children_of edges x) (marks, work) → Spreading edges old s.0 s.1
spread_on edges old marks work x below is s made = subst (λ (r : State). Spreading edges old r.0 r.1) (sym made) (record {
  same = notes_length children (marks, work) ∙ is.same;
  more = λ y h. notes_grow children (marks, work) y (is.more y h);
  but = λ y h none. whether (y == x)
      (λ e. subst (λ z. list_all (is_marked (notes children (marks, work)).0) (children_of edges z) ≡ true) (sym (eqb-true y x e)) (notes_all (length old) children (marks, work) is.same below))
      (λ other. grown (children_of edges y) (is.but y (notes_old children (marks, work) y h none) (any-append (λ w. y == w) work (x ∷ []) ∙ or_false _ _ (notes_work children (marks, work) y none) (or_false _ _ other refl))));
  follow = λ holds start step. notes_hold holds children (marks, work) (step x (is.follow holds start step x (is.among x (last x work)))) (is.follow holds start step);
  among = among_notes children (marks, work) (λ y h. is.among y (first y work h)) (length old) is.same below;
}) where
  children : List ℕ
  children = children_of edges x

  grown : (xs : List ℕ) → list_all (is_marked marks) xs ≡ true → list_all (is_marked (notes children (marks, work)).0) xs ≡ true
  grown [] h = refl
  grown (y ∷ ys) h = and_true _ _ (notes_grow children (marks, work) y (and_left (is_marked marks y) _ h)) (grown ys (and_right (is_marked marks y) _ h))

  last : (y : ℕ) (ws : List ℕ) → list_any (λ w. y == w) (ws ++ y ∷ []) ≡ true
  last y [] = ap (λ b. b || false) (eq-eqb y y refl)
  last y (w ∷ ws) = elim (y == w) as (λ b. (b || list_any (λ v. y == v) (ws ++ y ∷ [])) ≡ true) [ true ↦ refl | false ↦ last y ws ]

  first : (y : ℕ) (ws : List ℕ) → list_any (λ w. y == w) ws ≡ true → list_any (λ w. y == w) (ws ++ x ∷ []) ≡ true
  first y ws h = any-append (λ w. y == w) ws (x ∷ []) ∙ ap (λ b. b || ((y == x) || false)) h

pub below_at : (n : ℕ) (edges : List (List ℕ)) (x : ℕ) → list_all (are_below n) edges ≡ true → are_below n (children_of edges x) ≡ true
below_at n [] x h = refl
below_at n (xs ∷ edges) zero h = and_left (are_below n xs) _ h
below_at n (xs ∷ edges) (suc x) h = below_at n edges x (and_right (are_below n xs) _ h)

-- one node is looked at
pub stepped : (edges : List (List ℕ)) (old marks : List Bool) (all work : List ℕ) (x : ℕ) (children : List ℕ) (s : State) → list_all (are_below (length old)) edges ≡ true
    → (Spreading edges old marks all × (are_below (length old) all ≡ true)) → all ≡ work ++ x ∷ [] → children ≡ children_of edges x → s ≡ notes children (marks, work)
    → (Spreading edges old s.0 s.1 × (are_below (length old) s.1 ≡ true)) × (unmarked s.0 + length s.1 < unmarked marks + length all)
stepped edges old marks all work x children s inside is popped its made =
    let below = below_at (length old) edges x inside in
    let made' : s ≡ notes (children_of edges x) (marks, work) = made ∙ ap (λ xs. notes xs (marks, work)) its in
    let before = subst (Spreading edges old marks) popped is.0 in
    let rest = all-append_left (λ w. nat_lt w (length old)) work (x ∷ []) (sym (ap (are_below (length old)) popped) ∙ is.1) in
    let count = ap (λ (r : State). unmarked r.0 + length r.1) made' ∙ notes_count (length old) (children_of edges x) (marks, work) is.0.same below in
    let long = ap length popped ∙ length_push work x in
    ((spread_on edges old marks work x below before s made', ap (λ (r : State). are_below (length old) r.1) made' ∙ notes_inside (length old) (children_of edges x) (marks, work) below rest), omega (arith, count, long))

pub children_are : (edges : List (List ℕ)) (x : ℕ) (children : List ℕ) → x < length edges → children ≡ slice_index_or edges x children → children ≡ children_of edges x
children_are [] x children le is = absurd (omega (arith, le))
children_are (xs ∷ edges) zero children le is = is
children_are (xs ∷ edges) (suc x) children le is = children_are edges x children (omega (arith, le)) is

pub last_below : (n : ℕ) (all work : List ℕ) (x : ℕ) → all ≡ work ++ x ∷ [] → are_below n all ≡ true → x < n
last_below n all work x popped h = is_below x n (and_left (nat_lt x n) true (all-append_right (λ w. nat_lt w n) work (x ∷ []) (sym (ap (are_below n) popped) ∙ h)))
