-- Which entries had room.
use Rattle.std.proofs.Common.{ap, arith, inl, inr, refl, subst, sym, ◌∙◌}
use Rattle.std.proofs.lemmas.Bool.{ltb-false}
use Rattle.std.proofs.lemmas.List.{append_assoc, map-append}
use Rattle.std.proofs.lemmas.List.Sums.{sum_by-append}
use Rattle.std.specs.Prelude.{List, [], false, ℕ, ◌+◌, ◌++◌, ◌-◌, ◌∷◌, ◌≡◌, ◌≤◌, ◌⊎◌}
use Rattle.lq_base.specs.declared.dialect.Dialect.{Dialect}
use Rattle.lq_model.specs.declared.caller.Room.{Room}
use Rattle.lq_model.specs.declared.caller.Room.TheVariants.{Ordinary, Release}
use Rattle.lq_store.specs.Journal.{Entry, end_of, entry_size, is_full, size_of_all}
use Rattle.lq_turns.specs.declared.deed.Deed.{Deed}
use Rattle.lq_turns.specs.declared.deed.Deed.TheVariants.{Locks}
use Rattle.lq_turns.specs.declared.deed.OnLock.TheVariants.{Freed}
use Rattle.lq_run.specs.Stands.{HadRoom, entries_of, entry_of, room_of_entry}

-- where an element of a list stands

head_is : {A : Type 0} {x y : A} {xs ys : List A} → x ∷ xs ≡ y ∷ ys → x ≡ y
head_is h = Prim.cc

tail_is : {A : Type 0} {x y : A} {xs ys : List A} → x ∷ xs ≡ y ∷ ys → xs ≡ ys
tail_is h = Prim.cc

nil_cons : {A : Type 0} {x : A} {xs : List A} → (let l : List A = [] in l) ≡ x ∷ xs → ⊥
nil_cons h = Prim.cc

none_stands : {A : Type 0} (front : List A) (x : A) (rest : List A) → [] ≡ front ++ x ∷ rest → ⊥
none_stands [] x rest is = nil_cons is
none_stands (y ∷ front) x rest is = nil_cons is

only_one : {A : Type 0} (y x : A) (front rest : List A) → y ∷ [] ≡ front ++ x ∷ rest → x ≡ y
only_one y x [] rest is = sym (head_is is)
only_one y x (z ∷ front) rest is = absurd (none_stands front x rest (tail_is is))

-- one of two lists is one of the first, or of the second
abbrev pub IsParted : {A : Type 0} → List A → List A → List A → A → List A → Type 0
IsParted {A} a b front x rest = ((more : List A) × (a ≡ front ++ x ∷ more)) ⊎ ((more : List A) × (front ≡ a ++ more) × (b ≡ more ++ x ∷ rest))

one_more : {A : Type 0} (y z : A) (a b front : List A) (x : A) (rest : List A) → y ≡ z → IsParted a b front x rest → IsParted (y ∷ a) b (z ∷ front) x rest
one_more y z a b front x rest same (inl first) = inl (first.0, ap (λ w. w ∷ a) same ∙ ap (λ ws. z ∷ ws) first.1)
one_more y z a b front x rest same (inr second) = inr (second.0, ap (λ w. w ∷ front) (sym same) ∙ ap (λ ws. y ∷ ws) second.1, second.2)

pub split : {A : Type 0} (a b front : List A) (x : A) (rest : List A) → a ++ b ≡ front ++ x ∷ rest → IsParted a b front x rest
split [] b front x rest is = inr (front, refl, is)
split (y ∷ a) b [] x rest is = inl (a, ap (λ z. z ∷ a) (head_is is))
split (y ∷ a) b (z ∷ front) x rest is = one_more y z a b front x rest (head_is is) (split a b front x rest (tail_is is))

-- how much is in use

pub sizes : (n : ℕ) (a b : List Entry) → (n + size_of_all a) + size_of_all b ≡ n + size_of_all (a ++ b)
sizes n a b =
    let both : size_of_all (a ++ b) ≡ size_of_all a + size_of_all b = sum_by-append (λ entry. entry_size entry) a b in
    omega (arith, both)

not_less : (n a b : ℕ) → n + a ≤ (n + a) + b
not_less n a b = omega arith

within : (a b c : ℕ) → a ≤ b → b ≤ c → a ≤ c
within a b c first second = omega (arith, first, second)

ordinary_least : (room : Room) (limit : ℕ) → limit - 4096 ≤ end_of room limit
ordinary_least Ordinary limit = omega arith
ordinary_least Release limit = omega arith

all_most : (room : Room) (limit : ℕ) → end_of room limit ≤ limit
all_most Ordinary limit = omega arith
all_most Release limit = omega arith

-- with these entries
abbrev used_by : Dialect → ℕ → List (List Deed) → ℕ
used_by d used entries = used + size_of_all (entries_of d entries)

module _ (d : Dialect) (limit used : ℕ) where
  -- of no entries each had room
  pub no_entries : HadRoom d limit used []
  no_entries front deeds rest is = absurd (none_stands front deeds rest is)

  -- entries that had room, and others behind them that had
  pub both_rooms : (a b : List (List Deed)) → HadRoom d limit used a → HadRoom d limit (used + size_of_all (entries_of d a)) b → HadRoom d limit used (a ++ b)
  both_rooms a b first second front deeds rest is = by (split a b front deeds rest is) where
    by : IsParted a b front deeds rest → used_by d used (front ++ deeds ∷ []) ≤ end_of (room_of_entry deeds) limit
    by (inl it) = first front deeds it.0 it.1
    by (inr it) =
        let behind : entries_of d (front ++ deeds ∷ []) ≡ entries_of d a ++ entries_of d (it.0 ++ deeds ∷ [])
        = ap (λ z. entries_of d (z ++ deeds ∷ [])) it.1 ∙ ap (entries_of d) (append_assoc a it.0 (deeds ∷ [])) ∙ map-append (entry_of d) a (it.0 ++ deeds ∷ []) in
        let same : used_by d (used_by d used a) (it.0 ++ deeds ∷ []) ≡ used_by d used (front ++ deeds ∷ [])
        = sizes used (entries_of d a) (entries_of d (it.0 ++ deeds ∷ [])) ∙ ap (λ z. used + size_of_all z) (sym behind) in
        subst (λ n. n ≤ end_of (room_of_entry deeds) limit) same (second it.0 deeds rest it.2)

  -- a front of entries takes no more than all of them
  front_less : (front : List (List Deed)) (deeds : List Deed) (rest entries : List (List Deed)) → entries ≡ front ++ deeds ∷ rest → used_by d used (front ++ deeds ∷ []) ≤ used_by d used entries
  front_less front deeds rest entries is =
      let parts : entries_of d entries ≡ entries_of d (front ++ deeds ∷ []) ++ entries_of d rest
      = ap (entries_of d) (is ∙ sym (append_assoc front (deeds ∷ []) rest)) ∙ map-append (entry_of d) (front ++ deeds ∷ []) rest in
      let all : used_by d (used_by d used (front ++ deeds ∷ [])) rest ≡ used_by d used entries
      = sizes used (entries_of d (front ++ deeds ∷ [])) (entries_of d rest) ∙ ap (λ z. used + size_of_all z) (sym parts) in
      subst (λ n. used_by d used (front ++ deeds ∷ []) ≤ n) all (not_less used (size_of_all (entries_of d (front ++ deeds ∷ []))) (size_of_all (entries_of d rest)))

  -- the entries of a call that had room: only what frees the lock may use all of the journal
  pub one_call : (room : Room) (entries : List (List Deed)) → (room ≡ Ordinary) ⊎ (entries ≡ (Locks Freed ∷ []) ∷ []) → is_full (end_of room limit) used (entries_of d entries) ≡ false → HadRoom d limit used entries
  one_call room [] which full front deeds rest is = absurd (none_stands front deeds rest is)
  one_call room (e ∷ entries) which full front deeds rest is = by which where
    most : used_by d used (front ++ deeds ∷ []) ≤ end_of room limit
    most = within (used_by d used (front ++ deeds ∷ [])) (used_by d used (e ∷ entries)) (end_of room limit) (front_less front deeds rest (e ∷ entries) is) (ltb-false (end_of room limit) (used_by d used (e ∷ entries)) full)

    by : (room ≡ Ordinary) ⊎ (e ∷ entries ≡ (Locks Freed ∷ []) ∷ []) → used_by d used (front ++ deeds ∷ []) ≤ end_of (room_of_entry deeds) limit
    by (inl ordinary) =
        let least : used_by d used (front ++ deeds ∷ []) ≤ limit - 4096 = subst (λ r. used_by d used (front ++ deeds ∷ []) ≤ end_of r limit) ordinary most in
        within (used_by d used (front ++ deeds ∷ [])) (limit - 4096) (end_of (room_of_entry deeds) limit) least (ordinary_least (room_of_entry deeds) limit)
    by (inr frees) =
        let same : deeds ≡ Locks Freed ∷ [] = only_one (Locks Freed ∷ []) deeds front rest (sym frees ∙ is) in
        let all : used_by d used (front ++ deeds ∷ []) ≤ limit = within (used_by d used (front ++ deeds ∷ [])) (end_of room limit) limit most (all_most room limit) in
        subst (λ (ds : List Deed). used_by d used (front ++ deeds ∷ []) ≤ end_of (room_of_entry ds) limit) (sym same) all

-- such a call behind entries that had room
pub more_room : (d : Dialect) (limit used : ℕ) (room : Room) (entries more : List (List Deed)) → HadRoom d limit used entries → (room ≡ Ordinary) ⊎ (more ≡ (Locks Freed ∷ []) ∷ [])
    → is_full (end_of room limit) (used + size_of_all (entries_of d entries)) (entries_of d more) ≡ false → HadRoom d limit used (entries ++ more)
more_room d limit used room entries more there which full = both_rooms d limit used entries more there (one_call d limit (used_by d used entries) room more which full)
