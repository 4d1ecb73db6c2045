-- What LOCKEDBY is to a name.
use Rattle.std.proofs.Common.{Bor, ap, inl, inr, rules, sym, ◌∙◌}
use Rattle.std.specs.Str.Pattern.{FindsTextPrefix, StripsPrefix}
use Rattle.std.specs.Prelude.{Bool, List, MatchOption, None, Option, Some, [], false, pos, refl, true, ℕ, ℤ, ◌++◌, ◌∷◌, ◌≡◌, ◌≢◌, ◌⊎◌}
use Rattle.lq_base.specs.declared.tracking.Lock.{Lock}
use Rattle.lq_turns.specs.declared.stamp.Stamp.{Stamp}
use Rattle.lq_run.specs.Stands.{Holds, IsHeld, Names, StandsBehind}
use Rattle.lq_run.specs.declared.holding.Holding.{Holding}
use Rattle.lq_run.specs.declared.holding.Holding.TheVariants as holding

stripped : (who by rest : List ℕ) → StripsPrefix (FindsTextPrefix who) by rest → by ≡ who ++ rest
stripped who by rest h = search rules

-- what `strip_prefix` tells of its answer
pub behind_is : (who by : List ℕ) (r : Option (Bor (List ℕ))) → MatchOption r (FindsTextPrefix who by None) (λ x. StripsPrefix (FindsTextPrefix who) by x.now) → MatchOption r ((rest : List ℕ) → by ≢ who ++ rest) (λ x. by ≡ who ++ x.now)
behind_is who by None none = none
behind_is who by (Some x) strips = stripped who by x.now strips

-- lists that begin alike
front_same : (who a b : List ℕ) → who ++ a ≡ who ++ b → a ≡ b
front_same [] a b h = h
front_same (c ∷ who) a b h = front_same who a b (tails c _ _ h) where
  tails : (c : ℕ) (xs ys : List ℕ) → c ∷ xs ≡ c ∷ ys → xs ≡ ys
  tails c xs ys h = Prim.cc

nil_right : (who : List ℕ) → who ++ [] ≡ who
nil_right [] = refl
nil_right (c ∷ who) = ap (λ (x : List ℕ). c ∷ x) (nil_right who)

pub names_behind : (who by rest : List ℕ) (result : Holding) → by ≡ who ++ rest → StandsBehind rest result → Names who by result
names_behind who by rest holding.Bare is behind = is ∙ ap (λ (x : List ℕ). who ++ x) behind ∙ nil_right who
names_behind who by rest holding.Marked is behind = (behind.0, is ∙ ap (λ (x : List ℕ). who ++ x) behind.1)
names_behind who by rest holding.Lost is behind = not_held where
  not_held : ((by ≡ who) ⊎ ((mark : List ℕ) × (by ≡ who ++ 124 ∷ mark))) → ⊥
  not_held (inl same) = behind (inl (front_same who rest [] (sym is ∙ same ∙ sym (nil_right who))))
  not_held (inr marked) = behind (inr (marked.0, front_same who rest (124 ∷ marked.0) (sym is ∙ marked.1)))

pub names_none : (who by : List ℕ) → ((rest : List ℕ) → by ≢ who ++ rest) → Names who by holding.Lost
names_none who by none = not_held where
  not_held : ((by ≡ who) ⊎ ((mark : List ℕ) × (by ≡ who ++ 124 ∷ mark))) → ⊥
  not_held (inl same) = none [] (same ∙ sym (nil_right who))
  not_held (inr marked) = none (124 ∷ marked.0) marked.1

-- a lock that is not as it was taken

pub unlocked_lost : (stamp : Stamp) (lock : Lock) → lock.locked ≡ false → Holds stamp lock holding.Lost
unlocked_lost stamp lock free = not_held where
  no_true : false ≡ true → ⊥
  no_true h = Prim.cc

  not_held : IsHeld stamp lock → ⊥
  not_held (inl is) = no_true (sym free ∙ ap (λ (l : Lock). l.locked) is)
  not_held (inr is) = no_true (sym free ∙ ap (λ (l : Lock). l.locked) is.1)

pub granted_lost : (stamp : Stamp) (lock : Lock) → (lock.granted ≡ Some (pos stamp.reading) → ⊥) → Holds stamp lock holding.Lost
granted_lost stamp lock other = not_held where
  not_held : IsHeld stamp lock → ⊥
  not_held (inl is) = other (ap (λ (l : Lock). l.granted) is)
  not_held (inr is) = other (ap (λ (l : Lock). l.granted) is.1)

some_is : (a b : ℤ) → (let o : Option ℤ = Some a in o) ≡ Some b → a ≡ b
some_is a b h = Prim.cc

none_is : (b : ℤ) → (let o : Option ℤ = None in o) ≡ Some b → ⊥
none_is b h = Prim.cc

none_by : (b : List ℕ) → (let o : Option (List ℕ) = None in o) ≡ Some b → ⊥
none_by b h = Prim.cc

some_by : (a b : List ℕ) → (let o : Option (List ℕ) = Some a in o) ≡ Some b → a ≡ b
some_by a b h = Prim.cc

pub never_granted : (stamp : Stamp) (lock : Lock) → lock.granted ≡ None → Holds stamp lock holding.Lost
never_granted stamp lock none = granted_lost stamp lock (λ is. none_is (pos stamp.reading) (sym none ∙ is))

pub otherwise_granted : (stamp : Stamp) (lock : Lock) (at : ℤ) → lock.granted ≡ Some at → (at ≡ pos stamp.reading → ⊥) → Holds stamp lock holding.Lost
otherwise_granted stamp lock at granted other = granted_lost stamp lock (λ is. other (some_is at (pos stamp.reading) (sym granted ∙ is)))

pub by_none : (stamp : Stamp) (lock : Lock) → lock.by ≡ None → Holds stamp lock holding.Lost
by_none stamp lock none = not_held where
  not_held : IsHeld stamp lock → ⊥
  not_held (inl is) = none_by _ (sym none ∙ ap (λ (l : Lock). l.by) is)
  not_held (inr is) = none_by _ (sym none ∙ ap (λ (l : Lock). l.by) is.1)

pub holds_named : (stamp : Stamp) (lock : Lock) (by : List ℕ) (result : Holding) → lock.locked ≡ true → lock.granted ≡ Some (pos stamp.reading) → lock.by ≡ Some by → Names stamp.who by result → Holds stamp lock result
holds_named stamp lock by holding.Bare locked granted named is = whole lock (pos stamp.reading) stamp.who locked granted (named ∙ ap Some is) where
  whole : (lock : Lock) (at : ℤ) (by : List ℕ) → lock.locked ≡ true → lock.granted ≡ Some at → lock.by ≡ Some by → lock ≡ record { locked = true; granted = Some at; by = Some by }
  whole lock at by a b c = ap (λ l. record lock { locked = l }) a ∙ ap (λ g. record lock { locked = true; granted = g }) b ∙ ap (λ w. record lock { locked = true; granted = Some at; by = w }) c
holds_named stamp lock by holding.Marked locked granted named is = (is.0, whole lock (pos stamp.reading) (stamp.who ++ 124 ∷ is.0) locked granted (named ∙ ap Some is.1)) where
  whole : (lock : Lock) (at : ℤ) (by : List ℕ) → lock.locked ≡ true → lock.granted ≡ Some at → lock.by ≡ Some by → lock ≡ record { locked = true; granted = Some at; by = Some by }
  whole lock at by a b c = ap (λ l. record lock { locked = l }) a ∙ ap (λ g. record lock { locked = true; granted = g }) b ∙ ap (λ w. record lock { locked = true; granted = Some at; by = w }) c
holds_named stamp lock by holding.Lost locked granted named is = not_held where
  not_held : IsHeld stamp lock → ⊥
  not_held (inl held) = is (inl (some_by by stamp.who (sym named ∙ ap (λ (l : Lock). l.by) held)))
  not_held (inr held) = is (inr (held.0, some_by by (stamp.who ++ 124 ∷ held.0) (sym named ∙ ap (λ (l : Lock). l.by) held.1)))

pub not_both : (b : Bool) → b ≡ true → b ≡ false → ⊥
not_both b h k = Prim.cc
