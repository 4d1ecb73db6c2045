-- What crashes leave, of one run after another.
use Rattle.std.proofs.Common.{ap, arith, inl, inr, refl, rules, subst, sym, ◌∙◌}
use Rattle.std.proofs.lemmas.List.{append-nil}
use Rattle.std.specs.Option.{option_map}
use Rattle.std.specs.Prelude.{List, None, Option, Some, [], map, ℕ, ◌++◌, ◌∷◌, ◌≡◌, ◌≤◌}
use Rattle.lq_base.specs.declared.dialect.Dialect.{Dialect}
use Rattle.lq_store.specs.Journal.{Crashes, CrashesLeave, Keeps, Leaves, LeavesFront, Since, Entry, IsFrontOf, State}
use Rattle.lq_turns.specs.Session.{Session}
use Rattle.lq_turns.specs.declared.call.Call.{Call}
use Rattle.lq_run.proofs.Grows.{calls_grow}
use Rattle.lq_run.specs.Crashing.{LeftAlone, LeftInCall}
use Rattle.lq_run.specs.Does.{Appends}
use Rattle.lq_run.specs.Stands.{entry_of}

same_moment : (n : ℕ) → n ≤ n
same_moment n = Prim.search rules

-- where nothing is called
since_none : (P : List Entry → Type 0) (a : Crashes) → Since P a a
since_none P a = record { honest = refl; later = same_moment a.moment; each = λ honest t left le w. inl w }

-- one run after another
since_then : (P : List Entry → Type 0) (a b c : Crashes) → Since P a b → Since P b c → Since P a c
since_then P a b c first second = record {
  honest = second.honest ∙ first.honest;
  later = omega (arith, first.later, second.later);
  each = λ honest t left le w. elim (second.each (first.honest ∙ honest) t left (omega (arith, le, first.later)) w) [
    | inl before ↦ first.each honest t left le before
    | inr now ↦ inr now
  ];
}

since_wider : (P Q : List Entry → Type 0) (a b : Crashes) → ((es : List Entry) → P es → Q es) → Since P a b → Since Q a b
since_wider P Q a b wider since = record {
  honest = since.honest;
  later = since.later;
  each = λ honest t left le w. elim (since.each honest t left le w) [
    | inl before ↦ inl before
    | inr now ↦ inr (now.0, now.1, wider now.0 now.2)
  ];
}

-- a call of the store
since_call : (there written : List Entry) (a b : Crashes) → Leaves there written a b → Since (λ left. (front : List Entry) × IsFrontOf written front × (left ≡ there ++ front)) a b
since_call there written a b leaves = record {
  honest = leaves.honest;
  later = leaves.later;
  each = λ honest t left le w. elim (leaves.earlier honest t left le w) [
    | inl before ↦ inl before
    | inr now ↦ inr (there ++ now.0, now.2, (now.0, now.1, refl))
  ];
}

-- the same where the entries that were there are told

pub leave_none : (o : Option (List Entry)) (P : List Entry → List Entry → Type 0) (a : Crashes) → CrashesLeave o P a a
leave_none None P a = tt
leave_none (Some there) P a = since_none (P there) a

pub leave_then : (o : Option (List Entry)) (P : List Entry → List Entry → Type 0) (a b c : Crashes) → CrashesLeave o P a b → CrashesLeave o P b c → CrashesLeave o P a c
leave_then None P a b c first second = tt
leave_then (Some there) P a b c first second = since_then (P there) a b c first second

pub leave_wider : (o : Option (List Entry)) (P Q : List Entry → List Entry → Type 0) (a b : Crashes) → ((there left : List Entry) → P there left → Q there left) → CrashesLeave o P a b → CrashesLeave o Q a b
leave_wider None P Q a b wider leave = tt
leave_wider (Some there) P Q a b wider leave = since_wider (P there) (Q there) a b (wider there) leave

-- with entries behind those of the start
leave_moved : (o : Option (List Entry)) (more : List Entry) (P Q : List Entry → List Entry → Type 0) (a b : Crashes) → ((there left : List Entry) → P (there ++ more) left → Q there left)
    → CrashesLeave (option_map (λ entries. entries ++ more) o) P a b → CrashesLeave o Q a b
leave_moved None more P Q a b moved leave = tt
leave_moved (Some there) more P Q a b moved leave = since_wider (P (there ++ more)) (Q there) a b (moved there) leave

pub leave_from : (x o : Option (List Entry)) (more : List Entry) (P Q : List Entry → List Entry → Type 0) (a b : Crashes) → x ≡ option_map (λ entries. entries ++ more) o
    → ((there left : List Entry) → P (there ++ more) left → Q there left) → CrashesLeave x P a b → CrashesLeave o Q a b
leave_from x o more P Q a b is moved leave = leave_moved o more P Q a b moved (subst (λ z. CrashesLeave z P a b) is leave)

-- a front of entries is made of a front of the deeds

head_is : {A : Type 0} {x y : A} {xs ys : List A} → x ∷ xs ≡ y ∷ ys → x ≡ y
head_is h = Prim.cc

tail_is : {A : Type 0} {x y : A} {xs ys : List A} → x ∷ xs ≡ y ∷ ys → xs ≡ ys
tail_is h = Prim.cc

nil_cons : {A : Type 0} {x : A} {xs : List A} → (let l : List A = [] in l) ≡ x ∷ xs → ⊥
nil_cons h = Prim.cc

pub front_of_map : {A B : Type 0} (f : A → B) (xs : List A) (front rest : List B) → map f xs ≡ front ++ rest → (ys : List A) × (zs : List A) × (xs ≡ ys ++ zs) × (map f ys ≡ front)
front_of_map f xs [] rest is = ([], xs, refl, refl)
front_of_map f [] (b ∷ front) rest is = absurd (nil_cons is)
front_of_map f (x ∷ xs) (b ∷ front) rest is =
    let it = front_of_map f xs front rest (tail_is is) in
    (x ∷ it.0, it.1, ap (λ z. x ∷ z) it.2, ap (λ z. z ∷ map f it.0) (head_is is) ∙ ap (λ z. b ∷ z) it.3)

module _ (d : Dialect) (call : Call) (s : Session) where
  in_front : (written : List Entry) → Appends d call s written → (there left : List Entry) → ((front : List Entry) × IsFrontOf written front × (left ≡ there ++ front)) → LeftInCall d call s there left
  in_front written appends there left is =
      let parts = front_of_map (entry_of d) appends.more is.0 is.1.0 (sym appends.texts ∙ is.1.1) in
      record { front = parts.0; more = parts.1; appends = appends.entries ∙ ap (λ z. s.entries ++ z) parts.2; is = is.2 ∙ ap (λ z. there ++ z) (sym parts.3) }

  pub leave_call : (o : Option (List Entry)) (written : List Entry) (a b : Crashes) → Appends d call s written → LeavesFront o written a b → CrashesLeave o (LeftInCall d call s) a b
  leave_call None written a b appends leaves = tt
  leave_call (Some there) written a b appends leaves = since_wider _ (LeftInCall d call s there) a b (in_front written appends there) (since_call there written a b leaves)

  -- a call of which nothing is written yet
  pub none_yet : (there left : List Entry) → left ≡ there → LeftInCall d call s there left
  none_yet there left is =
      let grows = calls_grow d (call ∷ []) s in
      record { front = []; more = grows.more; appends = grows.entries; is = is ∙ sym (append-nil there) }

-- a call that writes nothing
pub leave_alone : (o : Option (List Entry)) (a b : Crashes) → LeavesFront o [] a b → CrashesLeave o LeftAlone a b
leave_alone None a b leaves = tt
leave_alone (Some there) a b leaves = since_wider _ (LeftAlone there) a b (λ left is. is.2 ∙ ap (λ z. there ++ z) (none_of is.0 is.1.0 is.1.1) ∙ append-nil there) (since_call there [] a b leaves) where
  none_of : (front rest : List Entry) → [] ≡ front ++ rest → front ≡ []
  none_of [] rest h = refl
  none_of (e ∷ front) rest h = absurd (nil_cons h)

-- the entries that were there stay in front

pub keeps_call : (o : Option (List Entry)) (written : List Entry) (a b : Crashes) → LeavesFront o written a b → CrashesLeave o Keeps a b
keeps_call None written a b leaves = tt
keeps_call (Some there) written a b leaves = since_wider _ (Keeps there) a b (λ left is. (is.0, is.2)) (since_call there written a b leaves)

-- a call, and one after it that finds the same entries
pub keeps_then : (x y : State) (a b c : Crashes) → y ≡ x → CrashesLeave x.entries Keeps a b → CrashesLeave y.entries Keeps b c → CrashesLeave x.entries Keeps a c
keeps_then x y a b c same first second = leave_then x.entries Keeps a b c first (subst (λ z. CrashesLeave z.entries Keeps b c) same second)
