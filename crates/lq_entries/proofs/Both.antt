-- Some entries written, and then others.
use Rattle.std.proofs.Common.{◌≡◌, ◌∙◌, ◌+◌, ◌≤◌, ◌⊎◌, inl, inr, ℕ, Bool, true, false, List, [], ◌∷◌, ◌++◌, length, nat_lt, Option, None, Some, IfSome, IsTrue, refl, sym, ap, subst, arith}
use Rattle.std.specs.Option.{option_map}
use Rattle.std.proofs.lemmas.List.{append_assoc}
use Rattle.std.proofs.lemmas.List.Sums.{sum_by-append}
use Rattle.lq_store.specs.Journal.{Crashes, IsFront, Leaves, LeavesFront, Entry, IsFrontOf, end_of, entry_size, is_full, size_of_all}
use Rattle.lq_model.specs.declared.caller.Room.TheVariants.{Ordinary}
use Rattle.lq_entries.specs.Log.{IsCut, Log, gained}

pub front_more : (vs ws front : List Entry) → IsFrontOf vs front → IsFrontOf (vs ++ ws) front
front_more vs ws front (rest, is) = (rest ++ ws, rw is (append_assoc front rest ws))

pub front_after : (vs ws front : List Entry) → IsFrontOf ws front → IsFrontOf (vs ++ ws) (vs ++ front)
front_after vs ws front (rest, is) = (rest, rw is (sym (append_assoc vs front rest)))

joined : (es : Option (List Entry)) (vs ws : List Entry) → option_map (λ entries. entries ++ ws) (option_map (λ entries. entries ++ vs) es) ≡ option_map (λ entries. entries ++ (vs ++ ws)) es
joined None vs ws = refl
joined (Some es) vs ws = ap Some (append_assoc es vs ws)

pub gained_both : (vs ws : List Entry) (x m y : Log) → m ≡ gained vs x → y ≡ gained ws m → y ≡ gained (vs ++ ws) x
gained_both vs ws x m y p q =
    let size : (x.used + size_of_all vs) + size_of_all ws ≡ x.used + size_of_all (vs ++ ws) = omega (arith, sum_by-append (λ entry. entry_size entry) vs ws) in
    q ∙ rw (p, joined x.entries vs ws, size) refl

pub cut_first : (vs ws : List Entry) (x y : Log) → IsCut vs x y → IsCut (vs ++ ws) x y
cut_first vs ws x y cut = record { dialect_is = cut.dialect_is; limit_is = cut.limit_is; front = cut.front; is_front = front_more vs ws cut.front cut.is_front; entries_are = cut.entries_are }

pub cut_second : (vs ws : List Entry) (x m y : Log) → m ≡ gained vs x → IsCut ws m y → IsCut (vs ++ ws) x y
cut_second vs ws x m y is cut = record {
  dialect_is = cut.dialect_is ∙ ap (λ (l : Log). l.dialect) is;
  limit_is = cut.limit_is ∙ ap (λ (l : Log). l.limit) is;
  front = vs ++ cut.front;
  is_front = front_after vs ws cut.front cut.is_front;
  entries_are = cut.entries_are ∙ (ap (option_map (λ entries. entries ++ cut.front)) (ap (λ (l : Log). l.entries) is) ∙ joined x.entries vs cut.front);
}

left_more : (es vs ws : List Entry) (left : Option (List Entry)) → IsFront es vs left → IsFront es (vs ++ ws) left
left_more es vs ws left (front, is_front, is) = (front, front_more vs ws front is_front, is)

left_after : (es vs ws : List Entry) (left : Option (List Entry)) → IsFront (es ++ vs) ws left → IsFront es (vs ++ ws) left
left_after es vs ws left (front, is_front, is) = (vs ++ front, front_after vs ws front is_front, is ∙ ap Some (append_assoc es vs front))

pub crash_first : (es : Option (List Entry)) (vs ws : List Entry) (a b : Crashes) → LeavesFront es vs a b → LeavesFront es (vs ++ ws) a b
crash_first None vs ws a b leaves = tt
crash_first (Some es) vs ws a b leaves = record {
  honest = leaves.honest;
  later = leaves.later;
  each = λ honest left w. left_more es vs ws left (leaves.each honest left w);
  earlier = λ honest t left le w. elim (leaves.earlier honest t left le w) [ inl before ↦ inl before | inr now ↦ inr (left_more es vs ws left now) ];
}

pub crash_second : (es middle : Option (List Entry)) (vs ws : List Entry) (a b c : Crashes) → LeavesFront es vs a b → middle ≡ option_map (λ entries. entries ++ vs) es → LeavesFront middle ws b c → LeavesFront es (vs ++ ws) a c
crash_second None middle vs ws a b c first is second = tt
crash_second (Some es) middle vs ws a b c first is second =
    let next : Leaves (es ++ vs) ws b c = rw is at second in
    record {
      honest = next.honest ∙ first.honest;
      later = omega (arith, first.later, next.later);
      each = λ honest left w. elim (next.earlier (first.honest ∙ honest) a.moment left first.later w) [
        | inl before ↦ left_more es vs ws left (first.each honest left before)
        | inr now ↦ left_after es vs ws left now
      ];
      earlier = λ honest t left le w. elim (next.earlier (first.honest ∙ honest) t left (omega (arith, le, first.later)) w) [
        | inl before ↦ elim (first.earlier honest t left le before) [ inl there ↦ inl there | inr now ↦ inr (left_more es vs ws left now) ]
        | inr now ↦ inr (left_after es vs ws left now)
      ];
    }

pub full_with : (end used : ℕ) (vs : List Entry) (w : Entry) → is_full end used (vs ++ w ∷ []) ≡ nat_lt end (used + size_of_all (vs ++ w ∷ []))
full_with end used [] w = refl
full_with end used (v ∷ vs) w = refl

pub room_is : (l m u v n : ℕ) (vs : List Entry) (w : Entry) (past : Bool) → m ≡ l → u ≡ v → n ≡ size_of_all (vs ++ w ∷ []) → past ≡ nat_lt (end_of Ordinary l) (u + n) → past ≡ false
    → is_full (end_of Ordinary m) v (vs ++ w ∷ []) ≡ false
room_is l m u v n vs w past p q r e f =
    full_with (end_of Ordinary m) v vs w
    ∙ (ap (λ (k : ℕ). nat_lt (end_of Ordinary m) (v + k)) (sym r)
    ∙ (ap (λ (k : ℕ). nat_lt (end_of Ordinary k) (v + n)) p
    ∙ (ap (λ (k : ℕ). nat_lt (end_of Ordinary l) (k + n)) (sym q) ∙ (sym e ∙ f))))
