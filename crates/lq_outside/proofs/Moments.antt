-- What a crash at any moment leaves, over calls in turn.
use Rattle.std.proofs.Common.{◌≤◌, ◌≡◌, inl, inr, ℕ, List, Option, IsTrue, refl, ◌∙◌, subst, arith}
use Rattle.lq_outside.specs.Crash.{Crashes, Goes, Same, IsSound, LeavesOnly, NewSync, LeavesAfterSync}

honest_too : (before now : Crashes) → now.is_honest ≡ before.is_honest → IsTrue before.is_honest → IsTrue now.is_honest
honest_too before now is honest = is ∙ honest

pub started : (told : Option (List ℕ)) (crashes : Crashes) (P : List ℕ → Type 0) → IsSound told crashes
    → (IsTrue crashes.is_honest → (c : List ℕ) → crashes.leaves c → P c) → LeavesOnly crashes crashes P
started told crashes P sound here = record {
  honest = refl;
  later = omega arith;
  each = λ honest c left. here honest c (sound.only_now honest c left);
  before = λ honest t c _ left. inl left;
}

pub goes_on : (step : List ℕ → List ℕ → Type 0) (first middle last : Crashes) (P : List ℕ → Type 0) → LeavesOnly first middle P → Goes step middle last
    → (IsTrue first.is_honest → (c : List ℕ) → last.leaves c → P c) → LeavesOnly first last P
goes_on step first middle last P so_far goes here = record {
  honest = goes.honest ∙ so_far.honest;
  later = omega (arith, so_far.later, goes.later);
  each = λ honest c left. elim (goes.nothing_else (honest_too first middle so_far.honest honest) first.moment c so_far.later left) [
    | inl earlier ↦ so_far.each honest c earlier
    | inr now ↦ here honest c now
  ];
  before = λ honest t c le left. elim (goes.nothing_else (honest_too first middle so_far.honest honest) t c (omega (arith, le, so_far.later)) left) [
    | inl earlier ↦ so_far.before honest t c le earlier
    | inr now ↦ inr (here honest c now)
  ];
}

pub then : (first middle last : Crashes) (P : List ℕ → Type 0) → LeavesOnly first middle P → LeavesOnly middle last P → LeavesOnly first last P
then first middle last P so_far goes = record {
  honest = goes.honest ∙ so_far.honest;
  later = omega (arith, so_far.later, goes.later);
  each = λ honest c left. elim (goes.before (honest_too first middle so_far.honest honest) first.moment c so_far.later left) [
    | inl earlier ↦ so_far.each honest c earlier
    | inr now ↦ now
  ];
  before = λ honest t c le left. elim (goes.before (honest_too first middle so_far.honest honest) t c (omega (arith, le, so_far.later)) left) [
    | inl earlier ↦ so_far.before honest t c le earlier
    | inr now ↦ inr now
  ];
}

pub weaker : (first last : Crashes) (P Q : List ℕ → Type 0) → LeavesOnly first last P → (IsTrue first.is_honest → (c : List ℕ) → P c → Q c) → LeavesOnly first last Q
weaker first last P Q leaves so = record {
  honest = leaves.honest;
  later = leaves.later;
  each = λ honest c left. so honest c (leaves.each honest c left);
  before = λ honest t c le left. elim (leaves.before honest t c le left) [ inl earlier ↦ inl earlier | inr now ↦ inr (so honest c now) ];
}

-- after the first sync that succeeds, where P holds of what it leaves
pub synced_on : (first middle last : Crashes) (P : List ℕ → Type 0) → (middle.is_honest ≡ first.is_honest) → first.moment ≤ middle.moment → LeavesAfterSync first middle P → Goes Same middle last → NewSync middle last
    → (IsTrue middle.is_honest → (t : ℕ) → middle.synced t → t ≤ middle.moment) → (sound : (c : List ℕ) → last.left_since last.moment c → last.leaves c) → (IsTrue first.is_honest → (c : List ℕ) → last.leaves c → P c) → LeavesAfterSync first last P
synced_on first middle last P same later so_far goes marks past sound here honest t after synced c left =
    let honest_then = honest_too first middle same honest in
    elim (marks.nothing_else honest_then t synced) [
      | inl earlier ↦ elim (goes.nothing_else honest_then t c (past honest_then t earlier) left) [
        | inl past ↦ so_far honest t after earlier c past
        | inr now ↦ here honest c now
      ]
      | inr new ↦ here honest c (sound c (subst (λ n. last.left_since n c) new left))
    ]
