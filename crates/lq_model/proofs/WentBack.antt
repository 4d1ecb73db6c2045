-- A writer that goes back to where it stood.
use Rattle.std.proofs.Common.{ap, sym, ◌∙◌}
use Rattle.std.proofs.Math.Seq.{take-append_seam}
use Rattle.std.proofs.lemmas.List.{length-reverse, reverse-append, reverse-reverse}
use Rattle.std.specs.Prelude.{List, length, reverse, take, ℕ, ◌++◌, ◌≡◌}
use Rattle.lq_model.specs.Changes.{GoesOn, Writing}
use Rattle.lq_model.specs.declared.canon.Begun.{Begun}

cut_front : {A : Type 0} (n : ℕ) (front more xs : List A) → xs ≡ front ++ more → n ≡ length front → take n xs ≡ front
cut_front n front more xs is count = ap (λ k. take k xs) count ∙ ap (take (length front)) is ∙ take-append_seam front more

-- a list that is kept in reverse order, with the first one last
cut_kept : {A : Type 0} (n : ℕ) (opened before kept : List A) → reverse kept ≡ opened ++ before → n ≡ length before → reverse (take n kept) ≡ before
cut_kept n opened before kept is count =
    ap reverse (cut_front n (reverse before) (reverse opened) kept (sym (reverse-reverse kept) ∙ ap reverse is ∙ reverse-append opened before) (count ∙ sym (length-reverse before)))
    ∙ reverse-reverse before

-- the bytes and the kept list of what was begun, cut off where the writer stood
pub back : (text cut_text : List ℕ) (begun cut_begun : List Begun) (n m : ℕ) (now before : Writing) → (let seen : Writing = record { written = text; begun = reverse begun } in now ≡ seen) → cut_text ≡ take n text → cut_begun ≡ take m begun → GoesOn before now → n ≡ length before.written → m ≡ length before.begun → (let cut : Writing = record { written = cut_text; begun = reverse cut_begun } in cut) ≡ before
back text cut_text begun cut_begun n m now before is first second on many deep =
    ap (λ t. let cut : Writing = record { written = t; begun = reverse cut_begun } in cut) (first ∙ cut_front n before.written on.more text (sym (ap (λ w. w.written) is) ∙ on.written) many)
    ∙ ap (λ b. let cut : Writing = record { written = before.written; begun = b } in cut) (ap reverse second ∙ cut_kept m on.opened before.begun begun (sym (ap (λ w. w.begun) is) ∙ on.begun) deep)
