-- Items that come one after another, each after a word of one kind.
use Rattle.std.proofs.Common.{◌≡◌, ◌<◌, ℕ, zero, suc, true, false, List, [], ◌∷◌, length, Option, Some, None, refl, arith}
use Rattle.lq_model.specs.SqlParser.{Parser, after, led_by, many, many_of, sees}
use Rattle.lq_model.specs.declared.word.Word.{Word}
use Rattle.lq_model.specs.declared.word.WordKind.{WordKind}

-- a further item, or none

pub led_next : {A : Type 0} (k : WordKind) (p : Parser A) (w : Word) (x : A) (i j : List Word) → sees k (w ∷ i) ≡ true → p i ≡ Some (x, j) → led_by k p (w ∷ i) ≡ Some (Some x, j)
unfolding led_by after
led_next k p w x i j here is = rw (here, is) refl

pub led_none : {A : Type 0} (k : WordKind) (p : Parser A) (i : List Word) → sees k i ≡ false → led_by k p i ≡ Some (None, i)
unfolding led_by after
led_none k p i other = rw other refl

pub many_next : {A : Type 0} (item : Parser (Option A)) (n : ℕ) (x : A) (xs : List A) (i j rest : List Word) → item i ≡ Some (Some x, j) → many_of item n j ≡ Some (xs, rest) → many_of item (suc n) i ≡ Some (x ∷ xs, rest)
unfolding many_of
many_next item n x xs i j rest is more = rw (is, more) refl

pub many_end : {A : Type 0} (item : Parser (Option A)) (n : ℕ) (i : List Word) → item i ≡ Some (None, i) → many_of item n i ≡ Some ([], i)
unfolding many_of
many_end item zero i none = refl
many_end item (suc n) i none = rw none refl

-- none, one and two

pub many_none : {A : Type 0} (k : WordKind) (p : Parser A) (i : List Word) → sees k i ≡ false → many (led_by k p) i ≡ Some ([], i)
unfolding many
many_none k p i h = many_end (led_by k p) (length i) i (led_none k p i h)

pub many_one : {A : Type 0} (k : WordKind) (p : Parser A) (w : Word) (x : A) (i j : List Word) → sees k (w ∷ i) ≡ true → p i ≡ Some (x, j) → sees k j ≡ false → many (led_by k p) (w ∷ i) ≡ Some (x ∷ [], j)
unfolding many
many_one k p w x i j here is end = many_next (led_by k p) (length i) x [] (w ∷ i) j j (led_next k p w x i j here is) (many_end (led_by k p) (length i) j (led_none k p j end))

pub many_two : {A : Type 0} (k : WordKind) (p : Parser A) (w v : Word) (x y : A) (i j l : List Word) → 0 < length i
    → sees k (w ∷ i) ≡ true → p i ≡ Some (x, v ∷ j) → sees k (v ∷ j) ≡ true → p j ≡ Some (y, l) → sees k l ≡ false → many (led_by k p) (w ∷ i) ≡ Some (x ∷ y ∷ [], l)
unfolding many
many_two k p w v x y [] j l some here is again other end = absurd (omega arith)
many_two k p w v x y (u ∷ i) j l some here is again other end =
    many_next (led_by k p) (suc (length i)) x (y ∷ []) (w ∷ u ∷ i) (v ∷ j) l (led_next k p w x (u ∷ i) (v ∷ j) here is)
    (many_next (led_by k p) (length i) y [] (v ∷ j) l l (led_next k p v y j l again other) (many_end (led_by k p) (length i) l (led_none k p l end)))
