-- Whole numbers times powers of ten, and how they stand in order.
use Rattle.std.proofs.Common.{◌≡◌, ◌∙◌, ◌+◌, ◌*◌, ◌-◌, ◌^◌, ◌<◌, ◌≤◌, ℕ, zero, suc, refl, sym, ap, subst, arith}
use Rattle.std.proofs.lemmas.Int.{ints}
use Rattle.std.proofs.lemmas.Nat.{pow-add}
use Rattle.std.proofs.Math.Nat.{mul-le-mul_left, mul-lt-mul_of_pos_right, mul_assoc, pow-succ', zero-mul}
use Rattle.std.specs.Cmp.{int_cmp_is, int_ranks}
use Rattle.std.specs.Ordering.{MatchOrdering, int_cmp, ordering_reverse}
use Rattle.std.specs.declared.cmp.Ordering.{Ordering}
use Rattle.std.specs.declared.cmp.Ordering.TheVariants.{Less, Equal, Greater}
use Rattle.lq_model.specs.Truth.{decimal_cmp}
use borrow.Author.Differences.{down, same_in, up}
use lib.IntN.{ℤ, pos, negsuc, neg_ℤ, ◌*ℤ◌}
use lib.Signed.{mag, ◌<ℤ◌, ◌≤ℤ◌}
use mir.Syntax.{w128}
use mir.Val.{SFits}

-- ---- a number times a natural, by its two parts

turned_parts : (m : ℕ) → (up (neg_ℤ (pos m)) ≡ 0) × (down (neg_ℤ (pos m)) ≡ m)
turned_parts zero = (refl, refl)
turned_parts (suc m) = (refl, refl)

times_parts : (x : ℤ) (k : ℕ) → (up (x *ℤ pos k) ≡ up x * k) × (down (x *ℤ pos k) ≡ down x * k)
times_parts (pos n) k = (refl, sym (zero-mul k))
times_parts (negsuc n) k = let parts = turned_parts (suc n * k) in (parts.0 ∙ sym (zero-mul k), parts.1)

times_times : (x : ℤ) (j k : ℕ) → (x *ℤ pos j) *ℤ pos k ≡ x *ℤ pos (j * k)
times_times x j k =
    let first = times_parts x j in
    let then = times_parts (x *ℤ pos j) k in
    let whole = times_parts x (j * k) in
    let ups : up ((x *ℤ pos j) *ℤ pos k) ≡ up (x *ℤ pos (j * k)) = then.0 ∙ ap (λ n. n * k) first.0 ∙ mul_assoc (up x) j k ∙ sym whole.0 in
    let downs : down ((x *ℤ pos j) *ℤ pos k) ≡ down (x *ℤ pos (j * k)) = then.1 ∙ ap (λ n. n * k) first.1 ∙ mul_assoc (down x) j k ∙ sym whole.1 in
    same_in _ _ (omega (arith, ups, downs))

-- ---- order

less_times : (x y : ℤ) (k : ℕ) → 0 < k → x <ℤ y → (x *ℤ pos k) <ℤ (y *ℤ pos k)
less_times x y k some less =
    let lower = times_parts x k in
    let upper = times_parts y k in
    let sums : up x + down y < up y + down x = omega (arith, ints, less) in
    let scaled : (up x + down y) * k < (up y + down x) * k = mul-lt-mul_of_pos_right sums some in
    omega (arith, ints, lower, upper, scaled)

ranks_times : (x y : ℤ) (k : ℕ) → 0 < k → (r : Ordering) → MatchOrdering r (x <ℤ y) (x ≡ y) (y <ℤ x)
    → MatchOrdering r ((x *ℤ pos k) <ℤ (y *ℤ pos k)) (x *ℤ pos k ≡ y *ℤ pos k) ((y *ℤ pos k) <ℤ (x *ℤ pos k))
ranks_times x y k some Less is = less_times x y k some is
ranks_times x y k some Equal is = ap (λ z. z *ℤ pos k) is
ranks_times x y k some Greater is = less_times y x k some is

pub order_times : (x y : ℤ) (k : ℕ) → 0 < k → int_cmp (x *ℤ pos k) (y *ℤ pos k) ≡ int_cmp x y
order_times x y k some = sym (int_cmp_is (x *ℤ pos k) (y *ℤ pos k) (int_cmp x y) (ranks_times x y k some (int_cmp x y) (int_ranks x y)))

ranks_turned : (x y : ℤ) (r : Ordering) → MatchOrdering r (x <ℤ y) (x ≡ y) (y <ℤ x) → MatchOrdering (ordering_reverse r) (y <ℤ x) (y ≡ x) (x <ℤ y)
ranks_turned x y Less is = is
ranks_turned x y Equal is = sym is
ranks_turned x y Greater is = is

pub order_turned : (x y : ℤ) → ordering_reverse (int_cmp x y) ≡ int_cmp y x
order_turned x y = int_cmp_is y x (ordering_reverse (int_cmp x y)) (ranks_turned x y (int_cmp x y) (int_ranks x y))

-- ---- powers of ten

next_ten : (n : ℕ) → 10 * 10 ^ n ≡ 10 ^ suc n
next_ten n = sym (pow-succ' 10 n)

some_tens : (n : ℕ) → 0 < 10 ^ n
some_tens zero = omega arith
some_tens (suc n) = let more = next_ten n in let less = some_tens n in omega (arith, more, less)

more_tens : (s t : ℕ) → s ≤ t → 10 ^ (t - s) * 10 ^ s ≡ 10 ^ t
more_tens s t most = let sum : t - s + s ≡ t = omega arith in sym (pow-add 10 (t - s) s) ∙ ap (λ n. 10 ^ n) sum

-- one ten at a time
pub tenfold : (a : ℤ) (n : ℕ) → 0 < n → (a *ℤ pos 10) *ℤ pos (10 ^ (n - 1)) ≡ a *ℤ pos (10 ^ n)
tenfold a zero some = absurd (omega arith)
tenfold a (suc n) some = let less : suc n - 1 ≡ n = omega arith in times_times a 10 (10 ^ (suc n - 1)) ∙ ap (λ k. a *ℤ pos (10 * 10 ^ k)) less ∙ ap (λ k. a *ℤ pos k) (next_ten n)

-- ---- decimal numbers

-- the number of the lower scale times so many tens, beside the other
pub by_scale : (a : ℤ) (s : ℕ) (b : ℤ) (t : ℕ) → s ≤ t → int_cmp (a *ℤ pos (10 ^ (t - s))) b ≡ decimal_cmp a s b t
by_scale a s b t most =
    sym (order_times (a *ℤ pos (10 ^ (t - s))) b (10 ^ s) (some_tens s))
    ∙ ap (λ z. int_cmp z (b *ℤ pos (10 ^ s))) (times_times a (10 ^ (t - s)) (10 ^ s) ∙ ap (λ k. a *ℤ pos k) (more_tens s t most))

pub by_other_scale : (a : ℤ) (s : ℕ) (b : ℤ) (t : ℕ) → t ≤ s → ordering_reverse (int_cmp (b *ℤ pos (10 ^ (s - t))) a) ≡ decimal_cmp a s b t
by_other_scale a s b t most = ap ordering_reverse (by_scale b t a s most) ∙ order_turned (b *ℤ pos (10 ^ s)) (a *ℤ pos (10 ^ t))

-- ---- where ten times the number is past all numbers of 128 bits

turned_mag : (m : ℕ) → mag (neg_ℤ (pos m)) ≡ m - 1
turned_mag zero = omega arith
turned_mag (suc m) = omega arith

large : (z : ℤ) → ¬ (SFits w128 z) → 2 ^ 127 ≤ mag z
large z none = let least : mag z < 2 ^ 127 → ⊥ = λ few. none (record { sfits = few }) in omega (arith, least)

ten_first : (n : ℕ) → 0 < n → 10 ≤ 10 ^ n
ten_first zero some = absurd (omega arith)
ten_first (suc n) some = let more = next_ten n in let less = some_tens n in omega (arith, more, less)

pub below_all : (a b : ℤ) (n : ℕ) → 0 < n → ¬ (SFits w128 (a *ℤ pos 10)) → SFits w128 b → a <ℤ pos 0 → int_cmp (a *ℤ pos (10 ^ n)) b ≡ Less
below_all (pos m) b n some none fits less = absurd (omega (arith, ints, less))
below_all (negsuc m) b n some none fits less =
    let much : 2 ^ 127 ≤ suc m * 10 - 1 = subst (λ k. 2 ^ 127 ≤ k) (turned_mag (suc m * 10)) (large (negsuc m *ℤ pos 10) none) in
    let more : suc m * 10 ≤ suc m * 10 ^ n = mul-le-mul_left (suc m) (ten_first n some) in
    let parts = turned_parts (suc m * 10 ^ n) in
    let under : (negsuc m *ℤ pos (10 ^ n)) <ℤ b = omega (arith, ints, parts, fits, much, more) in
    sym (int_cmp_is (negsuc m *ℤ pos (10 ^ n)) b Less under)

pub above_all : (a b : ℤ) (n : ℕ) → 0 < n → ¬ (SFits w128 (a *ℤ pos 10)) → SFits w128 b → pos 0 ≤ℤ a → int_cmp (a *ℤ pos (10 ^ n)) b ≡ Greater
above_all (negsuc m) b n some none fits least = absurd (omega (arith, ints, least))
above_all (pos m) b n some none fits least =
    let much : 2 ^ 127 ≤ m * 10 = large (pos m *ℤ pos 10) none in
    let more : m * 10 ≤ m * 10 ^ n = mul-le-mul_left m (ten_first n some) in
    let over : b <ℤ (pos m *ℤ pos (10 ^ n)) = omega (arith, ints, fits, much, more) in
    sym (int_cmp_is (pos m *ℤ pos (10 ^ n)) b Greater over)
