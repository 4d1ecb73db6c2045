-- A default that was written comes back as the same value.
use Rattle.std.proofs.Common.{ap, subst, sym, ◌∙◌, arith, rules, tests, ◌<◌, ◌^◌, eqb-true, ltb}
use Rattle.std.proofs.lemmas.Int.{ints}
use Rattle.std.specs.Int.{is_negative}
use Rattle.std.specs.Option.{option_map, unwrap_or}
use Rattle.std.specs.Prelude.{Bool, Err, List, None, Ok, Option, Some, [], cond, false, not, refl, true, unsigned_abs, zero, suc, pos, negsuc, neg_ℤ, ℕ, ℤ, ◌&&◌, ◌-◌, ◌==◌, ◌∷◌, ◌≡◌, ◌*◌, nat_lt}
use Rattle.lq_base.proofs.MomentLemmas.{moment_of-moment_text}
use Rattle.lq_base.specs.Moment.{IsMoment, is_moment}
use Rattle.lq_base.specs.Number.{has_digits, signed}
use Rattle.lq_base.specs.Value.{into_kind, is_value_of, with_decimals}
use Rattle.lq_base.specs.declared.dialect.Dialect.{Dialect}
use Rattle.lq_model.specs.declared.constraint.Key.{Key}
use Rattle.lq_base.specs.declared.kind.Kind.{Kind}
use Rattle.lq_base.specs.declared.kind.Kind.TheVariants as kind
use Rattle.lq_base.specs.declared.value.Value.{Value}
use Rattle.lq_base.specs.declared.value.Value.TheVariants as value
use Rattle.lq_model.specs.Kinds.{column_of as made_of, value_in}
use Rattle.lq_model.specs.declared.column.Column.{Column}
use Rattle.lq_tree.specs.Values.{literal_of}
use Rattle.lq_tables.specs.CreateTable.{def_of}
use Rattle.laws_made.specs.CreatedAs.{column_of, given_of, IsWritten}

clash : true ≡ false → ⊥
clash e = Prim.cc

right_true : (a b : Bool) → (a && b) ≡ true → b ≡ true
right_true true b h = h
right_true false b h = absurd Prim.cc

left_true : (a b : Bool) → (a && b) ≡ true → a ≡ true
left_true true b h = refl
left_true false b h = h

moment_is : (ms : ℤ) → is_moment ms ≡ true → IsMoment ms
moment_is ms h = grind (arith, ints, tests)

no_more : (n : ℕ) → n * 10 ^ 0 ≡ n
no_more n = omega arith

same_number : (units : ℤ) → signed (is_negative units) (unsigned_abs units * 10 ^ 0) ≡ units
same_number (pos n) =
    let test : is_negative (pos n) ≡ false = search (rules, tests) in
    ap (λ negative. signed negative (n * 10 ^ 0)) test ∙ ap pos (no_more n)
same_number (negsuc n) = ap (λ m. neg_ℤ (pos m)) (no_more (suc n))

not_below : (n : ℕ) → ltb n n ≡ false
not_below n = grind (arith, tests)

nothing_left : (n : ℕ) → n - n ≡ 0
nothing_left n = omega arith

itself : (n : ℕ) → (n == n) ≡ true
itself n = grind (arith, tests)

fixed_same : (digits scale : ℕ) (units : ℤ) → has_digits digits (unsigned_abs units) ≡ true → option_map (λ l. value_in (into_kind l (kind.Decimal digits scale))) (option_map literal_of (given_of (Some (value.Fixed units scale)))) ≡ Some (value.Fixed units scale)
unfolding into_kind
fixed_same digits zero units h = rw (same_number units, h) refl
fixed_same digits (suc more) units h = rw (not_below (suc more), nothing_left (suc more), same_number units, itself (suc more), h) refl

-- a value of a kind, written and read, is that value in the kind
pub same_value : (k : Kind) (v : Value) → is_value_of k v ≡ true → IsWritten (Some v) → option_map (λ l. value_in (into_kind l k)) (option_map literal_of (given_of (Some v))) ≡ Some v
unfolding is_value_of into_kind
same_value kind.Int (value.Int n) h w = rw h refl
same_value kind.BigInt (value.Int n) h w = rw h refl
same_value kind.Boolean (value.Bool b) h w = refl
same_value (kind.Varchar most) (value.Text t) h w = rw h refl
same_value kind.Text (value.Text t) h w = refl
same_value kind.Moment (value.Moment ms) h w = rw (moment_of-moment_text ms w) refl
same_value (kind.Decimal digits places) (value.Fixed units scale) h w =
    let same : scale ≡ places = eqb-true scale places (left_true (scale == places) _ h) in
    subst (λ p. option_map (λ l. value_in (into_kind l (kind.Decimal digits p))) (option_map literal_of (given_of (Some (value.Fixed units scale)))) ≡ Some (value.Fixed units scale)) same (fixed_same digits scale units (right_true (scale == places) _ h))
same_value k (value.Null) h w = absurd w
same_value k v h w = absurd (clash (sym h))

-- a column, written, read and made
pub same_column : (d : Dialect) (key : Option Key) (c : Column) → (c.numbered ≡ true → c.nullable ≡ false) → option_map (λ l. value_in (into_kind l c.kind)) (option_map literal_of (given_of c.default)) ≡ c.default → made_of (def_of (column_of d key c)) ≡ c
same_column d key c firm same = by c.numbered c.nullable refl refl where
  by : (numbered nullable : Bool) → c.numbered ≡ numbered → c.nullable ≡ nullable → made_of (def_of (column_of d key c)) ≡ c
  by false true a b = rw (a, b, same) refl
  by false false a b = rw (a, b, same) refl
  by true false a b = rw (a, b, same) refl
  by true true a b = absurd (clash (sym b ∙ firm a))

-- it goes into its kind
goes_fixed : (digits scale : ℕ) (units : ℤ) → has_digits digits (unsigned_abs units) ≡ true → option_map (λ l. into_kind l (kind.Decimal digits scale)) (option_map literal_of (given_of (Some (value.Fixed units scale)))) ≡ Some (Ok (value.Fixed units scale))
unfolding into_kind
goes_fixed digits zero units h = rw (same_number units, h) refl
goes_fixed digits (suc more) units h = rw (not_below (suc more), nothing_left (suc more), same_number units, itself (suc more), h) refl

pub goes : (k : Kind) (v : Value) → is_value_of k v ≡ true → IsWritten (Some v) → option_map (λ l. into_kind l k) (option_map literal_of (given_of (Some v))) ≡ Some (Ok v)
unfolding is_value_of into_kind
goes kind.Int (value.Int n) h w = rw h refl
goes kind.BigInt (value.Int n) h w = rw h refl
goes kind.Boolean (value.Bool b) h w = refl
goes (kind.Varchar most) (value.Text t) h w = rw h refl
goes kind.Text (value.Text t) h w = refl
goes kind.Moment (value.Moment ms) h w = rw (moment_of-moment_text ms w) refl
goes (kind.Decimal digits places) (value.Fixed units scale) h w =
    let same : scale ≡ places = eqb-true scale places (left_true (scale == places) _ h) in
    subst (λ p. option_map (λ l. into_kind l (kind.Decimal digits p)) (option_map literal_of (given_of (Some (value.Fixed units scale)))) ≡ Some (Ok (value.Fixed units scale))) same (goes_fixed digits scale units (right_true (scale == places) _ h))
goes k (value.Null) h w = absurd w
goes k v h w = absurd (clash (sym h))
