-- The bytes of a database are those of a codec.
use Rattle.std.proofs.Common.{◌≡◌, ◌&&◌, ◌∷◌, ℕ, ℤ, zero, suc, Bool, true, List, [], length, Option, Some, refl, sym, ap, arith}
use Rattle.std.proofs.lemmas.Bool.{ltb-true}
use Rattle.lq_base.specs.declared.kind.Kind.{Kind}
use Rattle.lq_base.specs.declared.kind.Kind.TheVariants as kind
use Rattle.lq_base.specs.declared.literal.Literal.{Literal}
use Rattle.lq_base.specs.declared.literal.Literal.TheVariants as literal
use Rattle.lq_base.specs.declared.name.Name.{Name}
use Rattle.lq_base.specs.declared.value.Value.{Value}
use Rattle.lq_base.specs.declared.value.Value.TheVariants as value
use Rattle.lq_model.specs.Catalogue.{Catalogue, Sequence, Table, View}
use Rattle.lq_model.specs.Truth.{Both, Either, Turned}
use Rattle.lq_model.specs.declared.column.Column.{Column}
use Rattle.lq_model.specs.declared.constraint.ForeignKey.{ForeignKey}
use Rattle.lq_model.specs.declared.constraint.Key.{Key}
use Rattle.lq_model.specs.declared.constraint.Unique.{Unique}
use Rattle.lq_model.specs.declared.index.Index.{Index}
use Rattle.lq_model.specs.declared.query.Query.{Query}
use Rattle.lq_model.specs.declared.query.Wanted.{Wanted}
use Rattle.lq_model.specs.declared.query.Wanted.TheVariants as wanted
use Rattle.lq_model.specs.declared.test.Op.{Op}
use Rattle.lq_model.specs.declared.test.Op.TheVariants as op
use Rattle.lq_model.specs.declared.test.Operand.{Operand}
use Rattle.lq_model.specs.declared.test.Operand.TheVariants as operand
use Rattle.lq_model.specs.declared.test.Test.{Compare, IsNull, NotNull, Test}
use Rattle.lq_codec.specs.Codec.{Codec, IsCodec, after, always, both, counted, mapped, ok_some, one, only_if, optional, variant}
use Rattle.lq_codec.specs.Words.{any_byte, below, byte, count, digits, is_below, name, number, small_number, text, truth, width}
use Rattle.lq_codec.specs.Tables as dd
use Rattle.lq_codec.specs.Queries as dq
use Rattle.lq_codec.specs.Values as dv
use Rattle.lq_codec.proofs.Laws.{and_left, is_after, is_both, is_counted, is_each, is_mapped, is_nothing, is_one, is_only_if, is_optional, is_variant, some_is}
use Rattle.lq_codec.proofs.Numbers.{is_below_codec, is_byte, is_count, is_digits, is_name_codec, is_number, is_small, is_text, is_truth, is_width}

there_in_int : (x : Kind) (b : Unit {0}) → dv.in_int x ≡ Some b → always kind.Int b ≡ x
there_in_int kind.Int b is = refl
there_in_int kind.BigInt b is = absurd (cc is)
there_in_int kind.Boolean b is = absurd (cc is)
there_in_int (kind.Varchar most) b is = absurd (cc is)
there_in_int kind.Text b is = absurd (cc is)
there_in_int kind.Moment b is = absurd (cc is)
there_in_int (kind.Decimal digits scale) b is = absurd (cc is)

at_in_int : (x : Kind) → ok_some (one) (dv.in_int x) ≡ true → dv.kind_place x ≡ 0
at_in_int kind.Int ok = refl
at_in_int kind.BigInt ok = absurd (cc ok)
at_in_int kind.Boolean ok = absurd (cc ok)
at_in_int (kind.Varchar most) ok = absurd (cc ok)
at_in_int kind.Text ok = absurd (cc ok)
at_in_int kind.Moment ok = absurd (cc ok)
at_in_int (kind.Decimal digits scale) ok = absurd (cc ok)

is_in_int : IsCodec (mapped (always kind.Int) dv.in_int (one))
is_in_int = is_mapped (always kind.Int) dv.in_int (one) there_in_int (λ b ok. refl) (is_one)

there_in_big_int : (x : Kind) (b : Unit {0}) → dv.in_big_int x ≡ Some b → always kind.BigInt b ≡ x
there_in_big_int kind.Int b is = absurd (cc is)
there_in_big_int kind.BigInt b is = refl
there_in_big_int kind.Boolean b is = absurd (cc is)
there_in_big_int (kind.Varchar most) b is = absurd (cc is)
there_in_big_int kind.Text b is = absurd (cc is)
there_in_big_int kind.Moment b is = absurd (cc is)
there_in_big_int (kind.Decimal digits scale) b is = absurd (cc is)

at_in_big_int : (x : Kind) → ok_some (one) (dv.in_big_int x) ≡ true → dv.kind_place x ≡ 1
at_in_big_int kind.Int ok = absurd (cc ok)
at_in_big_int kind.BigInt ok = refl
at_in_big_int kind.Boolean ok = absurd (cc ok)
at_in_big_int (kind.Varchar most) ok = absurd (cc ok)
at_in_big_int kind.Text ok = absurd (cc ok)
at_in_big_int kind.Moment ok = absurd (cc ok)
at_in_big_int (kind.Decimal digits scale) ok = absurd (cc ok)

is_in_big_int : IsCodec (mapped (always kind.BigInt) dv.in_big_int (one))
is_in_big_int = is_mapped (always kind.BigInt) dv.in_big_int (one) there_in_big_int (λ b ok. refl) (is_one)

there_in_boolean : (x : Kind) (b : Unit {0}) → dv.in_boolean x ≡ Some b → always kind.Boolean b ≡ x
there_in_boolean kind.Int b is = absurd (cc is)
there_in_boolean kind.BigInt b is = absurd (cc is)
there_in_boolean kind.Boolean b is = refl
there_in_boolean (kind.Varchar most) b is = absurd (cc is)
there_in_boolean kind.Text b is = absurd (cc is)
there_in_boolean kind.Moment b is = absurd (cc is)
there_in_boolean (kind.Decimal digits scale) b is = absurd (cc is)

at_in_boolean : (x : Kind) → ok_some (one) (dv.in_boolean x) ≡ true → dv.kind_place x ≡ 2
at_in_boolean kind.Int ok = absurd (cc ok)
at_in_boolean kind.BigInt ok = absurd (cc ok)
at_in_boolean kind.Boolean ok = refl
at_in_boolean (kind.Varchar most) ok = absurd (cc ok)
at_in_boolean kind.Text ok = absurd (cc ok)
at_in_boolean kind.Moment ok = absurd (cc ok)
at_in_boolean (kind.Decimal digits scale) ok = absurd (cc ok)

is_in_boolean : IsCodec (mapped (always kind.Boolean) dv.in_boolean (one))
is_in_boolean = is_mapped (always kind.Boolean) dv.in_boolean (one) there_in_boolean (λ b ok. refl) (is_one)

there_in_varchar : (x : Kind) (b : ℕ) → dv.in_varchar x ≡ Some b → kind.Varchar b ≡ x
there_in_varchar kind.Int b is = absurd (cc is)
there_in_varchar kind.BigInt b is = absurd (cc is)
there_in_varchar kind.Boolean b is = absurd (cc is)
there_in_varchar (kind.Varchar most) b is = ap (kind.Varchar) (sym (some_is most b is))
there_in_varchar kind.Text b is = absurd (cc is)
there_in_varchar kind.Moment b is = absurd (cc is)
there_in_varchar (kind.Decimal digits scale) b is = absurd (cc is)

at_in_varchar : (x : Kind) → ok_some (width) (dv.in_varchar x) ≡ true → dv.kind_place x ≡ 3
at_in_varchar kind.Int ok = absurd (cc ok)
at_in_varchar kind.BigInt ok = absurd (cc ok)
at_in_varchar kind.Boolean ok = absurd (cc ok)
at_in_varchar (kind.Varchar most) ok = refl
at_in_varchar kind.Text ok = absurd (cc ok)
at_in_varchar kind.Moment ok = absurd (cc ok)
at_in_varchar (kind.Decimal digits scale) ok = absurd (cc ok)

is_in_varchar : IsCodec (mapped (kind.Varchar) dv.in_varchar (width))
is_in_varchar = is_mapped (kind.Varchar) dv.in_varchar (width) there_in_varchar (λ b ok. refl) (is_width)

there_in_text_kind : (x : Kind) (b : Unit {0}) → dv.in_text_kind x ≡ Some b → always kind.Text b ≡ x
there_in_text_kind kind.Int b is = absurd (cc is)
there_in_text_kind kind.BigInt b is = absurd (cc is)
there_in_text_kind kind.Boolean b is = absurd (cc is)
there_in_text_kind (kind.Varchar most) b is = absurd (cc is)
there_in_text_kind kind.Text b is = refl
there_in_text_kind kind.Moment b is = absurd (cc is)
there_in_text_kind (kind.Decimal digits scale) b is = absurd (cc is)

at_in_text_kind : (x : Kind) → ok_some (one) (dv.in_text_kind x) ≡ true → dv.kind_place x ≡ 4
at_in_text_kind kind.Int ok = absurd (cc ok)
at_in_text_kind kind.BigInt ok = absurd (cc ok)
at_in_text_kind kind.Boolean ok = absurd (cc ok)
at_in_text_kind (kind.Varchar most) ok = absurd (cc ok)
at_in_text_kind kind.Text ok = refl
at_in_text_kind kind.Moment ok = absurd (cc ok)
at_in_text_kind (kind.Decimal digits scale) ok = absurd (cc ok)

is_in_text_kind : IsCodec (mapped (always kind.Text) dv.in_text_kind (one))
is_in_text_kind = is_mapped (always kind.Text) dv.in_text_kind (one) there_in_text_kind (λ b ok. refl) (is_one)

there_in_moment_kind : (x : Kind) (b : Unit {0}) → dv.in_moment_kind x ≡ Some b → always kind.Moment b ≡ x
there_in_moment_kind kind.Int b is = absurd (cc is)
there_in_moment_kind kind.BigInt b is = absurd (cc is)
there_in_moment_kind kind.Boolean b is = absurd (cc is)
there_in_moment_kind (kind.Varchar most) b is = absurd (cc is)
there_in_moment_kind kind.Text b is = absurd (cc is)
there_in_moment_kind kind.Moment b is = refl
there_in_moment_kind (kind.Decimal digits scale) b is = absurd (cc is)

at_in_moment_kind : (x : Kind) → ok_some (one) (dv.in_moment_kind x) ≡ true → dv.kind_place x ≡ 5
at_in_moment_kind kind.Int ok = absurd (cc ok)
at_in_moment_kind kind.BigInt ok = absurd (cc ok)
at_in_moment_kind kind.Boolean ok = absurd (cc ok)
at_in_moment_kind (kind.Varchar most) ok = absurd (cc ok)
at_in_moment_kind kind.Text ok = absurd (cc ok)
at_in_moment_kind kind.Moment ok = refl
at_in_moment_kind (kind.Decimal digits scale) ok = absurd (cc ok)

is_in_moment_kind : IsCodec (mapped (always kind.Moment) dv.in_moment_kind (one))
is_in_moment_kind = is_mapped (always kind.Moment) dv.in_moment_kind (one) there_in_moment_kind (λ b ok. refl) (is_one)

there_in_decimal : (x : Kind) (b : ℕ × ℕ) → dv.in_decimal x ≡ Some b → dv.as_decimal b ≡ x
there_in_decimal kind.Int b is = absurd (cc is)
there_in_decimal kind.BigInt b is = absurd (cc is)
there_in_decimal kind.Boolean b is = absurd (cc is)
there_in_decimal (kind.Varchar most) b is = absurd (cc is)
there_in_decimal kind.Text b is = absurd (cc is)
there_in_decimal kind.Moment b is = absurd (cc is)
there_in_decimal (kind.Decimal digits scale) b is = ap (dv.as_decimal) (sym (some_is (digits, scale) b is))

at_in_decimal : (x : Kind) → ok_some (both digits digits) (dv.in_decimal x) ≡ true → dv.kind_place x ≡ 6
at_in_decimal kind.Int ok = absurd (cc ok)
at_in_decimal kind.BigInt ok = absurd (cc ok)
at_in_decimal kind.Boolean ok = absurd (cc ok)
at_in_decimal (kind.Varchar most) ok = absurd (cc ok)
at_in_decimal kind.Text ok = absurd (cc ok)
at_in_decimal kind.Moment ok = absurd (cc ok)
at_in_decimal (kind.Decimal digits scale) ok = refl

is_in_decimal : IsCodec (mapped (dv.as_decimal) dv.in_decimal (both digits digits))
is_in_decimal = is_mapped (dv.as_decimal) dv.in_decimal (both digits digits) there_in_decimal (λ b ok. refl) (is_both digits digits (is_digits) (is_digits))

pub is_kind_codec : IsCodec dv.kind_codec
unfolding dv.kind_codec
is_kind_codec = is_variant dv.kind_place dv.kind_cases (is_in_int, at_in_int, (is_in_big_int, at_in_big_int, (is_in_boolean, at_in_boolean, (is_in_varchar, at_in_varchar, (is_in_text_kind, at_in_text_kind, (is_in_moment_kind, at_in_moment_kind, (is_in_decimal, at_in_decimal, tt)))))))

there_in_null : (x : Value) (b : Unit {0}) → dv.in_null x ≡ Some b → always value.Null b ≡ x
there_in_null value.Null b is = refl
there_in_null (value.Int n) b is = absurd (cc is)
there_in_null (value.Text t) b is = absurd (cc is)
there_in_null (value.Bool y) b is = absurd (cc is)
there_in_null (value.Moment ms) b is = absurd (cc is)
there_in_null (value.Fixed units scale) b is = absurd (cc is)

at_in_null : (x : Value) → ok_some (one) (dv.in_null x) ≡ true → dv.value_place x ≡ 0
at_in_null value.Null ok = refl
at_in_null (value.Int n) ok = absurd (cc ok)
at_in_null (value.Text t) ok = absurd (cc ok)
at_in_null (value.Bool y) ok = absurd (cc ok)
at_in_null (value.Moment ms) ok = absurd (cc ok)
at_in_null (value.Fixed units scale) ok = absurd (cc ok)

is_in_null : IsCodec (mapped (always value.Null) dv.in_null (one))
is_in_null = is_mapped (always value.Null) dv.in_null (one) there_in_null (λ b ok. refl) (is_one)

there_in_number : (x : Value) (b : ℤ) → dv.in_number x ≡ Some b → value.Int b ≡ x
there_in_number value.Null b is = absurd (cc is)
there_in_number (value.Int n) b is = ap (value.Int) (sym (some_is n b is))
there_in_number (value.Text t) b is = absurd (cc is)
there_in_number (value.Bool y) b is = absurd (cc is)
there_in_number (value.Moment ms) b is = absurd (cc is)
there_in_number (value.Fixed units scale) b is = absurd (cc is)

at_in_number : (x : Value) → ok_some (small_number) (dv.in_number x) ≡ true → dv.value_place x ≡ 1
at_in_number value.Null ok = absurd (cc ok)
at_in_number (value.Int n) ok = refl
at_in_number (value.Text t) ok = absurd (cc ok)
at_in_number (value.Bool y) ok = absurd (cc ok)
at_in_number (value.Moment ms) ok = absurd (cc ok)
at_in_number (value.Fixed units scale) ok = absurd (cc ok)

is_in_number : IsCodec (mapped (value.Int) dv.in_number (small_number))
is_in_number = is_mapped (value.Int) dv.in_number (small_number) there_in_number (λ b ok. refl) (is_small)

there_in_text : (x : Value) (b : List ℕ) → dv.in_text x ≡ Some b → value.Text b ≡ x
there_in_text value.Null b is = absurd (cc is)
there_in_text (value.Int n) b is = absurd (cc is)
there_in_text (value.Text t) b is = ap (value.Text) (sym (some_is t b is))
there_in_text (value.Bool y) b is = absurd (cc is)
there_in_text (value.Moment ms) b is = absurd (cc is)
there_in_text (value.Fixed units scale) b is = absurd (cc is)

at_in_text : (x : Value) → ok_some (text) (dv.in_text x) ≡ true → dv.value_place x ≡ 2
at_in_text value.Null ok = absurd (cc ok)
at_in_text (value.Int n) ok = absurd (cc ok)
at_in_text (value.Text t) ok = refl
at_in_text (value.Bool y) ok = absurd (cc ok)
at_in_text (value.Moment ms) ok = absurd (cc ok)
at_in_text (value.Fixed units scale) ok = absurd (cc ok)

is_in_text : IsCodec (mapped (value.Text) dv.in_text (text))
is_in_text = is_mapped (value.Text) dv.in_text (text) there_in_text (λ b ok. refl) (is_text)

there_in_truth : (x : Value) (b : Bool) → dv.in_truth x ≡ Some b → value.Bool b ≡ x
there_in_truth value.Null b is = absurd (cc is)
there_in_truth (value.Int n) b is = absurd (cc is)
there_in_truth (value.Text t) b is = absurd (cc is)
there_in_truth (value.Bool y) b is = ap (value.Bool) (sym (some_is y b is))
there_in_truth (value.Moment ms) b is = absurd (cc is)
there_in_truth (value.Fixed units scale) b is = absurd (cc is)

at_in_truth : (x : Value) → ok_some (truth) (dv.in_truth x) ≡ true → dv.value_place x ≡ 3
at_in_truth value.Null ok = absurd (cc ok)
at_in_truth (value.Int n) ok = absurd (cc ok)
at_in_truth (value.Text t) ok = absurd (cc ok)
at_in_truth (value.Bool y) ok = refl
at_in_truth (value.Moment ms) ok = absurd (cc ok)
at_in_truth (value.Fixed units scale) ok = absurd (cc ok)

is_in_truth : IsCodec (mapped (value.Bool) dv.in_truth (truth))
is_in_truth = is_mapped (value.Bool) dv.in_truth (truth) there_in_truth (λ b ok. refl) (is_truth)

there_in_moment : (x : Value) (b : ℤ) → dv.in_moment x ≡ Some b → value.Moment b ≡ x
there_in_moment value.Null b is = absurd (cc is)
there_in_moment (value.Int n) b is = absurd (cc is)
there_in_moment (value.Text t) b is = absurd (cc is)
there_in_moment (value.Bool y) b is = absurd (cc is)
there_in_moment (value.Moment ms) b is = ap (value.Moment) (sym (some_is ms b is))
there_in_moment (value.Fixed units scale) b is = absurd (cc is)

at_in_moment : (x : Value) → ok_some (small_number) (dv.in_moment x) ≡ true → dv.value_place x ≡ 4
at_in_moment value.Null ok = absurd (cc ok)
at_in_moment (value.Int n) ok = absurd (cc ok)
at_in_moment (value.Text t) ok = absurd (cc ok)
at_in_moment (value.Bool y) ok = absurd (cc ok)
at_in_moment (value.Moment ms) ok = refl
at_in_moment (value.Fixed units scale) ok = absurd (cc ok)

is_in_moment : IsCodec (mapped (value.Moment) dv.in_moment (small_number))
is_in_moment = is_mapped (value.Moment) dv.in_moment (small_number) there_in_moment (λ b ok. refl) (is_small)

there_in_fixed : (x : Value) (b : ℤ × ℕ) → dv.in_fixed x ≡ Some b → dv.as_fixed b ≡ x
there_in_fixed value.Null b is = absurd (cc is)
there_in_fixed (value.Int n) b is = absurd (cc is)
there_in_fixed (value.Text t) b is = absurd (cc is)
there_in_fixed (value.Bool y) b is = absurd (cc is)
there_in_fixed (value.Moment ms) b is = absurd (cc is)
there_in_fixed (value.Fixed units scale) b is = ap (dv.as_fixed) (sym (some_is (units, scale) b is))

at_in_fixed : (x : Value) → ok_some (both number digits) (dv.in_fixed x) ≡ true → dv.value_place x ≡ 5
at_in_fixed value.Null ok = absurd (cc ok)
at_in_fixed (value.Int n) ok = absurd (cc ok)
at_in_fixed (value.Text t) ok = absurd (cc ok)
at_in_fixed (value.Bool y) ok = absurd (cc ok)
at_in_fixed (value.Moment ms) ok = absurd (cc ok)
at_in_fixed (value.Fixed units scale) ok = refl

is_in_fixed : IsCodec (mapped (dv.as_fixed) dv.in_fixed (both number digits))
is_in_fixed = is_mapped (dv.as_fixed) dv.in_fixed (both number digits) there_in_fixed (λ b ok. refl) (is_both number digits is_number (is_digits))

pub is_value_codec : IsCodec dv.value_codec
unfolding dv.value_codec
is_value_codec = is_variant dv.value_place dv.value_cases (is_in_null, at_in_null, (is_in_number, at_in_number, (is_in_text, at_in_text, (is_in_truth, at_in_truth, (is_in_moment, at_in_moment, (is_in_fixed, at_in_fixed, tt))))))

there_in_null_literal : (x : Literal) (b : Unit {0}) → dv.in_null_literal x ≡ Some b → always literal.Null b ≡ x
there_in_null_literal literal.Null b is = refl
there_in_null_literal (literal.Int n) b is = absurd (cc is)
there_in_null_literal (literal.Fixed units scale) b is = absurd (cc is)
there_in_null_literal (literal.Text t) b is = absurd (cc is)
there_in_null_literal (literal.Bool y) b is = absurd (cc is)

at_in_null_literal : (x : Literal) → ok_some (one) (dv.in_null_literal x) ≡ true → dv.literal_place x ≡ 0
at_in_null_literal literal.Null ok = refl
at_in_null_literal (literal.Int n) ok = absurd (cc ok)
at_in_null_literal (literal.Fixed units scale) ok = absurd (cc ok)
at_in_null_literal (literal.Text t) ok = absurd (cc ok)
at_in_null_literal (literal.Bool y) ok = absurd (cc ok)

is_in_null_literal : IsCodec (mapped (always literal.Null) dv.in_null_literal (one))
is_in_null_literal = is_mapped (always literal.Null) dv.in_null_literal (one) there_in_null_literal (λ b ok. refl) (is_one)

there_in_number_literal : (x : Literal) (b : ℤ) → dv.in_number_literal x ≡ Some b → literal.Int b ≡ x
there_in_number_literal literal.Null b is = absurd (cc is)
there_in_number_literal (literal.Int n) b is = ap (literal.Int) (sym (some_is n b is))
there_in_number_literal (literal.Fixed units scale) b is = absurd (cc is)
there_in_number_literal (literal.Text t) b is = absurd (cc is)
there_in_number_literal (literal.Bool y) b is = absurd (cc is)

at_in_number_literal : (x : Literal) → ok_some (number) (dv.in_number_literal x) ≡ true → dv.literal_place x ≡ 1
at_in_number_literal literal.Null ok = absurd (cc ok)
at_in_number_literal (literal.Int n) ok = refl
at_in_number_literal (literal.Fixed units scale) ok = absurd (cc ok)
at_in_number_literal (literal.Text t) ok = absurd (cc ok)
at_in_number_literal (literal.Bool y) ok = absurd (cc ok)

is_in_number_literal : IsCodec (mapped (literal.Int) dv.in_number_literal (number))
is_in_number_literal = is_mapped (literal.Int) dv.in_number_literal (number) there_in_number_literal (λ b ok. refl) (is_number)

there_in_fixed_literal : (x : Literal) (b : ℤ × ℕ) → dv.in_fixed_literal x ≡ Some b → dv.as_fixed_literal b ≡ x
there_in_fixed_literal literal.Null b is = absurd (cc is)
there_in_fixed_literal (literal.Int n) b is = absurd (cc is)
there_in_fixed_literal (literal.Fixed units scale) b is = ap (dv.as_fixed_literal) (sym (some_is (units, scale) b is))
there_in_fixed_literal (literal.Text t) b is = absurd (cc is)
there_in_fixed_literal (literal.Bool y) b is = absurd (cc is)

at_in_fixed_literal : (x : Literal) → ok_some (both number digits) (dv.in_fixed_literal x) ≡ true → dv.literal_place x ≡ 2
at_in_fixed_literal literal.Null ok = absurd (cc ok)
at_in_fixed_literal (literal.Int n) ok = absurd (cc ok)
at_in_fixed_literal (literal.Fixed units scale) ok = refl
at_in_fixed_literal (literal.Text t) ok = absurd (cc ok)
at_in_fixed_literal (literal.Bool y) ok = absurd (cc ok)

is_in_fixed_literal : IsCodec (mapped (dv.as_fixed_literal) dv.in_fixed_literal (both number digits))
is_in_fixed_literal = is_mapped (dv.as_fixed_literal) dv.in_fixed_literal (both number digits) there_in_fixed_literal (λ b ok. refl) (is_both number digits is_number (is_digits))

there_in_text_literal : (x : Literal) (b : List ℕ) → dv.in_text_literal x ≡ Some b → literal.Text b ≡ x
there_in_text_literal literal.Null b is = absurd (cc is)
there_in_text_literal (literal.Int n) b is = absurd (cc is)
there_in_text_literal (literal.Fixed units scale) b is = absurd (cc is)
there_in_text_literal (literal.Text t) b is = ap (literal.Text) (sym (some_is t b is))
there_in_text_literal (literal.Bool y) b is = absurd (cc is)

at_in_text_literal : (x : Literal) → ok_some (text) (dv.in_text_literal x) ≡ true → dv.literal_place x ≡ 3
at_in_text_literal literal.Null ok = absurd (cc ok)
at_in_text_literal (literal.Int n) ok = absurd (cc ok)
at_in_text_literal (literal.Fixed units scale) ok = absurd (cc ok)
at_in_text_literal (literal.Text t) ok = refl
at_in_text_literal (literal.Bool y) ok = absurd (cc ok)

is_in_text_literal : IsCodec (mapped (literal.Text) dv.in_text_literal (text))
is_in_text_literal = is_mapped (literal.Text) dv.in_text_literal (text) there_in_text_literal (λ b ok. refl) (is_text)

there_in_truth_literal : (x : Literal) (b : Bool) → dv.in_truth_literal x ≡ Some b → literal.Bool b ≡ x
there_in_truth_literal literal.Null b is = absurd (cc is)
there_in_truth_literal (literal.Int n) b is = absurd (cc is)
there_in_truth_literal (literal.Fixed units scale) b is = absurd (cc is)
there_in_truth_literal (literal.Text t) b is = absurd (cc is)
there_in_truth_literal (literal.Bool y) b is = ap (literal.Bool) (sym (some_is y b is))

at_in_truth_literal : (x : Literal) → ok_some (truth) (dv.in_truth_literal x) ≡ true → dv.literal_place x ≡ 4
at_in_truth_literal literal.Null ok = absurd (cc ok)
at_in_truth_literal (literal.Int n) ok = absurd (cc ok)
at_in_truth_literal (literal.Fixed units scale) ok = absurd (cc ok)
at_in_truth_literal (literal.Text t) ok = absurd (cc ok)
at_in_truth_literal (literal.Bool y) ok = refl

is_in_truth_literal : IsCodec (mapped (literal.Bool) dv.in_truth_literal (truth))
is_in_truth_literal = is_mapped (literal.Bool) dv.in_truth_literal (truth) there_in_truth_literal (λ b ok. refl) (is_truth)

pub is_literal_codec : IsCodec dv.literal_codec
unfolding dv.literal_codec
is_literal_codec = is_variant dv.literal_place dv.literal_cases (is_in_null_literal, at_in_null_literal, (is_in_number_literal, at_in_number_literal, (is_in_fixed_literal, at_in_fixed_literal, (is_in_text_literal, at_in_text_literal, (is_in_truth_literal, at_in_truth_literal, tt)))))

there_in_column : (x : Operand) (b : Name) → dq.in_column x ≡ Some b → operand.Column b ≡ x
there_in_column (operand.Column n) b is = ap (operand.Column) (sym (some_is n b is))
there_in_column (operand.Literal l) b is = absurd (cc is)

at_in_column : (x : Operand) → ok_some (name) (dq.in_column x) ≡ true → dq.operand_place x ≡ 0
at_in_column (operand.Column n) ok = refl
at_in_column (operand.Literal l) ok = absurd (cc ok)

is_in_column : IsCodec (mapped (operand.Column) dq.in_column (name))
is_in_column = is_mapped (operand.Column) dq.in_column (name) there_in_column (λ b ok. refl) (is_name_codec)

there_in_literal : (x : Operand) (b : Literal) → dq.in_literal x ≡ Some b → operand.Literal b ≡ x
there_in_literal (operand.Column n) b is = absurd (cc is)
there_in_literal (operand.Literal l) b is = ap (operand.Literal) (sym (some_is l b is))

at_in_literal : (x : Operand) → ok_some (dv.literal_codec) (dq.in_literal x) ≡ true → dq.operand_place x ≡ 1
at_in_literal (operand.Column n) ok = absurd (cc ok)
at_in_literal (operand.Literal l) ok = refl

is_in_literal : IsCodec (mapped (operand.Literal) dq.in_literal (dv.literal_codec))
is_in_literal = is_mapped (operand.Literal) dq.in_literal (dv.literal_codec) there_in_literal (λ b ok. refl) (is_literal_codec)

pub is_operand_codec : IsCodec dq.operand_codec
unfolding dq.operand_codec
is_operand_codec = is_variant dq.operand_place dq.operand_cases (is_in_column, at_in_column, (is_in_literal, at_in_literal, tt))

op_there : (o : Op) (n : ℕ) → dq.in_op o ≡ Some n → dq.op_of n ≡ o
op_there op.Eq n is = ap dq.op_of (sym (some_is 0 n is))
op_there op.Ne n is = ap dq.op_of (sym (some_is 1 n is))
op_there op.Lt n is = ap dq.op_of (sym (some_is 2 n is))
op_there op.Le n is = ap dq.op_of (sym (some_is 3 n is))
op_there op.Gt n is = ap dq.op_of (sym (some_is 4 n is))
op_there op.Ge n is = ap dq.op_of (sym (some_is 5 n is))

op_here : (n : ℕ) → is_below 6 n && any_byte n ≡ true → dq.in_op (dq.op_of n) ≡ Some n
op_here zero ok = refl
op_here (suc zero) ok = refl
op_here (suc (suc zero)) ok = refl
op_here (suc (suc (suc zero))) ok = refl
op_here (suc (suc (suc (suc zero)))) ok = refl
op_here (suc (suc (suc (suc (suc zero))))) ok = refl
op_here (suc (suc (suc (suc (suc (suc n)))))) ok = let lt = ltb-true (suc (suc (suc (suc (suc (suc n)))))) 6 (and_left (is_below 6 (suc (suc (suc (suc (suc (suc n))))))) true ok) in absurd (omega (arith, lt))

pub is_op_codec : IsCodec dq.op_codec
unfolding dq.op_codec
is_op_codec = is_mapped dq.op_of dq.in_op (only_if (is_below 6) byte) op_there op_here (is_only_if (is_below 6) byte is_byte)

module _ (within : Codec Test) (is_within : IsCodec within) where
  there_in_compare : (x : Test) (b : Op × (Operand × Operand)) → dq.in_compare x ≡ Some b → dq.as_compare b ≡ x
  there_in_compare (Compare op x y) b is = ap (dq.as_compare) (sym (some_is (op, (x, y)) b is))
  there_in_compare (IsNull x) b is = absurd (cc is)
  there_in_compare (NotNull x) b is = absurd (cc is)
  there_in_compare (Both a e) b is = absurd (cc is)
  there_in_compare (Either a e) b is = absurd (cc is)
  there_in_compare (Turned a) b is = absurd (cc is)

  at_in_compare : (x : Test) → ok_some (both dq.op_codec (both dq.operand_codec dq.operand_codec)) (dq.in_compare x) ≡ true → dq.test_place x ≡ 0
  at_in_compare (Compare op x y) ok = refl
  at_in_compare (IsNull x) ok = absurd (cc ok)
  at_in_compare (NotNull x) ok = absurd (cc ok)
  at_in_compare (Both a e) ok = absurd (cc ok)
  at_in_compare (Either a e) ok = absurd (cc ok)
  at_in_compare (Turned a) ok = absurd (cc ok)

  is_in_compare : IsCodec (mapped (dq.as_compare) dq.in_compare (both dq.op_codec (both dq.operand_codec dq.operand_codec)))
  is_in_compare = is_mapped (dq.as_compare) dq.in_compare (both dq.op_codec (both dq.operand_codec dq.operand_codec)) there_in_compare (λ b ok. refl) (is_both dq.op_codec (both dq.operand_codec dq.operand_codec) is_op_codec (is_both dq.operand_codec dq.operand_codec is_operand_codec is_operand_codec))

  there_in_is_null : (x : Test) (b : Operand) → dq.in_is_null x ≡ Some b → IsNull b ≡ x
  there_in_is_null (Compare op x y) b is = absurd (cc is)
  there_in_is_null (IsNull x) b is = ap (IsNull) (sym (some_is x b is))
  there_in_is_null (NotNull x) b is = absurd (cc is)
  there_in_is_null (Both a e) b is = absurd (cc is)
  there_in_is_null (Either a e) b is = absurd (cc is)
  there_in_is_null (Turned a) b is = absurd (cc is)

  at_in_is_null : (x : Test) → ok_some (dq.operand_codec) (dq.in_is_null x) ≡ true → dq.test_place x ≡ 1
  at_in_is_null (Compare op x y) ok = absurd (cc ok)
  at_in_is_null (IsNull x) ok = refl
  at_in_is_null (NotNull x) ok = absurd (cc ok)
  at_in_is_null (Both a e) ok = absurd (cc ok)
  at_in_is_null (Either a e) ok = absurd (cc ok)
  at_in_is_null (Turned a) ok = absurd (cc ok)

  is_in_is_null : IsCodec (mapped (IsNull) dq.in_is_null (dq.operand_codec))
  is_in_is_null = is_mapped (IsNull) dq.in_is_null (dq.operand_codec) there_in_is_null (λ b ok. refl) (is_operand_codec)

  there_in_not_null : (x : Test) (b : Operand) → dq.in_not_null x ≡ Some b → NotNull b ≡ x
  there_in_not_null (Compare op x y) b is = absurd (cc is)
  there_in_not_null (IsNull x) b is = absurd (cc is)
  there_in_not_null (NotNull x) b is = ap (NotNull) (sym (some_is x b is))
  there_in_not_null (Both a e) b is = absurd (cc is)
  there_in_not_null (Either a e) b is = absurd (cc is)
  there_in_not_null (Turned a) b is = absurd (cc is)

  at_in_not_null : (x : Test) → ok_some (dq.operand_codec) (dq.in_not_null x) ≡ true → dq.test_place x ≡ 2
  at_in_not_null (Compare op x y) ok = absurd (cc ok)
  at_in_not_null (IsNull x) ok = absurd (cc ok)
  at_in_not_null (NotNull x) ok = refl
  at_in_not_null (Both a e) ok = absurd (cc ok)
  at_in_not_null (Either a e) ok = absurd (cc ok)
  at_in_not_null (Turned a) ok = absurd (cc ok)

  is_in_not_null : IsCodec (mapped (NotNull) dq.in_not_null (dq.operand_codec))
  is_in_not_null = is_mapped (NotNull) dq.in_not_null (dq.operand_codec) there_in_not_null (λ b ok. refl) (is_operand_codec)

  there_in_both : (x : Test) (b : Test × Test) → dq.in_both x ≡ Some b → dq.as_both b ≡ x
  there_in_both (Compare op x y) b is = absurd (cc is)
  there_in_both (IsNull x) b is = absurd (cc is)
  there_in_both (NotNull x) b is = absurd (cc is)
  there_in_both (Both a e) b is = ap (dq.as_both) (sym (some_is (a, e) b is))
  there_in_both (Either a e) b is = absurd (cc is)
  there_in_both (Turned a) b is = absurd (cc is)

  at_in_both : (x : Test) → ok_some (both within within) (dq.in_both x) ≡ true → dq.test_place x ≡ 3
  at_in_both (Compare op x y) ok = absurd (cc ok)
  at_in_both (IsNull x) ok = absurd (cc ok)
  at_in_both (NotNull x) ok = absurd (cc ok)
  at_in_both (Both a e) ok = refl
  at_in_both (Either a e) ok = absurd (cc ok)
  at_in_both (Turned a) ok = absurd (cc ok)

  is_in_both : IsCodec (mapped (dq.as_both) dq.in_both (both within within))
  is_in_both = is_mapped (dq.as_both) dq.in_both (both within within) there_in_both (λ b ok. refl) (is_both within within is_within is_within)

  there_in_either : (x : Test) (b : Test × Test) → dq.in_either x ≡ Some b → dq.as_either b ≡ x
  there_in_either (Compare op x y) b is = absurd (cc is)
  there_in_either (IsNull x) b is = absurd (cc is)
  there_in_either (NotNull x) b is = absurd (cc is)
  there_in_either (Both a e) b is = absurd (cc is)
  there_in_either (Either a e) b is = ap (dq.as_either) (sym (some_is (a, e) b is))
  there_in_either (Turned a) b is = absurd (cc is)

  at_in_either : (x : Test) → ok_some (both within within) (dq.in_either x) ≡ true → dq.test_place x ≡ 4
  at_in_either (Compare op x y) ok = absurd (cc ok)
  at_in_either (IsNull x) ok = absurd (cc ok)
  at_in_either (NotNull x) ok = absurd (cc ok)
  at_in_either (Both a e) ok = absurd (cc ok)
  at_in_either (Either a e) ok = refl
  at_in_either (Turned a) ok = absurd (cc ok)

  is_in_either : IsCodec (mapped (dq.as_either) dq.in_either (both within within))
  is_in_either = is_mapped (dq.as_either) dq.in_either (both within within) there_in_either (λ b ok. refl) (is_both within within is_within is_within)

  there_in_turned : (x : Test) (b : Test) → dq.in_turned x ≡ Some b → dq.as_turned b ≡ x
  there_in_turned (Compare op x y) b is = absurd (cc is)
  there_in_turned (IsNull x) b is = absurd (cc is)
  there_in_turned (NotNull x) b is = absurd (cc is)
  there_in_turned (Both a e) b is = absurd (cc is)
  there_in_turned (Either a e) b is = absurd (cc is)
  there_in_turned (Turned a) b is = ap (dq.as_turned) (sym (some_is a b is))

  at_in_turned : (x : Test) → ok_some (within) (dq.in_turned x) ≡ true → dq.test_place x ≡ 5
  at_in_turned (Compare op x y) ok = absurd (cc ok)
  at_in_turned (IsNull x) ok = absurd (cc ok)
  at_in_turned (NotNull x) ok = absurd (cc ok)
  at_in_turned (Both a e) ok = absurd (cc ok)
  at_in_turned (Either a e) ok = absurd (cc ok)
  at_in_turned (Turned a) ok = refl

  is_in_turned : IsCodec (mapped (dq.as_turned) dq.in_turned (within))
  is_in_turned = is_mapped (dq.as_turned) dq.in_turned (within) there_in_turned (λ b ok. refl) (is_within)

  pub is_test_cases : IsCodec (variant dq.test_place (dq.test_cases within))
  is_test_cases = is_variant dq.test_place (dq.test_cases within) (is_in_compare, at_in_compare, (is_in_is_null, at_in_is_null, (is_in_not_null, at_in_not_null, (is_in_both, at_in_both, (is_in_either, at_in_either, (is_in_turned, at_in_turned, tt))))))

pub is_test_codec : (levels : ℕ) → IsCodec (dq.test_codec levels)
is_test_codec zero = is_nothing
is_test_codec (suc n) = is_test_cases (dq.test_codec n) (is_test_codec n)

pub is_whole_test : IsCodec dq.whole_test
unfolding dq.whole_test
is_whole_test = is_test_codec 65

pub is_names : IsCodec dq.names
is_names = is_counted name is_name_codec count is_count

there_column_codec : (x : Column) (b : Name × (Kind × (Bool × (Option Value × Bool)))) → dd.of_column x ≡ Some b → dd.as_column b ≡ x
there_column_codec x b is = ap dd.as_column (sym (some_is (x.name, (x.kind, (x.nullable, (x.default, x.numbered)))) b is))

pub is_column_codec : IsCodec dd.column_codec
unfolding dd.column_codec
is_column_codec = is_mapped dd.as_column dd.of_column (both name (both dv.kind_codec (both truth (both (optional dv.value_codec) truth)))) there_column_codec (λ b ok. refl) (is_both name (both dv.kind_codec (both truth (both (optional dv.value_codec) truth))) is_name_codec (is_both dv.kind_codec (both truth (both (optional dv.value_codec) truth)) is_kind_codec (is_both truth (both (optional dv.value_codec) truth) is_truth (is_both (optional dv.value_codec) truth (is_optional dv.value_codec is_value_codec) is_truth))))

there_key_codec : (x : Key) (b : Name × List Name) → dd.of_key x ≡ Some b → dd.as_key b ≡ x
there_key_codec x b is = ap dd.as_key (sym (some_is (x.name, x.columns) b is))

pub is_key_codec : IsCodec dd.key_codec
unfolding dd.key_codec
is_key_codec = is_mapped dd.as_key dd.of_key (both name dq.names) there_key_codec (λ b ok. refl) (is_both name dq.names is_name_codec is_names)

there_unique_codec : (x : Unique) (b : Name × List Name) → dd.of_unique x ≡ Some b → dd.as_unique b ≡ x
there_unique_codec x b is = ap dd.as_unique (sym (some_is (x.name, x.columns) b is))

pub is_unique_codec : IsCodec dd.unique_codec
unfolding dd.unique_codec
is_unique_codec = is_mapped dd.as_unique dd.of_unique (both name dq.names) there_unique_codec (λ b ok. refl) (is_both name dq.names is_name_codec is_names)

there_foreign_codec : (x : ForeignKey) (b : Name × (List Name × (Name × (List Name × Bool)))) → dd.of_foreign x ≡ Some b → dd.as_foreign b ≡ x
there_foreign_codec x b is = ap dd.as_foreign (sym (some_is (x.name, (x.columns, (x.table, (x.targets, x.cascade)))) b is))

pub is_foreign_codec : IsCodec dd.foreign_codec
unfolding dd.foreign_codec
is_foreign_codec = is_mapped dd.as_foreign dd.of_foreign (both name (both dq.names (both name (both dq.names truth)))) there_foreign_codec (λ b ok. refl) (is_both name (both dq.names (both name (both dq.names truth))) is_name_codec (is_both dq.names (both name (both dq.names truth)) is_names (is_both name (both dq.names truth) is_name_codec (is_both dq.names truth is_names is_truth))))

there_index_codec : (x : Index) (b : Name × (List Name × Bool)) → dd.of_index x ≡ Some b → dd.as_index b ≡ x
there_index_codec x b is = ap dd.as_index (sym (some_is (x.name, (x.columns, x.unique)) b is))

pub is_index_codec : IsCodec dd.index_codec
unfolding dd.index_codec
is_index_codec = is_mapped dd.as_index dd.of_index (both name (both dq.names truth)) there_index_codec (λ b ok. refl) (is_both name (both dq.names truth) is_name_codec (is_both dq.names truth is_names is_truth))

pub is_columns_codec : IsCodec dd.columns_codec
is_columns_codec = is_only_if dd.has_some (counted count dd.column_codec) (is_counted dd.column_codec is_column_codec count is_count)

pub is_head_codec : IsCodec dd.head_codec
is_head_codec = is_both dd.columns_codec (both (optional dd.key_codec) (both (counted count dd.unique_codec) (both (counted count dd.foreign_codec) (both (counted count dd.index_codec) count)))) is_columns_codec (is_both (optional dd.key_codec) (both (counted count dd.unique_codec) (both (counted count dd.foreign_codec) (both (counted count dd.index_codec) count))) (is_optional dd.key_codec is_key_codec) (is_both (counted count dd.unique_codec) (both (counted count dd.foreign_codec) (both (counted count dd.index_codec) count)) (is_counted dd.unique_codec is_unique_codec count is_count) (is_both (counted count dd.foreign_codec) (both (counted count dd.index_codec) count) (is_counted dd.foreign_codec is_foreign_codec count is_count) (is_both (counted count dd.index_codec) count (is_counted dd.index_codec is_index_codec count is_count) is_count))))

pub is_rows_codec : (h : dd.Head) → IsCodec (dd.rows_codec h)
is_rows_codec h = is_counted (dd.row_codec h.0) (is_each dv.value_codec is_value_codec (length h.0)) (below 100_001) (is_below_codec 100_001)

there_table_codec : (x : Table) (b : dd.Head × List (List Value)) → dd.of_table x ≡ Some b → dd.as_table b ≡ x
there_table_codec x b is = ap dd.as_table (sym (some_is ((x.columns, (x.key, (x.uniques, (x.foreign, (x.indexes, x.next))))), x.rows) b is))

pub is_table_codec : IsCodec dd.table_codec
unfolding dd.table_codec
is_table_codec = is_mapped dd.as_table dd.of_table (after dd.head_codec dd.rows_codec) there_table_codec (λ b ok. refl) (is_after dd.head_codec dd.rows_codec is_head_codec is_rows_codec)

there_in_all : (x : Wanted) (b : Unit {0}) → dq.in_all x ≡ Some b → always wanted.All b ≡ x
there_in_all wanted.All b is = refl
there_in_all wanted.Count b is = absurd (cc is)
there_in_all (wanted.Columns ns) b is = absurd (cc is)

at_in_all : (x : Wanted) → ok_some (one) (dq.in_all x) ≡ true → dq.wanted_place x ≡ 0
at_in_all wanted.All ok = refl
at_in_all wanted.Count ok = absurd (cc ok)
at_in_all (wanted.Columns ns) ok = absurd (cc ok)

is_in_all : IsCodec (mapped (always wanted.All) dq.in_all (one))
is_in_all = is_mapped (always wanted.All) dq.in_all (one) there_in_all (λ b ok. refl) (is_one)

there_in_count : (x : Wanted) (b : Unit {0}) → dq.in_count x ≡ Some b → always wanted.Count b ≡ x
there_in_count wanted.All b is = absurd (cc is)
there_in_count wanted.Count b is = refl
there_in_count (wanted.Columns ns) b is = absurd (cc is)

at_in_count : (x : Wanted) → ok_some (one) (dq.in_count x) ≡ true → dq.wanted_place x ≡ 1
at_in_count wanted.All ok = absurd (cc ok)
at_in_count wanted.Count ok = refl
at_in_count (wanted.Columns ns) ok = absurd (cc ok)

is_in_count : IsCodec (mapped (always wanted.Count) dq.in_count (one))
is_in_count = is_mapped (always wanted.Count) dq.in_count (one) there_in_count (λ b ok. refl) (is_one)

there_in_columns : (x : Wanted) (b : List Name) → dq.in_columns x ≡ Some b → wanted.Columns b ≡ x
there_in_columns wanted.All b is = absurd (cc is)
there_in_columns wanted.Count b is = absurd (cc is)
there_in_columns (wanted.Columns ns) b is = ap (wanted.Columns) (sym (some_is ns b is))

at_in_columns : (x : Wanted) → ok_some (dq.names) (dq.in_columns x) ≡ true → dq.wanted_place x ≡ 2
at_in_columns wanted.All ok = absurd (cc ok)
at_in_columns wanted.Count ok = absurd (cc ok)
at_in_columns (wanted.Columns ns) ok = refl

is_in_columns : IsCodec (mapped (wanted.Columns) dq.in_columns (dq.names))
is_in_columns = is_mapped (wanted.Columns) dq.in_columns (dq.names) there_in_columns (λ b ok. refl) (is_names)

pub is_wanted_codec : IsCodec dq.wanted_codec
unfolding dq.wanted_codec
is_wanted_codec = is_variant dq.wanted_place (mapped (always wanted.All) dq.in_all one ∷ mapped (always wanted.Count) dq.in_count one ∷ mapped wanted.Columns dq.in_columns dq.names ∷ []) (is_in_all, at_in_all, (is_in_count, at_in_count, (is_in_columns, at_in_columns, tt)))

there_query_codec : (x : Query) (b : Wanted × (Name × Option Test)) → dq.of_query x ≡ Some b → dq.as_query b ≡ x
there_query_codec x b is = ap dq.as_query (sym (some_is (x.wanted, (x.table, x.test)) b is))

pub is_query_codec : IsCodec dq.query_codec
unfolding dq.query_codec
is_query_codec = is_mapped dq.as_query dq.of_query (both dq.wanted_codec (both name (optional dq.whole_test))) there_query_codec (λ b ok. refl) (is_both dq.wanted_codec (both name (optional dq.whole_test)) is_wanted_codec (is_both name (optional dq.whole_test) is_name_codec (is_optional dq.whole_test is_whole_test)))

there_view_codec : (x : View) (b : Query × List Name) → dd.of_view x ≡ Some b → dd.as_view b ≡ x
there_view_codec x b is = ap dd.as_view (sym (some_is (x.query, x.columns) b is))

pub is_view_codec : IsCodec dd.view_codec
unfolding dd.view_codec
is_view_codec = is_mapped dd.as_view dd.of_view (both dq.query_codec dq.names) there_view_codec (λ b ok. refl) (is_both dq.query_codec dq.names is_query_codec is_names)

there_sequence_codec : (x : Sequence) (b : ℤ × ℤ) → dd.of_sequence x ≡ Some b → dd.as_sequence b ≡ x
there_sequence_codec x b is = ap dd.as_sequence (sym (some_is (x.start, x.step) b is))

pub is_sequence_codec : IsCodec dd.sequence_codec
unfolding dd.sequence_codec
is_sequence_codec = is_mapped dd.as_sequence dd.of_sequence (both number number) there_sequence_codec (λ b ok. refl) (is_both number number is_number is_number)

there_catalogue_codec : (x : Catalogue) (b : List (Name × Table) × (List (Name × View) × List (Name × Sequence))) → dd.of_catalogue x ≡ Some b → dd.as_catalogue b ≡ x
there_catalogue_codec x b is = ap dd.as_catalogue (sym (some_is (x.tables, (x.views, x.sequences)) b is))

pub is_catalogue_codec : IsCodec dd.catalogue_codec
is_catalogue_codec = is_mapped dd.as_catalogue dd.of_catalogue (both (counted count (both name dd.table_codec)) (both (counted count (both name dd.view_codec)) (counted count (both name dd.sequence_codec)))) there_catalogue_codec (λ b ok. refl) (is_both (counted count (both name dd.table_codec)) (both (counted count (both name dd.view_codec)) (counted count (both name dd.sequence_codec))) (is_counted (both name dd.table_codec) (is_both name dd.table_codec is_name_codec is_table_codec) count is_count) (is_both (counted count (both name dd.view_codec)) (counted count (both name dd.sequence_codec)) (is_counted (both name dd.view_codec) (is_both name dd.view_codec is_name_codec is_view_codec) count is_count) (is_counted (both name dd.sequence_codec) (is_both name dd.sequence_codec is_name_codec is_sequence_codec) count is_count)))
