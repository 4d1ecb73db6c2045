-- Kinds that are equal.
use Rattle.std.proofs.Common.{ap, ◌∙◌}
use Rattle.std.proofs.lemmas.Bool.{eqb-true}
use Rattle.std.specs.Prelude.{nat_eq, refl, true, ◌≡◌}
use Rattle.lq_base.specs.declared.kind.Kind.{Kind}
use Rattle.lq_base.specs.declared.kind.Kind.TheVariants as kind
use Rattle.lq_model.specs.Kinds.{equal_kinds}
use Rattle.lq_model.proofs.Lists.{and_left, and_right, true_false}

pub equal_kind : (a b : Kind) → equal_kinds a b ≡ true → a ≡ b
equal_kind kind.Int kind.Int h = refl
equal_kind kind.Int kind.BigInt h = true_false h refl
equal_kind kind.Int kind.Boolean h = true_false h refl
equal_kind kind.Int kind.Text h = true_false h refl
equal_kind kind.Int kind.Moment h = true_false h refl
equal_kind kind.Int (kind.Varchar b) h = true_false h refl
equal_kind kind.Int (kind.Decimal q t) h = true_false h refl
equal_kind kind.BigInt kind.Int h = true_false h refl
equal_kind kind.BigInt kind.BigInt h = refl
equal_kind kind.BigInt kind.Boolean h = true_false h refl
equal_kind kind.BigInt kind.Text h = true_false h refl
equal_kind kind.BigInt kind.Moment h = true_false h refl
equal_kind kind.BigInt (kind.Varchar b) h = true_false h refl
equal_kind kind.BigInt (kind.Decimal q t) h = true_false h refl
equal_kind kind.Boolean kind.Int h = true_false h refl
equal_kind kind.Boolean kind.BigInt h = true_false h refl
equal_kind kind.Boolean kind.Boolean h = refl
equal_kind kind.Boolean kind.Text h = true_false h refl
equal_kind kind.Boolean kind.Moment h = true_false h refl
equal_kind kind.Boolean (kind.Varchar b) h = true_false h refl
equal_kind kind.Boolean (kind.Decimal q t) h = true_false h refl
equal_kind kind.Text kind.Int h = true_false h refl
equal_kind kind.Text kind.BigInt h = true_false h refl
equal_kind kind.Text kind.Boolean h = true_false h refl
equal_kind kind.Text kind.Text h = refl
equal_kind kind.Text kind.Moment h = true_false h refl
equal_kind kind.Text (kind.Varchar b) h = true_false h refl
equal_kind kind.Text (kind.Decimal q t) h = true_false h refl
equal_kind kind.Moment kind.Int h = true_false h refl
equal_kind kind.Moment kind.BigInt h = true_false h refl
equal_kind kind.Moment kind.Boolean h = true_false h refl
equal_kind kind.Moment kind.Text h = true_false h refl
equal_kind kind.Moment kind.Moment h = refl
equal_kind kind.Moment (kind.Varchar b) h = true_false h refl
equal_kind kind.Moment (kind.Decimal q t) h = true_false h refl
equal_kind (kind.Varchar a) kind.Int h = true_false h refl
equal_kind (kind.Varchar a) kind.BigInt h = true_false h refl
equal_kind (kind.Varchar a) kind.Boolean h = true_false h refl
equal_kind (kind.Varchar a) kind.Text h = true_false h refl
equal_kind (kind.Varchar a) kind.Moment h = true_false h refl
equal_kind (kind.Varchar a) (kind.Varchar b) h = ap (λ n. kind.Varchar n) (eqb-true a b h)
equal_kind (kind.Varchar a) (kind.Decimal q t) h = true_false h refl
equal_kind (kind.Decimal p s) kind.Int h = true_false h refl
equal_kind (kind.Decimal p s) kind.BigInt h = true_false h refl
equal_kind (kind.Decimal p s) kind.Boolean h = true_false h refl
equal_kind (kind.Decimal p s) kind.Text h = true_false h refl
equal_kind (kind.Decimal p s) kind.Moment h = true_false h refl
equal_kind (kind.Decimal p s) (kind.Varchar b) h = true_false h refl
equal_kind (kind.Decimal p s) (kind.Decimal q t) h = ap (λ n. kind.Decimal n s) (eqb-true p q (and_left (nat_eq p q) _ h)) ∙ ap (λ n. kind.Decimal q n) (eqb-true s t (and_right (nat_eq p q) _ h))
