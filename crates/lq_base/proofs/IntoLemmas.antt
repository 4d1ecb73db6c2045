-- An answer of `into_kind` with a value has one of the kind; a text goes as what it spells.
use Rattle.std.proofs.Common.{◌≡◌, ℕ, IsTrue, List, ℤ, Option, Some, None, option_and_then, option_map, Result, Ok, Err, refl, sym, ap, ◌∙◌, subst, true≢false}
use Rattle.std.specs.Prelude.{IfOk}
use Rattle.lq_base.specs.declared.kind.Kind.{Kind}
use Rattle.lq_base.specs.declared.kind.Kind.TheVariants as kind
use Rattle.lq_base.specs.declared.literal.Literal.{Literal}
use Rattle.lq_base.specs.declared.literal.Literal.TheVariants as literal
use Rattle.lq_base.specs.declared.reason.Reason.{Reason}
use Rattle.lq_base.specs.declared.reason.Reason.TheVariants as reason
use Rattle.lq_base.specs.declared.value.Value.{Value}
use Rattle.lq_base.specs.declared.value.Value.TheVariants as value
use Rattle.lq_base.specs.declared.convert.IntoFault.{IntoFault}
use Rattle.lq_base.specs.declared.convert.IntoFault.TheVariants.{WrongKind, TooWide, OutOfMemory}
use Rattle.lq_base.specs.Spells.{Goes, GoesAs, is_number_kind, SpellsMoment, SpellsNumber}
use Rattle.lq_base.specs.Moment.{moment_of}
use Rattle.lq_base.specs.Number.{number_of}
use Rattle.lq_base.specs.Value.{is_value_of, into_kind, said_by_number, within_width}
use Rattle.lq_base.proofs.MomentSpelled.{moment_of-spells, spells-moment_of}
use Rattle.lq_base.proofs.NumberSpelled.{number_of-spells, spells-number_of}
use Rattle.lq_base.proofs.ReadLemmas.{none_steps}
use Rattle.lq_base.proofs.ValueLemmas.{into_kind-is_value}

pub of_kind-from_Goes : (l : Literal) (k : Kind) (r : Result Value IntoFault) → Goes (into_kind l k) r → IfOk r (λ v. IsTrue (is_value_of k v))
of_kind-from_Goes l k (Ok v) h = into_kind-is_value l k v h
of_kind-from_Goes l k (Err e) h = tt

wrong-from_Goes : (r : Result Value IntoFault) → Goes (Err reason.WrongKind) r → r ≡ Err WrongKind
wrong-from_Goes (Ok v) h = absurd (cc)
wrong-from_Goes (Err WrongKind) h = refl
wrong-from_Goes (Err TooWide) h = absurd (cc)
wrong-from_Goes (Err OutOfMemory) h = absurd (true≢false (sym h))

module _ {A : Type 0} (Spells : A → Type 0) (steps : Option A) (sound : (a : A) → steps ≡ Some a → Spells a) (whole : (a : A) → Spells a → steps ≡ Some a) where
  goes_as : (becomes : A → Result Value Reason) (meant : Option A → Result Value Reason) (answer : Result Value IntoFault) → ((a : A) → Spells a → meant (Some a) ≡ becomes a) → meant None ≡ Err reason.WrongKind → Goes (meant steps) answer → GoesAs Spells becomes answer
  goes_as becomes meant answer at_some at_none goes = record {
    spelled = λ a s. subst (λ m. Goes m answer) (ap meant (whole a s) ∙ at_some a s) goes;
    none = λ nothing. wrong-from_Goes answer (subst (λ m. Goes m answer) (ap meant (none_steps Spells steps sound whole nothing) ∙ at_none) goes);
  }

-- what a number that a text spells becomes, if it spells one
abbrev spelled_in : Kind → Option Literal → Result Value Reason
spelled_in k number = within_width k (option_and_then (said_by_number k) number)

text_is_spelled : (text : List ℕ) (k : Kind) → IsTrue (is_number_kind k) → into_kind (literal.Text text) k ≡ spelled_in k (number_of text)
unfolding into_kind
text_is_spelled text kind.Int h = refl
text_is_spelled text kind.BigInt h = refl
text_is_spelled text (kind.Decimal digits scale) h = refl
text_is_spelled text kind.Boolean h = absurd (true≢false (sym h))
text_is_spelled text (kind.Varchar most) h = absurd (true≢false (sym h))
text_is_spelled text kind.Text h = absurd (true≢false (sym h))
text_is_spelled text kind.Moment h = absurd (true≢false (sym h))

spelled_is_number : (text : List ℕ) (k : Kind) (number : Literal) → SpellsNumber text number → spelled_in k (Some number) ≡ into_kind number k
unfolding into_kind
spelled_is_number text k (literal.Int n) s = refl
spelled_is_number text k (literal.Fixed units scale) s = refl
spelled_is_number text k literal.Null s = absurd s
spelled_is_number text k (literal.Text t) s = absurd s
spelled_is_number text k (literal.Bool b) s = absurd s

pub goes_as_number : (text : List ℕ) (k : Kind) (r : Result Value IntoFault) → IsTrue (is_number_kind k) → Goes (into_kind (literal.Text text) k) r → GoesAs (SpellsNumber text) (λ number. into_kind number k) r
goes_as_number text k r h goes =
    goes_as (SpellsNumber text) (number_of text) (number_of-spells text) (spells-number_of text) (λ number. into_kind number k) (spelled_in k) r (spelled_is_number text k) refl
    (subst (λ m. Goes m r) (text_is_spelled text k h) goes)

abbrev moment_in : Option ℤ → Result Value Reason
moment_in ms = within_width kind.Moment (option_map value.Moment ms)

text_is_moment : (text : List ℕ) → into_kind (literal.Text text) kind.Moment ≡ moment_in (moment_of text)
unfolding into_kind
text_is_moment text = refl

pub goes_as_moment : (text : List ℕ) (r : Result Value IntoFault) → Goes (into_kind (literal.Text text) kind.Moment) r → GoesAs (SpellsMoment text) (λ ms. Ok (value.Moment ms)) r
goes_as_moment text r goes =
    goes_as (SpellsMoment text) (moment_of text) (moment_of-spells text) (spells-moment_of text) (λ ms. Ok (value.Moment ms)) moment_in r (λ ms s. refl) refl
    (subst (λ m. Goes m r) (text_is_moment text) goes)
