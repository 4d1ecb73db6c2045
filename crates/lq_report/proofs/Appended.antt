-- What was appended in several steps, as one text.
use Rattle.std.proofs.Common.{◌≡◌, ◌∙◌, ℕ, List, ◌++◌, Result, Ok, Err, OnOk, ap, append_assoc}
use Rattle.lq_report.specs.Output.{log_line}

pub on_ok : {X E A B : Type 0} (r : Result X E) → OnOk r A → (A → B) → OnOk r B
on_ok (Ok x) a f = f a
on_ok (Err e) a f = tt

pub one : (old new a all : List ℕ) → new ≡ old ++ a → a ≡ all → new ≡ old ++ all
one old new a all is same = is ∙ ap (λ z. old ++ z) same

pub two : (old mid new a b all : List ℕ) → mid ≡ old ++ a → new ≡ mid ++ b → a ++ b ≡ all → new ≡ old ++ all
two old mid new a b all first second same =
    second ∙ ap (λ z. z ++ b) first ∙ append_assoc old a b ∙ ap (λ z. old ++ z) same

-- one more part of a text that is made from its front
pub then : (mid new front a : List ℕ) → mid ≡ front → new ≡ mid ++ a → new ≡ front ++ a
then mid new front a is more = more ∙ ap (λ z. z ++ a) is

-- the line of a text that was made in steps
pub lined : {X E : Type 0} (r : Result X E) (old new text all : List ℕ) → OnOk r (new ≡ old ++ log_line text) → text ≡ all → OnOk r (new ≡ old ++ log_line all)
lined r old new text all is same = on_ok r is (λ e. e ∙ ap (λ t. old ++ log_line t) same)
