-- Names out of their quotes, in the text of a statement and of a query.
use Rattle.std.proofs.Common.{◌≡◌, ℕ, false, List, Some, None, inl, inr, ap, ◌∙◌, sym}
use Rattle.std.specs.Option.{option_and_then}
use Rattle.lq_base.specs.declared.dialect.Dialect.{Dialect}
use Rattle.lq_model.specs.SqlParser.{Outcome, Parser, to_end}
use Rattle.lq_model.specs.SqlQuery.{query}
use Rattle.lq_model.specs.SqlStatement.{statement}
use Rattle.lq_model.specs.SqlText.{query_in, read, statement_in, whole}
use Rattle.lq_model.specs.SqlWord.{words}
use Rattle.lq_model.specs.declared.word.Word.{Word}
use Rattle.lq_spelling.specs.Laws.{AreBare, QuotesMayBeLeftOut}
use Rattle.lq_spelling.proofs.QuoteParts.{Alike, Blind}
use Rattle.lq_spelling.proofs.QuoteStatements.{blind_end, blind_query_end}

read_alike : {A : Type 0} (o e : Outcome A) (x : A) → Alike false o e → read o ≡ Some x → read e ≡ Some x
read_alike None e x h is = absurd (cc)
read_alike (Some found) None x h is = absurd h
read_alike (Some found) (Some other) x (inl h) is = ap Some (sym h.0) ∙ is
read_alike (Some found) (Some other) x (inr h) is = absurd h

alike : {A : Type 0} (p : Parser A) → Blind false (to_end p) → (d : Dialect) (a b : List ℕ) (quoted plain : List Word) (x : A) → AreBare quoted plain
    → words d a ≡ Some quoted → words d b ≡ Some plain → whole p d a ≡ Some x → whole p d b ≡ Some x
alike p blind d a b quoted plain x bare of_a of_b is =
    ap (option_and_then (λ ws. read (to_end p ws))) of_b
    ∙ read_alike (to_end p quoted) (to_end p plain) x (blind.at quoted plain bare) (sym (ap (option_and_then (λ ws. read (to_end p ws))) of_a) ∙ is)

pub may_be_left_out : QuotesMayBeLeftOut
unfolding statement_in query_in
may_be_left_out d a b quoted plain bare of_a of_b =
    ((λ s is. alike (statement d) (blind_end d) d a b quoted plain s bare of_a of_b is), (λ q is. alike (query d) (blind_query_end d) d a b quoted plain q bare of_a of_b is))
