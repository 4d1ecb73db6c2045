use Rattle.std.proofs.Common.{subst, sym, ◌≡◌}
use Rattle.std.specs.Prelude.{IfSome}
use Rattle.lq_model.specs.declared.test.Test.{And, Test}
use Rattle.lq_one_row.specs.Only.{Gives}
use Rattle.lq_one_row.proofs.OnlyLemmas.{first_gives, second_gives_some}
use Rattle.lq_one_row.proofs.only.+text_of.Goals as goal

pub returns-in-Some : goal.returns-in-Some
returns-in-Some t c =
    let column = c.args.column.now in
    let text = c.in-Some.text.now in
    let is : c.args.test.now ≡ And c.in-And.a c.in-And.b = c.in-And.is in
    let first : Gives c.in-And.a column text = subst (λ (x : Test). Gives x column text) c.get.ensures c.in-Some.ensures in
    subst (λ (x : Test). Gives x column text) (sym is) (first_gives c.in-And.a c.in-And.b column text first)

pub returns-in-None : goal.returns-in-None
returns-in-None t c =
    let column = c.args.column.now in
    let is : c.args.test.now ≡ And c.in-And.a c.in-And.b = c.in-And.is in
    subst (λ (x : Test). IfSome c.text_of-in-None.result (λ text. Gives x column text.now)) (sym is)
    (second_gives_some c.in-And.a c.in-And.b column c.text_of-in-None.result
    (subst (λ (x : Test). IfSome c.text_of-in-None.result (λ text. Gives x column text.now)) c.get-in-None.ensures c.text_of-in-None.ensures))
